-- What the rows and their indexes keep through each change.
use Rattle.std.proofs.Common.{◌≡◌, ℕ, ◌==◌, Bool, true, false, not, cond, find, Some, bytes_eq, List, [], ◌∷◌, ◌++◌, map, filter, if◌then◌else◌, refl, sym, ◌∙◌, ap, subst}
use Rattle.std.specs.List.{flat_map, list_any}
use Rattle.batch_history.specs.Lists.{change_first}
use Rattle.batch_history.specs.Replies.{is_execution}
use Rattle.batch_history.specs.Rows.{instance_in, is_gone}
use Rattle.batch_history.specs.Works.{is_work}
use Rattle.batch_history.specs.declared.rows.CheckpointRow.{CheckpointRow}
use Rattle.batch_history.specs.declared.rows.ExecutionRow.{ExecutionRow}
use Rattle.batch_history.specs.declared.rows.JobInstance.{JobInstance}
use Rattle.batch_history.specs.declared.rows.WorkRow.{WorkRow}
use Rattle.records.specs.Belonging.{executions_of, works_of}
use Rattle.records.specs.Indexes.{AreIndexed, without_number}
use Rattle.records.specs.Left.{instances_numbered, executions_numbered, works_numbered, is_work_of_instance, works_of_instance}
use Rattle.records.specs.Maps.{Maps, is_instance, AreApart, AreBelow, AreRising, MayReplaceExecution, MayReplaceWork, instance_numbers, execution_numbers, work_numbers}
use Rattle.records.specs.Without.{without_instance}
use Rattle.records.proofs.Indexed as index
use Rattle.batch_history.specs.Answers.{instances_of_job}
use Rattle.records.proofs.Lists.{row_added, row_removed, nothing_removed, passes, passing_among}
use Rattle.records.proofs.Leaving.{gone_at}
use Rattle.record_lists.proofs.Marks.{apart_filtered}
use Rattle.records.proofs.Numbered.{instance_pushed, execution_pushed, work_pushed, instances_filtered, executions_filtered, works_filtered, below_filtered}

-- Reading

pub executions_found : (maps : Maps) (names : List ℕ → List ℕ) (executions works : ℕ → List ℕ) (i : ℕ) → AreIndexed maps names executions works
    → executions_numbered (executions i) maps.executions ≡ executions_of i maps.executions
executions_found maps names executions works i h =
    ap (λ (ns : List ℕ). executions_numbered ns maps.executions) (h.executions_by_instance i)
    ∙ index.found_again (λ (row : ExecutionRow). row.execution) (λ (row : ExecutionRow). row.instance) (λ row. row.instance == i) maps.executions h.keyed.executions

pub works_found : (maps : Maps) (names : List ℕ → List ℕ) (executions works : ℕ → List ℕ) (x : ℕ) → AreIndexed maps names executions works
    → works_numbered (works x) maps.works ≡ works_of x maps.works
works_found maps names executions works x h =
    ap (λ (ns : List ℕ). works_numbered ns maps.works) (h.works_by_execution x)
    ∙ index.found_again (λ (row : WorkRow). row.work) (λ (row : WorkRow). row.execution) (λ row. row.execution == x) maps.works h.keyed.works

pub instances_found : (maps : Maps) (names : List ℕ → List ℕ) (executions works : ℕ → List ℕ) (q : List ℕ) → AreIndexed maps names executions works
    → instances_numbered (names q) maps.instances ≡ instances_of_job q maps.instances
instances_found maps names executions works q h =
    ap (λ (ns : List ℕ). instances_numbered ns maps.instances) (h.instances_by_name q)
    ∙ index.found_again (λ (row : JobInstance). row.instance) (λ (row : JobInstance). row.instance) (λ row. bytes_eq row.job q) maps.instances h.keyed.instances

-- the work items of a job instance, gathered from the lists of its job executions
pub works_gathered : (maps : Maps) (names : List ℕ → List ℕ) (executions works : ℕ → List ℕ) (i : ℕ) (numbers : List ℕ) → AreIndexed maps names executions works
    → numbers ≡ flat_map works (executions i) → AreRising numbers → works_numbered numbers maps.works ≡ works_of_instance i maps.executions maps.works
works_gathered maps names executions works i numbers h is up =
    let x_of : ExecutionRow → ℕ = λ row. row.execution in
    let i_of : ExecutionRow → ℕ = λ row. row.instance in
    let w_of : WorkRow → ℕ = λ row. row.work in
    let owner : WorkRow → ℕ = λ row. row.execution in
    let xs : List ℕ = execution_numbers (executions_of i maps.executions) in
    let own : WorkRow → Bool = λ row. list_any (λ x. x == row.execution) xs in
    let all : numbers ≡ flat_map (λ x. work_numbers (works_of x maps.works)) xs =
    is ∙ (λ k. flat_map (λ x. h.works_by_execution x k) (h.executions_by_instance i k)) in
    let each : (row : WorkRow) → own row ≡ is_work_of_instance i maps.executions row =
    λ row. index.among_own x_of i_of i row.execution maps.executions h.keyed.executions ∙ sym (gone_at i (instance_in maps.executions row.execution)) in
    ap (λ (ns : List ℕ). works_numbered ns maps.works) (all ∙ index.gathered w_of owner xs maps.works h.keyed.works (subst AreRising all up))
    ∙ (index.found_again w_of owner own maps.works h.keyed.works
    ∙ (λ k. filter (λ row. each row k) maps.works))

-- Adding

-- an index with a number more
abbrev pub IsWith : (ℕ → List ℕ) → ℕ → ℕ → (ℕ → List ℕ) → Type 0
IsWith before key number after = (q : ℕ) → after q ≡ (if key == q then before q ++ number ∷ [] else before q)

pub instance_added : (maps : Maps) (names after : List ℕ → List ℕ) (executions works : ℕ → List ℕ) (new : JobInstance) → AreIndexed maps names executions works
    → AreBelow new.instance (instance_numbers maps.instances) → ((q : List ℕ) → after q ≡ (if bytes_eq new.job q then names q ++ new.instance ∷ [] else names q))
    → AreIndexed record maps { instances = maps.instances ++ new ∷ [] } after executions works
instance_added maps names after executions works new h below more =
    record {
      keyed = record {
        instances = instance_pushed maps.instances new h.keyed.instances below;
        executions = h.keyed.executions;
        works = h.keyed.works;
        checkpoints = h.keyed.checkpoints;
      };
      instances_by_name = λ q. more q
          ∙ (ap (λ (ns : List ℕ). cond (bytes_eq new.job q) (ns ++ new.instance ∷ []) ns) (h.instances_by_name q)
          ∙ sym (row_added (λ (row : JobInstance). row.instance) (λ row. bytes_eq row.job q) new maps.instances));
      executions_by_instance = h.executions_by_instance;
      works_by_execution = h.works_by_execution;
    }

-- a number above those of all job instances is above those of a job
pub name_below : (maps : Maps) (names : List ℕ → List ℕ) (executions works : ℕ → List ℕ) (new : JobInstance) → AreIndexed maps names executions works
    → AreBelow new.instance (instance_numbers maps.instances) → AreBelow new.instance (names new.job)
name_below maps names executions works new h below =
    subst (AreBelow new.instance) (sym (h.instances_by_name new.job))
    (below_filtered (λ (row : JobInstance). row.instance) (λ row. bytes_eq row.job new.job) maps.instances new.instance below)

pub execution_added : (maps : Maps) (names : List ℕ → List ℕ) (executions works after : ℕ → List ℕ) (new : ExecutionRow) → AreIndexed maps names executions works
    → AreBelow new.execution (execution_numbers maps.executions) → IsWith executions new.instance new.execution after
    → AreIndexed record maps { executions = maps.executions ++ new ∷ [] } names after works
execution_added maps names executions works after new h below more =
    record {
      keyed = record {
        instances = h.keyed.instances;
        executions = execution_pushed maps.executions new h.keyed.executions below;
        works = h.keyed.works;
        checkpoints = h.keyed.checkpoints;
      };
      instances_by_name = h.instances_by_name;
      executions_by_instance = λ q. more q
          ∙ (ap (λ (ns : List ℕ). cond (new.instance == q) (ns ++ new.execution ∷ []) ns) (h.executions_by_instance q)
          ∙ sym (index.pushed (λ (row : ExecutionRow). row.execution) (λ (row : ExecutionRow). row.instance) q maps.executions new));
      works_by_execution = h.works_by_execution;
    }

pub work_added : (maps : Maps) (names : List ℕ → List ℕ) (executions works after : ℕ → List ℕ) (new : WorkRow) → AreIndexed maps names executions works
    → AreBelow new.work (work_numbers maps.works) → IsWith works new.execution new.work after
    → AreIndexed record maps { works = maps.works ++ new ∷ [] } names executions after
work_added maps names executions works after new h below more =
    record {
      keyed = record {
        instances = h.keyed.instances;
        executions = h.keyed.executions;
        works = work_pushed maps.works new h.keyed.works below;
        checkpoints = h.keyed.checkpoints;
      };
      instances_by_name = h.instances_by_name;
      executions_by_instance = h.executions_by_instance;
      works_by_execution = λ q. more q
          ∙ (ap (λ (ns : List ℕ). cond (new.execution == q) (ns ++ new.work ∷ []) ns) (h.works_by_execution q)
          ∙ sym (index.pushed (λ (row : WorkRow). row.work) (λ (row : WorkRow). row.execution) q maps.works new));
    }

-- Changing

pub execution_replaced : (maps : Maps) (names : List ℕ → List ℕ) (executions works : ℕ → List ℕ) (x : ℕ) (new : ExecutionRow) → AreIndexed maps names executions works
    → AreRising (execution_numbers (change_first (is_execution x) (λ old. new) maps.executions)) → MayReplaceExecution maps.executions x new
    → AreIndexed record maps { executions = change_first (is_execution x) (λ old. new) maps.executions } names executions works
execution_replaced maps names executions works x new h rising may =
    record {
      keyed = record {
        instances = h.keyed.instances;
        executions = rising;
        works = h.keyed.works;
        checkpoints = h.keyed.checkpoints;
      };
      instances_by_name = h.instances_by_name;
      executions_by_instance = λ q. h.executions_by_instance q
          ∙ sym (index.changed (λ (row : ExecutionRow). row.execution) (λ (row : ExecutionRow). row.instance) (is_execution x) new q maps.executions may.0 may.1 may.2.execution may.2.instance);
      works_by_execution = h.works_by_execution;
    }

pub work_replaced : (maps : Maps) (names : List ℕ → List ℕ) (executions works : ℕ → List ℕ) (w : ℕ) (new : WorkRow) → AreIndexed maps names executions works
    → AreRising (work_numbers (change_first (is_work w) (λ old. new) maps.works)) → MayReplaceWork maps.works w new
    → AreIndexed record maps { works = change_first (is_work w) (λ old. new) maps.works } names executions works
work_replaced maps names executions works w new h rising may =
    record {
      keyed = record {
        instances = h.keyed.instances;
        executions = h.keyed.executions;
        works = rising;
        checkpoints = h.keyed.checkpoints;
      };
      instances_by_name = h.instances_by_name;
      executions_by_instance = h.executions_by_instance;
      works_by_execution = λ q. h.works_by_execution q
          ∙ sym (index.changed (λ (row : WorkRow). row.work) (λ (row : WorkRow). row.execution) (is_work w) new q maps.works may.0 may.1 may.2.work may.2.execution);
    }

pub checkpoints_replaced : (maps : Maps) (names : List ℕ → List ℕ) (executions works : ℕ → List ℕ) (checkpoints : List CheckpointRow) → AreIndexed maps names executions works
    → AreApart checkpoints → AreIndexed record maps { checkpoints = checkpoints } names executions works
checkpoints_replaced maps names executions works checkpoints h apart =
    record {
      keyed = record {
        instances = h.keyed.instances;
        executions = h.keyed.executions;
        works = h.keyed.works;
        checkpoints = apart;
      };
      instances_by_name = h.instances_by_name;
      executions_by_instance = h.executions_by_instance;
      works_by_execution = h.works_by_execution;
    }

-- Removing

-- what is removed from the indexes with a job instance of this number and job
pub record AreRemoved (i : ℕ) (job : List ℕ) (names names-after : List ℕ → List ℕ) (executions works executions-after works-after : ℕ → List ℕ) : Type 0 where
  pub named : (q : List ℕ) → names-after q ≡ (if bytes_eq job q then without_number i (names q) else names q)
  pub own : (q : ℕ) → executions-after q ≡ (if i == q then [] else executions q)
  pub their-works : (q : ℕ) → works-after q ≡ (if list_any (λ x. x == q) (executions i) then [] else works q)

-- the numbers of rows, or none
numbers-if : {R : Type 0} (num : R → ℕ) (b : Bool) (rows : List R) → map num (cond b [] rows) ≡ cond b [] (map num rows)
numbers-if num true rows = refl
numbers-if num false rows = refl

pub instance_removed : (maps : Maps) (names names-after : List ℕ → List ℕ) (executions works executions-after works-after : ℕ → List ℕ) (i : ℕ) (row : JobInstance)
    → AreIndexed maps names executions works → find (is_instance i) maps.instances ≡ Some row
    → AreRemoved i row.job names names-after executions works executions-after works-after → AreIndexed (without_instance i maps) names-after executions-after works-after
instance_removed maps names names-after executions works executions-after works-after i row h there less =
    let n_of : JobInstance → ℕ = λ row. row.instance in
    let x_of : ExecutionRow → ℕ = λ row. row.execution in
    let i_of : ExecutionRow → ℕ = λ row. row.instance in
    let w_of : WorkRow → ℕ = λ row. row.work in
    let owner : WorkRow → ℕ = λ row. row.execution in
    let gone : ℕ → Bool = λ x. is_gone (λ j. j == i) (instance_in maps.executions x) in
    record {
      keyed = record {
        instances = instances_filtered (λ row. not (row.instance == i)) maps.instances h.keyed.instances;
        executions = executions_filtered (λ row. not (row.instance == i)) maps.executions h.keyed.executions;
        works = works_filtered (λ work. not (is_gone (λ j. j == i) (instance_in maps.executions work.execution))) maps.works h.keyed.works;
        checkpoints = apart_filtered (λ row. not (row.instance == i)) maps.checkpoints h.keyed.checkpoints;
      };
      instances_by_name = λ q.
          less.named q
          ∙ (elim (bytes_eq row.job q) as (λ b. bytes_eq row.job q ≡ b → cond b (without_number i (names q)) (names q) ≡ without_number i (names q)) [
            | true ↦ λ is. refl
            | false ↦ λ off. sym (nothing_removed i (names q)
                (ap (list_any (λ n. n == i)) (h.instances_by_name q)
                ∙ (passing_among n_of (λ one. bytes_eq one.job q) i maps.instances h.keyed.instances
                ∙ (ap (passes n_of (λ one. bytes_eq one.job q)) there ∙ off))))
          ]) refl
          ∙ (ap (without_number i) (h.instances_by_name q)
          ∙ sym (row_removed n_of (λ one. bytes_eq one.job q) i maps.instances h.keyed.instances));
      executions_by_instance = λ q. less.own q
          ∙ (ap (λ (ns : List ℕ). cond (i == q) [] ns) (h.executions_by_instance q)
          ∙ (ap (λ (b : Bool). cond b [] (execution_numbers (executions_of q maps.executions))) (index.flipped i q)
          ∙ (sym (numbers-if x_of (q == i) (executions_of q maps.executions))
          ∙ ap (λ (rows : List ExecutionRow). execution_numbers rows) (sym (index.left_out x_of i_of (λ j. j == i) q maps.executions)))));
      works_by_execution = λ q. less.their-works q
          ∙ (ap (λ (ns : List ℕ). cond (list_any (λ x. x == q) ns) [] (works q)) (h.executions_by_instance i)
          ∙ (ap (λ (b : Bool). cond b [] (works q)) (index.among_own x_of i_of i q maps.executions h.keyed.executions)
          ∙ (ap (λ (ns : List ℕ). cond (gone q) [] ns) (h.works_by_execution q)
          ∙ (sym (numbers-if w_of (gone q) (works_of q maps.works))
          ∙ ap (λ (rows : List WorkRow). work_numbers rows) (sym (index.left_out w_of owner gone q maps.works))))));
    }

-- An index with the same numbers

pub same_numbers : (maps : Maps) (names : List ℕ → List ℕ) (executions works : ℕ → List ℕ) (names_now : List ℕ → List ℕ)
    (executions_now works_now : ℕ → List ℕ) → AreIndexed maps names executions works
    → ((q : List ℕ) → names_now q ≡ names q) → ((i : ℕ) → executions_now i ≡ executions i) → ((x : ℕ) → works_now x ≡ works x) → AreIndexed maps names_now executions_now works_now
same_numbers maps names executions works names_now executions_now works_now h named owned worked =
    record {
      keyed = h.keyed;
      instances_by_name = λ q. named q ∙ h.instances_by_name q;
      executions_by_instance = λ i. owned i ∙ h.executions_by_instance i;
      works_by_execution = λ x. worked x ∙ h.works_by_execution x;
    }

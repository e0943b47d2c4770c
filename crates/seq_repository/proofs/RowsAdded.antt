-- A repository that is being restored, with one row more.
use Rattle.std.proofs.Common.{◌≡◌, ℕ, ◌+◌, ◌==◌, ◌<◌, ◌≤◌, ◌&&◌, ◌||◌, ◌↔◌, IsTrue, Bool, true, false, cond, Option, None, Some, Result, Ok, Err, OnErr, List, [], ◌∷◌, ◌++◌, map, refl, sym, ◌∙◌, ap, subst, arith}
use Rattle.std.specs.List.{list_any}
use Rattle.std.specs.Prelude.{nat_lt, nat_le}
use Rattle.std.proofs.lemmas.Bool.{and_from, and_parts, eq-eqb, le-leb, leb-true, ltb-true}
use Rattle.batch_ids.specs.Metrics.{HaveRoom, IsWithin, both_metrics, most_after, zero_metrics}
use Rattle.batch_ids.specs.declared.metrics.Metrics.{Metrics}
use Rattle.batch_history.proofs.WorkLists.{apart-append}
use Rattle.batch_history.specs.Legal.{most_numbered}
use Rattle.batch_history.specs.Lists.{Each}
use Rattle.batch_history.specs.Walks.{is_work_of}
use Rattle.batch_history.specs.Works.{work_key, Apart}
use Rattle.batch_history.specs.declared.rows.CheckpointRow.{CheckpointRow}
use Rattle.batch_history.specs.declared.rows.ExecutionRow.{ExecutionRow}
use Rattle.batch_history.specs.declared.rows.JobInstance.{JobInstance}
use Rattle.batch_history.specs.declared.rows.LastNumbers.{LastNumbers}
use Rattle.batch_history.specs.declared.rows.WorkRow.{WorkRow}
use Rattle.records.specs.Left.{works_of}
use Rattle.records.specs.Maps.{Maps, AreBelow, SetsCheckpoint, no_rows, step_of}
use Rattle.restart_rules.proofs.Placing.{placed_pushed}
use Rattle.row_repository.specs.Placed.{is_placed}
use Rattle.walk_rules.proofs.SameKeys.{same-self}
use Rattle.walk_rules.specs.Keys.{is_same_key}
use Rattle.seq_repository.proofs.Below.{below_more, below_pushed}
use Rattle.seq_repository.proofs.Metering.{both_associative, both_none}
use Rattle.seq_repository.proofs.Numbers.{rising_pushed}
use Rattle.records.proofs.Marks.{marks_set}
use Rattle.row_repository.specs.Restoring.{AreCounted, IsTaken, again_fault, first_fault, has_execution, has_room, has_work, is_next, is_within, last_in, last_or, sums_of, with_checkpoint, work_fault}
use Rattle.seq_repository.specs.Kept.{Kept, rows_in}
use Rattle.seq_repository.specs.Restoring.{IsRestored}
use Rattle.row_repository.specs.declared.row_fault.RowFault.{RowFault}
use Rattle.row_repository.specs.declared.row_fault.RowFault.TheVariants.{NotNext, NotPlaced, NoOwner, Taken, TooGreat, OutOfMemory}

-- ---- What has no fault

passed : (ok : Bool) (why : RowFault) (rest : Option RowFault) → cond ok rest (Some why) ≡ None → (ok ≡ true) × (rest ≡ None)
passed true why rest h = (refl, h)
passed false why rest h = cc

not-passed : (bad : Bool) (why : RowFault) (rest : Option RowFault) → cond bad (Some why) rest ≡ None → (bad ≡ false) × (rest ≡ None)
not-passed true why rest h = cc
not-passed false why rest h = (refl, h)

next-parts : (before given n : ℕ) → is_next before given n ≡ true → (before < n) × (n ≤ given)
next-parts before given n h =
    let both = and_parts (nat_lt before n) (nat_le n given) h in
    (ltb-true before n both.0, leb-true n given both.1)

-- ---- Numbers

last-row : {R : Type 0} (num : R → ℕ) (n : ℕ) (rows : List R) (new : R) → last_or n (map num (rows ++ new ∷ [])) ≡ num new
last-row num n [] new = refl
last-row num n (row ∷ rest) new = last-row num (num row) rest new

-- a number above that of the last row is above all
above-last : (before n : ℕ) (numbers : List ℕ) → before < n → AreBelow (before + 1) numbers → AreBelow n numbers
above-last before n numbers lt h = below_more (before + 1) n numbers (omega (arith, lt)) h

-- and then it is the greatest
greatest : {R : Type 0} (num : R → ℕ) (rows : List R) (new : R) → AreBelow (num new) (map num rows) → AreBelow (num new + 1) (map num (rows ++ new ∷ []))
greatest num rows new h = below_pushed num rows new (num new) h refl

-- which was given
was-given : {R : Type 0} (num : R → ℕ) (rows : List R) (new : R) (given : ℕ) → num new ≤ given → AreBelow (num new) (map num rows) → AreBelow (given + 1) (map num (rows ++ new ∷ []))
was-given num rows new given le h = below_more (num new + 1) (given + 1) (map num (rows ++ new ∷ [])) (omega (arith, le)) (greatest num rows new h)

-- ---- Metrics

both-first : (m : Metrics) → both_metrics zero_metrics m ≡ m
both-first m = search arith

pub sums_pushed : (works : List WorkRow) (row : WorkRow) → sums_of (works ++ row ∷ []) ≡ both_metrics (sums_of works) row.metrics
sums_pushed [] row = both_none row.metrics ∙ sym (both-first row.metrics)
sums_pushed (one ∷ works) row =
    ap (both_metrics one.metrics) (sums_pushed works row) ∙ sym (both_associative one.metrics (sums_of works) row.metrics)

pub within_true : (most : ℕ) (m : Metrics) → is_within most m ≡ true → IsWithin most m
within_true most m h =
    let le : ℕ → Bool = λ n. nat_le n most in
    let to2 : Bool = le m.read_count && le m.write_count in
    let to3 : Bool = to2 && le m.commit_count in
    let to4 : Bool = to3 && le m.rollback_count in
    let to5 : Bool = to4 && le m.read_skip_count in
    let to6 : Bool = to5 && le m.process_skip_count in
    let to7 : Bool = to6 && le m.filter_count in
    let p8 = and_parts to7 (le m.write_skip_count) h in
    let p7 = and_parts to6 (le m.filter_count) p8.0 in
    let p6 = and_parts to5 (le m.process_skip_count) p7.0 in
    let p5 = and_parts to4 (le m.read_skip_count) p6.0 in
    let p4 = and_parts to3 (le m.rollback_count) p5.0 in
    let p3 = and_parts to2 (le m.commit_count) p4.0 in
    let p2 = and_parts (le m.read_count) (le m.write_count) p3.0 in
    record {
      read = leb-true m.read_count most p2.0;
      write = leb-true m.write_count most p2.1;
      commit = leb-true m.commit_count most p3.1;
      rollback = leb-true m.rollback_count most p4.1;
      read_skip = leb-true m.read_skip_count most p5.1;
      process_skip = leb-true m.process_skip_count most p6.1;
      filter = leb-true m.filter_count most p7.1;
      write_skip = leb-true m.write_skip_count most p8.1;
    }

-- the sums with a work item that has no fault fit
pub room_for_work : (limit : ℕ) (newest : LastNumbers) (sums : Metrics) (kept : Kept) (row : WorkRow) → IsRestored limit newest sums kept → has_room (rows_in kept) row ≡ true
    → HaveRoom sums row.metrics
room_for_work limit newest sums kept row r room =
    let w : IsWithin (most_after kept.count) (sums_of (kept.records.works ++ row ∷ [])) = within_true (most_after kept.count) (sums_of (kept.records.works ++ row ∷ [])) room in
    let is : sums_of (kept.records.works ++ row ∷ []) ≡ both_metrics sums row.metrics = sums_pushed kept.records.works row ∙ ap (λ (m : Metrics). both_metrics m row.metrics) (sym r.sums_are) in
    let limited : limit ≤ 4294967296 = r.sound.few in
    let few : kept.count ≤ 4294967296 = omega (arith, r.sound.room, limited) in
    let v : IsWithin (most_after kept.count) (both_metrics sums row.metrics) = subst (IsWithin (most_after kept.count)) is w in
    record {
      read = omega (arith, v.read, few);
      write = omega (arith, v.write, few);
      commit = omega (arith, v.commit, few);
      rollback = omega (arith, v.rollback, few);
      read_skip = omega (arith, v.read_skip, few);
      process_skip = omega (arith, v.process_skip, few);
      filter = omega (arith, v.filter, few);
      write_skip = omega (arith, v.write_skip, few);
    }

-- ---- Work keys

none-of : (x y : Bool) → (x || y) ≡ false → (x ≡ false) × (y ≡ false)
none-of true y h = cc
none-of false y h = (refl, h)

-- among the work items of the job execution
pub any_own : (x : ℕ) (p : WorkRow → Bool) (works : List WorkRow) → list_any p (works_of x works) ≡ list_any (λ row. row.execution == x && p row) works
any_own x p [] = refl
any_own x p (row ∷ rest) =
    elim (row.execution == x) as (λ b. list_any p (cond b (row ∷ works_of x rest) (works_of x rest)) ≡ ((b && p row) || list_any (λ r. r.execution == x && p r) rest)) [
      | true ↦ ap (λ (b : Bool). p row || b) (any_own x p rest)
      | false ↦ any_own x p rest
    ]

apart-new : (works : List WorkRow) (new : WorkRow) → list_any (is_work_of new.execution (work_key new)) works ≡ false → Each (λ r. Apart r new) works
apart-new [] new h = tt
apart-new (row ∷ rest) new h =
    let off = none-of (is_work_of new.execution (work_key new) row) (list_any (is_work_of new.execution (work_key new)) rest) h in (
      (λ own key.
          let on : is_work_of new.execution (work_key new) row ≡ true =
          and_from (row.execution == new.execution) (is_same_key (work_key row) (work_key new)) (eq-eqb row.execution new.execution (sym own)) (same-self (work_key row) (work_key new) (sym key)) in
          let no : is_work_of new.execution (work_key new) row ≡ false = off.0 in
          cc),
      apart-new rest new off.1,
    )

-- ---- Rows

-- a job execution that has no fault
pub record IsFree (kept : Kept) (row : ExecutionRow) : Type 0 where
  pub above : (last_in (rows_in kept)).execution < row.execution
  pub given : row.execution ≤ kept.last.execution
  pub placed : is_placed kept.catalogue row ≡ true

pub free_again : (kept : Kept) (row : ExecutionRow) → again_fault (rows_in kept) row ≡ None → IsFree kept row
free_again kept row none =
    let one = passed (is_next (last_in (rows_in kept)).execution kept.last.execution row.execution) NotNext (cond (is_placed kept.catalogue row) None (Some NotPlaced)) none in
    let two = passed (is_placed kept.catalogue row) NotPlaced None one.1 in
    let x = next-parts (last_in (rows_in kept)).execution kept.last.execution row.execution one.0 in
    record { above = x.0; given = x.1; placed = two.0 }

-- the first one of a job instance
pub record IsFreeFirst (kept : Kept) (row : ExecutionRow) : Type 0 where
  pub above : (last_in (rows_in kept)).instance < row.instance
  pub given : row.instance ≤ kept.last.instance
  pub execution : IsFree kept row

pub free_first : (kept : Kept) (row : ExecutionRow) → first_fault (rows_in kept) row ≡ None → IsFreeFirst kept row
free_first kept row none =
    let one = passed (is_next (last_in (rows_in kept)).instance kept.last.instance row.instance) NotNext (again_fault (rows_in kept) row) none in
    let i = next-parts (last_in (rows_in kept)).instance kept.last.instance row.instance one.0 in
    record { above = i.0; given = i.1; execution = free_again kept row one.1 }

-- the maps with these rows
abbrev pub again_in : Maps → ExecutionRow → Maps
again_in maps row = record maps { executions = maps.executions ++ row ∷ [] }

abbrev pub first_in : Maps → ExecutionRow → Maps
first_in maps row = record maps { instances = maps.instances ++ record { instance = row.instance; job = row.job } ∷ []; executions = maps.executions ++ row ∷ [] }

abbrev pub work_in : Maps → WorkRow → Maps
work_in maps row = record maps { works = maps.works ++ row ∷ [] }

-- its numbers are above those of the others
pub instance_above : (limit : ℕ) (newest : LastNumbers) (sums : Metrics) (kept : Kept) (row : ExecutionRow) → IsRestored limit newest sums kept → IsFreeFirst kept row
    → AreBelow row.instance (map (λ (o : JobInstance). o.instance) kept.records.instances)
instance_above limit newest sums kept row r ok =
    above-last newest.instance row.instance (map (λ (o : JobInstance). o.instance) kept.records.instances) (omega (arith, ap (λ (l : LastNumbers). l.instance) r.newest_is, ok.above)) r.below.instance

pub execution_above : (limit : ℕ) (newest : LastNumbers) (sums : Metrics) (kept : Kept) (row : ExecutionRow) → IsRestored limit newest sums kept → IsFree kept row
    → AreBelow row.execution (map (λ (o : ExecutionRow). o.execution) kept.records.executions)
execution_above limit newest sums kept row r ok =
    above-last newest.execution row.execution (map (λ (o : ExecutionRow). o.execution) kept.records.executions) (omega (arith, ap (λ (l : LastNumbers). l.execution) r.newest_is, ok.above)) r.below.execution

pub restored_first : (limit : ℕ) (newest : LastNumbers) (sums : Metrics) (kept : Kept) (m : Maps) (row : ExecutionRow) → IsRestored limit newest sums kept
    → IsFreeFirst kept row → m ≡ first_in kept.records row
    → IsRestored limit (record newest { instance = row.instance; execution = row.execution }) sums (record kept { records = m })
restored_first limit newest sums kept m row r ok is =
    let made : JobInstance = record { instance = row.instance; job = row.job } in
    let below_i = instance_above limit newest sums kept row r ok in
    let below_x = execution_above limit newest sums kept row r ok.execution in
    subst (λ (maps : Maps). IsRestored limit (record newest { instance = row.instance; execution = row.execution }) sums (record kept { records = maps })) (sym is)
    record {
      sound = record {
        few = r.sound.few;
        room = r.sound.room;
        last = record {
          instance = was-given (λ (o : JobInstance). o.instance) kept.records.instances made kept.last.instance ok.given below_i;
          execution = was-given (λ (o : ExecutionRow). o.execution) kept.records.executions row kept.last.execution ok.execution.given below_x;
          work = r.sound.last.work;
        };
        instance = r.sound.instance;
        execution = r.sound.execution;
        work = r.sound.work;
        metrics = r.sound.metrics;
        placed = placed_pushed kept.catalogue kept.records.executions row r.sound.placed ok.execution.placed;
      };
      rising = rising_pushed (λ (o : ExecutionRow). o.execution) row.execution kept.records.executions row r.rising below_x refl;
      apart = r.apart;
      newest_is = λ k. record {
        instance = sym (last-row (λ (o : JobInstance). o.instance) 0 kept.records.instances made) k;
        execution = sym (last-row (λ (o : ExecutionRow). o.execution) 0 kept.records.executions row) k;
        work = ap (λ (l : LastNumbers). l.work) r.newest_is k;
      };
      below = record {
        instance = greatest (λ (o : JobInstance). o.instance) kept.records.instances made below_i;
        execution = greatest (λ (o : ExecutionRow). o.execution) kept.records.executions row below_x;
        work = r.below.work;
      };
      sums_are = r.sums_are;
    }

pub restored_execution : (limit : ℕ) (newest : LastNumbers) (sums : Metrics) (kept : Kept) (m : Maps) (row : ExecutionRow) → IsRestored limit newest sums kept
    → IsFree kept row → m ≡ again_in kept.records row
    → IsRestored limit (record newest { execution = row.execution }) sums (record kept { records = m })
restored_execution limit newest sums kept m row r ok is =
    let below_x = execution_above limit newest sums kept row r ok in
    subst (λ (maps : Maps). IsRestored limit (record newest { execution = row.execution }) sums (record kept { records = maps })) (sym is)
    record {
      sound = record {
        few = r.sound.few;
        room = r.sound.room;
        last = record {
          instance = r.sound.last.instance;
          execution = was-given (λ (o : ExecutionRow). o.execution) kept.records.executions row kept.last.execution ok.given below_x;
          work = r.sound.last.work;
        };
        instance = r.sound.instance;
        execution = r.sound.execution;
        work = r.sound.work;
        metrics = r.sound.metrics;
        placed = placed_pushed kept.catalogue kept.records.executions row r.sound.placed ok.placed;
      };
      rising = rising_pushed (λ (o : ExecutionRow). o.execution) row.execution kept.records.executions row r.rising below_x refl;
      apart = r.apart;
      newest_is = λ k. record {
        instance = ap (λ (l : LastNumbers). l.instance) r.newest_is k;
        execution = sym (last-row (λ (o : ExecutionRow). o.execution) 0 kept.records.executions row) k;
        work = ap (λ (l : LastNumbers). l.work) r.newest_is k;
      };
      below = record {
        instance = r.below.instance;
        execution = greatest (λ (o : ExecutionRow). o.execution) kept.records.executions row below_x;
        work = r.below.work;
      };
      sums_are = r.sums_are;
    }

-- a work item that has no fault
pub record HasNoFault (kept : Kept) (row : WorkRow) : Type 0 where
  pub above : (last_in (rows_in kept)).work < row.work
  pub given : row.work ≤ kept.last.work
  pub free : has_work (rows_in kept) row ≡ false
  pub room : has_room (rows_in kept) row ≡ true

pub no_fault : (kept : Kept) (row : WorkRow) → work_fault (rows_in kept) row ≡ None → HasNoFault kept row
no_fault kept row none =
    let in_room : Option RowFault = cond (has_room (rows_in kept) row) None (Some TooGreat) in
    let free : Option RowFault = cond (has_work (rows_in kept) row) (Some Taken) in_room in
    let one = passed (is_next (last_in (rows_in kept)).work kept.last.work row.work) NotNext (cond (has_execution (rows_in kept) row.execution) free (Some NoOwner)) none in
    let two = passed (has_execution (rows_in kept) row.execution) NoOwner free one.1 in
    let three = not-passed (has_work (rows_in kept) row) Taken in_room two.1 in
    let four = passed (has_room (rows_in kept) row) TooGreat None three.1 in
    let w = next-parts (last_in (rows_in kept)).work kept.last.work row.work one.0 in
    record { above = w.0; given = w.1; free = three.0; room = four.0 }

-- its number is above those of the others
pub work_above : (limit : ℕ) (newest : LastNumbers) (sums : Metrics) (kept : Kept) (row : WorkRow) → IsRestored limit newest sums kept → HasNoFault kept row
    → AreBelow row.work (map (λ (o : WorkRow). o.work) kept.records.works)
work_above limit newest sums kept row r ok =
    above-last newest.work row.work (map (λ (o : WorkRow). o.work) kept.records.works) (omega (arith, ap (λ (l : LastNumbers). l.work) r.newest_is, ok.above)) r.below.work

pub restored_work : (limit : ℕ) (newest : LastNumbers) (sums after : Metrics) (kept : Kept) (m : Maps) (row : WorkRow) → IsRestored limit newest sums kept
    → HasNoFault kept row → after ≡ both_metrics sums row.metrics → m ≡ work_in kept.records row
    → IsRestored limit (record newest { work = row.work }) after (record kept { records = m })
restored_work limit newest sums after kept m row r ok joined is =
    let below_w = work_above limit newest sums kept row r ok in
    subst (λ (maps : Maps). IsRestored limit (record newest { work = row.work }) after (record kept { records = maps })) (sym is)
    record {
      sound = record {
        few = r.sound.few;
        room = r.sound.room;
        last = record {
          instance = r.sound.last.instance;
          execution = r.sound.last.execution;
          work = was-given (λ (o : WorkRow). o.work) kept.records.works row kept.last.work ok.given below_w;
        };
        instance = r.sound.instance;
        execution = r.sound.execution;
        work = r.sound.work;
        metrics = within_true (most_after kept.count) (sums_of (kept.records.works ++ row ∷ [])) ok.room;
        placed = r.sound.placed;
      };
      rising = r.rising;
      apart = apart-append kept.records.works row r.apart (apart-new kept.records.works row ok.free);
      newest_is = λ k. record {
        instance = ap (λ (l : LastNumbers). l.instance) r.newest_is k;
        execution = ap (λ (l : LastNumbers). l.execution) r.newest_is k;
        work = sym (last-row (λ (o : WorkRow). o.work) 0 kept.records.works row) k;
      };
      below = record {
        instance = r.below.instance;
        execution = r.below.execution;
        work = greatest (λ (o : WorkRow). o.work) kept.records.works row below_w;
      };
      sums_are = joined ∙ (ap (λ (s : Metrics). both_metrics s row.metrics) r.sums_are ∙ sym (sums_pushed kept.records.works row));
    }

-- a checkpoint that has no fault
pub checkpoint_put : (kept : Kept) (m : Maps) (row : CheckpointRow) → SetsCheckpoint kept.records m (step_of row) (Some row.mark)
    → rows_in (record kept { records = m }) ≡ with_checkpoint (rows_in kept) row
checkpoint_put kept m row sets = λ k. record {
  catalogue = kept.catalogue;
  count = kept.count;
  last = kept.last;
  instances = sets.instances k;
  executions = sets.executions k;
  works = sets.works k;
  checkpoint = λ p. marks_set kept.records m (step_of row) (Some row.mark) sets p k;
}

-- ---- Results

-- it was added, or memory was refused
pub taken_put : {T : Type 0} (result : Result T RowFault) (fault : Option RowFault) → fault ≡ None → OnErr result (result ≡ Err OutOfMemory) → IsTaken result fault
taken_put (Ok done) fault none memory = none
taken_put (Err why) fault none memory = λ apart. let is : why ≡ OutOfMemory = cc in absurd (apart is)

-- ---- Numbers of operations

pub counted_all : (limit count : ℕ) (last : LastNumbers)
    → IsTrue (nat_le count limit && nat_le last.instance count && nat_le last.execution count && nat_le last.work count) ↔ AreCounted limit count last
counted_all limit count last =
    let two : Bool = nat_le count limit && nat_le last.instance count in
    let three : Bool = two && nat_le last.execution count in (
      (λ h.
          let c = and_parts three (nat_le last.work count) h in
          let b = and_parts two (nat_le last.execution count) c.0 in
          let a = and_parts (nat_le count limit) (nat_le last.instance count) b.0 in
          record {
            room = leb-true count limit a.0;
            instance = leb-true last.instance count a.1;
            execution = leb-true last.execution count b.1;
            work = leb-true last.work count c.1;
          }),
      (λ c.
          and_from three (nat_le last.work count)
          (and_from two (nat_le last.execution count)
          (and_from (nat_le count limit) (nat_le last.instance count) (le-leb count limit c.room) (le-leb last.instance count c.instance))
          (le-leb last.execution count c.execution))
          (le-leb last.work count c.work)),
    )

-- with no rows yet
pub restored_none : (limit : ℕ) (kept : Kept) → limit ≤ most_numbered → AreCounted limit kept.count kept.last → kept.records ≡ no_rows
    → IsRestored limit (record { instance = 0; execution = 0; work = 0 }) zero_metrics kept
restored_none limit kept few c none =
    subst (λ (maps : Maps). IsRestored limit (record { instance = 0; execution = 0; work = 0 }) zero_metrics (record kept { records = maps })) (sym none)
    record {
      sound = record {
        few = few;
        room = c.room;
        last = record { instance = tt; execution = tt; work = tt };
        instance = c.instance;
        execution = c.execution;
        work = c.work;
        metrics = record { read = omega arith; write = omega arith; commit = omega arith; rollback = omega arith; read_skip = omega arith; process_skip = omega arith; filter = omega arith; write_skip = omega arith };
        placed = tt;
      };
      rising = tt;
      apart = tt;
      newest_is = refl;
      below = record { instance = tt; execution = tt; work = tt };
      sums_are = refl;
    }

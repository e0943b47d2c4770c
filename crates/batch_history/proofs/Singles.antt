-- In every legal history a job execution is over once its job instance has a later one.
use Rattle.std.proofs.Common.{◌≡◌, ◌⊎◌, inl, inr, ℕ, ◌+◌, ◌==◌, ◌&&◌, ◌<◌, ◌≤◌, Bool, true, false, cond, nat_lt, Option, None, Some, List, [], ◌∷◌, ◌++◌, length, find, refl, sym, ◌∙◌, ap, subst, arith}
use Rattle.std.specs.List.{list_any}
use Rattle.std.specs.Option.{option_map, option_or}
use Rattle.std.proofs.lemmas.List.Folds.{find-append}
use Rattle.std.proofs.lemmas.Bool.{eqb-true, eq-eqb, ltb-false}
use Rattle.job_plans.proofs.Following.{find-map}
use Rattle.batch_ids.specs.declared.status.BatchStatus.{BatchStatus}
use Rattle.batch_ids.specs.declared.status.BatchStatus.TheVariants.{Stopped, Failed, Abandoned}
use Rattle.jsl_model.specs.Jobs.{JobTree}
use Rattle.batch_history.specs.declared.call.Call.{Call}
use Rattle.batch_history.specs.declared.call.Call.TheVariants.{Start, Restart, Stop, Abandon, Claim, Checkpoint, Finish, Lose, Purge}
use Rattle.batch_history.specs.declared.call.Reply.{Reply}
use Rattle.batch_history.specs.declared.call.Entry.{Entry}
use Rattle.batch_history.specs.declared.rows.ExecutionRow.{ExecutionRow}
use Rattle.batch_history.specs.declared.rows.JobInstance.{JobInstance}
use Rattle.batch_history.proofs.Folds.{made, makes, is_made, remade, instances_of, bare_of, folded_rows, execution_row}
use Rattle.batch_history.specs.Executions.{Made}
use Rattle.batch_history.specs.Replies.{row_status, is_execution, is_later_than}
use Rattle.batch_history.specs.Rows.{Rows, IsAsBefore}
use Rattle.batch_history.specs.Statuses.{is_finished}
use Rattle.batch_history.proofs.Finding.{found-passes, any-none}
use Rattle.batch_history.proofs.Finished.{finished-step, on-it}
use Rattle.batch_history.proofs.Origins.{find-past}
use Rattle.batch_history.proofs.Owners.{InstanceOf, instances-kept, AreBegun, begun}
use Rattle.batch_history.proofs.Stepping.{AreNumbered, numbered}
use Rattle.batch_history.proofs.Told.{AllDue, IsRowOf, row-of, made-among, made-before, ToldRestart, restart-told}
use Rattle.batch_history.proofs.WorkLists.{each-found}

-- whether all earlier job executions of a job instance are over
abbrev pub EarlierOver : List JobTree → List Entry → Type 0
EarlierOver catalogue past = (m n : Made) → find (is_made m.execution) (made past) ≡ Some m → find (is_made n.execution) (made past) ≡ Some n
    → m.instance ≡ n.instance → m.execution < n.execution → is_finished (bare_of catalogue past m) ≡ true

-- ---- The job execution that was made last

pub found-last : (x : ℕ) (ms : List Made) (new n : Made) → AreNumbered 1 ms → length ms + 1 ≤ x → find (is_made x) (ms ++ new ∷ []) ≡ Some n → new ≡ n
found-last x ms new n h le found =
    let missed : option_or (find (is_made x) ms) (cond (new.execution == x) (Some new) None) ≡ Some n =
    sym (find-append (is_made x) ms (new ∷ [])) ∙ found in
    let here : cond (new.execution == x) (Some new) None ≡ Some n =
    sym (ap (λ (o : Option Made). option_or o (cond (new.execution == x) (Some new) None)) (find-past x 1 ms h le)) ∙ missed in
    (elim (new.execution == x) as (λ b. cond b (Some new) None ≡ Some n → new ≡ n) [
      | true ↦ λ s. cc
      | false ↦ λ s. cc
    ]) here

-- a job instance of an earlier job execution was begun
instance-within : (n k : ℕ) (is : List JobInstance) (i : JobInstance) → AreBegun k is → find (λ (j : JobInstance). j.instance == n) is ≡ Some i → n < length is + k
instance-within n k [] i h e = cc
instance-within n k (j ∷ js) i h e =
    (elim (j.instance == n) as (λ b. (j.instance == n) ≡ b → cond b (Some j) (find (λ (j : JobInstance). j.instance == n) js) ≡ Some i → n < length (j ∷ js) + k) [
      | true ↦ λ is s. let here : j.instance ≡ n = eqb-true j.instance n is in omega (arith, h.0, here)
      | false ↦ λ is s. omega (arith, instance-within n (k + 1) js i h.1 s)
    ]) refl e

pub made-in-begun : (limit : ℕ) (catalogue : List JobTree) (older : List Entry) (m : Made) → AllDue limit catalogue older → find (is_made m.execution) (made older) ≡ Some m
    → m.instance ≤ length (instances_of older)
made-in-begun limit catalogue older m due found =
    let i : InstanceOf older m = each-found (InstanceOf older) (is_made m.execution) (made older) m (instances-kept limit catalogue older due) found in
    omega (arith, instance-within m.instance 1 (instances_of older) i.instance (begun older) i.found)

-- ---- The job execution that is restarted

over-bare : (abandoned : Bool) (bare : BatchStatus) → (cond abandoned Abandoned bare ≡ Stopped) ⊎ (cond abandoned Abandoned bare ≡ Failed) → is_finished bare ≡ true
over-bare true bare (inl h) = cc
over-bare true bare (inr h) = cc
over-bare false bare (inl h) = ap is_finished h
over-bare false bare (inr h) = ap is_finished h

-- what a restart that is accepted tells of the job execution that it names
pub record Restarted (catalogue : List JobTree) (older : List Entry) (y : ℕ) : Type 0 where
  pub one : Made
  pub number : one.execution ≡ y
  pub found : find (is_made one.execution) (made older) ≡ Some one
  pub over : is_finished (bare_of catalogue older one) ≡ true
  pub newest : (m : Made) → find (is_made m.execution) (made older) ≡ Some m → m.instance ≡ one.instance → m.execution ≤ one.execution

not-later : (a b : ℕ) (same : Bool) → same ≡ true → (same && nat_lt a b) ≡ false → b ≤ a
not-later a b true is h = ltb-false a b h
not-later a b false is h = cc

pub restarted-one : (limit : ℕ) (catalogue : List JobTree) (older : List Entry) (y : ℕ) (reply : Reply)
    → ToldRestart (folded_rows catalogue older) y → Restarted catalogue older y
restarted-one limit catalogue older y reply told =
    let r : Rows = folded_rows catalogue older in
    let from : IsRowOf catalogue older told.row = row-of catalogue older (is_execution y) told.row told.found in
    let one : Made = from.one in
    let status : (row_status (execution_row catalogue older one) ≡ Stopped) ⊎ (row_status (execution_row catalogue older one) ≡ Failed) =
    subst (λ (row : ExecutionRow). (row_status row ≡ Stopped) ⊎ (row_status row ≡ Failed)) from.is_row told.over in
    record {
      one = one;
      number = sym (ap (λ (row : ExecutionRow). row.execution) from.is_row) ∙ eqb-true told.row.execution y (found-passes (is_execution y) r.executions told.row told.found);
      found = from.found;
      over = over-bare (execution_row catalogue older one).abandoned (bare_of catalogue older one) status;
      newest = λ m there same.
          let row : ExecutionRow = execution_row catalogue older m in
          let shown : find (is_execution m.execution) r.executions ≡ Some row =
          find-map (execution_row catalogue older) (is_execution m.execution) (is_made m.execution) (λ k. refl) (made older)
          ∙ ap (λ (o : Option Made). option_map (execution_row catalogue older) o) there in
          let none : is_later_than (execution_row catalogue older one) row ≡ false =
          any-none (is_later_than (execution_row catalogue older one)) (is_execution m.execution) r.executions row
          (subst (λ (z : ExecutionRow). list_any (is_later_than z) r.executions ≡ false) from.is_row told.newest) shown in
          not-later one.execution m.execution (m.instance == one.instance) (eq-eqb m.instance one.instance same) none;
    }

-- ---- Every legal history

-- one that an operation makes, and an earlier one of its job instance
new-over : (limit : ℕ) (catalogue : List JobTree) (older : List Entry) (who at : ℕ) (call : Call) (reply : Reply) (m n : Made)
    → AllDue limit catalogue (record { who = who; call = call; at = at; reply = reply } ∷ older)
    → EarlierOver catalogue older → find (is_made m.execution) (made older) ≡ Some m
    → find (is_made n.execution) (made (record { who = who; call = call; at = at; reply = reply } ∷ older)) ≡ Some n
    → makes (length (made older)) n.execution call ≡ true → m.instance ≡ n.instance → is_finished (bare_of catalogue older m) ≡ true
new-over limit catalogue older who at (Start job parameters) reply m n due before there found new same =
    let number : length (made older) + 1 ≡ n.execution = eqb-true (length (made older) + 1) n.execution new in
    let is = found-last n.execution (made older) _ n (numbered older) (omega (arith, number)) found in
    let instance : length (instances_of older) + 1 ≡ n.instance = ap (λ (k : Made). k.instance) is in
    absurd (omega (arith, same, instance, made-in-begun limit catalogue older m due.1 there))
new-over limit catalogue older who at (Restart y parameters) reply m n due before there found new same =
    let r : Restarted catalogue older y = restarted-one limit catalogue older y reply (restart-told limit (folded_rows catalogue older) y reply due.0.0) in
    let number : length (made older) + 1 ≡ n.execution = eqb-true (length (made older) + 1) n.execution new in
    let is = found-last n.execution (made older) _ n (numbered older) (omega (arith, number)) found in
    let named : find (is_made y) (made older) ≡ Some r.one = subst (λ x. find (is_made x) (made older) ≡ Some r.one) r.number r.found in
    let instance : r.one.instance ≡ n.instance =
    sym (ap (λ (o : Option Made). (remade (length (made older) + 1) parameters at o).instance) named) ∙ ap (λ (k : Made). k.instance) is in
    let alike : m.instance ≡ r.one.instance = same ∙ sym instance in
    on-it (m.execution == r.one.execution)
    (λ on.
    let one : m ≡ r.one = let both : Some m ≡ Some r.one = sym there ∙ (ap (λ x. find (is_made x) (made older)) (eqb-true m.execution r.one.execution on) ∙ r.found) in cc in
    subst (λ (k : Made). is_finished (bare_of catalogue older k) ≡ true) (sym one) r.over)
    (λ off. before m r.one there r.found alike
    (let le : m.execution ≤ r.one.execution = r.newest m there alike in
    let other : (m.execution ≡ r.one.execution) → ⊥ = λ e. (let yes : (m.execution == r.one.execution) ≡ true = eq-eqb m.execution r.one.execution e in let no : true ≡ false = sym yes ∙ off in cc) in
    omega (arith, le, other)))
new-over limit catalogue older who at (Stop y) reply m n due before there found new same = cc
new-over limit catalogue older who at (Abandon y) reply m n due before there found new same = cc
new-over limit catalogue older who at Claim reply m n due before there found new same = cc
new-over limit catalogue older who at (Checkpoint w mark step) reply m n due before there found new same = cc
new-over limit catalogue older who at (Finish w o t step) reply m n due before there found new same = cc
new-over limit catalogue older who at (Lose w) reply m n due before there found new same = cc
new-over limit catalogue older who at (Purge i) reply m n due before there found new same = cc

-- how many were made
made-count : (older : List Entry) (who at : ℕ) (call : Call) (reply : Reply) (x : ℕ) (n : Made)
    → find (is_made x) (made (record { who = who; call = call; at = at; reply = reply } ∷ older)) ≡ Some n → makes (length (made older)) x call ≡ false → x < length (made older) + 1
made-count older who at call reply x n found off =
    let e : Entry = record { who = who; call = call; at = at; reply = reply } in
    made-among x 1 (made older) n (numbered older) (made-before older e x n off found)

pub makes-number : (count x : ℕ) (call : Call) → makes count x call ≡ true → x ≡ count + 1
makes-number count x (Start job parameters) h = sym (eqb-true (count + 1) x h)
makes-number count x (Restart y parameters) h = sym (eqb-true (count + 1) x h)
makes-number count x (Stop y) h = cc
makes-number count x (Abandon y) h = cc
makes-number count x Claim h = cc
makes-number count x (Checkpoint w mark step) h = cc
makes-number count x (Finish w o t step) h = cc
makes-number count x (Lose w) h = cc
makes-number count x (Purge i) h = cc

pub earlier-over : (limit : ℕ) (catalogue : List JobTree) (past : List Entry) → AllDue limit catalogue past → EarlierOver catalogue past
earlier-over limit catalogue [] due m n there found same lt = cc
earlier-over limit catalogue (e ∷ older) due m n there found same lt =
    let count : ℕ = length (made older) in
    let before : EarlierOver catalogue older = earlier-over limit catalogue older due.1 in
    on-it (makes count m.execution e.call)
    (λ new.
    let last : m.execution ≡ count + 1 = makes-number count m.execution e.call new in
    absurd (on-it (makes count n.execution e.call)
    (λ also. omega (arith, last, makes-number count n.execution e.call also, lt))
    (λ off. omega (arith, last, lt, made-count older e.who e.at e.call e.reply n.execution n found off))))
    (λ off.
    let m_there : find (is_made m.execution) (made older) ≡ Some m = made-before older e m.execution m off there in
    let over : is_finished (bare_of catalogue older m) ≡ true =
    on-it (makes count n.execution e.call)
    (λ new. new-over limit catalogue older e.who e.at e.call e.reply m n due before m_there found new same)
    (λ old. before m n m_there (made-before older e n.execution n old found) same lt) in
    let stays : IsAsBefore (execution_row catalogue older m) (execution_row catalogue (e ∷ older) m) = finished-step limit catalogue older e m due m_there over in
    ap (λ (row : ExecutionRow). is_finished row.bare) stays ∙ over)

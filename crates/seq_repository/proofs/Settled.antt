-- What the rows of job executions show of their walks, after each operation.
use Rattle.std.proofs.Common.{◌≡◌, ℕ, ◌<◌, ◌==◌, ◌||◌, Bool, true, false, cond, not, Option, None, Some, IfSome, is_some, List, [], ◌∷◌, ◌++◌, find, refl, sym, ◌∙◌, ap, subst, arith}
use Rattle.std.specs.Option.{option_map}
use Rattle.std.proofs.lemmas.Bool.{eqb-true, ne_eqb}
use Rattle.batch_history.proofs.Finding.{found-passes}
use Rattle.batch_history.proofs.Knowing.{facts-same}
use Rattle.batch_history.specs.Moments.{first_moment}
use Rattle.batch_history.specs.NextRows.{fresh_row, renewed}
use Rattle.batch_history.specs.Rows.{executions_there, instance_in, is_execution, is_gone, works_there}
use Rattle.batch_history.specs.Statuses.{batch_status, exit_status, is_finished}
use Rattle.batch_history.specs.Walks.{job_named, known_elements, walk_of, walk_value}
use Rattle.batch_history.specs.declared.rows.ExecutionRow.{ExecutionRow}
use Rattle.batch_history.specs.declared.rows.WorkRow.{WorkRow}
use Rattle.batch_ids.specs.declared.parameters.Parameters.{Parameters}
use Rattle.job_plans.specs.declared.plan.Plan.{Plan}
use Rattle.jsl_model.specs.Jobs.{JobTree}
use Rattle.walk_rules.specs.declared.facts.Value.{Value}
use Rattle.records.specs.Maps.{AreRising, execution_numbers}
use Rattle.seq_repository.specs.Agendas.{is_ready_row}
use Rattle.seq_repository.specs.Changes.{abandoned_at, put_row, row_after, row_given_up, ReplacesExecution}
use Rattle.row_repository.specs.Settled.{AreSettled, IsSettled}
use Rattle.seq_repository.specs.declared.rows.Change.{Change}
use Rattle.seq_repository.proofs.Agendas.{KeepsOthers, above-passed, known-there}
use Rattle.seq_repository.proofs.Followed.{cmp-own, found-beside, found_put}

-- ---- One row

value-same : (catalogue : List JobTree) (before after : List WorkRow) (row : ExecutionRow) → known_elements row.execution after ≡ known_elements row.execution before
    → walk_value catalogue before row.execution row.job row.plan ≡ walk_value catalogue after row.execution row.job row.plan
value-same catalogue before after row same = ap (λ f. walk_of row.plan f (job_named catalogue row.job)) (sym (facts-same row.execution after before same))

-- what is known of its job execution is the same
settled_same : (catalogue : List JobTree) (before after : List WorkRow) (row : ExecutionRow) → known_elements row.execution after ≡ known_elements row.execution before
    → IsSettled catalogue before row → IsSettled catalogue after row
settled_same catalogue before after row same s =
    record {
      bare = s.bare ∙ ap (batch_status row.stop row.start) (value-same catalogue before after row same);
      exit = s.exit ∙ ap (exit_status row.stop row.start) (value-same catalogue before after row same);
      end = s.end;
    }

ended : (end : Option ℕ) (over : Bool) (at : ℕ) → over ≡ true → is_some (first_moment end over at) ≡ true
ended (Some t) over at e = refl
ended None true at e = refl
ended None false at e = cc

-- a row that was made anew by its walk
pub settled_renewed : (catalogue : List JobTree) (works : List WorkRow) (stop abandoned : Bool) (start : Option ℕ) (at : ℕ) (row : ExecutionRow)
    → IsSettled catalogue works (renewed stop abandoned start (walk_value catalogue works row.execution row.job row.plan) at row)
settled_renewed catalogue works stop abandoned start at row =
    record {
      bare = refl;
      exit = refl;
      end = ended row.end (is_finished (batch_status stop start (walk_value catalogue works row.execution row.job row.plan))) at;
    }

pub settled_after : (catalogue : List JobTree) (works : List WorkRow) (change : Change) (at : ℕ) (row : ExecutionRow) → IsSettled catalogue works (row_after change catalogue works at row)
settled_after catalogue works change at row = settled_renewed catalogue works _ _ _ at row

pub settled_given_up : (catalogue : List JobTree) (works : List WorkRow) (at : ℕ) (row : ExecutionRow) → IsSettled catalogue works (row_given_up catalogue works at row)
settled_given_up catalogue works at row = settled_renewed catalogue works _ _ _ at row

-- a row that is made
pub settled_fresh : (catalogue : List JobTree) (works : List WorkRow) (x i at : ℕ) (job : List ℕ) (parameters : Parameters) (plan : Plan) → IsSettled catalogue works (fresh_row x i at job parameters plan)
settled_fresh catalogue works x i at job parameters plan = record { bare = refl; exit = refl; end = λ e. cc }

-- ---- A job execution that is abandoned

or-false : (b : Bool) → b ≡ (b || false)
or-false true = refl
or-false false = refl

or-true : (b : Bool) → true ≡ (b || true)
or-true true = refl
or-true false = refl

not-begun : (start : Option ℕ) (at : ℕ) → start ≡ first_moment start false at
not-begun (Some t) at = refl
not-begun None at = refl

end-kept : (end : Option ℕ) (over : Bool) (at : ℕ) → (over ≡ true → is_some end ≡ true) → end ≡ first_moment end over at
end-kept (Some t) over at has = refl
end-kept None true at has = let some = has refl in cc
end-kept None false at has = refl

-- its row needs no walk, since it shows what its walk comes to
pub given_up_alone : (catalogue : List JobTree) (works : List WorkRow) (at : ℕ) (row : ExecutionRow) → IsSettled catalogue works row
    → abandoned_at at row ≡ row_given_up catalogue works at row
given_up_alone catalogue works at row s =
    let value : Value = walk_value catalogue works row.execution row.job row.plan in
    let stop = or-false row.stop in
    let start = not-begun row.start at in
    let bare : row.bare ≡ batch_status (row.stop || false) (first_moment row.start false at) value = s.bare ∙ (λ i. batch_status (stop i) (start i) value) in
    let exit : row.exit ≡ exit_status (row.stop || false) (first_moment row.start false at) value = s.exit ∙ (λ i. exit_status (stop i) (start i) value) in
    let end : row.end ≡ first_moment row.end (is_finished (batch_status (row.stop || false) (first_moment row.start false at) value)) at =
    end-kept row.end (is_finished row.bare) at s.end ∙ ap (λ b. first_moment row.end (is_finished b) at) bare in
    λ i. record row { stop = stop i; abandoned = or-true row.abandoned i; bare = bare i; start = start i; end = end i; exit = exit i; updated = at }

pub given_up_found : (catalogue : List JobTree) (works : List WorkRow) (at x : ℕ) (rows : List ExecutionRow) (new : Option ExecutionRow) → AreSettled catalogue works rows
    → new ≡ option_map (abandoned_at at) (find (is_execution x) rows)
    → new ≡ option_map (row_given_up catalogue works at) (find (is_execution x) rows)
given_up_found catalogue works at x rows new settled is =
    is ∙ (elim (find (is_execution x) rows) as (λ o. IfSome o (IsSettled catalogue works)
    → option_map (abandoned_at at) o ≡ option_map (row_given_up catalogue works at) o) [
      | None ↦ λ h. refl
      | Some row ↦ λ h. ap Some (given_up_alone catalogue works at row h)
    ]) (settled x)

-- there is nothing to do for it
pub given_up_idle : (catalogue : List JobTree) (works : List WorkRow) (at x : ℕ) (rows : List ExecutionRow) (new : Option ExecutionRow)
    → new ≡ option_map (abandoned_at at) (find (is_execution x) rows) → false ≡ is_ready_row catalogue works new
given_up_idle catalogue works at x rows new is =
    (elim (find (is_execution x) rows) as (λ o. false ≡ is_ready_row catalogue works (option_map (abandoned_at at) o)) [
      | None ↦ refl
      | Some row ↦ refl
    ]) ∙ ap (is_ready_row catalogue works) (sym is)

-- ---- All rows

if-found : (x : ℕ) (rows : List ExecutionRow) (P Q : ExecutionRow → Type 0) → ((row : ExecutionRow) → row.execution ≡ x → P row → Q row) → IfSome (find (is_execution x) rows) P → IfSome (find (is_execution x) rows) Q
if-found x rows P Q turn has =
    (elim (find (is_execution x) rows) as (λ o. find (is_execution x) rows ≡ o → IfSome o P → IfSome o Q) [
      | None ↦ λ e h. tt
      | Some row ↦ λ e h. turn row (eqb-true row.execution x (found-passes (is_execution x) rows row e)) h
    ]) refl has

-- after an operation on job execution x
pub settled_put : (catalogue : List JobTree) (before after : List WorkRow) (rows : List ExecutionRow) (x : ℕ) (f : ExecutionRow → ExecutionRow) (new : Option ExecutionRow)
    → KeepsOthers x before after → IfSome new (λ row. ReplacesExecution rows x row) → new ≡ option_map f (find (is_execution x) rows)
    → ((row : ExecutionRow) → IsSettled catalogue after (f row)) → AreSettled catalogue before rows → AreSettled catalogue after (put_row x new rows)
settled_put catalogue before after rows x f new others own made each settled = λ q.
    cmp-own x q
    (λ same. subst (λ n. IfSome (find (is_execution n) (put_row x new rows)) (IsSettled catalogue after)) (sym same)
    ((elim new as (λ o. IfSome o (λ row. ReplacesExecution rows x row) → o ≡ option_map f (find (is_execution x) rows) → IfSome (find (is_execution x) (put_row x o rows)) (IsSettled catalogue after)) [
      | None ↦ λ mine is.
          (elim (find (is_execution x) rows) as (λ o. None ≡ option_map f o → IfSome o (IsSettled catalogue after)) [
            | None ↦ λ e. tt
            | Some row ↦ λ e. cc
          ]) is
      | Some row ↦ λ mine is. subst (λ o. IfSome o (IsSettled catalogue after)) (sym (found_put x row rows mine))
          ((elim (find (is_execution x) rows) as (λ o. Some row ≡ option_map f o → IsSettled catalogue after row) [
            | None ↦ λ e. cc
            | Some old ↦ λ e. let same : row ≡ f old = cc in subst (IsSettled catalogue after) (sym same) (each old)
          ]) is)
    ]) own made))
    (λ off differ. subst (λ o. IfSome o (IsSettled catalogue after)) (sym (found-beside x q new rows differ own))
    (if-found q rows (IsSettled catalogue before) (IsSettled catalogue after)
    (λ row at s. settled_same catalogue before after row (others row.execution (ap (λ n. n == x) at ∙ differ)) s) (settled q)))

some-pushed : (p : ExecutionRow → Bool) (rows : List ExecutionRow) (row : ExecutionRow) (P : ExecutionRow → Type 0) → P row → IfSome (find p rows) P → IfSome (find p (rows ++ row ∷ [])) P
some-pushed p [] row P mine has =
    elim (p row) as (λ b. IfSome (cond b (Some row) None) P) [
      | true ↦ mine
      | false ↦ tt
    ]
some-pushed p (r ∷ rest) row P mine has =
    (elim (p r) as (λ b. IfSome (cond b (Some r) (find p rest)) P → IfSome (cond b (Some r) (find p (rest ++ row ∷ []))) P) [
      | true ↦ λ h. h
      | false ↦ λ h. some-pushed p rest row P mine h
    ]) has

-- a job execution more
pub settled_pushed : (catalogue : List JobTree) (works : List WorkRow) (rows : List ExecutionRow) (new : ExecutionRow) → IsSettled catalogue works new → AreSettled catalogue works rows
    → AreSettled catalogue works (rows ++ new ∷ [])
settled_pushed catalogue works rows new mine settled = λ q. some-pushed (is_execution q) rows new (IsSettled catalogue works) mine (settled q)

-- a job execution that is still there was found before, and isn't of the job instance that is gone
there-found : (q i : ℕ) (rows : List ExecutionRow) (row : ExecutionRow) → AreRising (execution_numbers rows) → find (is_execution q) (executions_there (λ j. j == i) rows) ≡ Some row
    → (find (is_execution q) rows ≡ Some row) × ((row.instance == i) ≡ false)
there-found q i [] row rising found = cc
there-found q i (r ∷ rest) row rising found =
    let left : List ExecutionRow = executions_there (λ j. j == i) rest in
    (elim (r.instance == i) as (λ b. (r.instance == i) ≡ b → find (is_execution q) (cond (not b) (r ∷ left) left) ≡ Some row
    → (find (is_execution q) (r ∷ rest) ≡ Some row) × ((row.instance == i) ≡ false)) [
      | true ↦ λ e s.
          let later = there-found q i rest row rising.1 s in
          let above : r.execution < row.execution = above-passed r.execution (is_execution q) rest row rising.0 later.0 in
          let at : row.execution ≡ q = eqb-true row.execution q (found-passes (is_execution q) rest row later.0) in
          let off : (r.execution == q) ≡ false = ne_eqb r.execution q (λ same. omega (arith, above, at, same)) in
          (ap (λ b. cond b (Some r) (find (is_execution q) rest)) off ∙ later.0, later.1)
      | false ↦ λ e s.
          (elim (r.execution == q) as (λ b. cond b (Some r) (find (is_execution q) left) ≡ Some row
          → (cond b (Some r) (find (is_execution q) rest) ≡ Some row) × ((row.instance == i) ≡ false)) [
            | true ↦ λ t. let same : r ≡ row = cc in (t, ap (λ (one : ExecutionRow). one.instance == i) (sym same) ∙ e)
            | false ↦ λ t. there-found q i rest row rising.1 t
          ]) s
    ]) refl found

-- a job instance that is gone
pub settled_without : (catalogue : List JobTree) (i : ℕ) (works : List WorkRow) (rows : List ExecutionRow) → AreRising (execution_numbers rows) → AreSettled catalogue works rows
    → AreSettled catalogue (works_there (λ j. j == i) rows works) (executions_there (λ j. j == i) rows)
settled_without catalogue i works rows rising settled = λ q.
    (elim (find (is_execution q) (executions_there (λ j. j == i) rows)) as (λ o. find (is_execution q) (executions_there (λ j. j == i) rows) ≡ o
    → IfSome o (IsSettled catalogue (works_there (λ j. j == i) rows works))) [
      | None ↦ λ e. tt
      | Some row ↦ λ e.
          let was = there-found q i rows row rising e in
          let at : row.execution ≡ q = eqb-true row.execution q (found-passes (is_execution q) rows row was.0) in
          let there : is_gone (λ j. j == i) (instance_in rows row.execution) ≡ false =
          ap (λ n. is_gone (λ j. j == i) (instance_in rows n)) at ∙ (ap (λ o. is_gone (λ j. j == i) (option_map (λ (r : ExecutionRow). r.instance) o)) was.0 ∙ was.1) in
          settled_same catalogue works (works_there (λ j. j == i) rows works) row (known-there row.execution (λ j. j == i) rows works there)
          (subst (λ o. IfSome o (IsSettled catalogue works)) was.0 (settled q))
    ]) refl

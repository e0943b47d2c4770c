-- Abandonment and end: an abandoned job execution is over, and the end is the moment of the operation that brought it.
use Rattle.std.proofs.Common.{◌≡◌, ℕ, ◌==◌, ◌||◌, ◌&&◌, Bool, true, false, cond, Option, None, Some, is_some, List, [], ◌∷◌, ◌++◌, length, find, refl, sym, ◌∙◌, ap}
use Rattle.std.proofs.lemmas.Bool.{eq-eqb}
use Rattle.batch_ids.specs.Statuses.{is_unfinished}
use Rattle.batch_ids.specs.declared.status.BatchStatus.{BatchStatus}
use Rattle.batch_ids.specs.declared.status.BatchStatus.TheVariants.{Abandoned}
use Rattle.jsl_model.specs.Jobs.{JobTree}
use Rattle.batch_history.specs.declared.call.Call.{Call}
use Rattle.batch_history.specs.declared.call.Call.TheVariants.{Start, Restart, Stop, Abandon, Claim, Checkpoint, Finish, Lose, Purge}
use Rattle.batch_history.specs.declared.call.Reply.{Reply}
use Rattle.batch_history.specs.declared.call.Entry.{Entry}
use Rattle.batch_history.specs.declared.rows.ExecutionRow.{ExecutionRow}
use Rattle.batch_history.proofs.Folds.{made, makes, is_made, abandoned_of, end_of, bare_of, folded_rows, execution_row}
use Rattle.batch_history.specs.Executions.{Made}
use Rattle.batch_history.specs.Lists.{is_at}
use Rattle.batch_history.specs.Moments.{first_moment}
use Rattle.batch_history.specs.Operations.{abandonment}
use Rattle.batch_history.specs.Replies.{row_status, is_running_in, is_execution}
use Rattle.batch_history.specs.Rows.{Rows}
use Rattle.batch_history.specs.Statuses.{is_finished}
use Rattle.batch_history.proofs.Stepping.{settled, ended-by, named-by}
use Rattle.batch_history.proofs.Finding.{any-none}
use Rattle.batch_history.proofs.Told.{Due, AllDue, row-made, made-before, ToldAbandonment, abandonment-told}
use Rattle.batch_history.proofs.Finished.{finished-step, on-it}

-- ---- Abandonment

pub not-running : (abandoned : Bool) (bare : BatchStatus) → (abandoned ≡ true → is_finished bare ≡ true) → is_unfinished (cond abandoned Abandoned bare) ≡ false → is_finished bare ≡ true
not-running true bare before h = before refl
not-running false bare before h = rw h refl

-- an abandonment finds the job execution over
abandonment-over : (catalogue : List JobTree) (past : List Entry) (m : Made) (y : ℕ) → ToldAbandonment (folded_rows catalogue past) y
    → find (is_made m.execution) (made past) ≡ Some m → (y == m.execution) ≡ true
    → (abandoned_of past m.execution ≡ true → is_finished (bare_of catalogue past m) ≡ true) → is_finished (bare_of catalogue past m) ≡ true
abandonment-over catalogue past m y told found on before =
    let r : Rows = folded_rows catalogue past in
    let is : told.row ≡ execution_row catalogue past m = row-made catalogue past m y told.row told.found found on in
    let none : is_running_in told.row.instance told.row ≡ false = any-none (is_running_in told.row.instance) (is_execution y) r.executions told.row told.none told.found in
    let self : (told.row.instance == told.row.instance) ≡ true = eq-eqb told.row.instance told.row.instance refl in
    let rest : is_unfinished (row_status told.row) ≡ false = sym (ap (λ b. b && is_unfinished (row_status told.row)) self) ∙ none in
    not-running (abandoned_of past m.execution) (bare_of catalogue past m) before (sym (ap (λ (row : ExecutionRow). is_unfinished (row_status row)) is) ∙ rest)

given-call : (limit : ℕ) (catalogue : List JobTree) (older : List Entry) (who at : ℕ) (call : Call) (reply : Reply) (m : Made)
    → Due limit catalogue older record { who = who; call = call; at = at; reply = reply } → find (is_made m.execution) (made older) ≡ Some m
    → is_at m.execution (abandonment call) ≡ true → (abandoned_of older m.execution ≡ true → is_finished (bare_of catalogue older m) ≡ true)
    → is_finished (bare_of catalogue older m) ≡ true
given-call limit catalogue older who at (Abandon y) reply m due found on before =
    abandonment-over catalogue older m y (abandonment-told limit (folded_rows catalogue older) y reply due.0) found on before
given-call limit catalogue older who at (Start job parameters) reply m due found on before = cc
given-call limit catalogue older who at (Restart y parameters) reply m due found on before = cc
given-call limit catalogue older who at (Stop y) reply m due found on before = cc
given-call limit catalogue older who at Claim reply m due found on before = cc
given-call limit catalogue older who at (Checkpoint w mark step) reply m due found on before = cc
given-call limit catalogue older who at (Finish w o t step) reply m due found on before = cc
given-call limit catalogue older who at (Lose w) reply m due found on before = cc
given-call limit catalogue older who at (Purge i) reply m due found on before = cc

-- an abandoned job execution is over, abandonment aside
pub abandoned-finished : (limit : ℕ) (catalogue : List JobTree) (past : List Entry) (m : Made) → AllDue limit catalogue past
    → find (is_made m.execution) (made past) ≡ Some m → abandoned_of past m.execution ≡ true → is_finished (bare_of catalogue past m) ≡ true
abandoned-finished limit catalogue [] m due found given = cc
abandoned-finished limit catalogue (e ∷ older) m due found given =
    let x : ℕ = m.execution in
    on-it (makes (length (made older)) x e.call)
    (λ made_yes. absurd (let no : abandoned_of (e ∷ older) x ≡ false = rw made_yes refl in let bad : true ≡ false = sym given ∙ no in cc))
    (λ made_no.
    let earlier = made-before older e x m made_no found in
    let before : abandoned_of older x ≡ true → is_finished (bare_of catalogue older m) ≡ true = abandoned-finished limit catalogue older m due.1 earlier in
    let one_of : (abandoned_of older x || is_at x (abandonment e.call)) ≡ true = sym (named-by abandonment older e x made_no) ∙ given in
    let over : is_finished (bare_of catalogue older m) ≡ true =
    on-it (abandoned_of older x) before
    (λ off. given-call limit catalogue older e.who e.at e.call e.reply m due.0 earlier (sym (ap (λ b. b || is_at x (abandonment e.call)) off) ∙ one_of) before) in
    ap (λ (row : ExecutionRow). is_finished row.bare) (finished-step limit catalogue older e m due earlier over) ∙ over)

-- ---- The end

-- where a past is cut at the operation that brought the end
pub record EndedPast (catalogue : List JobTree) (past : List Entry) (m : Made) (t : ℕ) : Type 0 where
  pub later : List Entry
  pub entry : Entry
  pub older : List Entry
  pub cut : past ≡ later ++ entry ∷ older
  pub moment : entry.at ≡ t
  pub found : find (is_made m.execution) (made (entry ∷ older)) ≡ Some m
  pub over : is_finished (bare_of catalogue (entry ∷ older) m) ≡ true
  pub open_before : is_finished (bare_of catalogue older m) ≡ false

still-open : (b : Bool) (o : Option ℕ) (at : ℕ) → o ≡ None → first_moment o b at ≡ o → b ≡ false
still-open true None at none h = cc
still-open true (Some t) at none h = cc
still-open false o at none h = refl

pub ended-past : (catalogue : List JobTree) (past : List Entry) (m : Made) (t : ℕ) → find (is_made m.execution) (made past) ≡ Some m
    → end_of catalogue past m ≡ Some t → EndedPast catalogue past m t
ended-past catalogue [] m t found ended = cc
ended-past catalogue (e ∷ older) m t found ended =
    let x : ℕ = m.execution in
    on-it (makes (length (made older)) x e.call)
    (λ made_yes. absurd (let no : end_of catalogue (e ∷ older) m ≡ None = rw made_yes refl in let bad : Some t ≡ None = sym ended ∙ no in cc))
    (λ made_no.
    let earlier = made-before older e x m made_no found in
    let by : first_moment (end_of catalogue older m) (is_finished (bare_of catalogue (e ∷ older) m)) e.at ≡ Some t = sym (ended-by catalogue older e m made_no) ∙ ended in
    (elim (end_of catalogue older m) as (λ o. end_of catalogue older m ≡ o → first_moment o (is_finished (bare_of catalogue (e ∷ older) m)) e.at ≡ Some t → EndedPast catalogue (e ∷ older) m t) [
      | Some u ↦ λ was now.
          let rest = ended-past catalogue older m t earlier (was ∙ now) in
          record {
            later = e ∷ rest.later;
            entry = rest.entry;
            older = rest.older;
            cut = ap (λ l. e ∷ l) rest.cut;
            moment = rest.moment;
            found = rest.found;
            over = rest.over;
            open_before = rest.open_before;
          }
      | None ↦ λ was now.
          on-it (is_finished (bare_of catalogue (e ∷ older) m))
          (λ over.
          let at : Some e.at ≡ Some t = sym (ap (λ b. first_moment None b e.at) over) ∙ now in
          record {
            later = [];
            entry = e;
            older = older;
            cut = refl;
            moment = cc;
            found = found;
            over = over;
            open_before = still-open (is_finished (bare_of catalogue older m)) (end_of catalogue older m) e.at was (settled catalogue older m e.at);
          })
          (λ open_still. absurd (let none : None ≡ Some t = sym (ap (λ b. first_moment None b e.at) open_still) ∙ now in cc))
    ]) refl by)

has-end : (b : Bool) (o : Option ℕ) (at : ℕ) → b ≡ true → first_moment o b at ≡ o → is_some o ≡ true
has-end true (Some t) at over h = refl
has-end true None at over h = cc
has-end false o at over h = cc

-- what is over has an end
pub over-ended : (catalogue : List JobTree) (past : List Entry) (m : Made) → is_finished (bare_of catalogue past m) ≡ true → is_some (end_of catalogue past m) ≡ true
over-ended catalogue past m over = has-end (is_finished (bare_of catalogue past m)) (end_of catalogue past m) 0 over (settled catalogue past m 0)

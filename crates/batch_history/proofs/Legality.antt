-- The law of the fold: in every legal history the rows of all that was made are those of the fold, and its rows are those of
-- them that exist, so that one operation more changes what the searches find as it changes the rows.
use Rattle.std.proofs.Common.{◌≡◌, ℕ, ◌<◌, Bool, false, Option, None, Some, Ok, List, [], ◌∷◌, ◌++◌, find, reverse, refl, subst, sym, ◌∙◌, ap}
use Rattle.std.specs.Option.{option_map}
use Rattle.std.proofs.lemmas.List.{reverse-append, reverse-reverse}
use Rattle.batch_history.proofs.Agreeing.{execution-law, rows-law}
use Rattle.batch_history.proofs.Bridge.{accepted-by-all}
use Rattle.batch_history.proofs.Folds.{made, folded_rows, execution_row}
use Rattle.batch_history.proofs.Growing.{existing-step}
use Rattle.batch_history.proofs.Legal.{cut-before}
use Rattle.batch_history.proofs.Pasts.{whole-past}
use Rattle.batch_history.proofs.Purged.{all-whole}
use Rattle.batch_history.proofs.Stepping.{numbered, rows-step}
use Rattle.batch_history.specs.NextRows.{rows_after, rows_with}
use Rattle.batch_history.proofs.Told.{AllDue, AllDueThere, DueThere, found-least}
use Rattle.batch_history.specs.Legal.{grown, IsLegal}
use Rattle.batch_history.specs.Purges.{is_purged}
use Rattle.batch_history.specs.Replies.{instance_in, is_execution, reply_by}
use Rattle.batch_history.specs.Rows.{History, Rows, rows, all_rows, existing, rows_of_past, row_of_origin, job_execution}
use Rattle.batch_history.specs.declared.call.Entry.{Entry}
use Rattle.batch_history.specs.declared.rows.ExecutionRow.{ExecutionRow}
use Rattle.batch_history.specs.Executions.{Origin, origin_of, instance_of_execution}
use Rattle.jsl_model.specs.Jobs.{JobTree}

-- the replies of a past were due, by all that was made and by what existed
pub record IsDuePast (limit : ℕ) (catalogue : List JobTree) (past : List Entry) : Type 0 where
  pub all : AllDue limit catalogue past
  pub there : AllDueThere limit catalogue past

-- the replies of a legal history were due, each by the rows of what is older
legal-due : (limit : ℕ) (h : History) (past rest : List Entry) → IsLegal limit h → h.log ≡ reverse past ++ rest → IsDuePast limit h.catalogue past
legal-due limit h [] rest legal is = record { all = tt; there = tt }
legal-due limit h (e ∷ older) rest legal is =
    let cut : h.log ≡ reverse older ++ e ∷ rest = cut-before h.log older rest e is in
    let before : IsDuePast limit h.catalogue older = legal-due limit h older (e ∷ rest) legal cut in
    let due = legal.due (reverse older) e rest cut in
    let found : reply_by limit (rows_of_past h.catalogue older) e.who e.call ≡ Ok e.reply =
    subst (λ (p : List Entry). reply_by limit (rows_of_past h.catalogue p) e.who e.call ≡ Ok e.reply) (reverse-reverse older) due.0 in
    let here : DueThere limit h.catalogue older e =
    ap (λ (r : Rows). reply_by limit (existing (is_purged older) r) e.who e.call) (sym (rows-law limit h.catalogue older before.all)) ∙ found in
    record {
      all = ((accepted-by-all (is_purged older) (folded_rows h.catalogue older) limit e.who e.call e.reply (all-whole limit h.catalogue older before.all before.there) here, due.1), before.all);
      there = (here, before.there);
    }

past-both : (limit : ℕ) (h : History) → IsLegal limit h → IsDuePast limit h.catalogue (reverse h.log)
past-both limit h legal = legal-due limit h (reverse h.log) [] legal (whole-past h.log)

-- the past of a legal history
pub past-due : (limit : ℕ) (h : History) → IsLegal limit h → AllDue limit h.catalogue (reverse h.log)
past-due limit h legal = (past-both limit h legal).all

-- the same by what existed
pub past-due-there : (limit : ℕ) (h : History) → IsLegal limit h → AllDueThere limit h.catalogue (reverse h.log)
past-due-there limit h legal = (past-both limit h legal).there

-- the rows of all that a legal history has made are those of the fold
pub all_rows_folded : (limit : ℕ) (h : History) → IsLegal limit h → all_rows h.catalogue (reverse h.log) ≡ folded_rows h.catalogue (reverse h.log)
all_rows_folded limit h legal = rows-law limit h.catalogue (reverse h.log) (past-due limit h legal)

-- its rows are those of them that exist
pub rows_folded : (limit : ℕ) (h : History) → IsLegal limit h → rows h ≡ existing (is_purged (reverse h.log)) (folded_rows h.catalogue (reverse h.log))
rows_folded limit h legal = ap (existing (is_purged (reverse h.log))) (all_rows_folded limit h legal)

-- what the rows of all that was made have under the number of a job execution is what the searches in the log find
pub execution_found : (limit : ℕ) (h : History) → IsLegal limit h → (x : ℕ)
    → find (is_execution x) (all_rows h.catalogue (reverse h.log)).executions ≡ job_execution h.catalogue (reverse h.log) x
execution_found limit h legal x =
    ap (λ (r : Rows). find (is_execution x) r.executions) (all_rows_folded limit h legal)
    ∙ sym (execution-law limit h.catalogue (reverse h.log) x (past-due limit h legal))

instance-as : (catalogue : List JobTree) (past : List Entry) (x : ℕ) (o : Option Origin)
    → option_map (λ (row : ExecutionRow). row.instance) (option_map (row_of_origin catalogue past x) o) ≡ option_map (λ (o : Origin). o.instance) o
instance-as catalogue past x None = refl
instance-as catalogue past x (Some o) = refl

-- so is its job instance
pub instance_found : (limit : ℕ) (h : History) → IsLegal limit h → (x : ℕ)
    → instance_in (all_rows h.catalogue (reverse h.log)).executions x ≡ instance_of_execution (reverse h.log) x
instance_found limit h legal x =
    ap (option_map (λ (row : ExecutionRow). row.instance)) (execution_found limit h legal x)
    ∙ instance-as h.catalogue (reverse h.log) x (origin_of (reverse h.log) x)

-- the job execution whose row passes a test first has the least number of those that pass it
pub least_found : (limit : ℕ) (h : History) → IsLegal limit h → (p : ExecutionRow → Bool) (row : ExecutionRow)
    → find p (all_rows h.catalogue (reverse h.log)).executions ≡ Some row
    → (x : ℕ) (other : ExecutionRow) → job_execution h.catalogue (reverse h.log) x ≡ Some other → x < row.execution → p other ≡ false
least_found limit h legal p row first x other there lt =
    let past : List Entry = reverse h.log in
    found-least (execution_row h.catalogue past) p x 1 (made past) row other (numbered past) (λ m. refl)
    (sym (ap (λ (r : Rows). find p r.executions) (all_rows_folded limit h legal)) ∙ first)
    (sym (execution-law limit h.catalogue past x (past-due limit h legal)) ∙ there) lt

-- the rows of all that a legal history has made, with one operation more
pub all_rows_grown : (limit : ℕ) (h : History) (e : Entry) → IsLegal limit (grown h e)
    → all_rows h.catalogue (reverse (h.log ++ e ∷ [])) ≡ rows_with (all_rows h.catalogue (reverse h.log)) e
all_rows_grown limit h e legal =
    let past : List Entry = reverse h.log in
    let whole : reverse (h.log ++ e ∷ []) ≡ e ∷ past = reverse-append h.log (e ∷ []) in
    let due : AllDue limit h.catalogue (e ∷ past) = subst (AllDue limit h.catalogue) whole (past-due limit (grown h e) legal) in
    ap (all_rows h.catalogue) whole
    ∙ (rows-law limit h.catalogue (e ∷ past) due
    ∙ (rows-step h.catalogue past e
    ∙ ap (λ (r : Rows). rows_with r e) (sym (rows-law limit h.catalogue past due.1))))

-- the rows of a legal history with one operation more
pub rows_grown : (limit : ℕ) (h : History) (e : Entry) → IsLegal limit (grown h e) → rows (grown h e) ≡ rows_after (rows h) e
rows_grown limit h e legal =
    let past : List Entry = reverse h.log in
    let whole : reverse (h.log ++ e ∷ []) ≡ e ∷ past = reverse-append h.log (e ∷ []) in
    let due : AllDue limit h.catalogue (e ∷ past) = subst (AllDue limit h.catalogue) whole (past-due limit (grown h e) legal) in
    let there : AllDueThere limit h.catalogue (e ∷ past) = subst (AllDueThere limit h.catalogue) whole (past-due-there limit (grown h e) legal) in
    ap (rows_of_past h.catalogue) whole
    ∙ (ap (existing (is_purged (e ∷ past))) (rows-law limit h.catalogue (e ∷ past) due ∙ rows-step h.catalogue past e)
    ∙ (existing-step limit h.catalogue past e due there
    ∙ ap (λ (r : Rows). rows_after (existing (is_purged past) r) e) (sym (rows-law limit h.catalogue past due.1))))

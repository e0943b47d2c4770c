-- The rows after a call, and after a line, of a repository that represents a history.
use Rattle.std.proofs.Common.{◌≡◌, ◌∙◌, ℕ, Bool, true, false, Result, Ok, Err, List, [], ◌∷◌, cond, length, reverse, refl, sym, ap, subst}
use Rattle.std.proofs.lemmas.List.{length-reverse}
use Rattle.std.specs.Prelude.{IfOk, OnErr, ◌==◌}
use Rattle.batch_ids.specs.declared.refusal.Refusal.{Refusal}
use Rattle.jsl_model.specs.Jobs.{JobTree}
use Rattle.batch_history.specs.Legal.{IsLegal, after_call, grown, history_after, most_operations}
use Rattle.batch_history.specs.Replies.{is_nothing, reply, reply_by}
use Rattle.batch_history.specs.Rows.{History, Rows, rows}
use Rattle.batch_history.specs.NextRows.{rows_after}
use Rattle.batch_history.specs.declared.call.Call.{Call}
use Rattle.batch_history.specs.declared.call.Entry.{Entry}
use Rattle.batch_history.specs.declared.call.Reply.{Reply}
use Rattle.batch_history.proofs.Legal.{legal_grown, legal-nothing}
use Rattle.batch_history.proofs.Legality.{rows_grown}
use Rattle.row_repository.specs.Calls.{rows_after_call, rows_after_reply}
use Rattle.script_text.specs.declared.command.Command.{Command}
use Rattle.script_text.specs.declared.command.Command.TheVariants.{BadLine, TextTooLong, Act, Ask}
use Rattle.script_engine.specs.ByRows.{command_at, line_kind_by, line_rows_by, line_text_by, rows_by, rows_past}
use Rattle.script_engine.specs.Script.{begin, history_by, line_after, line_history, line_text, lines_history}
use Rattle.script_engine.specs.Standing.{Stands}
use Rattle.script_engine.specs.Summaries.{line_kind}

-- ---- Calls

-- the rows after a call are those after the reply that is due
pub applied : {A : Type 0} (rows_in : A → Rows) (limit : ℕ) (kept new : A) (who : ℕ) (call : Call) (at : ℕ) (result : Result Reply Refusal)
    → result ≡ reply_by limit (rows_in kept) who call → IfOk result (λ given. rows_in new ≡ rows_after_reply (rows_in kept) who call at given) → OnErr result (new ≡ kept)
    → rows_in new ≡ rows_after_call (rows_in kept) who call at (reply_by limit (rows_in kept) who call)
applied rows_in limit kept new who call at (Ok given) is after same =
    after ∙ ap (rows_after_call (rows_in kept) who call at) is
applied rows_in limit kept new who call at (Err refusal) is after same =
    ap rows_in same ∙ ap (rows_after_call (rows_in kept) who call at) is

abbrev entry_of : ℕ → Call → ℕ → Reply → Entry
entry_of who call at given = record { who = who; call = call; at = at; reply = given }

-- a legal history with these rows
pub record Has (limit : ℕ) (r : Rows) (h : History) : Type 0 where
  pub rows_are : r ≡ rows h
  pub legal : IsLegal limit h

reply-after : (limit : ℕ) (h : History) (who : ℕ) (call : Call) (at : ℕ) (given : Reply) (nothing : Bool) → is_nothing given ≡ nothing → IsLegal limit h → reply limit h who call ≡ Ok given
    → Has limit (cond nothing (rows h) (rows_after (rows h) (entry_of who call at given))) (cond nothing h (grown h (entry_of who call at given)))
reply-after limit h who call at given true is legal due = record { rows_are = refl; legal = legal }
reply-after limit h who call at given false is legal due =
    let next : IsLegal limit (grown h (entry_of who call at given)) = legal_grown limit h (entry_of who call at given) legal due is in
    record { rows_are = sym (rows_grown limit h (entry_of who call at given) next); legal = next }

call-after : (limit : ℕ) (h : History) (who : ℕ) (call : Call) (at : ℕ) (result : Result Reply Refusal) → IsLegal limit h → reply limit h who call ≡ result
    → Has limit (rows_after_call (rows h) who call at result) (history_after h who call at result)
call-after limit h who call at (Ok given) legal due = reply-after limit h who call at given (is_nothing given) refl legal due
call-after limit h who call at (Err refusal) legal due = record { rows_are = refl; legal = legal }

-- ---- Lines

command-after : (limit : ℕ) (h : History) (command : Command) → IsLegal limit h → Has limit (rows_by limit (rows h) command) (history_by limit h command)
command-after limit h BadLine legal = record { rows_are = refl; legal = legal }
command-after limit h TextTooLong legal = record { rows_are = refl; legal = legal }
command-after limit h (Act by at call) legal = call-after limit h by call at (reply limit h by call) legal refl
command-after limit h (Ask query) legal = record { rows_are = refl; legal = legal }

after-by : (limit : ℕ) (h : History) (command : Command) (empty : Bool) → IsLegal limit h
    → Has limit (cond empty (rows h) (rows_by limit (rows h) command)) (cond empty h (history_by limit h command))
after-by limit h command true legal = record { rows_are = refl; legal = legal }
after-by limit h command false legal = command-after limit h command legal

-- A LINE LEAVES a legal history legal, with the rows that follow from its own
pub line-after : (limit : ℕ) (h : History) (line : List ℕ) → IsLegal limit h → Has limit (line_rows_by limit (rows h) line) (line_history limit h line)
unfolding line_rows_by line_history
line-after limit h line legal = after-by limit h (command_at line) (length line == 0) legal

-- so do lines
pub lines-after : (limit : ℕ) (h : History) (lines : List (List ℕ)) → IsLegal limit h → Has limit (rows_past limit (rows h) lines) (lines_history limit h lines)
lines-after limit h [] legal = record { rows_are = refl; legal = legal }
lines-after limit h (line ∷ lines) legal =
    let next = line-after limit h line legal in
    subst (λ (r : Rows). Has limit (rows_past limit r lines) (lines_history limit (line_history limit h line) lines)) (sym next.rows_are) (lines-after limit (line_history limit h line) lines next.legal)

-- a repository that represents a history represents the one after a line, after the line
pub stands_after : (limit : ℕ) (r new : Rows) (h : History) (line : List ℕ) → Stands limit r h → new ≡ line_rows_by limit r line → Stands limit new (line_after h line)
stands_after limit r new h line s is =
    let next = line-after most_operations h line s.legal in
    record {
      limit_is = s.limit_is;
      rows_are = is ∙ (ap (λ (l : ℕ). line_rows_by l r line) s.limit_is ∙ (ap (λ (o : Rows). line_rows_by most_operations o line) s.rows_are ∙ next.rows_are));
      legal = next.legal;
    }

-- its replies are those after the history
pub text_at : (limit : ℕ) (r : Rows) (h : History) (line : List ℕ) → Stands limit r h → line_text_by limit r line ≡ line_text h line
text_at limit r h line s = ap (λ (l : ℕ). line_text_by l r line) s.limit_is ∙ ap (λ (o : Rows). line_text_by most_operations o line) s.rows_are

pub kind_at : (limit : ℕ) (r : Rows) (h : History) (line : List ℕ) → Stands limit r h → line_kind_by limit r line ≡ line_kind h line
kind_at limit r h line s = ap (λ (l : ℕ). line_kind_by l r line) s.limit_is ∙ ap (λ (o : Rows). line_kind_by most_operations o line) s.rows_are

-- its number of operations is that of the history
pub count_at : (limit : ℕ) (r : Rows) (h : History) → Stands limit r h → r.count ≡ length h.log
count_at limit r h s = ap (λ (o : Rows). o.count) s.rows_are ∙ length-reverse h.log

-- before the first operation
pub begun : (limit : ℕ) (r : Rows) (catalogue : List JobTree) → limit ≡ most_operations → r ≡ rows (begin catalogue) → Stands limit r (begin catalogue)
begun limit r catalogue is are = record { limit_is = is; rows_are = are; legal = legal-nothing most_operations catalogue }

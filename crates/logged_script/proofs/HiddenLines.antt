-- The lines of a script over a catalogue with jobs that no line can name.
use Rattle.std.proofs.Common.{◌≡◌, ◌∙◌, ◌≤◌, ◌<◌, ◌==◌, ℕ, Bool, true, false, cond, Option, Some, None, option_map, unwrap_or, Result, Ok, Err, List, [], ◌∷◌, length, refl, sym, ap, subst, arith}
use Rattle.std.specs.Prelude.{nat_le, nat_lt}
use Rattle.std.proofs.lemmas.Bool.{leb-true}
use Rattle.jsl_model.specs.Jobs.{JobTree}
use Rattle.json_members.specs.Chains.{◌>>=◌}
use Rattle.json_members.specs.Members.{data_of}
use Rattle.serde_json.specs.Data.{Data}
use Rattle.batch_ids.specs.Parameters.{Pair}
use Rattle.batch_ids.specs.declared.refusal.Refusal.{Refusal}
use Rattle.batch_history.specs.Answers.{answer_by}
use Rattle.batch_history.specs.Legal.{IsLegal}
use Rattle.batch_history.specs.NextRows.{rows_after}
use Rattle.batch_history.specs.Replies.{is_nothing, reply_by}
use Rattle.batch_history.specs.Rows.{History, Rows, rows}
use Rattle.batch_history.specs.declared.call.Call.{Call}
use Rattle.batch_history.specs.declared.call.Call.TheVariants.{Start, Restart, Stop, Abandon, Claim, Checkpoint, Finish, Lose, Purge}
use Rattle.batch_history.specs.declared.call.Entry.{Entry}
use Rattle.batch_history.specs.declared.call.Reply.{Reply}
use Rattle.batch_history.specs.declared.query.Query.{Query}
use Rattle.row_repository.specs.Calls.{rows_after_call, rows_after_reply}
use Rattle.script_lines.specs.declared.line.TheConstants.{MAX_LINE}
use Rattle.script_text.specs.Answers.{answer_text}
use Rattle.script_text.specs.Bounds.{call_within, exit_within, query_within, text_within}
use Rattle.script_text.specs.Commands.{command_of, command_of_data, raw_command_of, within_bounds}
use Rattle.script_text.specs.Parameters.{parameters_within}
use Rattle.script_text.specs.Replies.{reply_text}
use Rattle.script_text.specs.declared.command.Command.{Command}
use Rattle.script_text.specs.declared.command.Command.TheVariants.{BadLine, TextTooLong, Act, Ask}
use Rattle.script_engine.specs.ByRows.{command_at, line_rows_by, line_text_by, rows_by, rows_past, text_by}
use Rattle.script_engine.specs.Script.{line_history, lines_history}
use Rattle.script_engine.proofs.Applying.{Has, line-after}
use Rattle.catalogue_laws.specs.Leaving.{AreNamed, CanBeMade, StandsOver, hidden_bytes, over_hidden}
use Rattle.catalogue_laws.proofs.OtherNames.{named-after}
use Rattle.catalogue_laws.proofs.OverHidden.{same_reply, same_answer, same_rows}

-- ---- The calls of lines

-- the texts of the call, if it is one
abbrev CanCommand : Command → Type 0
CanCommand BadLine = Unit {0}
CanCommand TextTooLong = Unit {0}
CanCommand (Act by at call) = CanBeMade call
CanCommand (Ask query) = Unit {0}

abbrev CanCall : Option Call → Type 0
CanCall None = Unit {0}
CanCall (Some call) = CanBeMade call

start-by : (name : List ℕ) (given : Option (List Pair)) → length name < hidden_bytes → CanCall (given >>= λ parameters. Some (Start name parameters))
start-by name None short = tt
start-by name (Some parameters) short = short

start-within : (job : List ℕ) (given : Option (List Pair)) (b : Bool) → nat_le (length job) 256 ≡ b
    → CanCall (cond b (Some job) None >>= λ name. given >>= λ parameters. Some (Start name parameters))
start-within job given true short = start-by job given (omega (arith, leb-true (length job) 256 short))
start-within job given false long = tt

can-within : (call : Call) → CanCall (call_within call)
can-within (Start job given) = start-within job (parameters_within given) (nat_le (length job) 256) refl
can-within (Restart x given) = elim (parameters_within given) as (λ o. CanCall (option_map (Restart x) o)) [
  | None ↦ tt
  | Some parameters ↦ tt
]
can-within (Stop x) = tt
can-within (Abandon x) = tt
can-within Claim = tt
can-within (Checkpoint w mark step) = elim (text_within 65536 mark) as (λ o. CanCall (o >>= λ short. Some (Checkpoint w short step))) [
  | None ↦ tt
  | Some short ↦ tt
]
can-within (Finish w outcome exit step) = elim (exit_within exit) as (λ o. CanCall (o >>= λ short. Some (Finish w outcome short step))) [
  | None ↦ tt
  | Some short ↦ tt
]
can-within (Lose w) = tt
can-within (Purge i) = tt

can-act : (by at : ℕ) (call : Option Call) → CanCall call → CanCommand (unwrap_or (option_map (Act by at) call) TextTooLong)
can-act by at None can = tt
can-act by at (Some call) can = can

can-ask : (query : Option Query) → CanCommand (unwrap_or (option_map Ask query) TextTooLong)
can-ask None = tt
can-ask (Some query) = tt

can-bounded : (command : Command) → CanCommand (within_bounds command)
can-bounded (Act by at call) = can-act by at (call_within call) (can-within call)
can-bounded (Ask query) = can-ask (query_within query)
can-bounded TextTooLong = tt
can-bounded BadLine = tt

can-raw : (raw : Option Command) → CanCommand (unwrap_or (option_map within_bounds raw) BadLine)
can-raw None = tt
can-raw (Some command) = can-bounded command

can-data : (d : Data) → CanCommand (command_of_data d)
unfolding command_of_data
can-data d = can-raw (raw_command_of d)

can-read : (d : Option Data) → CanCommand (unwrap_or (option_map command_of_data d) BadLine)
can-read None = tt
can-read (Some d) = can-data d

can-line : (line : List ℕ) → CanCommand (command_of line)
unfolding command_of
can-line line = can-read (data_of line)

can-at : (line : List ℕ) (b : Bool) → CanCommand (cond b BadLine (command_of line))
can-at line true = tt
can-at line false = can-line line

-- ---- Rows and replies

module _ (limit : ℕ) (hidden : List JobTree) where
  abbrev over : Rows → Rows
  over r = over_hidden hidden r

  after-reply : (r : Rows) (who at : ℕ) (call : Call) (given : Reply) (nothing : Bool) → AreNamed r → CanBeMade call → reply_by limit r who call ≡ Ok given
      → cond nothing (over r) (rows_after (over r) record { who = who; call = call; at = at; reply = given }) ≡ over (cond nothing r (rows_after r record { who = who; call = call; at = at; reply = given }))
  after-reply r who at call given true named can ok = refl
  after-reply r who at call given false named can ok = same_rows limit hidden r record { who = who; call = call; at = at; reply = given } named can ok

  after-call : (r : Rows) (who at : ℕ) (call : Call) (result : Result Reply Refusal) → AreNamed r → CanBeMade call → reply_by limit r who call ≡ result
      → rows_after_call (over r) who call at result ≡ over (rows_after_call r who call at result)
  after-call r who at call (Err refusal) named can is = refl
  after-call r who at call (Ok given) named can is = after-reply r who at call given (is_nothing given) named can is

  after-command : (r : Rows) (command : Command) → AreNamed r → CanCommand command → rows_by limit (over r) command ≡ over (rows_by limit r command)
  after-command r BadLine named can = refl
  after-command r TextTooLong named can = refl
  after-command r (Act by at call) named can =
      ap (rows_after_call (over r) by call at) (same_reply limit hidden r by call named can) ∙ after-call r by at call (reply_by limit r by call) named can refl
  after-command r (Ask query) named can = refl

  after-by : (r : Rows) (line : List ℕ) (empty : Bool) → AreNamed r → cond empty (over r) (rows_by limit (over r) (command_at line)) ≡ over (cond empty r (rows_by limit r (command_at line)))
  after-by r line true named = refl
  after-by r line false named = after-command r (command_at line) named (can-at line (nat_lt MAX_LINE (length line)))

  after-line : (r : Rows) (line : List ℕ) → AreNamed r → line_rows_by limit (over r) line ≡ over (line_rows_by limit r line)
  unfolding line_rows_by
  after-line r line named = after-by r line (length line == 0) named

  text-command : (r : Rows) (command : Command) → AreNamed r → CanCommand command → text_by limit (over r) command ≡ text_by limit r command
  text-command r BadLine named can = refl
  text-command r TextTooLong named can = refl
  text-command r (Act by at call) named can = ap reply_text (same_reply limit hidden r by call named can)
  text-command r (Ask query) named can = ap answer_text (same_answer hidden r query named)

  text-by : (r : Rows) (line : List ℕ) (empty : Bool) → AreNamed r → cond empty [] (text_by limit (over r) (command_at line)) ≡ cond empty [] (text_by limit r (command_at line))
  text-by r line true named = refl
  text-by r line false named = text-command r (command_at line) named (can-at line (nat_lt MAX_LINE (length line)))

pub text_over : (limit : ℕ) (hidden : List JobTree) (r : Rows) (line : List ℕ) → AreNamed r → line_text_by limit (over_hidden hidden r) line ≡ line_text_by limit r line
unfolding line_text_by
text_over limit hidden r line named = text-by limit hidden r line (length line == 0) named

-- ---- Each job execution stays one of a job of the catalogue

module _ (limit : ℕ) where
  named-reply : (r : Rows) (who at : ℕ) (call : Call) (given : Reply) (nothing : Bool) → AreNamed r → reply_by limit r who call ≡ Ok given
      → AreNamed (cond nothing r (rows_after r record { who = who; call = call; at = at; reply = given }))
  named-reply r who at call given true named ok = named
  named-reply r who at call given false named ok = named-after limit r record { who = who; call = call; at = at; reply = given } named ok

  named-call : (r : Rows) (who at : ℕ) (call : Call) (result : Result Reply Refusal) → AreNamed r → reply_by limit r who call ≡ result → AreNamed (rows_after_call r who call at result)
  named-call r who at call (Err refusal) named is = named
  named-call r who at call (Ok given) named is = named-reply r who at call given (is_nothing given) named is

  named-command : (r : Rows) (command : Command) → AreNamed r → AreNamed (rows_by limit r command)
  named-command r BadLine named = named
  named-command r TextTooLong named = named
  named-command r (Act by at call) named = named-call r by at call (reply_by limit r by call) named refl
  named-command r (Ask query) named = named

  named-by : (r : Rows) (line : List ℕ) (empty : Bool) → AreNamed r → AreNamed (cond empty r (rows_by limit r (command_at line)))
  named-by r line true named = named
  named-by r line false named = named-command r (command_at line) named

  pub named-line : (r : Rows) (line : List ℕ) → AreNamed r → AreNamed (line_rows_by limit r line)
  unfolding line_rows_by
  named-line r line named = named-by r line (length line == 0) named

-- ---- Lines

pub line_over : (limit : ℕ) (hidden : List JobTree) (r : Rows) (g : History) (line : List ℕ) → StandsOver limit hidden r g → StandsOver limit hidden (line_rows_by limit r line) (line_history limit g line)
line_over limit hidden r g line s =
    let next : Has limit (line_rows_by limit (rows g) line) (line_history limit g line) = line-after limit g line s.legal in
    record {
      legal = next.legal;
      rows_are = sym next.rows_are ∙ (ap (λ (o : Rows). line_rows_by limit o line) s.rows_are ∙ after-line limit hidden r line s.named);
      named = named-line limit r line s.named;
    }

pub lines_over : (limit : ℕ) (hidden : List JobTree) (r : Rows) (g : History) (lines : List (List ℕ)) → StandsOver limit hidden r g
    → StandsOver limit hidden (rows_past limit r lines) (lines_history limit g lines)
lines_over limit hidden r g [] s = s
lines_over limit hidden r g (line ∷ lines) s = lines_over limit hidden (line_rows_by limit r line) (line_history limit g line) lines (line_over limit hidden r g line s)

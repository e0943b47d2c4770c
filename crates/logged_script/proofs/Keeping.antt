-- Which lines are kept, and the rows behind them.
use Rattle.std.proofs.Common.{◌≡◌, ◌∙◌, ℕ, Bool, true, false, cond, Option, None, Some, List, [], ◌∷◌, ◌++◌, length, Result, Ok, Err, refl, sym, ap, ap₂, arith, eqb-true, lt-ltb, ltb-false, ltb-true}
use Rattle.std.proofs.lemmas.List.{map-append}
use Rattle.std.specs.Prelude.{nat_lt, ◌==◌, ◌<◌, ◌+◌}
use Rattle.batch_ids.specs.declared.refusal.Refusal.{Refusal}
use Rattle.batch_history.specs.Legal.{most_numbered}
use Rattle.batch_history.specs.NextRows.{rows_after, rows_with, without}
use Rattle.batch_history.specs.Operations.{purged_by}
use Rattle.batch_history.specs.Replies.{is_nothing, reply_by}
use Rattle.batch_history.specs.Rows.{Rows}
use Rattle.batch_history.specs.declared.call.Call.{Call}
use Rattle.batch_history.specs.declared.call.Entry.{Entry}
use Rattle.batch_history.specs.declared.call.Reply.{Reply}
use Rattle.row_repository.specs.Calls.{rows_after_call}
use Rattle.script_lines.specs.declared.line.TheConstants.{MAX_LINE}
use Rattle.jsl_json.specs.declared.fault.ReadFault.{ReadFault}
use Rattle.jsl_model.specs.Jobs.{JobTree}
use Rattle.script_text.specs.Replies.{bad_line_text}
use Rattle.script_text.specs.declared.command.Command.{Command}
use Rattle.script_text.specs.declared.command.Command.TheVariants.{BadLine, TextTooLong, Act, Ask}
use Rattle.script_engine.specs.ByRows.{command_at, line_rows_by, line_text_by, rows_by, rows_past}
use Rattle.log_base.specs.Bases.{rows_of_base}
use Rattle.script_engine.specs.Script.{catalogue_at}
use Rattle.script_log.specs.Runs.{History as LogHistory, after}
use Rattle.logged_script.specs.Histories.{is_kept, jobs_read, reply_at, rows_at, rows_begun}
use Rattle.logged_script.specs.Tags.{command_in, command_of, commands_in}

-- one line more behind lines
past-push : (limit : ℕ) (r : Rows) (lines : List (List ℕ)) (line : List ℕ) → rows_past limit r (lines ++ line ∷ []) ≡ line_rows_by limit (rows_past limit r lines) line
past-push limit r [] line = refl
past-push limit r (first ∷ lines) line = past-push limit (line_rows_by limit r first) lines line

-- whether there are more operations
abbrev longer : Rows → Rows → Bool
longer r next = nat_lt r.count next.count

-- a purge takes no operation away
count-without : (purged : Option ℕ) (r : Rows) → (without purged r).count ≡ r.count
count-without None r = refl
count-without (Some i) r = refl

never_longer : (r : Rows) (e : Entry) → longer r (rows_after r e) ≡ false → ⊥
never_longer r e is =
    let more : (rows_after r e).count ≡ r.count + 1 = count-without (purged_by e.call) (rows_with r e) in
    let least = ltb-false r.count (rows_after r e).count is in
    absurd (omega (arith, more, least))

call_unchanged : (r : Rows) (who : ℕ) (call : Call) (at : ℕ) (given : Reply) (nothing : Bool)
    → longer r (cond nothing r (rows_after r record { who = who; call = call; at = at; reply = given })) ≡ false
    → cond nothing r (rows_after r record { who = who; call = call; at = at; reply = given }) ≡ r
call_unchanged r who call at given true is = refl
call_unchanged r who call at given false is = absurd (never_longer r _ is)

reply_unchanged : (r : Rows) (who : ℕ) (call : Call) (at : ℕ) (result : Result Reply Refusal) → longer r (rows_after_call r who call at result) ≡ false → rows_after_call r who call at result ≡ r
reply_unchanged r who call at (Ok given) is = call_unchanged r who call at given (is_nothing given) is
reply_unchanged r who call at (Err refusal) is = refl

command_unchanged : (limit : ℕ) (r : Rows) (command : Command) → longer r (rows_by limit r command) ≡ false → rows_by limit r command ≡ r
command_unchanged limit r BadLine is = refl
command_unchanged limit r TextTooLong is = refl
command_unchanged limit r (Act by at call) is = reply_unchanged r by call at (reply_by limit r by call) is
command_unchanged limit r (Ask query) is = refl

unchanged_by : (limit : ℕ) (r : Rows) (line : List ℕ) (empty : Bool) → longer r (cond empty r (rows_by limit r (command_at line))) ≡ false → cond empty r (rows_by limit r (command_at line)) ≡ r
unchanged_by limit r line true is = refl
unchanged_by limit r line false is = command_unchanged limit r (command_at line) is

-- a line that is no operation changes nothing
pub unchanged : (limit : ℕ) (r : Rows) (line : List ℕ) → longer r (line_rows_by limit r line) ≡ false → line_rows_by limit r line ≡ r
unfolding line_rows_by
unchanged limit r line is = unchanged_by limit r line (length line == 0) is

-- the commands of one line more
commands-push : (tags : Bool) (lines : List (List ℕ)) (line : List ℕ) → commands_in tags (lines ++ line ∷ []) ≡ commands_in tags lines ++ command_in tags line ∷ []
commands-push true lines line = map-append command_of lines (line ∷ [])
commands-push false lines line = refl

after_by : (tags : Bool) (h : LogHistory) (line : List ℕ) (kept : Bool) → is_kept tags h line ≡ kept
    → rows_at tags (cond kept record h { lines = h.lines ++ line ∷ [] } h) ≡ line_rows_by most_numbered (rows_at tags h) (command_in tags line)
after_by tags h line true is =
    let first : Rows = rows_begun h in
    ap (rows_past most_numbered first) (commands-push tags h.lines line) ∙ past-push most_numbered first (commands_in tags h.lines) (command_in tags line)
after_by tags h line false is = sym (unchanged most_numbered (rows_at tags h) (command_in tags line) is)

-- THE ROWS OF THE REPOSITORY behind a line are those of the lines that are kept
pub after_line : (tags : Bool) (h : LogHistory) (line : List ℕ) → rows_at tags (after (is_kept tags) h line) ≡ line_rows_by most_numbered (rows_at tags h) (command_in tags line)
after_line tags h line = after_by tags h line (is_kept tags h line) refl

positive_by : (n : ℕ) (none : Bool) → (n == 0) ≡ none → 0 < n → none ≡ false
positive_by n true e some = let is = eqb-true n 0 e in absurd (omega (arith, some, is))
positive_by n false e some = refl

positive : (n : ℕ) → 0 < n → (n == 0) ≡ false
positive n some = positive_by n (n == 0) refl some

long_after : (limit : ℕ) (r : Rows) (line : List ℕ) → MAX_LINE < length line → (line_text_by limit r line ≡ bad_line_text) × (line_rows_by limit r line ≡ r)
unfolding line_text_by line_rows_by
long_after limit r line long =
    let some : (length line == 0) ≡ false = positive (length line) (omega (arith, long)) in
    let over : nat_lt MAX_LINE (length line) ≡ true = lt-ltb MAX_LINE (length line) long in
    (rw (some, over) refl, rw (some, over) refl)

less_by : (n : ℕ) (less : Bool) → nat_lt n n ≡ less → less ≡ false
less_by n false e = refl
less_by n true e = let less = ltb-true n n e in absurd (omega (arith, less))

not_less : (n : ℕ) → nat_lt n n ≡ false
not_less n = less_by n (nat_lt n n) refl

-- a line above the bound is its own command
long_command : (tags : Bool) (line : List ℕ) → MAX_LINE < length line → command_in tags line ≡ line
long_command true line long =
    let over : nat_lt MAX_LINE (length line) ≡ true = lt-ltb MAX_LINE (length line) long in
    rw over refl
long_command false line long = refl

-- a line above the bound has the reply to a bad line, and is not kept
pub long_line : (tags : Bool) (h : LogHistory) (line : List ℕ) → MAX_LINE < length line → (reply_at tags h line ≡ bad_line_text) × (is_kept tags h line ≡ false) × (after (is_kept tags) h line ≡ h)
long_line tags h line long =
    let is = long_command tags line long in
    let both = long_after most_numbered (rows_at tags h) line long in
    let next : line_rows_by most_numbered (rows_at tags h) (command_in tags line) ≡ rows_at tags h = ap (line_rows_by most_numbered (rows_at tags h)) is ∙ both.1 in
    let kept : is_kept tags h line ≡ false = ap (λ (next : Rows). longer (rows_at tags h) next) next ∙ not_less (rows_at tags h).count in
    (ap (line_text_by most_numbered (rows_at tags h)) is ∙ both.0, kept, ap (λ (b : Bool). cond b record h { lines = h.lines ++ line ∷ [] } h) kept)

-- what is equal gives the same, at a limit that is the greatest
pub at_limit : {A : Type 0} (f : ℕ → Rows → List ℕ → A) (limit : ℕ) (r now : Rows) (line command : List ℕ) → limit ≡ most_numbered → r ≡ now → line ≡ command
    → f limit r line ≡ f most_numbered now command
at_limit f limit r now line command is are same =
    ap (λ (l : ℕ). f l r line) is ∙ (ap (λ (o : Rows). f most_numbered o line) are ∙ ap (f most_numbered now) same)

-- before the first line
pub no-commands : (tags : Bool) → commands_in tags [] ≡ []
no-commands true = refl
no-commands false = refl

pub fresh : (tags : Bool) (r : Rows) (catalogue : List JobTree) (line : List ℕ) (base : List (List ℕ)) → catalogue_at line ≡ Ok catalogue → r ≡ rows_of_base catalogue base
    → r ≡ rows_at tags record { catalogue = line; base = base; lines = [] }
fresh tags r catalogue line base is are =
    are
    ∙ (ap (λ (read : Result (List JobTree) ReadFault). rows_of_base (jobs_read read) base) (sym is)
    ∙ ap (rows_past most_numbered (rows_of_base (jobs_read (catalogue_at line)) base)) (sym (no-commands tags)))

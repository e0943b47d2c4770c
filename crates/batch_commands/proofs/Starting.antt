-- Start lines that are replied to one after another.
use Rattle.std.proofs.Common.{◌≡◌, ◌≢◌, ◌∙◌, inl, inr, ℕ, ◌+◌, ◌-◌, ◌^◌, ◌==◌, ◌<◌, ◌≤◌, Bool, true, false, cond, List, [], ◌∷◌, ◌++◌, length, Some, None, Result, Ok, Err, refl, sym, ap, subst, arith, append_assoc, add_assoc, zero-add, add-zero}
use Rattle.std.specs.Prelude.{min}
use Rattle.std.proofs.lemmas.List.{append-nil}
use Rattle.jsl_model.specs.Jobs.{JobTree}
use Rattle.batch_history.specs.Rows.{History, history}
use Rattle.batch_history.specs.declared.call.Entry.{Entry}
use Rattle.seat_rules.proofs.Prefixes.{prefix_self}
use Rattle.seat_rules.specs.Places.{IsLegalLog}
use Rattle.seat_rules.specs.Views.{one_if}
use Rattle.seat_rules.specs.declared.view.SessionView.{SessionView}
use Rattle.script_lines.specs.Device.{Told, Held}
use Rattle.script_lines.specs.declared.line.Line.{Line}
use Rattle.script_lines.specs.declared.line_fault.LineFault.{LineFault}
use Rattle.script_lines.specs.declared.line_fault.LineFault.TheVariants as line_faults
use Rattle.script_lines.specs.Lines.{LineRead}
use Rattle.script_lines.specs.Unread.{Unread}
use Rattle.script_text.specs.declared.command.Command.{Command}
use Rattle.script_text.specs.declared.command.Command.TheVariants.{BadLine, TextTooLong}
use Rattle.script_text.specs.declared.start.StartLine.{StartLine}
use Rattle.script_text.specs.declared.start.StartFault.{StartFault}
use Rattle.script_text.specs.declared.start.StartFault.TheVariants as starts
use Rattle.script_text.specs.Starts.{IsStart}
use Rattle.script_engine.specs.declared.fault.EngineFault.{EngineFault}
use Rattle.script_engine.specs.declared.fault.EngineFault.TheVariants.{Catalogue, Read, Write, OutOfMemory}
use Rattle.script_engine.specs.Faults.{engine_fault}
use Rattle.script_engine.specs.Script.{start_at, text_for, history_for}
use Rattle.batch_commands.specs.Putting.{Grows, Breaks, Puts}
use Rattle.batch_commands.specs.Reads.{AreRead}
use Rattle.batch_commands.specs.Starts.{AreStarted, command_for, command_of_start, made_for, start_text, start_after, start_made}
use Rattle.batch_commands.specs.Turns.{GoesOn, PutsFault, Started, Starts, Turns, TurnsTo, TurnsToLine}
use Rattle.batch_commands.proofs.Putting.{put_nothing, grows_on, grows_broken, grows_no_more}
use Rattle.batch_commands.proofs.Reading.{read_none, read_one_more}

-- ---- One line

abbrev text_by : Bool → Command → History → List ℕ
text_by empty command h = cond empty [] (text_for h command)

abbrev after_by : Bool → Command → History → History
after_by empty command h = cond empty h (history_for h command)

abbrev made_if : Bool → Command → History → ℕ
made_if empty command h = cond empty 0 (made_for h command)

-- a line that isn't empty is replied to as its command
turned_by : (catalogue : List JobTree) (before after : SessionView) (empty : Bool) (asked command : Command) (w : Held) (waited : List ℕ) (w' : Held) (waits : List ℕ) (result : Result Bool EngineFault)
    → empty ≡ false → asked ≡ command → TurnsTo catalogue before after command w waited w' waits result
    → Turns catalogue before after (text_by empty asked) (after_by empty asked) (made_if empty asked) w waited w' waits result
turned_by catalogue before after empty asked command w waited w' waits result filled is T =
    subst (λ b. Turns catalogue before after (text_by b asked) (after_by b asked) (made_if b asked) w waited w' waits result) (sym filled)
    (subst (λ c. Turns catalogue before after (text_by false c) (after_by false c) (made_if false c) w waited w' waits result) (sym is) T)

pub turned : (catalogue : List JobTree) (before after : SessionView) (line : List ℕ) (command : Command) (w : Held) (waited : List ℕ) (w' : Held) (waits : List ℕ) (result : Result Bool EngineFault)
    → (length line == 0) ≡ false → command_of_start before.number line ≡ command → TurnsTo catalogue before after command w waited w' waits result
    → TurnsToLine catalogue before after line w waited w' waits result
unfolding start_text start_after start_made
turned catalogue before after line command w waited w' waits result filled is T =
    turned_by catalogue before after (length line == 0) (command_of_start before.number line) command w waited w' waits result filled is T

-- a session that does nothing stays as it is
still : (catalogue : List JobTree) (s : SessionView) → GoesOn catalogue s s s.seen s.seen 0
still catalogue s = record {
  begins = prefix_self s.seen;
  seen = refl;
  number = refl;
  legal = λ legal. legal;
  own = omega arith;
  few = λ some. absurd (omega (arith, some));
}

passed_by : (catalogue : List JobTree) (s : SessionView) (empty : Bool) (asked : Command) (w : Held) (waited : List ℕ) → empty ≡ true
    → Turns catalogue s s (text_by empty asked) (after_by empty asked) (made_if empty asked) w waited w waited (Ok false)
passed_by catalogue s empty asked w waited none =
    subst (λ b. Turns catalogue s s (text_by b asked) (after_by b asked) (made_if b asked) w waited w waited (Ok false)) (sym none) (s.seen, still catalogue s, refl, put_nothing w waited)

-- an empty line is passed over
pub passed_over : (catalogue : List JobTree) (s : SessionView) (line : List ℕ) (w : Held) (waited : List ℕ) → (length line == 0) ≡ true → TurnsToLine catalogue s s line w waited w waited (Ok false)
unfolding start_text start_after start_made
passed_over catalogue s line w waited none = passed_by catalogue s (length line == 0) (command_of_start s.number line) w waited none

-- the line of what is no start is not put to its end
refused_short : (catalogue : List JobTree) (s : SessionView) (command : Command) (w : Held) (waited : List ℕ) (w' : Held) (waits text : List ℕ) (fault : EngineFault)
    → text_for (history catalogue s.seen) command ≡ text → (history_for (history catalogue s.seen) command).log ≡ s.seen → made_for (history catalogue s.seen) command ≡ 0
    → Puts w waited w' waits text (Err fault) → TurnsTo catalogue s s command w waited w' waits (Err fault)
refused_short catalogue s command w waited w' waits text (Catalogue told) is same none P = absurd P
refused_short catalogue s command w waited w' waits text Read is same none P = absurd P
refused_short catalogue s command w waited w' waits text Write is same none B = (
  s.seen,
  subst (λ (log : List Entry). GoesOn catalogue s s s.seen log (made_for (history catalogue s.seen) command)) (sym same) (subst (λ n. GoesOn catalogue s s s.seen s.seen n) (sym none) (still catalogue s)),
  subst (λ t. Breaks w waited w' t) (sym is) B,
)
refused_short catalogue s command w waited w' waits text OutOfMemory is same none G = G

-- a line that is no start is refused
pub line_refused : (catalogue : List JobTree) (s : SessionView) (line : List ℕ) (fault : StartFault) (w : Held) (waited : List ℕ) (w' : Held) (waits : List ℕ)
    → (length line == 0) ≡ false → IsStart (start_at line) (Err fault) → PutsFault fault w waited w' waits (Ok tt) → TurnsToLine catalogue s s line w waited w' waits (Ok false)
line_refused catalogue s line starts.BadLine w waited w' waits filled due G =
    turned catalogue s s line BadLine w waited w' waits (Ok false) filled (ap (command_for s.number) due) (s.seen, still catalogue s, refl, G)
line_refused catalogue s line starts.TextTooLong w waited w' waits filled due G =
    turned catalogue s s line TextTooLong w waited w' waits (Ok false) filled (ap (command_for s.number) due) (s.seen, still catalogue s, refl, G)
line_refused catalogue s line starts.OutOfMemory w waited w' waits filled due (e, G) = absurd (cc (e))

pub line_refused_short : (catalogue : List JobTree) (s : SessionView) (line : List ℕ) (fault : StartFault) (e : EngineFault) (w : Held) (waited : List ℕ) (w' : Held) (waits : List ℕ)
    → (length line == 0) ≡ false → IsStart (start_at line) (Err fault) → PutsFault fault w waited w' waits (Err e) → TurnsToLine catalogue s s line w waited w' waits (Err e)
line_refused_short catalogue s line starts.BadLine e w waited w' waits filled due P =
    turned catalogue s s line BadLine w waited w' waits (Err e) filled (ap (command_for s.number) due) (refused_short catalogue s BadLine w waited w' waits _ e refl refl refl P)
line_refused_short catalogue s line starts.TextTooLong e w waited w' waits filled due P =
    turned catalogue s s line TextTooLong w waited w' waits (Err e) filled (ap (command_for s.number) due) (refused_short catalogue s TextTooLong w waited w' waits _ e refl refl refl P)
line_refused_short catalogue s line starts.OutOfMemory e w waited w' waits filled due (is, G) =
    let same : e ≡ OutOfMemory = cc (is) in
    subst (λ f. TurnsToLine catalogue s s line w waited w' waits (Err f)) (sym same) G

-- a start line is answered
pub line_started : (catalogue : List JobTree) (before after : SessionView) (line : List ℕ) (start : StartLine) (w : Held) (waited : List ℕ) (w' : Held) (waits : List ℕ) (result : Result Bool EngineFault)
    → (length line == 0) ≡ false → IsStart (start_at line) (Ok start) → TurnsTo catalogue before after (command_for before.number (Ok start)) w waited w' waits result → TurnsToLine catalogue before after line w waited w' waits result
line_started catalogue before after line start w waited w' waits result filled due T =
    turned catalogue before after line (command_for before.number (Ok start)) w waited w' waits result filled (ap (command_for before.number) due) T

-- ---- All lines

-- lines that a session replied to: whatever lines come, they go on from what it has seen
pub record Gone (catalogue : List JobTree) (begun now : SessionView) (lines : List (List ℕ)) (text : List ℕ) (made : ℕ) : Type 0 where
  pub number : now.number ≡ begun.number
  pub legal : IsLegalLog catalogue begun.seen → IsLegalLog catalogue now.seen
  pub own : made ≤ length now.mine
  pub goes_on : (more : List (List ℕ)) (others : List ℕ) (rest : ℕ) (last : List Entry) → AreStarted catalogue begun.number now.seen more others rest last
      → AreStarted catalogue begun.number begun.seen (lines ++ more) (text ++ others) (made + rest) last

-- they were read, and their replies are put
pub record Starting (catalogue : List JobTree) (begun now : SessionView) (r : Told) (p : Unread) (r' : Told) (p' : Unread) (w : Held) (waited : List ℕ) (w' : Held) (waits : List ℕ) (made : ℕ) : Type 0 where
  pub lines : List (List ℕ)
  pub text : List ℕ
  pub read : AreRead r p lines r' p'
  pub grown : Grows w waited w' waits text
  pub gone : Gone catalogue begun now lines text made

-- before the first line
pub no_line : (catalogue : List JobTree) (s : SessionView) (r : Told) (p : Unread) (w : Held) (waited : List ℕ) → Starting catalogue s s r p r p w waited w waited 0
no_line catalogue s r p w waited = record {
  lines = [];
  text = [];
  read = read_none r p;
  grown = put_nothing w waited;
  gone = record {
    number = refl;
    legal = λ legal. legal;
    own = omega arith;
    goes_on = λ more others rest last A. subst (λ n. AreStarted catalogue s.number s.seen more others n last) (sym (zero-add rest)) A;
  };
}

-- one line more goes on
on_by : (catalogue : List JobTree) (begun now after : SessionView) (by : ℕ) (lines : List (List ℕ)) (text line : List ℕ) (log : List Entry) (made : ℕ)
    → ((more : List (List ℕ)) (others : List ℕ) (rest : ℕ) (last : List Entry) → AreStarted catalogue by now.seen more others rest last → AreStarted catalogue by begun.seen (lines ++ more) (text ++ others) (made + rest) last)
    → GoesOn catalogue now after log (start_after by line (history catalogue log)).log (start_made by line (history catalogue log))
    → (more : List (List ℕ)) (others : List ℕ) (rest : ℕ) (last : List Entry) → AreStarted catalogue by after.seen more others rest last
    → AreStarted catalogue by begun.seen ((lines ++ line ∷ []) ++ more) ((text ++ start_text by line (history catalogue log)) ++ others) ((made + start_made by line (history catalogue log)) + rest) last
on_by catalogue begun now after by lines text line log made on G more others rest last A =
    let h = history catalogue log in
    let next = subst (λ (l : List Entry). AreStarted catalogue by l more others rest last) G.seen A in
    let all = on (line ∷ more) (start_text by line h ++ others) (start_made by line h + rest) last (log, others, rest, G.begins, refl, refl, next) in
    subst (λ (ls : List (List ℕ)). AreStarted catalogue by begun.seen ls ((text ++ start_text by line h) ++ others) ((made + start_made by line h) + rest) last) (sym (append_assoc lines (line ∷ []) more))
    (subst (λ t. AreStarted catalogue by begun.seen (lines ++ line ∷ more) t ((made + start_made by line h) + rest) last) (sym (append_assoc text (start_text by line h) others))
    (subst (λ n. AreStarted catalogue by begun.seen (lines ++ line ∷ more) (text ++ (start_text by line h ++ others)) n last) (sym (add_assoc made (start_made by line h) rest)) all))

pub gone_on : (catalogue : List JobTree) (begun now after : SessionView) (lines : List (List ℕ)) (text line : List ℕ) (log : List Entry) (made : ℕ) → Gone catalogue begun now lines text made
    → GoesOn catalogue now after log (start_after now.number line (history catalogue log)).log (start_made now.number line (history catalogue log))
    → Gone catalogue begun after (lines ++ line ∷ []) (text ++ start_text now.number line (history catalogue log)) (made + start_made now.number line (history catalogue log))
gone_on catalogue begun now after lines text line log made S G =
    let h = history catalogue log in
    record {
      number = G.number ∙ S.number;
      legal = λ legal. G.legal (S.legal legal);
      own = omega (arith, S.own, G.own);
      goes_on = subst (λ n. (more : List (List ℕ)) (others : List ℕ) (k : ℕ) (last : List Entry) → AreStarted catalogue begun.number after.seen more others k last
          → AreStarted catalogue begun.number begun.seen ((lines ++ line ∷ []) ++ more) ((text ++ start_text n line h) ++ others) ((made + start_made n line h) + k) last) (sym S.number)
          (on_by catalogue begun now after begun.number lines text line log made S.goes_on
          (subst (λ n. GoesOn catalogue now after log (start_after n line h).log (start_made n line h)) S.number G));
    }

-- a line more is read and replied to
pub one_more : (catalogue : List JobTree) (begun now after : SessionView) (r mid next : Told) (p left rest : Unread) (w held new : Held) (waited between waits : List ℕ) (made : ℕ) (shown : Line) (log : List Entry)
    → Starting catalogue begun now r p mid left w waited held between made → (call : LineRead mid next left rest (Ok (Some shown)))
    → GoesOn catalogue now after log (start_after now.number call.outcome.0 (history catalogue log)).log (start_made now.number call.outcome.0 (history catalogue log))
    → Grows held between new waits (start_text now.number call.outcome.0 (history catalogue log))
    → Starting catalogue begun after r p next rest w waited new waits (made + start_made now.number call.outcome.0 (history catalogue log))
one_more catalogue begun now after r mid next p left rest w held new waited between waits made shown log S call G put =
    let line : List ℕ = call.outcome.0 in
    let x = start_text now.number line (history catalogue log) in
    record {
      lines = S.lines ++ line ∷ [];
      text = S.text ++ x;
      read = read_one_more r mid next p left rest S.lines shown S.read call;
      grown = grows_on w held new waited between waits S.text x S.grown put;
      gone = gone_on catalogue begun now after S.lines S.text line log made S.gone G;
    }

-- the lines so far are replied to
pub started_so_far : (catalogue : List JobTree) (begun now : SessionView) (lines : List (List ℕ)) (text : List ℕ) (made : ℕ) → Gone catalogue begun now lines text made → Started catalogue begun lines text made now.seen
started_so_far catalogue begun now lines text made S =
    let none : AreStarted catalogue begun.number now.seen [] [] 0 now.seen = (refl, refl, prefix_self now.seen) in
    let all = S.goes_on [] [] 0 now.seen none in
    record {
      started = subst (λ (ls : List (List ℕ)). AreStarted catalogue begun.number begun.seen ls text made now.seen) (append-nil lines)
          (subst (λ t. AreStarted catalogue begun.number begun.seen (lines ++ []) t made now.seen) (append-nil text)
          (subst (λ n. AreStarted catalogue begun.number begun.seen (lines ++ []) (text ++ []) n now.seen) (add-zero made) all));
      legal = S.legal;
    }

-- a session's turn, counted: what is counted stays within 64 bits
pub counted : (catalogue : List JobTree) (now after : SessionView) (log next : List Entry) (made more count : ℕ) → GoesOn catalogue now after log next more → 1 ≡ more → made ≤ length now.mine → count ≡ min (made + 1) (2 ^ 64 - 1) → count ≡ made + more
counted catalogue now after log next made more count G one own e =
    let some : 0 < more = omega arith in
    let few : length after.mine ≤ 1000000 = G.few some in
    let all : length after.mine ≡ length now.mine + more = G.own in
    omega arith

-- the reader told its end
pub starts_end : (catalogue : List JobTree) (begun now : SessionView) (r mid next : Told) (p left rest : Unread) (w w' : Held) (waited waits : List ℕ) (made : ℕ)
    → Starting catalogue begun now r p mid left w waited w' waits made → LineRead mid next left rest (Ok None) → Starts catalogue begun now r next p rest w waited w' waits (Ok made)
starts_end catalogue begun now r mid next p left rest w w' waited waits made S call =
    (S.lines, S.text, (mid, left, S.read, call), started_so_far catalogue begun now S.lines S.text made S.gone, S.grown)

-- there is no next line
pub starts_failed : (catalogue : List JobTree) (begun now : SessionView) (r mid next : Told) (p left rest : Unread) (w w' : Held) (waited waits : List ℕ) (made : ℕ) (fault : LineFault)
    → Starting catalogue begun now r p mid left w waited w' waits made → LineRead mid next left rest (Err fault) → (fault ≡ line_faults.Write → ⊥) → Starts catalogue begun now r next p rest w waited w' waits (Err (engine_fault fault))
starts_failed catalogue begun now r mid next p left rest w w' waited waits made line_faults.Read S call other =
    (S.lines, S.text, made, now.seen, (mid, left, S.read, call), started_so_far catalogue begun now S.lines S.text made S.gone, S.grown)
starts_failed catalogue begun now r mid next p left rest w w' waited waits made line_faults.Write S call other = absurd (other refl)
starts_failed catalogue begun now r mid next p left rest w w' waited waits made line_faults.OutOfMemory S call other =
    (S.lines, [], S.text, made, now.seen, inr (mid, left, S.read, call), started_so_far catalogue begun now S.lines S.text made S.gone, S.grown)

-- a line that was read is not replied to, or not to its end
pub starts_broken : (catalogue : List JobTree) (begun now after : SessionView) (r mid next : Told) (p left rest : Unread) (w held new : Held) (waited between waits : List ℕ) (made : ℕ) (shown : Line) (fault : EngineFault)
    → Starting catalogue begun now r p mid left w waited held between made → (call : LineRead mid next left rest (Ok (Some shown)))
    → TurnsToLine catalogue now after call.outcome.0 held between new waits (Err fault) → Starts catalogue begun after r next p rest w waited new waits (Err fault)
starts_broken catalogue begun now after r mid next p left rest w held new waited between waits made shown (Catalogue told) S call T = absurd T
starts_broken catalogue begun now after r mid next p left rest w held new waited between waits made shown Read S call T = absurd T
starts_broken catalogue begun now after r mid next p left rest w held new waited between waits made shown Write S call (log, G, B) =
    let line : List ℕ = call.outcome.0 in
    let x = start_text now.number line (history catalogue log) in (
      S.lines ++ line ∷ [],
      S.text ++ x,
      made + start_made now.number line (history catalogue log),
      after.seen,
      read_one_more r mid next p left rest S.lines shown S.read call,
      started_so_far catalogue begun after (S.lines ++ line ∷ []) (S.text ++ x) (made + start_made now.number line (history catalogue log)) (gone_on catalogue begun now after S.lines S.text line log made S.gone G),
      grows_broken w held new waited between S.text x S.grown B,
    )
starts_broken catalogue begun now after r mid next p left rest w held new waited between waits made shown OutOfMemory S call G = (
  S.lines,
  call.outcome.0 ∷ [],
  S.text,
  made,
  now.seen,
  inl (read_one_more r mid next p left rest S.lines shown S.read call),
  started_so_far catalogue begun now S.lines S.text made S.gone,
  grows_no_more w held new waited between waits S.text S.grown G,
)

-- an answer that isn't a failed write has another fault
pub not_write : {A : Type 0} (fault : LineFault) (answer : Result A LineFault) → answer ≡ Err fault → answer ≢ Err line_faults.Write → fault ≡ line_faults.Write → ⊥
not_write fault answer is other e = other (is ∙ ap Err e)

-- a line is replied to, and makes a job execution, which is counted
pub turn_counted : (catalogue : List JobTree) (begun now after : SessionView) (r mid next : Told) (p left rest : Unread) (w held new : Held) (waited between waits : List ℕ) (made count : ℕ) (shown : Line) (is_made : Bool)
    → Starting catalogue begun now r p mid left w waited held between made → (call : LineRead mid next left rest (Ok (Some shown))) → is_made ≡ true → count ≡ min (made + 1) (2 ^ 64 - 1)
    → TurnsToLine catalogue now after call.outcome.0 held between new waits (Ok is_made) → Starting catalogue begun after r p next rest w waited new waits count
turn_counted catalogue begun now after r mid next p left rest w held new waited between waits made count shown is_made S call made_one e (log, G, one, put) =
    let line : List ℕ = call.outcome.0 in
    let is : count ≡ made + start_made now.number line (history catalogue log) =
    counted catalogue now after log (start_after now.number line (history catalogue log)).log made (start_made now.number line (history catalogue log)) count G (ap one_if (sym made_one) ∙ one) S.gone.own e in
    subst (λ n. Starting catalogue begun after r p next rest w waited new waits n) (sym is)
    (one_more catalogue begun now after r mid next p left rest w held new waited between waits made shown log S call G put)

-- a line is replied to, and makes none
pub turn_kept : (catalogue : List JobTree) (begun now after : SessionView) (r mid next : Told) (p left rest : Unread) (w held new : Held) (waited between waits : List ℕ) (made : ℕ) (shown : Line) (is_made : Bool)
    → Starting catalogue begun now r p mid left w waited held between made → (call : LineRead mid next left rest (Ok (Some shown))) → is_made ≡ false
    → TurnsToLine catalogue now after call.outcome.0 held between new waits (Ok is_made) → Starting catalogue begun after r p next rest w waited new waits made
turn_kept catalogue begun now after r mid next p left rest w held new waited between waits made shown is_made S call no_start (log, G, one, put) =
    let line : List ℕ = call.outcome.0 in
    let none : 0 ≡ start_made now.number line (history catalogue log) = ap one_if (sym no_start) ∙ one in
    subst (λ n. Starting catalogue begun after r p next rest w waited new waits n) (ap (λ n. made + n) (sym none) ∙ add-zero made)
    (one_more catalogue begun now after r mid next p left rest w held new waited between waits made shown log S call G put)

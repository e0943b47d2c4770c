-- The parts of a run: a reply, a line, all start lines, a job execution, all of them.
use Rattle.std.specs.Prelude.{◌≡◌, ◌⊎◌, ℕ, ◌+◌, ◌<◌, ◌≤◌, Bool, false, List, [], ◌++◌, length, None, Result, Ok, Err}
use mathlib.Core.List.{IsPrefix}
use Rattle.batch_ids.specs.Refusals.{is_out_of_memory}
use Rattle.batch_ids.specs.declared.refusal.Refusal.{Refusal}
use Rattle.batch_ids.specs.declared.refusal.Refusal.TheVariants.{TextTooLong, RepositoryFull}
use Rattle.jsl_model.specs.Jobs.{JobTree}
use Rattle.batch_history.specs.Legal.{most_operations}
use Rattle.batch_history.specs.Rows.{History, history}
use Rattle.batch_history.specs.declared.call.Entry.{Entry}
use Rattle.batch_history.specs.declared.call.Reply.{Reply}
use Rattle.batch_history.specs.declared.query.Answer.{Answer}
use Rattle.batch_history.specs.declared.query.Query.TheVariants.{JobExecution}
use Rattle.batch_history.specs.Answers.{answer}
use Rattle.seat_rules.specs.Places.{IsLegalLog}
use Rattle.seat_rules.specs.Views.{one_if}
use Rattle.seat_rules.specs.declared.view.SessionView.{SessionView}
use Rattle.script_lines.specs.declared.line_fault.LineFault.TheVariants as line_faults
use Rattle.script_lines.specs.Device.{Told, Held, Tells}
use Rattle.script_lines.specs.Lines.{IsBounded}
use Rattle.script_lines.specs.Unread.{Unread}
use Rattle.script_text.specs.declared.command.Command.{Command}
use Rattle.script_text.specs.declared.start.StartFault.{StartFault}
use Rattle.script_text.specs.declared.start.StartFault.TheVariants as starts
use Rattle.script_text.specs.Replies.{bad_line_text, reply_text}
use Rattle.script_engine.specs.declared.fault.EngineFault.{EngineFault}
use Rattle.script_engine.specs.declared.fault.EngineFault.TheVariants.{Catalogue, Read, Write, OutOfMemory}
use Rattle.script_engine.specs.Script.{text_for, history_for}
use Rattle.batch_commands.specs.Listing.{AreListed, execution_line, listed_text}
use Rattle.batch_commands.specs.Putting.{Grows, Breaks, Puts, Writes}
use Rattle.batch_commands.specs.Reads.{AreRead, AreReadTo}
use Rattle.batch_commands.specs.Runs.{AreReplied, IsRunText, IsDueText}
use Rattle.batch_commands.specs.Starts.{AreStarted, made_for, start_text, start_after, start_made}

-- ---- One reply

-- whether a reply is the refusal `OutOfMemory`
abbrev pub wants_memory : {A : Type 0} → Result A Refusal → Bool
wants_memory (Ok reply) = false
wants_memory (Err refusal) = is_out_of_memory refusal

-- the line of a reply is put, unless memory was refused, for the reply or for its line
abbrev pub PutsReply : Result Reply Refusal → Held → List ℕ → Held → List ℕ → Result Unit EngineFault → Type 0
PutsReply reply w waited w' waits (Ok done) = (wants_memory reply ≡ false) × Grows w waited w' waits (reply_text reply)
PutsReply reply w waited w' waits (Err (Catalogue fault)) = ⊥
PutsReply reply w waited w' waits (Err Read) = ⊥
PutsReply reply w waited w' waits (Err Write) = (wants_memory reply ≡ false) × Breaks w waited w' (reply_text reply)
PutsReply reply w waited w' waits (Err OutOfMemory) = Grows w waited w' waits []

-- the output about a pool's result: nothing, or the line of its refusal
abbrev pub pool_text : {A : Type 0} → Result A Refusal → List ℕ
pool_text (Ok report) = []
pool_text (Err refusal) = reply_text (Err refusal)

-- the line of the fault of a line that is no start is put
abbrev pub PutsFault : StartFault → Held → List ℕ → Held → List ℕ → Result Unit EngineFault → Type 0
PutsFault starts.BadLine w waited w' waits result = Puts w waited w' waits bad_line_text result
PutsFault starts.TextTooLong w waited w' waits result = Puts w waited w' waits (reply_text (Err TextTooLong)) result
PutsFault starts.OutOfMemory w waited w' waits result = (result ≡ Err OutOfMemory) × Grows w waited w' waits []

-- ---- One start line

-- a session had seen a prefix of one log, and has then seen another log, with this many more operations of
-- its own
pub record GoesOn (catalogue : List JobTree) (before after : SessionView) (log next : List Entry) (made : ℕ) : Type 0 where
  pub begins : IsPrefix before.seen log
  pub seen : after.seen ≡ next
  pub number : after.number ≡ before.number
  pub legal : IsLegalLog catalogue before.seen → IsLegalLog catalogue after.seen
  pub own : length after.mine ≡ length before.mine + made
  pub few : 0 < made → length after.mine ≤ most_operations

-- a session replies, and the result says whether a job execution was created. After some operations of a
-- history, this text is put, and the history continues like this
abbrev pub Turns : List JobTree → SessionView → SessionView → (History → List ℕ) → (History → History) → (History → ℕ) → Held → List ℕ → Held → List ℕ → Result Bool EngineFault → Type 0
Turns catalogue before after text next made w waited w' waits (Ok is_made) =
    (log : List Entry) × GoesOn catalogue before after log (next (history catalogue log)).log (made (history catalogue log))
    × (one_if is_made ≡ made (history catalogue log)) × Grows w waited w' waits (text (history catalogue log))
Turns catalogue before after text next made w waited w' waits (Err (Catalogue fault)) = ⊥
Turns catalogue before after text next made w waited w' waits (Err Read) = ⊥
Turns catalogue before after text next made w waited w' waits (Err Write) =
    (log : List Entry) × GoesOn catalogue before after log (next (history catalogue log)).log (made (history catalogue log))
    × Breaks w waited w' (text (history catalogue log))
Turns catalogue before after text next made w waited w' waits (Err OutOfMemory) = Grows w waited w' waits []

-- a session replies to a command
abbrev pub TurnsTo : List JobTree → SessionView → SessionView → Command → Held → List ℕ → Held → List ℕ → Result Bool EngineFault → Type 0
TurnsTo catalogue before after command = Turns catalogue before after (λ h. text_for h command) (λ h. history_for h command) (λ h. made_for h command)

-- a session replies to a line
abbrev pub TurnsToLine : List JobTree → SessionView → SessionView → List ℕ → Held → List ℕ → Held → List ℕ → Result Bool EngineFault → Type 0
TurnsToLine catalogue before after line = Turns catalogue before after (start_text before.number line) (start_after before.number line) (start_made before.number line)

-- ---- All start lines

-- a session replies to start lines, which create this many job executions
pub record Started (catalogue : List JobTree) (before : SessionView) (lines : List (List ℕ)) (text : List ℕ) (made : ℕ) (last : List Entry) : Type 0 where
  pub started : AreStarted catalogue before.number before.seen lines text made last
  pub legal : IsLegalLog catalogue before.seen → IsLegalLog catalogue last

-- all lines up to the reader's end are read and have replies. The result is the number of job executions that
-- they create, or a fault after a part of the lines
abbrev pub Starts : List JobTree → SessionView → SessionView → Told → Told → Unread → Unread → Held → List ℕ → Held → List ℕ → Result ℕ EngineFault → Type 0
Starts catalogue before after r r' p p' w waited w' waits (Ok made) =
    (lines : List (List ℕ)) × (text : List ℕ) × AreReadTo r p lines (Ok None) r' p' × Started catalogue before lines text made after.seen
    × Grows w waited w' waits text
Starts catalogue before after r r' p p' w waited w' waits (Err (Catalogue fault)) = ⊥
Starts catalogue before after r r' p p' w waited w' waits (Err Read) =
    (lines : List (List ℕ)) × (text : List ℕ) × (made : ℕ) × (last : List Entry) × AreReadTo r p lines (Err line_faults.Read) r' p'
    × Started catalogue before lines text made last × Grows w waited w' waits text
Starts catalogue before after r r' p p' w waited w' waits (Err Write) =
    (lines : List (List ℕ)) × (text : List ℕ) × (made : ℕ) × (last : List Entry) × AreRead r p lines r' p'
    × Started catalogue before lines text made last × Breaks w waited w' text
Starts catalogue before after r r' p p' w waited w' waits (Err OutOfMemory) =
    (lines : List (List ℕ)) × (rest : List (List ℕ)) × (text : List ℕ) × (made : ℕ) × (last : List Entry)
    × (AreRead r p (lines ++ rest) r' p' ⊎ AreReadTo r p lines (Err line_faults.OutOfMemory) r' p')
    × Started catalogue before lines text made last × Grows w waited w' waits text

-- ---- Job executions

-- a session queries a job execution, with this answer about its step executions, and the line is put
pub record ListsWith (catalogue : List JobTree) (before after : SessionView) (execution : ℕ) (steps : Answer) (w : Held) (waited : List ℕ) (w' : Held) (waits : List ℕ) (result : Result Unit EngineFault) : Type 0 where
  pub grows : IsPrefix before.seen after.seen
  pub legal : IsLegalLog catalogue after.seen
  pub put : Puts w waited w' waits (listed_text (Ok steps) (answer (history catalogue after.seen) (JobExecution execution))) result

-- a session queries a job execution, and its line is put
pub record Lists (catalogue : List JobTree) (before after : SessionView) (execution : ℕ) (w : Held) (waited : List ℕ) (w' : Held) (waits : List ℕ) (result : Result Unit EngineFault) : Type 0 where
  pub log : List Entry
  pub begins : IsPrefix before.seen log
  pub grows : IsPrefix log after.seen
  pub legal : IsLegalLog catalogue after.seen
  pub put : Puts w waited w' waits (execution_line (history catalogue log) (history catalogue after.seen) execution) result

-- the number of lines that were put, out of this many, by the result
abbrev pub AreTold : ℕ → ℕ → Result Unit EngineFault → Type 0
AreTold told count (Ok done) = told ≡ count
AreTold told count (Err (Catalogue fault)) = ⊥
AreTold told count (Err Read) = ⊥
AreTold told count (Err Write) = told ≤ count
AreTold told count (Err OutOfMemory) = told ≤ count

-- a session queries the job executions up to a number, and their lines are put
pub record ListsAll (catalogue : List JobTree) (before after : SessionView) (count : ℕ) (w : Held) (waited : List ℕ) (w' : Held) (waits : List ℕ) (result : Result Unit EngineFault) : Type 0 where
  pub told : ℕ
  pub text : List ℕ
  pub last : List Entry
  pub enough : AreTold told count result
  pub listed : AreListed catalogue before.seen told text last
  pub legal : IsLegalLog catalogue before.seen → IsLegalLog catalogue last
  pub put : Writes w waited w' waits text result

-- ---- The whole run

-- the start lines that were read have replies, or all have, and some job executions have a line
abbrev pub IsPartOf : List JobTree → Told → Told → Unread → Unread → List ℕ → Type 0
IsPartOf catalogue r r' p p' text =
    ((lines : List (List ℕ)) × (rest : List (List ℕ)) × (AreRead r p (lines ++ rest) r' p' ⊎ AreReadTo r p lines (Err line_faults.OutOfMemory) r' p') × AreReplied catalogue lines text)
    ⊎ ((lines : List (List ℕ)) × (made : ℕ) × (told : ℕ) × AreReadTo r p lines (Ok None) r' p' × (told ≤ made) × IsRunText catalogue lines made told text)

-- no session is opened, and nothing is read
abbrev pub IsUnopenedOf : Told → Told → Unread → Unread → List ℕ → Type 0
IsUnopenedOf r r' p p' text = (r' ≡ r) × (p' ≡ p) × (text ≡ reply_text (Err RepositoryFull))

-- the text that is due after the first line, which was a catalogue, by the result
abbrev pub IsDueBehind : List JobTree → Told → Told → Unread → Unread → List ℕ → Result Unit EngineFault → Type 0
IsDueBehind catalogue r r' p p' text (Ok done) =
    ((lines : List (List ℕ)) × (made : ℕ) × AreReadTo r p lines (Ok None) r' p' × IsRunText catalogue lines made made text) ⊎ IsUnopenedOf r r' p p' text
IsDueBehind catalogue r r' p p' text (Err (Catalogue fault)) = ⊥
IsDueBehind catalogue r r' p p' text (Err Read) = (lines : List (List ℕ)) × AreReadTo r p lines (Err line_faults.Read) r' p' × AreReplied catalogue lines text
IsDueBehind catalogue r r' p p' text (Err Write) = IsPartOf catalogue r r' p p' text ⊎ IsUnopenedOf r r' p p' text
IsDueBehind catalogue r r' p p' text (Err OutOfMemory) = IsPartOf catalogue r r' p p' text

-- start lines are read, have replies and are run, and their job executions have lines
pub record Runs (catalogue : List JobTree) (r r' : Told) (p p' : Unread) (w : Held) (waited : List ℕ) (w' : Held) (waits : List ℕ) (result : Result Unit EngineFault) : Type 0 where
  pub text : List ℕ
  pub due : IsDueBehind catalogue r r' p p' text result
  pub put : Writes w waited w' waits text result

-- a run whose last lines wait, after the output that waited before
pub record RunsSoFar (r r' : Told) (w : Held) (waited : List ℕ) (w' : Held) (waits : List ℕ) (result : Result Unit EngineFault) : Type 0 where
  pub input : List ℕ
  pub text : List ℕ
  pub read : Tells r r' input
  pub due : IsDueText r r' input text result
  pub put : Writes w waited w' waits text result
  pub bounded : IsBounded r r'

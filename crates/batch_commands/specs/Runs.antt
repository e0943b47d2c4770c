-- The input and output of a run.
use Rattle.std.specs.Prelude.{◌≡◌, ◌⊎◌, ℕ, ◌<◌, ◌≤◌, List, [], ◌∷◌, ◌++◌, Result, Ok, Err}
use Rattle.batch_ids.specs.declared.refusal.Refusal.{Refusal}
use Rattle.batch_ids.specs.declared.refusal.Refusal.TheVariants.{RepositoryFull}
use Rattle.jsl_model.specs.Jobs.{JobTree}
use Rattle.jsl_json.specs.declared.fault.ReadFault.{ReadFault}
use Rattle.batch_history.specs.declared.call.Entry.{Entry}
use Rattle.seat_rules.specs.Places.{IsLegalLog}
use Rattle.script_lines.specs.Cut.{whole_lines, script_lines}
use Rattle.script_lines.specs.Device.{Told, Held, Tells, Takes}
use Rattle.script_lines.specs.Lines.{HasEnded, AreComplete, IsReadFault, IsBounded}
use Rattle.script_text.specs.Faults.{fault_text}
use Rattle.script_text.specs.Replies.{reply_text}
use Rattle.script_engine.specs.declared.fault.EngineFault.{EngineFault}
use Rattle.script_engine.specs.declared.fault.EngineFault.TheVariants.{Catalogue, Read, Write, OutOfMemory}
use Rattle.script_engine.specs.Ran.{IsOpened, IsFirstFault}
use Rattle.script_engine.specs.Script.{catalogue_at}
use Rattle.batch_commands.specs.Starts.{AreStarted}
use Rattle.batch_commands.specs.Listing.{AreListed}

-- ---- Start lines and job executions over one catalogue

-- start lines have their replies, in a legal history
pub record AreReplied (catalogue : List JobTree) (lines : List (List ℕ)) (text : List ℕ) : Type 0 where
  pub session : ℕ
  pub made : ℕ
  pub log : List Entry
  pub started : AreStarted catalogue session [] lines text made log
  pub legal : IsLegalLog catalogue log

-- the output about a pool: nothing, or the line of a refusal
abbrev pub IsPoolText : List ℕ → Type 0
IsPoolText text = (text ≡ []) ⊎ ((refusal : Refusal) × (text ≡ reply_text (Err refusal)))

-- THE TEXT OF A RUN: the replies to start lines, which created `made` job executions, the output about a
-- pool, and the lines of `told` job executions. All of them follow from one legal history
pub record IsRunText (catalogue : List JobTree) (lines : List (List ℕ)) (made told : ℕ) (text : List ℕ) : Type 0 where
  pub session : ℕ
  pub log : List Entry
  pub last : List Entry
  pub replies : List ℕ
  pub refused : List ℕ
  pub list : List ℕ
  pub started : AreStarted catalogue session [] lines replies made log
  pub listed : AreListed catalogue log told list last
  pub pool : IsPoolText refused
  pub legal : IsLegalLog catalogue last
  pub whole : text ≡ (replies ++ refused) ++ list

-- ---- All lines, of which the first is the catalogue

-- the lines after the first have their replies, and there is no more output; without lines, there is none
abbrev pub LinesReplied : List (List ℕ) → List ℕ → Type 0
LinesReplied [] text = text ≡ []
LinesReplied (line ∷ lines) text = (catalogue : List JobTree) × (catalogue_at line ≡ Ok catalogue) × AreReplied catalogue lines text

-- the lines after the first have their replies and are run, and this many of the job executions that they
-- created have a line
abbrev pub LinesRun : List (List ℕ) → ℕ → ℕ → List ℕ → Type 0
LinesRun [] made told text = ⊥
LinesRun (line ∷ lines) made told text = (catalogue : List JobTree) × (catalogue_at line ≡ Ok catalogue) × IsRunText catalogue lines made told text

-- ---- Texts of a run, for an input that was read

-- all lines are run, and all job executions have a line
abbrev pub IsWhole : Told → Told → List ℕ → List ℕ → Type 0
IsWhole r r' input text = HasEnded r r' × ((made : ℕ) × LinesRun (script_lines input) made made text)

-- some complete lines have their replies, or all lines are run and some job executions have a line
abbrev pub IsPart : Told → Told → List ℕ → List ℕ → Type 0
IsPart r r' input text =
    ((done : List (List ℕ)) × (rest : List (List ℕ)) × AreComplete r r' input (done ++ rest) × LinesReplied done text)
    ⊎ (HasEnded r r' × ((made : ℕ) × (told : ℕ) × (told ≤ made) × LinesRun (script_lines input) made told text))

-- the first line is a catalogue with this fault, whose line is the only output
abbrev pub IsFaultText : Told → Told → List ℕ → ReadFault → List ℕ → Type 0
IsFaultText r r' input fault text = (lines : List (List ℕ)) × AreComplete r r' input lines × IsFirstFault lines fault × (text ≡ fault_text fault)

-- the first line is a catalogue, but no session was opened: the line of that refusal is the only output
abbrev pub IsUnopened : Told → Told → List ℕ → List ℕ → Type 0
IsUnopened r r' input text = (lines : List (List ℕ)) × AreComplete r r' input lines × IsOpened lines × (text ≡ reply_text (Err RepositoryFull))

-- THE TEXT that is due for an input, by the result
abbrev pub IsDueText : Told → Told → List ℕ → List ℕ → Result Unit EngineFault → Type 0
-- the reader didn't fail. It ended and the output is complete, or no session was opened
IsDueText r r' input text (Ok done) = (IsWhole r r' input text ⊎ IsUnopened r r' input text) × (r'.failures ≡ r.failures)
-- the fault of the first line
IsDueText r r' input text (Err (Catalogue fault)) = IsFaultText r r' input fault text
-- the whole lines have their replies, and nothing is run; the reader hasn't ended
IsDueText r r' input text (Err Read) = LinesReplied (whole_lines input) text × IsReadFault r r' × (r'.ends ≡ r.ends)
-- any of these texts, as far as the run got
IsDueText r r' input text (Err Write) = IsPart r r' input text ⊎ IsUnopened r r' input text ⊎ ((fault : ReadFault) × IsFaultText r r' input fault text)
IsDueText r r' input text (Err OutOfMemory) = IsPart r r' input text

-- the text that is due is written, or a prefix of it if the writer failed
abbrev pub IsWritten : Held → Held → List ℕ → List ℕ → Result Unit EngineFault → Type 0
IsWritten w w' text output (Ok done) = (output ≡ text) × (w'.failures ≡ w.failures)
IsWritten w w' text output (Err (Catalogue fault)) = (output ≡ text) × (w'.failures ≡ w.failures)
IsWritten w w' text output (Err Read) = (output ≡ text) × (w'.failures ≡ w.failures)
IsWritten w w' text output (Err Write) = ((rest : List ℕ) × (output ++ rest ≡ text)) × (w.failures < w'.failures)
IsWritten w w' text output (Err OutOfMemory) = (output ≡ text) × (w'.failures ≡ w.failures)

-- THE RUN: the reader gave an input in the call, and the writer took the text that is due for it
pub record HasRun (r r' : Told) (w w' : Held) (result : Result Unit EngineFault) : Type 0 where
  pub input : List ℕ
  pub text : List ℕ
  pub output : List ℕ
  pub read : Tells r r' input
  pub due : IsDueText r r' input text result
  pub taken : Takes w w' output
  pub written : IsWritten w w' text output result
  -- the reader ended at most once, and was called at most as often as is allowed
  pub bounded : IsBounded r r'

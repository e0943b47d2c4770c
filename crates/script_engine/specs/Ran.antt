-- The bytes that a run of a script reads and writes.
use Rattle.std.specs.Prelude.{◌≡◌, ◌⊎◌, ℕ, ◌<◌, ◌≤◌, List, [], ◌∷◌, ◌++◌, Bool, false, length, take, Some, Result, Ok, Err, if◌then◌else◌}
use Rattle.std.specs.Io.KnownBytes.{append_known}
use Rattle.script_lines.specs.Device.{Told, Held, Tells, Takes, wide}
use Rattle.script_lines.specs.Cut.{whole_lines, script_lines}
use Rattle.script_lines.specs.Lines.{HasEnded, AreComplete, IsReadFault, IsBounded}
use Rattle.jsl_model.specs.Jobs.{JobTree}
use Rattle.jsl_json.specs.declared.fault.ReadFault.{ReadFault}
use Rattle.jsl_json.specs.Catalogues.{is_out_of_memory}
use Rattle.script_text.specs.Faults.{fault_text}
use Rattle.script_engine.specs.declared.summary.Summary.{Summary}
use Rattle.script_engine.specs.declared.fault.EngineFault.{EngineFault}
use Rattle.script_engine.specs.declared.fault.EngineFault.TheVariants.{Catalogue, Read, Write, OutOfMemory}
use Rattle.script_engine.specs.Faults.{is_of_writer}
use Rattle.script_engine.specs.Script.{catalogue_at, text_of_lines, script_text}
use Rattle.script_engine.specs.Summaries.{summary_of}

-- the first line is a catalogue without a fault
abbrev pub IsOpened : List (List ℕ) → Type 0
IsOpened lines = (line : List ℕ) × (rest : List (List ℕ)) × (catalogue : List JobTree) × (lines ≡ line ∷ rest) × (catalogue_at line ≡ Ok catalogue)

-- there is no line, or the first is a catalogue without a fault
abbrev pub IsOpenedIfAny : List (List ℕ) → Type 0
IsOpenedIfAny lines = (lines ≡ []) ⊎ IsOpened lines

-- the first line is a catalogue with this fault
abbrev pub IsFirstFault : List (List ℕ) → ReadFault → Type 0
IsFirstFault lines fault = (line : List ℕ) × (rest : List (List ℕ)) × (lines ≡ line ∷ rest) × (catalogue_at line ≡ Err fault)

-- the output is a beginning of the text of lines that were read completely
abbrev pub IsFront : Told → Told → List ℕ → List ℕ → Type 0
IsFront r r' input output = (lines : List (List ℕ)) × (rest : List ℕ) × AreComplete r r' input lines × (output ++ rest ≡ text_of_lines lines)

-- all lines that were whole before the last read had their replies written before it
pub record RepliesInTurn (input output : List ℕ) : Type 0 where
  pub before : List ℕ
  pub last : List ℕ
  pub others : List ℕ
  pub split : input ≡ before ++ last
  pub one_read : length last ≤ wide
  pub replied : output ≡ text_of_lines (whole_lines before) ++ others

-- how the run of a script ends
abbrev pub Ending : Type 0
Ending = Result Summary EngineFault

module _ (input output : List ℕ) (r r' : Told) (w w' : Held) where
  -- the first line is a catalogue, the reader reported its end, no device failed, and all replies are written
  -- and counted
  abbrev pub EndedWhole : Summary → Type 0
  EndedWhole summary = (output ≡ script_text input) × HasEnded r r' × (summary ≡ summary_of (script_lines input)) × IsOpened (script_lines input)
      × (r'.failures ≡ r.failures) × (w'.failures ≡ w.failures)

  -- the fault of a first line that was read completely: only the line of this fault is written
  abbrev pub EndedByCatalogue : ReadFault → Type 0
  EndedByCatalogue fault = (output ≡ fault_text fault) × (script_text input ≡ fault_text fault) × ((lines : List (List ℕ)) × AreComplete r r' input lines × IsFirstFault lines fault)

  -- the replies to the whole lines are written, the first of which is a catalogue, and the reader hasn't
  -- reported its end
  abbrev pub EndedByReader : Type 0
  EndedByReader = (output ≡ text_of_lines (whole_lines input)) × IsReadFault r r' × IsOpenedIfAny (whole_lines input) × (r'.ends ≡ r.ends)

  -- a beginning of the text was written, and nothing was read while replies to whole lines waited
  abbrev pub EndedByWriter : Type 0
  EndedByWriter = IsFront r r' input output × RepliesInTurn input output × (w.failures < w'.failures)

  -- the replies to the lines before are written, and nothing was read while replies to whole lines waited
  abbrev pub EndedByMemory : Type 0
  EndedByMemory = ((done : List (List ℕ)) × (rest : List (List ℕ)) × AreComplete r r' input (done ++ rest) × (output ≡ text_of_lines done) × IsOpenedIfAny done) × RepliesInTurn input output

  -- the input that was read and the output that was written, by the run's result: a line counts only if it was
  -- read completely
  abbrev pub IsOutcome : Ending → Type 0
  IsOutcome (Ok summary) = EndedWhole summary
  IsOutcome (Err (Catalogue fault)) = EndedByCatalogue fault
  IsOutcome (Err Read) = EndedByReader
  IsOutcome (Err Write) = EndedByWriter
  IsOutcome (Err OutOfMemory) = EndedByMemory

-- THE RUN OF A SCRIPT: in the call the reader delivered an input and the writer took an output, and both fit
-- the result
pub record Ran (r r' : Told) (w w' : Held) (result : Ending) : Type 0 where
  pub input : List ℕ
  pub output : List ℕ
  pub read : Tells r r' input
  pub written : Takes w w' output
  pub outcome : IsOutcome input output r r' w w' result
  -- the reader reported its end at most once, and was called at most as often as it may be
  pub bounded : IsBounded r r'

-- a reader in memory had the script left, and delivered an input, which is a front of it
pub record IsReadInMemory (script input : List ℕ) (r r' : Told) : Type 0 where
  pub whole : r.left ≡ Some script
  pub front : (rest : List ℕ) × (r'.left ≡ Some rest) × (script ≡ input ++ rest)
  -- no read failed, so that a result Read comes only from the bound on reads
  pub calm : r'.failures ≡ r.failures

-- a writer in memory was empty, and has the text now, which is the output
pub record IsWrittenInMemory (text output : List ℕ) (w w' : Held) : Type 0 where
  pub empty : w.contents ≡ Some []
  pub all : w'.contents ≡ Some text
  pub text_is : text ≡ output

-- a script in memory was run, and the text was written
pub record RanInMemory (script text : List ℕ) (result : Ending) : Type 0 where
  pub r : Told
  pub r' : Told
  pub w : Held
  pub w' : Held
  pub ran : Ran r r' w w' result
  pub read : IsReadInMemory script ran.input r r'
  pub written : IsWrittenInMemory text ran.output w w'

-- the text is that of a script that was run to its end, or the line of its catalogue's fault
abbrev pub HoldsReplies : List ℕ → List ℕ → Ending → Type 0
HoldsReplies script text (Ok summary) = text ≡ script_text script
HoldsReplies script text (Err (Catalogue fault)) = text ≡ fault_text fault
HoldsReplies script text (Err Read) = Unit {0}
HoldsReplies script text (Err Write) = Unit {0}
HoldsReplies script text (Err OutOfMemory) = Unit {0}

-- Before the last replies are written

-- whether a run ended by a failure of the writer
abbrev pub has_writer_failed : Ending → Bool
has_writer_failed (Ok summary) = false
has_writer_failed (Err fault) = is_of_writer fault

-- the writer after it took the waiting bytes
abbrev pub with_all : Held → List ℕ → Held
with_all w waits = record { bytes = w.bytes ++ waits; failures = w.failures; contents = append_known w.contents waits }

-- the writer after it took the last replies: after a failure it takes no more
abbrev pub with_waiting : Held → List ℕ → Ending → Held
with_waiting w waits result = if has_writer_failed result then w else with_all w waits

-- the writer took these bytes so far, in turn with the input
pub record HasSent (w w' : Held) (input : List ℕ) : Type 0 where
  pub sent : List ℕ
  pub grown : Takes w w' sent
  pub turn : RepliesInTurn input sent

-- the script is run, except that the writer has still to take the waiting bytes
pub record RanSoFar (r r' : Told) (w w' : Held) (waits : List ℕ) (result : Ending) : Type 0 where
  pub ran : Ran r r' w (with_waiting w' waits result) result
  pub front : HasSent w w' ran.input
  pub quiet : has_writer_failed result ≡ false → w'.failures ≡ w.failures

module _ (fault : ReadFault) (w : Held) (waited : List ℕ) (w' : Held) (waits : List ℕ) where
  -- the fault's line is put after the bytes that waited, and the run ends with that fault
  abbrev pub HasToldFault : ReadFault → Type 0
  HasToldFault told = (told ≡ fault) × (is_out_of_memory fault ≡ false) × (w'.bytes ++ waits ≡ (w.bytes ++ waited) ++ fault_text fault) × ((sent : List ℕ) × Takes w w' sent) × (w'.failures ≡ w.failures)

  -- the writer failed, and took a beginning of the bytes that waited and the fault's line
  abbrev pub HasFailedToTell : Type 0
  HasFailedToTell = (is_out_of_memory fault ≡ false) × ((n : ℕ) × Takes w w' (take n (waited ++ fault_text fault))) × (w.failures < w'.failures)

  -- a fault's line is put after the bytes that waited, and the run ends with that fault, or with the writer's,
  -- or with OutOfMemory
  abbrev pub TellsFault : EngineFault → Type 0
  TellsFault (Catalogue told) = HasToldFault told
  TellsFault Read = ⊥
  TellsFault Write = HasFailedToTell
  TellsFault OutOfMemory = (w' ≡ w) × (waits ≡ waited)

-- A script over a log, as the program runs it.
use Rattle.std.specs.Prelude.{ℕ, ◌≡◌, ◌⊎◌, ◌<◌, ◌≤◌, ◌+◌, List, [], ◌∷◌, ◌++◌, length, Bool, true, false, Option, Some, None, Result, Ok, Err}
use Rattle.jsl_model.specs.Jobs.{JobTree}
use Rattle.jsl_json.specs.Catalogues.{is_out_of_memory}
use Rattle.jsl_json.specs.declared.fault.ReadFault.{ReadFault}
use Rattle.log_host.specs.Host.{Outcomes, LeavesOnly, Torn}
use Rattle.log_host.specs.Past.{Call, Past, seen_after, heard_after, leaves_after, left_after, file_faults_after, listener_faults_after}
use Rattle.file_host.specs.Calls.{file_calls}
use Rattle.file_host.specs.Making.{AtEachMoment, AtEachMomentOf, IsBeforeOrWhole, IsOpening, keeping, making, resuming, reading as read_calls}
use Rattle.file_host.specs.declared.file_fault.FileFault.{FileFault}
use Rattle.file_host.specs.declared.file_fault.FileFault.TheVariants as files
use Rattle.durable_log.specs.Format.{LogRecord, shut}
use Rattle.durable_log.specs.Logs.{records_of, Reopens, Unsealed}
use Rattle.script_lines.specs.Device.{Told, Held, Takes}
use Rattle.script_lines.specs.Unread.{Unread, nothing_read}
use Rattle.script_lines.specs.Lines.{LineRead, ShowsFirst}
use Rattle.script_lines.specs.declared.line.Line.{Line}
use Rattle.script_lines.specs.declared.line_fault.LineFault.TheVariants as lines
use Rattle.script_text.specs.Faults.{fault_text}
use Rattle.script_engine.specs.Script.{catalogue_at}
use Rattle.script_engine.specs.declared.fault.EngineFault.{EngineFault}
use Rattle.script_engine.specs.declared.fault.EngineFault.TheVariants as engine
use Rattle.script_log.specs.Covered.{Covered}
use Rattle.script_log.specs.Hosts.{Hosting, State, hosting}
use Rattle.script_log.specs.Reading.{Reading, reading, lines_in}
use Rattle.script_log.specs.Runs.{catalogue_record, history_of}
use Rattle.script_log.specs.declared.fault.RunFault.{RunFault}
use Rattle.script_log.specs.declared.fault.RunFault.TheVariants as runs
use Rattle.logged_script.specs.Compactions.{IsCompactedOver, IsCompactingFault, IsMadeAnew}
use Rattle.logged_script.specs.Faults.{IsOpeningFault}
use Rattle.logged_script.specs.Histories.{is_kept, reply_at}
use Rattle.logged_script.specs.Logged.{Ends, IsAnsweredOver}
use Rattle.logged_script.specs.Openings.{IsBegun, IsCutOff}
use Rattle.logged_script.specs.Texts.{log_fault_text}
use Rattle.logged_script.specs.declared.fault.LogFault.TheVariants.{InUse}
use Rattle.logged_script.specs.declared.opening.OpeningFault.{OpeningFault}
use Rattle.logged_script.specs.declared.opening.OpeningFault.TheVariants as openings
use Rattle.batch_commands.specs.Devices.{Devices}
use Rattle.batch_commands.specs.declared.logged.Unready.{Unready}
use Rattle.batch_commands.specs.declared.logged.Unready.TheVariants as unready
use Rattle.batch_commands.specs.declared.logged_fault.OverLogFault.{OverLogFault}
use Rattle.batch_commands.specs.declared.logged_fault.OverLogFault.TheVariants.{Catalogue, Refused, Read, Write, Log, OutOfMemory}

-- ---- Statuses

-- 3: the catalogue is refused, 4: a read or a write failed, 5: memory was refused, 6: the file failed, 7: the
-- log is refused
abbrev pub over_log_status : OverLogFault → ℕ
over_log_status Catalogue = 3
over_log_status Refused = 7
over_log_status Read = 4
over_log_status Write = 4
over_log_status Log = 6
over_log_status OutOfMemory = 5

abbrev pub over_log_exit : Result Unit OverLogFault → ℕ
over_log_exit (Ok done) = 0
over_log_exit (Err fault) = over_log_status fault

abbrev pub fault_of_engine : EngineFault → OverLogFault
fault_of_engine (engine.Catalogue fault) = Catalogue
fault_of_engine engine.Read = Read
fault_of_engine engine.Write = Write
fault_of_engine engine.OutOfMemory = OutOfMemory

abbrev pub fault_of_run : RunFault → OverLogFault
fault_of_run runs.Read = Read
fault_of_run runs.Write = Write
fault_of_run (runs.Log fault) = Log
fault_of_run runs.OutOfMemory = OutOfMemory

abbrev pub outcome_over : Result Unit RunFault → Result Unit OverLogFault
outcome_over (Ok done) = Ok done
outcome_over (Err fault) = Err (fault_of_run fault)

-- ---- Lines of faults

-- a line is written, or the writer fails, or memory is refused
abbrev pub PutsLine : Held → Held → List ℕ → Result Unit EngineFault → Type 0
PutsLine w w' text (Ok done) = Takes w w' text × (w'.failures ≡ w.failures)
PutsLine w w' text (Err (engine.Catalogue fault)) = ⊥
PutsLine w w' text (Err engine.Read) = ⊥
PutsLine w w' text (Err engine.Write) = w.failures < w'.failures
PutsLine w w' text (Err engine.OutOfMemory) = Unit {0}

-- a script ends with a fault whose line is written, or the writer fails, or memory is refused
abbrev pub Tells : List ℕ → OverLogFault → Held → Held → OverLogFault → Type 0
Tells text fault w w' end = ((end ≡ fault) × Takes w w' text) ⊎ ((end ≡ Write) × (w.failures < w'.failures)) ⊎ (end ≡ OutOfMemory)

-- ---- The first line

-- the first line was read, and is this catalogue
pub record HasFirst (r r' : Told) (p p' : Unread) (line : List ℕ) (catalogue : List JobTree) : Type 0 where
  pub first : Option Line
  pub read : LineRead r r' p p' (Ok first)
  pub shown : ShowsFirst first line
  pub is : catalogue_at line ≡ Ok catalogue

-- the first line was read, and is a catalogue with this fault
pub record HasFirstFault (r r' : Told) (p p' : Unread) (fault : ReadFault) : Type 0 where
  pub first : Option Line
  pub read : LineRead r r' p p' (Ok first)
  pub is : (line : List ℕ) → ShowsFirst first line → catalogue_at line ≡ Err fault
  pub no_want : is_out_of_memory fault ≡ false

-- the reason why there is no first line that is a catalogue
abbrev pub FailsFirst : Told → Told → Unread → Unread → EngineFault → Type 0
FailsFirst r r' p p' (engine.Catalogue fault) = HasFirstFault r r' p p' fault
FailsFirst r r' p p' engine.Read = LineRead r r' p p' (Err lines.Read)
FailsFirst r r' p p' engine.Write = ⊥
FailsFirst r r' p p' engine.OutOfMemory = Unit {0}

-- a catalogue's fault other than refused memory, or another fault
abbrev pub HasName : EngineFault → Type 0
HasName (engine.Catalogue fault) = is_out_of_memory fault ≡ false
HasName engine.Read = Unit {0}
HasName engine.Write = Unit {0}
HasName engine.OutOfMemory = Unit {0}

-- the output about that reason
abbrev pub TellsFirst : EngineFault → Held → Held → OverLogFault → Type 0
TellsFirst (engine.Catalogue fault) w w' end = Tells (fault_text fault) Catalogue w w' end
TellsFirst engine.Read w w' end = (end ≡ Read) × (w' ≡ w)
TellsFirst engine.Write w w' end = (end ≡ Write) × (w' ≡ w)
TellsFirst engine.OutOfMemory w w' end = (end ≡ OutOfMemory) × (w' ≡ w)

-- ---- The log

abbrev pub unready_by_file : FileFault → Unready
unready_by_file files.InUse = unready.Refused InUse
unready_by_file files.OutOfMemory = unready.OutOfMemory
unready_by_file files.Missing = unready.Failed
unready_by_file files.Unavailable = unready.Failed

abbrev pub unready_by_log : OpeningFault → Unready
unready_by_log (openings.Refused fault) = unready.Refused fault
unready_by_log openings.OutOfMemory = unready.OutOfMemory

-- the records with which a run begins: those of the file that was found, and the given catalogue exactly if it has
-- more jobs; without a file that catalogue alone
abbrev pub IsBegunFrom : Bool → Option (List ℕ) → List ℕ → List LogRecord → Type 0
IsBegunFrom tags None line now = now ≡ catalogue_record line ∷ []
IsBegunFrom tags (Some file) line now = IsBegun tags file line now

-- the records of a log that was compacted. The file that was found goes on over some catalogue, mostly the given one: over the given
-- one it has the same rows
abbrev pub IsCompactedFrom : Bool → Option (List ℕ) → List ℕ → List LogRecord → Type 0
IsCompactedFrom tags None line now =
    (earlier : List LogRecord) × IsBegunFrom tags None line earlier × IsCompactedOver tags (history_of earlier) line (history_of now)
IsCompactedFrom tags (Some file) line now = IsMadeAnew tags file line now

-- THE RECORDS OF A RUN: those with which it begins; or, if the log is compacted, those of a log with the same rows and without
-- that past
abbrev pub HasBegun : Bool → Bool → Option (List ℕ) → List ℕ → List LogRecord → Type 0
HasBegun tags compact found line now = IsBegunFrom tags found line now ⊎ ((compact ≡ true) × IsCompactedFrom tags found line now)

-- the reason why a run does not begin with the file that was found, which is compacted or not
abbrev pub IsFaultFrom : Bool → Bool → Option (List ℕ) → List ℕ → OpeningFault → Type 0
IsFaultFrom tags compact None line fault = fault ≡ openings.OutOfMemory
IsFaultFrom tags false (Some file) line fault = IsOpeningFault tags file line fault
IsFaultFrom tags true (Some file) line fault = IsCompactingFault tags file line fault

-- the bytes that are cut off: those behind the end of the file that was found
abbrev pub IsCutFrom : Option (List ℕ) → List ℕ → Type 0
IsCutFrom None cut = cut ≡ []
IsCutFrom (Some file) cut = IsCutOff file cut

-- the file that was found was sealed, and these are its bytes with a shut gate at this place over its seal
abbrev pub IsReopenedFrom : Option (List ℕ) → List ℕ → ℕ → Type 0
IsReopenedFrom None bytes end = ⊥
IsReopenedFrom (Some file) bytes end = Reopens file bytes end

-- the calls by which a file gets ready: a shut gate is written over the seal of one that goes on; or it is made anew, after what
-- was cut off is kept beside it
abbrev pub getting_ready : Bool → List ℕ → ℕ → List ℕ → List ℕ → List Call → List Call
getting_ready true name end cut bytes before = resuming name end shut ++ before
getting_ready false name end cut bytes before = making name bytes ++ keeping name cut before

-- at each moment of these calls a crash leaves a file that goes on as it was, but for any bytes in place of its seal; or what the
-- name stood for before, or the whole new file
abbrev pub IsSafe : Bool → ℕ → List ℕ → List Call → Type 0
IsSafe true end bytes d' = (file : List ℕ) → end + 3 ≤ length file → AtEachMomentOf file d' (Torn end 3 file)
IsSafe false end bytes d' = AtEachMoment d' (IsBeforeOrWhole bytes)

-- THE FILE OF THIS NAME GOT READY with these bytes: it was sealed and goes on, or was made anew
pub record IsReady (tags compact : Bool) (name line : List ℕ) (d d' : List Call) (bytes : List ℕ) : Type 0 where
  pub found : Option (List ℕ)
  pub begun : HasBegun tags compact found line (records_of bytes)
  pub cut : List ℕ
  pub cut_off : IsCutFrom found cut
  pub reopens : Bool
  pub end : ℕ
  pub sealed : reopens ≡ true → IsReopenedFrom found bytes end
  pub calls : d' ≡ getting_ready reopens name end cut bytes (read_calls name found d)
  pub any_moment : IsSafe reopens end bytes d'

-- it could not be opened or read: no draft was made
abbrev pub IsUnread : List Call → Unready → Type 0
IsUnread d' fault = IsOpening d' × ((why : FileFault) × (fault ≡ unready_by_file why))

-- it was read, and the log is not restored: no further call was made
pub record IsUnrestored (tags compact : Bool) (name line : List ℕ) (d d' : List Call) (fault : Unready) : Type 0 where
  pub found : Option (List ℕ)
  pub calls : d' ≡ read_calls name found d
  pub why : OpeningFault
  pub is : IsFaultFrom tags compact found line why
  pub named : fault ≡ unready_by_log why

-- it did not get ready, and a crash leaves no more than if it had
pub record IsUnmade (tags compact : Bool) (line : List ℕ) (d' : List Call) (fault : Unready) : Type 0 where
  pub found : Option (List ℕ)
  pub bytes : List ℕ
  pub begun : HasBegun tags compact found line (records_of bytes)
  pub reopens : Bool
  pub end : ℕ
  pub sealed : reopens ≡ true → IsReopenedFrom found bytes end
  pub any_moment : IsSafe reopens end bytes d'
  pub why : FileFault
  pub named : fault ≡ unready_by_file why

-- the reason why there is no log over which lines are answered
abbrev pub IsUnready : Bool → Bool → List ℕ → List ℕ → List Call → List Call → Unready → Type 0
IsUnready tags compact name line d d' fault = IsUnread d' fault ⊎ IsUnrestored tags compact name line d d' fault ⊎ IsUnmade tags compact line d' fault

-- the output about that reason
abbrev pub TellsUnready : Unready → Held → Held → OverLogFault → Type 0
TellsUnready (unready.Refused fault) w w' end = Tells (log_fault_text fault) Refused w w' end
TellsUnready unready.Failed w w' end = (end ≡ Log) × (w' ≡ w)
TellsUnready unready.OutOfMemory w w' end = (end ≡ OutOfMemory) × (w' ≡ w)

-- ---- The lines

-- the past of a file that is ready and of its listener: the content, what was heard, the moment, the failures, and
-- what a crash since an earlier moment may have left
abbrev pub seen_of : Past → List ℕ
seen_of past = seen_after past.start past.calls

abbrev pub heard_of : Past → List ℕ
heard_of past = heard_after past.calls

abbrev pub moment_of : Past → ℕ
moment_of past = length past.calls

abbrev pub left_since : Past → ℕ → Outcomes
left_since past = left_after past.start past.calls

abbrev pub leaves_of : Past → Outcomes
leaves_of past = leaves_after past.start past.calls

-- what such a past means
abbrev pub past_meaning : Hosting Past
past_meaning = hosting seen_of heard_of leaves_of moment_of left_since (λ past. past) (λ past. file_faults_after past.calls) (λ past. listener_faults_after past.calls)

abbrev pub state_in : Past → State
state_in past = record { file = seen_of past; heard = heard_of past; file_faults = file_faults_after past.calls; listener_faults = listener_faults_after past.calls }

-- THE LINES AFTER THE FIRST, over a file that is ready with these bytes. At each moment a crash leaves its records
-- and those of the first of the lines, and the writer has taken a beginning of the replies to those. At no moment was the
-- file sealed, unless all of its bytes were on the disk before. The calls of the disk are those of this file, and the
-- writer took just what its listener heard
pub record AnswersOver (tags : Bool) (bytes : List ℕ) (x : Reading) (made d' : List Call) (w' : Held) (result : Result Unit OverLogFault) : Type 0 where
  pub before : Past
  pub after : Past
  pub made_with : seen_of before ≡ bytes
  pub nothing_heard : heard_of before ≡ []
  pub any_moment : LeavesOnly moment_of left_since before after (Covered (is_kept tags) (reply_at tags) (records_of bytes) (lines_in x) [])
  pub last : Past
  pub unsealed : LeavesOnly moment_of left_since before last Unsealed
  pub outcome : Result Unit RunFault
  pub sealing : Ends past_meaning outcome last after
  pub ended : IsAnsweredOver tags (state_in before) x (state_in after) outcome
  pub status : result ≡ outcome_over outcome
  pub calls : d' ≡ file_calls after.calls ++ made
  pub took : w'.bytes ≡ heard_of after

-- ---- The whole script

-- there is no first line that is a catalogue
abbrev pub HasNoCatalogue : Devices → Devices → Result Unit OverLogFault → Type 0
HasNoCatalogue x x' result = (p : Unread) × (fault : EngineFault) × (end : OverLogFault)
    × FailsFirst x.told x'.told nothing_read p fault × (result ≡ Err end) × TellsFirst fault x.held x'.held end × (x'.disk ≡ x.disk)

-- there is no log over which lines are answered
abbrev pub HasNoLog : Bool → Bool → List ℕ → Devices → Devices → Result Unit OverLogFault → Type 0
HasNoLog tags compact name x x' result = (p : Unread) × (line : List ℕ) × (catalogue : List JobTree) × (fault : Unready) × (end : OverLogFault)
    × HasFirst x.told x'.told nothing_read p line catalogue × IsUnready tags compact name line x.disk x'.disk fault × (result ≡ Err end) × TellsUnready fault x.held x'.held end

-- the lines are answered over a file that got ready
abbrev pub AnswersLines : Bool → Bool → List ℕ → Devices → Devices → Result Unit OverLogFault → Type 0
AnswersLines tags compact name x x' result = (m : Told) × (p p' : Unread) × (line : List ℕ) × (catalogue : List JobTree) × (bytes : List ℕ) × (made : List Call)
    × HasFirst x.told m nothing_read p line catalogue × IsReady tags compact name line x.disk made bytes × AnswersOver tags bytes (reading m x'.told p p') made x'.disk x'.held result

-- memory is refused before anything is read, or one of these. Lines have tags or not, and the log is compacted
-- first or not
abbrev pub IsLogServed : Bool → Bool → List ℕ → Devices → Devices → Result Unit OverLogFault → Type 0
IsLogServed tags compact name x x' result = ((result ≡ Err OutOfMemory) × (x' ≡ x)) ⊎ HasNoCatalogue x x' result ⊎ HasNoLog tags compact name x x' result ⊎ AnswersLines tags compact name x x' result

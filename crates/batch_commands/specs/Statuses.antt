-- The exit statuses.
use Rattle.std.specs.Prelude.{◌≡◌, ◌⊎◌, ℕ, Bool, List, [], ◌∷◌, codes, Option, Some, None, Result, Ok, Err}
use Rattle.std.specs.Borrow.{Bor}
use Rattle.script_engine.specs.declared.fault.EngineFault.{EngineFault}
use Rattle.script_engine.specs.declared.fault.EngineFault.TheVariants.{Catalogue, Read, Write, OutOfMemory}
use Rattle.script_engine.specs.declared.summary.Summary.{Summary}
use Rattle.script_engine.specs.Ran.{Ran}
use Rattle.script_lines.specs.Device.{Known, Told, Held}
use Rattle.script_lines.specs.Tape.{nothing_past, told_by}
use Rattle.batch_commands.specs.Devices.{Devices, devices}
use Rattle.batch_commands.specs.Asked.{IsAsked, AsksForFile, AskForNone}
use Rattle.batch_commands.specs.Checks.{HasChecked}
use Rattle.batch_commands.specs.Logging.{IsLogServed, over_log_exit}
use Rattle.batch_commands.specs.Runs.{HasRun}
use Rattle.batch_commands.specs.declared.logged_fault.OverLogFault.{OverLogFault}
use Rattle.batch_commands.specs.declared.asked.Arguments.TheVariants.{Script, LoggedScript, Run, Check}

-- the exit status: 0 for success, 3 if the catalogue is refused, 4 if a read or a write failed, 5 if memory
-- was refused
abbrev pub exit_status : {A : Type 0} → Result A EngineFault → ℕ
exit_status (Ok done) = 0
exit_status (Err (Catalogue fault)) = 3
exit_status (Err Read) = 4
exit_status (Err Write) = 4
exit_status (Err OutOfMemory) = 5

-- the words are refused, and nothing is read or written
abbrev pub IsRefused : Devices → Devices → ℕ → Type 0
IsRefused x x' status = (status ≡ 2) × (x' ≡ x)

-- the words ask for no command, and nothing is read. The status is that of a text, such as
-- help, which was written or which the writer failed to take
abbrev pub IsText : List (List ℕ) → Devices → Devices → ℕ → Type 0
IsText words x x' status = AskForNone words × ((status ≡ 0) ⊎ (status ≡ 4)) × (x'.told ≡ x.told) × (x'.disk ≡ x.disk)

-- the words ask for a script, which is run
abbrev pub IsScript : List (List ℕ) → Devices → Devices → ℕ → Type 0
IsScript words x x' status = (outcome : Result Summary EngineFault) × IsAsked Script words × Ran x.told x'.told x.held x'.held outcome × (status ≡ exit_status outcome) × (x'.disk ≡ x.disk)

-- the words ask for a run by this many workers, which is done
abbrev pub IsRun : List (List ℕ) → Devices → Devices → ℕ → Type 0
IsRun words x x' status = (workers : ℕ) × (outcome : Result Unit EngineFault) × IsAsked (Run workers) words × HasRun x.told x'.told x.held x'.held outcome × (status ≡ exit_status outcome) × (x'.disk ≡ x.disk)

-- the words ask for a script over a log, whose lines have tags or not, and which is compacted first or not. It is run over the file of
-- that name
abbrev pub IsLoggedScript : List (List ℕ) → Devices → Devices → ℕ → Type 0
IsLoggedScript words x x' status = (log : Bor (List ℕ)) × (tags : Bool) × (compact : Bool) × (outcome : Result Unit OverLogFault) × IsAsked (LoggedScript log tags compact) words × IsLogServed tags compact log.now x x' outcome × (status ≡ over_log_exit outcome)

-- the words ask to check the first line of the standard input, which is done
abbrev pub IsCheck : List (List ℕ) → Devices → Devices → ℕ → Type 0
IsCheck words x x' status = (outcome : Result Unit EngineFault) × IsAsked (Check None) words × HasChecked x.told x'.told x.held x'.held outcome × (status ≡ exit_status outcome) × (x'.disk ≡ x.disk)

-- the words ask to check a file, and nothing is read or written, because there are no files
abbrev pub IsUnopened : List (List ℕ) → Devices → Devices → ℕ → Type 0
IsUnopened words x x' status = (file : Bor (List ℕ)) × IsAsked (Check (Some file)) words × (status ≡ 4) × (x' ≡ x)

-- the words ask for a script, over a log or without one
abbrev pub IsAnyScript : List (List ℕ) → Devices → Devices → ℕ → Type 0
IsAnyScript words x x' status = IsScript words x x' status ⊎ IsLoggedScript words x x' status

-- the words ask for a check
abbrev pub IsAnyCheck : List (List ℕ) → Devices → Devices → ℕ → Type 0
IsAnyCheck words x x' status = IsCheck words x x' status ⊎ IsUnopened words x x' status

-- the words ask for no command: they are refused, or ask for a text
abbrev pub IsNoCommand : List (List ℕ) → Devices → Devices → ℕ → Type 0
IsNoCommand words x x' status = IsRefused x x' status ⊎ IsText words x x' status

-- THE EXIT STATUS of the command that the words ask for
abbrev pub IsServed : List (List ℕ) → Devices → Devices → ℕ → Type 0
IsServed words x x' status = IsNoCommand words x x' status ⊎ IsAnyScript words x x' status ⊎ IsRun words x x' status ⊎ IsAnyCheck words x x' status

-- the words ask to check a file. It can't be opened, or it is checked as if it were the standard input
abbrev pub IsFileCheck : List (List ℕ) → Held → ℕ → Type 0
IsFileCheck words held status =
    (name : List ℕ) × AsksForFile name words
    × ((status ≡ 4) ⊎ ((left : Known) × (after : Devices) × IsServed (codes "check" ∷ []) (devices (told_by nothing_past left) held []) after status))

-- THE EXIT STATUS of the program with files
abbrev pub IsServedWithFiles : List (List ℕ) → Told → Held → ℕ → Type 0
IsServedWithFiles words told held status = ((after : Devices) × IsServed words (devices told held []) after status) ⊎ IsFileCheck words held status

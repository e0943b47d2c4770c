-- The steps of a disk, and the calls that they make up.
use Rattle.std.specs.Prelude.{ℕ, zero, suc, ◌≡◌, ◌==◌, ◌&&◌, ◌||◌, not, List, [], ◌∷◌, Bool, true, false, if◌then◌else◌}
use Rattle.std.specs.Str.{bytes_eq}
use Rattle.log_host.specs.Past.{Call}
use Rattle.log_host.specs.Noted.{flag}
use Rattle.file_host.specs.declared.steps.Part.{Part}
use Rattle.file_host.specs.declared.steps.Part.TheVariants as part
use Rattle.file_host.specs.declared.steps.Deed.{Deed}
use Rattle.file_host.specs.declared.steps.Deed.TheVariants as deed

-- a file of the system: its device and inode, and whether it is a regular file
abbrev pub Id : Type 0
Id = ℕ × (ℕ × Bool)

-- a step: a call of std on a part, and whether it succeeded; which file an open part is; for which file the name of a part
-- stands; a write; a call of std that answers a call of the disk; the end of a call of the disk
pub data Step : Type 0 where
  Did : Deed → Part → Bool → Step
  Is : Part → Id → Step
  Stands : Part → Id → Step
  Wrote : Part → ℕ → List ℕ → Bool → Step
  Made : Call → Step
  Ended : Call → Step

-- it is a regular file, and the same as another
abbrev pub is_same_file : Id → Id → Bool
is_same_file own other = own.1.1 && own.0 == other.0 && own.1.0 == other.1.0

-- the log was opened, then locked, and then it was a regular file for which its name stood
abbrev pub is_taken : List Step → Bool
is_taken (Stands part.Log named ∷ Is part.Log own ∷ Did deed.Lock part.Log true ∷ Did deed.Open part.Log true ∷ steps) = is_same_file own named
is_taken steps = false

-- the same of the draft
abbrev pub is_held : List Step → Bool
is_held (Stands part.Draft named ∷ Is part.Draft own ∷ Did deed.Lock part.Draft true ∷ Did deed.Make part.Draft true ∷ steps) = is_same_file own named
is_held steps = false

-- it was emptied after that
abbrev pub is_drafted : List Step → Bool
is_drafted (Did deed.Empty part.Draft true ∷ steps) = is_held steps
is_drafted steps = false

-- the file beside the log was made or opened
abbrev pub is_beside : List Step → Bool
is_beside (Did deed.Make part.Cut true ∷ steps) = true
is_beside steps = false

-- it was emptied after that
abbrev pub is_cleared : List Step → Bool
is_cleared (Did deed.Empty part.Cut true ∷ steps) = is_beside steps
is_cleared steps = false

-- these bytes were written into it after that, and then it was synced
abbrev pub is_kept : List ℕ → List Step → Bool
is_kept bytes (Did deed.Sync part.Cut true ∷ Wrote part.Cut at written true ∷ steps) = at == 0 && bytes_eq bytes written && is_cleared steps
is_kept bytes steps = false

-- whether the last steps are those that a call of the disk takes; the other calls are steps themselves
abbrev pub is_done : Call → List Step → Bool
is_done call steps = (call.0 == 5 && is_taken steps) || (call.0 == 7 && is_drafted steps) || (call.0 == 10 && is_kept call.1.1.0 steps)

-- 1 if a call succeeded that is said to have: the disk may give up
abbrev pub borne_out : ℕ → Bool → ℕ
borne_out zero done = 0
borne_out (suc said) done = flag done

-- a call of the disk at its end
abbrev pub ended : Call → List Step → Call
ended call steps = (call.0, (call.1.0, (call.1.1.0, borne_out call.1.1.1 (is_done call steps))))

-- whether a part may be made, if it isn't there
abbrev pub may_make : Part → Bool
may_make part.Log = false
may_make part.Draft = true
may_make part.Cut = true
may_make part.Folder = false

-- whether a part may be emptied after these steps
abbrev pub may_empty : Part → List Step → Bool
may_empty part.Log steps = false
may_empty part.Draft steps = is_held steps
may_empty part.Cut steps = is_beside steps
may_empty part.Folder steps = false

-- whether the log was taken, and whether a draft was made
abbrev pub was_taken : List Call → Bool
was_taken [] = false
was_taken (call ∷ calls) = (call.1.1.1 == 1 && call.0 == 5) || was_taken calls

abbrev pub was_drafted : List Call → Bool
was_drafted [] = false
was_drafted (call ∷ calls) = (call.1.1.1 == 1 && call.0 == 7) || was_drafted calls

-- whether a part is the file that calls write and sync: the draft once it is made, and before that the log that was taken
abbrev pub is_written : Part → List Call → Bool
is_written part.Log calls = was_taken calls && not (was_drafted calls)
is_written part.Draft calls = was_drafted calls
is_written part.Cut calls = false
is_written part.Folder calls = false

-- whether a part may be written after these steps and calls
abbrev pub may_write : Part → List Step → List Call → Bool
may_write part.Log steps calls = is_written part.Log calls
may_write part.Draft steps calls = is_written part.Draft calls
may_write part.Cut steps calls = is_cleared steps
may_write part.Folder steps calls = false

-- whether a step changes no file but where a call of the disk does
abbrev pub is_allowed : Step → List Step → List Call → Bool
is_allowed (Did deed.Make p ok) steps calls = may_make p
is_allowed (Did deed.Empty p ok) steps calls = may_empty p steps
is_allowed (Wrote p at bytes ok) steps calls = may_write p steps calls
is_allowed step steps calls = true

-- what stands for a change that no call of the disk makes: no contract of a call has it
abbrev pub stray : Call
stray = (11, (0, ([], 0)))

-- a step after others, with the calls before it
abbrev pub calls_with : Step → List Step → List Call → List Call
calls_with (Did deed.Sync p ok) steps calls = if is_written p calls then (1, (0, ([], flag ok))) ∷ calls else calls
calls_with (Wrote p at bytes ok) steps calls = if is_written p calls then (0, (at, (bytes, flag ok))) ∷ calls else calls
calls_with (Made call) steps calls = call ∷ calls
calls_with (Ended call) steps calls = ended call steps ∷ calls
calls_with step steps calls = calls

-- THE CALLS OF A DISK that took these steps, the newest first
abbrev pub calls_of : List Step → List Call
calls_of [] = []
calls_of (step ∷ steps) = calls_with step steps (if is_allowed step steps (calls_of steps) then calls_of steps else stray ∷ calls_of steps)

-- a part was locked, and then it was a regular file for which its name stood
abbrev pub IsLocked : Part → List Step → List Step → Type 0
IsLocked p old new = (id : Id) × (id.1.1 ≡ true) × (new ≡ Stands p id ∷ Is p id ∷ Did deed.Lock p true ∷ old)

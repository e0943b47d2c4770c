-- Making a file anew, and what a crash leaves under its name.
use Rattle.std.specs.Prelude.{ℕ, ◌≡◌, ◌⊎◌, ◌==◌, ◌&&◌, ◌||◌, List, [], ◌∷◌, ◌++◌, Bool, true, false, Option, None, Some}
use Rattle.log_host.specs.Host.{Holds}
use Rattle.log_host.specs.Past.{Call, leaves_after}
use Rattle.file_host.specs.Calls.{file_calls}

-- what a name stands for after a crash: what it stood for before, if for anything; or the draft, with these bytes
pub data Named : Type 0 where
  AsBefore : Named
  Draft : List ℕ → Named

abbrev pub is_rename : Call → Bool
is_rename call = call.0 == 8

abbrev pub is_folder_sync : Call → Bool
is_folder_sync call = call.0 == 9 && call.1.1.1 == 1

-- whether a rename was tried, and whether one succeeded
abbrev pub was_renamed : List Call → Bool
was_renamed [] = false
was_renamed (call ∷ calls) = is_rename call || was_renamed calls

abbrev pub has_renamed : List Call → Bool
has_renamed [] = false
has_renamed (call ∷ calls) = (is_rename call && call.1.1.1 == 1) || has_renamed calls

-- whether the name is certain to stand for the draft: its folder was synced after a rename
abbrev pub is_certain : List Call → Bool
is_certain [] = false
is_certain (call ∷ calls) = (is_folder_sync call && has_renamed calls) || is_certain calls

-- THE MEANING OF A NAME AFTER A CRASH, after these calls
abbrev pub named : List Call → Named → Type 0
named calls AsBefore = is_certain calls ≡ false
named calls (Draft bytes) = (was_renamed calls ≡ true) × leaves_after [] (file_calls calls) bytes []

-- at each moment of these calls, and before the first, what a crash leaves of the name has P
abbrev pub AtEachMoment : List Call → (Named → Type 0) → Type 0
AtEachMoment [] P = (n : Named) → named [] n → P n
AtEachMoment (call ∷ calls) P = ((n : Named) → named (call ∷ calls) n → P n) × AtEachMoment calls P

-- the name stands for what it stood for before, or for the draft with all of these bytes
abbrev pub IsBeforeOrWhole : List ℕ → Named → Type 0
IsBeforeOrWhole bytes AsBefore = Unit {0}
IsBeforeOrWhole bytes (Draft left) = left ≡ bytes

-- no draft was made so far
pub record IsOpening (calls : List Call) : Type 0 where
  pub no_bytes : file_calls calls ≡ []
  pub no_rename : was_renamed calls ≡ false

-- the calls by which a file of this name is made with these bytes, the newest first
abbrev pub making : List ℕ → List ℕ → List Call
making name bytes = (9, (0, (name, 1))) ∷ (8, (0, (name, 1))) ∷ (1, (0, ([], 1))) ∷ (0, (0, (bytes, 1))) ∷ (7, (0, (name, 1))) ∷ []

-- the calls after bytes were kept beside the file of this name, if there are any, and their name in its folder
abbrev pub keeping : List ℕ → List ℕ → List Call → List Call
keeping name [] before = before
keeping name (b ∷ bytes) before = (9, (0, (name, 1))) ∷ (10, (0, (b ∷ bytes, 1))) ∷ before

-- the calls by which a file of this name was read, or was found missing
abbrev pub reading : List ℕ → Option (List ℕ) → List Call → List Call
reading name None before = (5, (0, (name, 0))) ∷ before
reading name (Some bytes) before = (6, (0, (bytes, 1))) ∷ (5, (0, (name, 1))) ∷ before

-- at each moment of these calls, and before the first, a crash leaves of a file that was read with these bytes one that has P
abbrev pub AtEachMomentOf : List ℕ → List Call → (List ℕ → Type 0) → Type 0
AtEachMomentOf file [] P = P file
AtEachMomentOf file (call ∷ calls) P = ((c : List ℕ) → leaves_after file (file_calls (call ∷ calls)) c [] → P c) × AtEachMomentOf file calls P

-- the calls by which bytes are written over those at a place of a file of this name that was read, the newest first
abbrev pub resuming : List ℕ → ℕ → List ℕ → List Call
resuming name at bytes = (9, (0, (name, 1))) ∷ (1, (0, ([], 1))) ∷ (0, (at, (bytes, 1))) ∷ []

-- a file goes on as it was read, but for bytes that were written over its own; these are its bytes
pub record IsResumed (calls : List Call) (bytes : List ℕ) : Type 0 where
  pub name : List ℕ
  pub file : List ℕ
  pub before : List Call
  pub opening : IsOpening before
  pub at : ℕ
  pub over : List ℕ
  pub calls_are : calls ≡ resuming name at over ++ reading name (Some file) before
  pub bytes_are : Holds file at over bytes

-- the file of this name was made with these bytes, after an opening
abbrev pub IsMade : List Call → List ℕ → List ℕ → Type 0
IsMade calls name bytes = (before : List Call) × IsOpening before × (calls ≡ making name bytes ++ before)

-- the file is ready with these bytes, all of them on the disk: it was made, or goes on as it was read
abbrev pub IsReady : List Call → List ℕ → List ℕ → Type 0
IsReady calls name bytes = IsMade calls name bytes ⊎ IsResumed calls bytes

-- The names of a log's files.
use Rattle.std.specs.Prelude.{ℕ, zero, suc, ◌≡◌, List, ◌++◌, take, codes, Option, None, Some}
use Rattle.std.specs.Str.Pattern.{RFindsChar}
use Rattle.file_host.specs.declared.steps.Part.{Part}
use Rattle.file_host.specs.declared.steps.Part.TheVariants.{Log, Draft, Cut, Folder}

-- what stands before the last slash of a path, by the slash's place: the root, if nothing does; the current folder, if there
-- is no slash
abbrev pub before_slash : List ℕ → Option (ℕ × ℕ) → List ℕ
before_slash path None = codes "."
before_slash path (Some (zero, end)) = codes "/"
before_slash path (Some (suc at, end)) = take (suc at) path

-- the folder of a path
abbrev pub IsFolderOf : List ℕ → List ℕ → Type 0
IsFolderOf path folder = (slash : Option (ℕ × ℕ)) × RFindsChar 0x2f path slash × (folder ≡ before_slash path slash)

-- the name of a part, by the name of the log
abbrev pub IsNameOf : Part → List ℕ → List ℕ → Type 0
IsNameOf Log log name = name ≡ log
IsNameOf Draft log name = name ≡ log ++ codes ".new"
IsNameOf Cut log name = name ≡ log ++ codes ".cut"
IsNameOf Folder log name = IsFolderOf log name

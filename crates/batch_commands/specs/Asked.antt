-- The commands that the words of the command line ask for.
use Rattle.std.specs.Prelude.{◌≡◌, ◌⊎◌, ◌≤◌, ◌==◌, ℕ, Bool, true, false, List, [], ◌∷◌, ◌++◌, codes, Option, Some, None}
use Rattle.std.specs.Borrow.{Bor}
use Rattle.std.specs.Str.Parse.{IsNumeral, digits_value, without_leading_plus}
use Rattle.batch_commands.specs.declared.asked.Arguments.{Arguments}
use Rattle.batch_commands.specs.declared.asked.Arguments.TheVariants.{Script, LoggedScript, Run, Check}

-- the text of a number: its decimal digits, after an optional plus sign
abbrev pub IsNumberText : List ℕ → ℕ → Type 0
IsNumberText text number = IsNumeral 10 (without_leading_plus text) × (number ≡ digits_value 10 (without_leading_plus text))

-- options ask for this many workers: by `--workers N` or `--workers=N`, or for 2 without an option
abbrev pub AsksFor : ℕ → List (List ℕ) → Type 0
AsksFor workers [] = workers ≡ 2
AsksFor workers (word ∷ []) = (text : List ℕ) × (word ≡ codes "--workers=" ++ text) × IsNumberText text workers
AsksFor workers (word ∷ text ∷ []) = (word ≡ codes "--workers") × IsNumberText text workers
AsksFor workers (word ∷ text ∷ other ∷ others) = ⊥

-- the options among words: a `--` at the end isn't one
abbrev pub HasOptions : List (List ℕ) → List (List ℕ) → Type 0
HasOptions options words = (words ≡ options) ⊎ (words ≡ options ++ codes "--" ∷ [])

-- the name of a file isn't empty, and doesn't begin with a hyphen
abbrev pub IsLogName : List ℕ → Type 0
IsLogName name = (first : ℕ) × (rest : List ℕ) × (name ≡ first ∷ rest) × ((first == 45) ≡ false)

-- options name a log: by `--log FILE` or `--log=FILE`
abbrev pub NamesLog : List ℕ → List (List ℕ) → Type 0
NamesLog name words = (words ≡ (codes "--log=" ++ name) ∷ []) ⊎ (words ≡ codes "--log" ∷ name ∷ [])

-- words are these options, and say whether a flag is set: it is if it stands at the begin or at the end
abbrev pub HasFlag : List ℕ → Bool → List (List ℕ) → List (List ℕ) → Type 0
HasFlag flag false options words = words ≡ options
HasFlag flag true options words = (words ≡ flag ∷ options) ⊎ (words ≡ options ++ flag ∷ [])

-- words are these options, and say by `--tags` whether lines may have tags, and by `--compact` whether the log is compacted. The
-- two stand in any order
abbrev pub HasFlags : Bool → Bool → List (List ℕ) → List (List ℕ) → Type 0
HasFlags tags compact options words =
    ((others : List (List ℕ)) × HasFlag (codes "--tags") tags others words × HasFlag (codes "--compact") compact options others)
    ⊎ ((others : List (List ℕ)) × HasFlag (codes "--compact") compact others words × HasFlag (codes "--tags") tags options others)

-- words name a file to check, or the standard input by `-` or by no word
abbrev pub NamesFile : Option (Bor (List ℕ)) → List (List ℕ) → Type 0
NamesFile None words = (words ≡ []) ⊎ (words ≡ codes "-" ∷ [])
NamesFile (Some file) words = IsLogName file.now × (words ≡ file.now ∷ [])

-- words ask to check the file of this name
abbrev pub AsksForFile : List ℕ → List (List ℕ) → Type 0
AsksForFile name words = IsLogName name × (words ≡ codes "check" ∷ name ∷ [])

-- one word asks for a script, and more words for one with a log. For a run, it is the first word; the options
-- ask for 1 to 16 workers. For a check, it is the first word, and the second one may name a file
abbrev pub IsAsked : Arguments → List (List ℕ) → Type 0
IsAsked Script words = words ≡ codes "script" ∷ []
IsAsked (LoggedScript log tags compact) words = IsLogName log.now × ((rest : List (List ℕ)) × (options : List (List ℕ)) × (words ≡ codes "script" ∷ rest) × HasFlags tags compact options rest × NamesLog log.now options)
IsAsked (Run workers) words = (1 ≤ workers) × (workers ≤ 16) × ((rest : List (List ℕ)) × (options : List (List ℕ)) × (words ≡ codes "run" ∷ rest) × HasOptions options rest × AsksFor workers options)
IsAsked (Check file) words = (rest : List (List ℕ)) × (words ≡ codes "check" ∷ rest) × NamesFile file rest

-- the words ask for no command
abbrev pub AskForNone : List (List ℕ) → Type 0
AskForNone words = (arguments : Arguments) → IsAsked arguments words → ⊥

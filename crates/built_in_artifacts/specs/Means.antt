-- The meaning of a built-in artifact to a worker.
use Rattle.std.specs.Prelude.{ℕ, zero, suc, ◌-◌, ◌==◌, ◌||◌, Bool, false, cond, length, slice_get, map, List, [], ◌∷◌, Option, Some, None}
use Rattle.std.specs.Fmt.{decimal}
use Rattle.std.specs.Str.Parse.{digits_value}
use Rattle.built_in_artifacts.specs.declared.built_in.BuiltIn.{BuiltIn}
use Rattle.built_in_artifacts.specs.declared.built_in.BuiltIn.TheVariants.{Complete, Fail, Exit, Count, Odd, Sink}
use Rattle.job_threads.specs.Meaning.{Coming, Told, Meaning}
use Rattle.job_threads.specs.Past.{Past, nothing_past}

-- this many numbers after this one
abbrev pub numbers_after : ℕ → ℕ → List ℕ
numbers_after at zero = []
numbers_after at (suc many) = suc at ∷ numbers_after (suc at) many

-- a number as an item, with the checkpoint of a reader that has read it
abbrev pub coming : ℕ → Coming
coming n = record { item = decimal n; mark = decimal n }

-- the numbers after this one, up to the last
abbrev pub up_to : ℕ → ℕ → List Coming
up_to last at = map coming (numbers_after at (last - at))

-- the number after which an open resumes
abbrev pub number_at : Option (List ℕ) → ℕ
number_at None = 0
number_at (Some mark) = digits_value 10 mark

abbrev pub is_even_digit : Option ℕ → Bool
is_even_digit None = false
is_even_digit (Some c) = (c == 48) || (c == 50) || (c == 52) || (c == 54) || (c == 56)

-- whether the last character is an even digit
abbrev pub has_even_end : List ℕ → Bool
has_even_end item = is_even_digit (slice_get item (length item - 1))

-- the exit status of a run
abbrev pub exit_of : BuiltIn → Option (List ℕ)
exit_of Complete = None
exit_of Fail = None
exit_of (Exit exit) = Some exit
exit_of (Count last) = None
exit_of Odd = None
exit_of Sink = None

-- the items that an open with this checkpoint leaves to read
abbrev pub opens_of : BuiltIn → Option (List ℕ) → List Coming
opens_of Complete at = []
opens_of Fail at = []
opens_of (Exit exit) at = []
opens_of (Count last) at = up_to last (number_at at)
opens_of Odd at = []
opens_of Sink at = []

-- the items that are left to read after this number
abbrev pub left_of : BuiltIn → ℕ → List Coming
left_of Complete at = []
left_of Fail at = []
left_of (Exit exit) at = []
left_of (Count last) at = up_to last at
left_of Odd at = []
left_of Sink at = []

-- the checkpoint after this number
abbrev pub mark_of : BuiltIn → ℕ → List ℕ
mark_of Complete at = []
mark_of Fail at = []
mark_of (Exit exit) at = []
mark_of (Count last) at = decimal at
mark_of Odd at = []
mark_of Sink at = []

-- the result of processing an item
abbrev pub gives_of : BuiltIn → List ℕ → Option (List ℕ)
gives_of Complete item = None
gives_of Fail item = None
gives_of (Exit exit) item = None
gives_of (Count last) item = None
gives_of Odd item = cond (has_even_end item) None (Some item)
gives_of Sink item = None

-- the description of an artifact, for any partition
abbrev pub told_of : BuiltIn → Told
told_of b = record { opens = opens_of b; gives = gives_of b; exit = exit_of b }

-- the meaning of an artifact that has read up to this number, with this past
abbrev pub means : BuiltIn → ℕ → Past → Meaning
means b at past =
    record {
      begins = λ _. told_of b;
      opens = opens_of b;
      left = left_of b at;
      mark = mark_of b at;
      gives = gives_of b;
      exit = exit_of b;
      holds = Some past.groups;
      open_faults = past.open_faults;
      faults = past.faults;
    }

-- the meaning of an artifact before its first call
abbrev pub fresh : BuiltIn → Meaning
fresh b = means b 0 nothing_past

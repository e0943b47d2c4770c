-- The calls that each built-in artifact is meant for, and their results. All others fault.
use Rattle.std.specs.Prelude.{ℕ, ◌≡◌, ◌+◌, nat_lt, cond, Bool, true, false, List, Option, Some, None, Result, Ok, Err, String, string_bytes, option_map}
use Rattle.std.specs.declared.alloc.Global.{Global}
use Rattle.std.specs.Fmt.{decimal}
use Rattle.job_threads.specs.declared.artifact.ArtifactFault.{ArtifactFault}
use Rattle.job_threads.specs.declared.artifact.ArtifactFault.TheVariants.{Failed, OutOfMemory}
use Rattle.built_in_artifacts.specs.declared.built_in.BuiltIn.{BuiltIn}
use Rattle.built_in_artifacts.specs.declared.built_in.BuiltIn.TheVariants.{Complete, Fail, Exit, Count, Odd, Sink}
use Rattle.built_in_artifacts.specs.Names.{IsNumber}
use Rattle.built_in_artifacts.specs.Means.{has_even_end}

-- this result, unless memory was refused
abbrev pub IsDue : Option (List ℕ) → Result (Option (List ℕ)) ArtifactFault → Type 0
IsDue wanted (Ok answer) = answer ≡ wanted
IsDue wanted (Err fault) = fault ≡ OutOfMemory

abbrev pub IsTextDue : List ℕ → Result (String Global) ArtifactFault → Type 0
IsTextDue wanted (Ok answer) = string_bytes answer ≡ wanted
IsTextDue wanted (Err fault) = fault ≡ OutOfMemory

abbrev pub IsItemDue : Option (List ℕ) → Result (Option (String Global)) ArtifactFault → Type 0
IsItemDue wanted (Ok answer) = option_map string_bytes answer ≡ wanted
IsItemDue wanted (Err fault) = fault ≡ OutOfMemory

-- the result of a run
abbrev pub RunsAs : BuiltIn → Result (Option (List ℕ)) ArtifactFault → Type 0
RunsAs Complete r = r ≡ Ok None
RunsAs Fail r = r ≡ Err Failed
RunsAs (Exit exit) r = IsDue (Some exit) r
RunsAs (Count last) r = r ≡ Err Failed
RunsAs Odd r = r ≡ Err Failed
RunsAs Sink r = r ≡ Err Failed

-- the number after which an open resumes, or its fault
abbrev pub StartsAs : BuiltIn → Option (List ℕ) → Option ℕ → Type 0
StartsAs Complete at r = r ≡ None
StartsAs Fail at r = r ≡ None
StartsAs (Exit exit) at r = r ≡ None
StartsAs (Count last) None r = r ≡ Some 0
StartsAs (Count last) (Some mark) None = (n : ℕ) → ¬ IsNumber mark n
StartsAs (Count last) (Some mark) (Some n) = IsNumber mark n
StartsAs Odd at r = r ≡ None
StartsAs Sink at r = r ≡ Some 0

-- the result of an open at this checkpoint
abbrev pub OpensAs : BuiltIn → Option (List ℕ) → Result (Unit {0}) ArtifactFault → Type 0
OpensAs Complete at r = r ≡ Err Failed
OpensAs Fail at r = r ≡ Err Failed
OpensAs (Exit exit) at r = r ≡ Err Failed
OpensAs (Count last) None r = r ≡ Ok tt
OpensAs (Count last) (Some mark) (Ok _) = (n : ℕ) × IsNumber mark n
OpensAs (Count last) (Some mark) (Err fault) = (fault ≡ Failed) × ((n : ℕ) → ¬ IsNumber mark n)
OpensAs Odd at r = r ≡ Err Failed
OpensAs Sink at r = r ≡ Ok tt

-- the next number up to the last, if there is one
abbrev pub next_of : ℕ → ℕ → Option (List ℕ)
next_of last at = cond (nat_lt at last) (Some (decimal (at + 1))) None

-- the result of a read after this number
abbrev pub ReadsAs : BuiltIn → ℕ → Result (Option (String Global)) ArtifactFault → Type 0
ReadsAs Complete at r = r ≡ Err Failed
ReadsAs Fail at r = r ≡ Err Failed
ReadsAs (Exit exit) at r = r ≡ Err Failed
ReadsAs (Count last) at r = IsItemDue (next_of last at) r
ReadsAs Odd at r = r ≡ Err Failed
ReadsAs Sink at r = r ≡ Err Failed

-- the result of processing an item
abbrev pub ProcessesAs : BuiltIn → List ℕ → Result (Option (String Global)) ArtifactFault → Type 0
ProcessesAs Complete item r = r ≡ Err Failed
ProcessesAs Fail item r = r ≡ Err Failed
ProcessesAs (Exit exit) item r = r ≡ Err Failed
ProcessesAs (Count last) item r = r ≡ Err Failed
ProcessesAs Odd item r = IsItemDue (cond (has_even_end item) None (Some item)) r
ProcessesAs Sink item r = r ≡ Err Failed

-- whether an artifact is a writer, which takes groups
abbrev pub is_writer : BuiltIn → Bool
is_writer Complete = false
is_writer Fail = false
is_writer (Exit exit) = false
is_writer (Count last) = false
is_writer Odd = false
is_writer Sink = true

-- the result of writing a group
abbrev pub WritesAs : BuiltIn → Result (Unit {0}) ArtifactFault → Type 0
WritesAs b r = r ≡ cond (is_writer b) (Ok tt) (Err Failed)

-- the result of asking for the checkpoint after this number
abbrev pub MarksAs : BuiltIn → ℕ → Result (String Global) ArtifactFault → Type 0
MarksAs Complete at r = r ≡ Err Failed
MarksAs Fail at r = r ≡ Err Failed
MarksAs (Exit exit) at r = r ≡ Err Failed
MarksAs (Count last) at r = IsTextDue (decimal at) r
MarksAs Odd at r = r ≡ Err Failed
MarksAs Sink at r = r ≡ Err Failed

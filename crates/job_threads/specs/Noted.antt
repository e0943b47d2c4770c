-- The past of an artifact, one call after another.
use Rattle.std.specs.Prelude.{◌+◌, ◌++◌, ◌∷◌, [], map, string_bytes}
use Rattle.job_threads.specs.declared.past.Happening.{Happening}
use Rattle.job_threads.specs.declared.past.Happening.TheVariants.{Took, OpenFault, Fault}
use Rattle.job_threads.specs.declared.past.History.{History}
use Rattle.job_threads.specs.declared.past.History.TheVariants.{Nothing, Then}
use Rattle.job_threads.specs.Past.{Past, nothing_past}

-- a past with one more call
abbrev pub noted : Past → Happening → Past
noted p (Took items) = record p { groups = p.groups ++ map string_bytes items.now ∷ [] }
noted p OpenFault = record p { open_faults = p.open_faults + 1 }
noted p Fault = record p { faults = p.faults + 1 }

-- the past that a history describes
abbrev pub past_in : History → Past
past_in Nothing = nothing_past
past_in (Then before happening) = noted before.now.told happening

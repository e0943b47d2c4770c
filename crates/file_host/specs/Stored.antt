-- The form in which proofs store a step.
use Rattle.std.specs.Prelude.{ℕ, ◌⊎◌, List, Bool, refl, ◌≡◌}
use Rattle.std.specs.Coded.{Coded, code_by, coded×, coded⊎, coded_ℕ, coded_bool, coded_list}
use mathlib.Core.Logic.{inl, inr}
use Rattle.log_host.specs.Past.{Call}
use Rattle.file_host.specs.declared.steps.Part.{Part}
use Rattle.file_host.specs.declared.steps.Deed.{Deed}
use Rattle.file_host.specs.contracts.steps.Part as parts
use Rattle.file_host.specs.contracts.steps.Deed as deeds
use Rattle.file_host.specs.Steps.{Step, Id, Did, Is, Stands, Wrote, Made, Ended}

abbrev Write : Type 0
Write = Part × (ℕ × (List ℕ × Bool))

abbrev Stored : Type 0
Stored = ((Deed × (Part × Bool)) ⊎ Write) ⊎ (((Part × Id) ⊎ (Part × Id)) ⊎ (Call ⊎ Call))

abbrev stored : Step → Stored
stored (Did d p ok) = inl (inl (d, (p, ok)))
stored (Wrote p at bytes ok) = inl (inr (p, (at, (bytes, ok))))
stored (Is p id) = inr (inl (inl (p, id)))
stored (Stands p id) = inr (inl (inr (p, id)))
stored (Made call) = inr (inr (inl call))
stored (Ended call) = inr (inr (inr call))

abbrev step : Stored → Step
step (inl (inl s)) = Did s.0 s.1.0 s.1.1
step (inl (inr s)) = Wrote s.0 s.1.0 s.1.1.0 s.1.1.1
step (inr (inl (inl s))) = Is s.0 s.1
step (inr (inl (inr s))) = Stands s.0 s.1
step (inr (inr (inl call))) = Made call
step (inr (inr (inr call))) = Ended call

pub back : (s : Step) → step (stored s) ≡ s
back (Did d p ok) = refl
back (Wrote p at bytes ok) = refl
back (Is p id) = refl
back (Stands p id) = refl
back (Made call) = refl
back (Ended call) = refl

abbrev id_code : Coded (Part × Id)
id_code = coded× (parts.the_row).coded (coded× coded_ℕ (coded× coded_ℕ coded_bool))

abbrev call_code : Coded Call
call_code = coded× coded_ℕ (coded× coded_ℕ (coded× (coded_list coded_ℕ) coded_ℕ))

abbrev write_code : Coded Write
write_code = coded× (parts.the_row).coded (coded× coded_ℕ (coded× (coded_list coded_ℕ) coded_bool))

abbrev deed_code : Coded (Deed × (Part × Bool))
deed_code = coded× (deeds.the_row).coded (coded× (parts.the_row).coded coded_bool)

abbrev pub step_code : Coded Step
step_code = code_by Stored (coded⊎ (coded⊎ deed_code write_code) (coded⊎ (coded⊎ id_code id_code) (coded⊎ call_code call_code))) stored step back

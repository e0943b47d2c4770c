-- The past of an artifact, as proofs store it.
use Rattle.std.specs.Prelude.{ℕ, List, [], refl}
use Rattle.std.specs.Coded.{Coded, code_by, coded×, coded_ℕ, coded_list}

-- the groups that the artifact took, the number of its begins and opens that faulted, and of its other calls
-- that did
pub record Past : Type 0 where
  pub groups : List (List (List ℕ))
  pub open_faults : ℕ
  pub faults : ℕ

-- the past before the first call
abbrev pub nothing_past : Past
nothing_past = record { groups = []; open_faults = 0; faults = 0 }

-- a past is stored as the tuple of its parts
abbrev pub past_code : Coded Past
past_code = code_by (List (List (List ℕ)) × (ℕ × ℕ)) (coded× (coded_list (coded_list (coded_list coded_ℕ))) (coded× coded_ℕ coded_ℕ)) (λ t. (t.groups, (t.open_faults, t.faults))) (λ p. record { groups = p.0; open_faults = p.1.0; faults = p.1.1 }) (λ _. refl)

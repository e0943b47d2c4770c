-- The form in which proofs store the past of a device.
use Rattle.std.specs.Prelude.{ℕ, List, [], Option, Some, refl}
use Rattle.std.specs.Coded.{Coded, code_by, coded×, coded_ℕ, coded_list}
use Rattle.script_lines.specs.Device.{Told, Held}

-- the bytes that a device delivered or took, how often it reported its end, failed, was called, and was
-- called with too little room
pub record Past : Type 0 where
  pub bytes : List ℕ
  pub ends : ℕ
  pub failures : ℕ
  pub calls : ℕ
  pub narrow : ℕ

-- the past before the first call
abbrev pub nothing_past : Past
nothing_past = record { bytes = []; ends = 0; failures = 0; calls = 0; narrow = 0 }

-- the past of a reader that has these bytes left
abbrev pub told_by : Past → Option (List ℕ) → Told
told_by p left = record { bytes = p.bytes; ends = p.ends; failures = p.failures; calls = p.calls; narrow = p.narrow; left = left }

-- the past of a reader of bytes in memory that has these left: it never failed
abbrev pub told_in_memory : Past → List ℕ → Told
told_in_memory p rest = record { bytes = p.bytes; ends = p.ends; failures = 0; calls = p.calls; narrow = p.narrow; left = Some rest }

-- the past of a writer with these contents
abbrev pub held_by : Past → Option (List ℕ) → Held
held_by p contents = record { bytes = p.bytes; failures = p.failures; contents = contents }

-- a past is stored as the tuple of its parts
abbrev pub past_code : Coded Past
past_code = code_by (List ℕ × (ℕ × (ℕ × (ℕ × ℕ)))) (coded× (coded_list coded_ℕ) (coded× coded_ℕ (coded× coded_ℕ (coded× coded_ℕ coded_ℕ)))) (λ t. (t.bytes, (t.ends, (t.failures, (t.calls, t.narrow))))) (λ p. record { bytes = p.0; ends = p.1.0; failures = p.1.1.0; calls = p.1.1.1.0; narrow = p.1.1.1.1 }) (λ _. refl)

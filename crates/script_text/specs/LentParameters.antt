-- Parameters borrowed from the text of their line.
use Rattle.std.specs.Prelude.{ℕ, List, map}
use Rattle.std.specs.Borrow.{Bor}
use Rattle.lent_json.specs.Kinds.{text_of}
use Rattle.lent_json.specs.declared.flat.Scalar.{Scalar}
use Rattle.batch_ids.specs.Parameters.{Pair}

-- the name and the text of each of these members, in the order of the line
abbrev pub lent_pairs : List (Bor (List ℕ) × Scalar) → List Pair
lent_pairs ms = map (λ m. (m.0.now, text_of m.1)) ms

-- The kinds of scalars.
use Rattle.std.specs.Prelude.{ℕ, ◌&&◌, not, nat_eq, length, List, [], Bool, true, false}
use Rattle.std.specs.Borrow.{Bor}
use Rattle.std.specs.List.{list_all}
use Rattle.lent_json.specs.declared.flat.Scalar.{Scalar}
use Rattle.lent_json.specs.declared.flat.Scalar.TheVariants.{Null, Truth, Count, Text}

-- the text, or the empty one if it is no text
abbrev pub text_of : Scalar → List ℕ
text_of Null = []
text_of (Truth b) = []
text_of (Count n) = []
text_of (Text text) = text.now

-- whether it is a text
abbrev pub is_text : Scalar → Bool
is_text Null = false
is_text (Truth b) = false
is_text (Count n) = false
is_text (Text text) = true

-- whether it is a whole number
abbrev pub is_count : Scalar → Bool
is_count Null = false
is_count (Truth b) = false
is_count (Count n) = true
is_count (Text text) = false

-- whether each of these is a text
abbrev pub all_texts : List (Bor (List ℕ) × Scalar) → Bool
all_texts ms = list_all (λ m. is_text m.1) ms

-- whether these are whole numbers, at least one
abbrev pub are_counts : List (Bor (List ℕ) × Scalar) → Bool
are_counts ms = not (nat_eq (length ms) 0) && list_all (λ m. is_count m.1) ms

-- The texts that a pattern matches. A pattern, a text and a piece of a text are lists of characters; 42 is
-- `*` and 63 is `?`.
use Rattle.std.specs.Prelude.{◌≡◌, ◌≢◌, ◌⊎◌, ◌==◌, ◌||◌, ◌&&◌, ℕ, Bool, true, false, List, [], ◌∷◌, length, if◌then◌else◌}
use Rattle.std.specs.List.{concat, AllZip}

-- a character of a pattern matches a piece of the text: `*` any piece, `?` a piece of one character, and any
-- other character the piece that is this character alone
abbrev pub Faces : ℕ → List ℕ → Type 0
Faces c piece = (c ≡ 42) ⊎ (c ≡ 63) × (length piece ≡ 1) ⊎ (c ≢ 42) × (c ≢ 63) × (piece ≡ c ∷ [])

-- the text can be cut into as many pieces as the pattern has characters, and each character matches its piece
unfoldable pub Matches : List ℕ → List ℕ → Type 0
Matches pattern text = (pieces : List (List ℕ)) × (concat pieces ≡ text) × AllZip Faces pattern pieces

-- whether some suffix of the text passes a test
unfoldable pub some_end : (List ℕ → Bool) → List ℕ → Bool
some_end passes [] = passes []
some_end passes (d ∷ ds) = passes (d ∷ ds) || some_end passes ds

-- whether the text has a first character that `c` matches, and the rest passes a test
unfoldable pub faced_first : ℕ → (List ℕ → Bool) → List ℕ → Bool
faced_first c passes [] = false
faced_first c passes (d ∷ ds) = (c == 63 || c == d) && passes ds

abbrev is_nil : List ℕ → Bool
is_nil [] = true
is_nil (d ∷ ds) = false

-- whether the text matches the pattern
unfoldable pub is_match : List ℕ → List ℕ → Bool
is_match [] text = is_nil text
is_match (c ∷ cs) text = if c == 42 then some_end (is_match cs) text else faced_first c (is_match cs) text

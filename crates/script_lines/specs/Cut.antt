-- The lines of a text.
use Rattle.std.specs.Prelude.{ℕ, ◌==◌, List, [], ◌∷◌, Bool, if◌then◌else◌}
use Rattle.std.specs.List.{list_any}

-- the lines, with a byte before the first
abbrev pub grow : ℕ → List (List ℕ) → List (List ℕ)
grow b [] = (b ∷ []) ∷ []
grow b (line ∷ lines) = (b ∷ line) ∷ lines

-- the lines of a text: each ends with a line feed, which the last one may lack if it isn't empty
unfoldable pub lines_of : List ℕ → List (List ℕ)
lines_of [] = []
lines_of (b ∷ bytes) = if b == 10 then [] ∷ lines_of bytes else grow b (lines_of bytes)

-- the whole lines, with a byte before the first if there is one
abbrev pub grow_whole : ℕ → List (List ℕ) → List (List ℕ)
grow_whole b [] = []
grow_whole b (line ∷ lines) = (b ∷ line) ∷ lines

-- the lines that have their line feed
unfoldable pub whole_lines : List ℕ → List (List ℕ)
whole_lines [] = []
whole_lines (b ∷ bytes) = if b == 10 then [] ∷ whole_lines bytes else grow_whole b (whole_lines bytes)

-- whether the bytes have a line feed
abbrev pub has_feed : List ℕ → Bool
has_feed bytes = list_any (λ b. b == 10) bytes

-- no line at all counts as one empty line
abbrev pub at_least_one : List (List ℕ) → List (List ℕ)
at_least_one [] = [] ∷ []
at_least_one (line ∷ lines) = line ∷ lines

-- the lines of a script, which has a first line even if nothing was written
abbrev pub script_lines : List ℕ → List (List ℕ)
script_lines input = at_least_one (lines_of input)

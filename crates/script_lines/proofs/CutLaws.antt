-- How a text is cut at its first line feed.
use Rattle.std.proofs.Common.{◌≡◌, ◌∙◌, ℕ, List, [], ◌∷◌, ◌++◌, ◌==◌, false, cond, refl, ap}
use Rattle.std.proofs.lemmas.Bool.{or_parts}
use Rattle.script_lines.specs.Cut.{grow, lines_of, grow_whole, whole_lines, has_feed}

-- a byte that is no line feed grows the first line
lines_of-grow : (b : ℕ) (bs : List ℕ) → (b == 10) ≡ false → lines_of (b ∷ bs) ≡ grow b (lines_of bs)
unfolding lines_of
lines_of-grow b bs h = ap (λ t. cond t ([] ∷ lines_of bs) (grow b (lines_of bs))) h

whole_lines-grow : (b : ℕ) (bs : List ℕ) → (b == 10) ≡ false → whole_lines (b ∷ bs) ≡ grow_whole b (whole_lines bs)
unfolding whole_lines
whole_lines-grow b bs h = ap (λ t. cond t ([] ∷ whole_lines bs) (grow_whole b (whole_lines bs))) h

-- nothing has no lines
pub lines_of-nil : lines_of [] ≡ []
unfolding lines_of
lines_of-nil = refl

-- a line is cut off at the first line feed
pub lines_of-cut : (line rest : List ℕ) → has_feed line ≡ false → lines_of (line ++ 10 ∷ rest) ≡ line ∷ lines_of rest
unfolding lines_of
lines_of-cut [] rest h = refl
lines_of-cut (b ∷ bs) rest h =
    let p = or_parts (b == 10) (has_feed bs) h in
    lines_of-grow b (bs ++ 10 ∷ rest) p.0 ∙ ap (grow b) (lines_of-cut bs rest p.1)

-- bytes with no line feed are one line, the last
pub lines_of-last : (b : ℕ) (bs : List ℕ) → has_feed (b ∷ bs) ≡ false → lines_of (b ∷ bs) ≡ (b ∷ bs) ∷ []
lines_of-last b [] h =
    let p = or_parts (b == 10) false h in
    lines_of-grow b [] p.0 ∙ ap (grow b) lines_of-nil
lines_of-last b (x ∷ xs) h =
    let p = or_parts (b == 10) (has_feed (x ∷ xs)) h in
    lines_of-grow b (x ∷ xs) p.0 ∙ ap (grow b) (lines_of-last x xs p.1)

-- a whole line is cut off at the first line feed
pub whole_lines-cut : (line rest : List ℕ) → has_feed line ≡ false → whole_lines (line ++ 10 ∷ rest) ≡ line ∷ whole_lines rest
unfolding whole_lines
whole_lines-cut [] rest h = refl
whole_lines-cut (b ∷ bs) rest h =
    let p = or_parts (b == 10) (has_feed bs) h in
    whole_lines-grow b (bs ++ 10 ∷ rest) p.0 ∙ ap (grow_whole b) (whole_lines-cut bs rest p.1)

-- bytes with no line feed have no whole line
pub whole_lines-none : (bytes : List ℕ) → has_feed bytes ≡ false → whole_lines bytes ≡ []
unfolding whole_lines
whole_lines-none [] h = refl
whole_lines-none (b ∷ bs) h =
    let p = or_parts (b == 10) (has_feed bs) h in
    whole_lines-grow b bs p.0 ∙ ap (grow_whole b) (whole_lines-none bs p.1)

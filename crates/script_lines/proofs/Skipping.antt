-- What is left of a chunk when some of it was used.
use Rattle.std.proofs.Common.{◌≡◌, ◌∙◌, ℕ, ◌+◌, ◌-◌, ◌≤◌, List, length, take, drop, sym, ap, arith}
use Rattle.std.proofs.lemmas.List.{length-take, drop-take, drop-drop}

-- bytes of a front are no more than the front
pub within_take : (n k : ℕ) (bytes : List ℕ) → k ≤ length (take n bytes) → k ≤ n
within_take n k bytes h = omega (arith, length-take n bytes)

-- what is behind a place of what is there
pub used_up_to : (chunk : List ℕ) (start end count : ℕ) → count ≤ end - start → take (end - (start + count)) (drop (start + count) chunk) ≡ drop count (take (end - start) (drop start chunk))
used_up_to chunk start end count h =
    let left = end - (start + count) in
    let parts : end - start ≡ count + left = omega arith in
    ap (take left) (sym (drop-drop count start chunk)) ∙ sym (drop-take count left (drop start chunk)) ∙ ap (λ n. drop count (take n (drop start chunk))) (sym parts)

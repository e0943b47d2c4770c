-- Lists of words.
use Rattle.std.proofs.Common.{◌≡◌, ◌∙◌, ◌-◌, ◌+◌, ◌∷◌, ◌++◌, [], IsTrue, map, ℕ, ◌≤◌, length, take, drop, get_or, Bool, List, Bor, ap, sym, zero, suc, arith}
use Rattle.std.proofs.Math.Seq.{take-length}
use Rattle.std.specs.Str.{bytes_eq}
use Rattle.std.proofs.lemmas.Slice.Eq.{bytes_eq-Decides}

-- all words but the first
words_behind : (w : Bor (List ℕ)) (others : List (Bor (List ℕ))) → take (length (w ∷ others) - 1) (drop 1 (w ∷ others)) ≡ others
words_behind w others =
    let n : length (w ∷ others) - 1 ≡ length others = omega arith in
    ap (λ m. take m others) n ∙ take-length others

-- where the first word is this text, the list of words begins with it
pub first_word : (words : List (Bor (List ℕ))) (d : Bor (List ℕ)) (text : List ℕ) (b : Bool) → 1 ≤ length words
    → b ≡ bytes_eq (get_or words 0 d).now text → IsTrue b
    → map (λ (w : Bor (List ℕ)). w.now) words ≡ text ∷ map (λ (w : Bor (List ℕ)). w.now) (take (length words - 1) (drop 1 words))
first_word [] d text b some e t = absurd (omega arith)
first_word (w ∷ others) d text b some e t =
    ap (λ bytes. bytes ∷ map (λ (w : Bor (List ℕ)). w.now) others) ((bytes_eq-Decides w.now text).0 (sym e ∙ t))
    ∙ ap (λ rest. text ∷ map (λ (w : Bor (List ℕ)). w.now) rest) (sym (words_behind w others))

last_word_at : (n : ℕ) (words : List (Bor (List ℕ))) (d : Bor (List ℕ)) (text : List ℕ) → length words ≡ n + 1 → (get_or words n d).now ≡ text
    → map (λ (w : Bor (List ℕ)). w.now) words ≡ map (λ (w : Bor (List ℕ)). w.now) (take n words) ++ text ∷ []
last_word_at n [] d text e is = absurd (omega (arith, e))
last_word_at zero (w ∷ []) d text e is = ap (λ bytes. bytes ∷ []) is
last_word_at zero (w ∷ x ∷ rest) d text e is = absurd (omega (arith, e))
last_word_at (suc n) (w ∷ others) d text e is = ap (λ bytes. w.now ∷ bytes) (last_word_at n others d text (omega (arith, e)) is)

-- where the last word is this text, the list of words ends with it
pub last_word : (words : List (Bor (List ℕ))) (d : Bor (List ℕ)) (text : List ℕ) (b : Bool) → 1 ≤ length words
    → b ≡ bytes_eq (get_or words (length words - 1) d).now text → IsTrue b
    → map (λ (w : Bor (List ℕ)). w.now) words ≡ map (λ (w : Bor (List ℕ)). w.now) (take (length words - 1) words) ++ text ∷ []
last_word words d text b some e t = last_word_at (length words - 1) words d text (omega (arith, some)) ((bytes_eq-Decides _ text).0 (sym e ∙ t))

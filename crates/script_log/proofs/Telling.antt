-- Pieces of a text, told one behind the other.
use Rattle.std.proofs.Common.{◌≡◌, ℕ, zero, suc, ◌+◌, ◌-◌, ◌≤◌, List, [], ◌∷◌, ◌++◌, length, take, drop, refl, sym, ◌∙◌, ap, arith, append_assoc, length-drop}
use Rattle.std.proofs.lemmas.List.{take_all}
use Rattle.durable_log.specs.Format.{LogRecord}
use Rattle.durable_log.specs.Logs.{Told}

-- the range from a place to the end
abbrev pub range_from : ℕ → List ℕ → List ℕ
range_from n l = take (length l - n) (drop n l)

pub range-drop : (n : ℕ) (l : List ℕ) → range_from n l ≡ drop n l
range-drop n l = take_all (length l - n) (drop n l) (omega (arith, length-drop n l))

take-none : (n : ℕ) → take {A = ℕ} n [] ≡ []
take-none zero = refl
take-none (suc n) = refl

pub told-within : (n at : ℕ) (text : List ℕ) → at ≤ length text → n ≤ length (range_from at text) → at + n ≤ length text
told-within n at text within less = omega (arith, ap length (range-drop at text), length-drop at text)

pub take-two : (m n k : ℕ) (l : List ℕ) → k ≡ m + n → take k l ≡ take m l ++ take n (drop m l)
take-two zero n k l is = let same : k ≡ n = omega arith in ap (λ (j : ℕ). take j l) same
take-two (suc m) n zero l is = absurd (omega arith)
take-two (suc m) n (suc k) [] is = sym (take-none n)
take-two (suc m) n (suc k) (x ∷ l) is = ap (λ (t : List ℕ). x ∷ t) (take-two m n k l (omega arith))

-- what was heard of the rest was heard of the whole
pub told-whole : (records : List LogRecord) (start heard text : List ℕ) (at : ℕ) (file o : List ℕ) → heard ≡ start ++ take at text
    → Told records heard (range_from at text) file o → Told records start text file o
told-whole records start heard text at file o is told = (
  told.0,
  (
    at + told.1.0,
    told.1.1 ∙ ap (λ (l : List ℕ). l ++ take told.1.0 (range_from at text)) is ∙ append_assoc start (take at text) (take told.1.0 (range_from at text))
        ∙ ap (λ (l : List ℕ). start ++ l) (ap (λ (l : List ℕ). take at text ++ take told.1.0 l) (range-drop at text) ∙ sym (take-two at told.1.0 (at + told.1.0) text refl)),
  ),
)

pub told-more : (start heard now text : List ℕ) (at n : ℕ) → heard ≡ start ++ take at text → now ≡ heard ++ take n (range_from at text) → now ≡ start ++ take (at + n) text
told-more start heard now text at n is told =
    told ∙ ap (λ (l : List ℕ). l ++ take n (range_from at text)) is ∙ append_assoc start (take at text) (take n (range_from at text))
    ∙ ap (λ (l : List ℕ). start ++ l) (ap (λ (l : List ℕ). take at text ++ take n l) (range-drop at text) ∙ sym (take-two at n (at + n) text refl))

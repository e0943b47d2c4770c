-- The test of a match says exactly that the text can be cut into the pattern's pieces.
use Rattle.std.proofs.Common.{◌≡◌, ◌≢◌, ◌==◌, ◌||◌, ◌&&◌, ℕ, Bool, true, false, cond, List, [], ◌∷◌, ◌++◌, ◌↔◌, inl, inr, refl, sym, ap, ◌∙◌, subst, IsTrue}
use Rattle.std.proofs.lemmas.Bool.{eqb-true, eq-eqb, ne_eqb, or_cases, or_right, and_parts, false_from_ne_true}
use Rattle.std.proofs.lemmas.Bool.Decides.{eqb_tells}
use Rattle.transitions.specs.Patterns.{Matches, some_end, faced_first, is_match}
use Rattle.transitions.proofs.Cuts.{Takes, Matches-nil, nil_from_Matches, one_from_Matches, Matches-one, star_from_Matches, Matches-star}

-- an end of a text
record HasEnd (passes : List ℕ → Bool) (text : List ℕ) : Type 0 where
  front : List ℕ
  rest : List ℕ
  whole : front ++ rest ≡ text
  passed : passes rest ≡ true

end_from : (passes : List ℕ → Bool) (text : List ℕ) → some_end passes text ≡ true → HasEnd passes text
unfolding some_end
end_from passes [] h = record { front = []; rest = []; whole = refl; passed = h }
end_from passes (d ∷ ds) h = elim (or_cases (passes (d ∷ ds)) (some_end passes ds) h) [
  | inl here ↦ record { front = []; rest = d ∷ ds; whole = refl; passed = here }
  | inr later ↦ (let e = end_from passes ds later in record { front = d ∷ e.front; rest = e.rest; whole = ap (λ t. d ∷ t) e.whole; passed = e.passed })
]

end_at : (passes : List ℕ → Bool) (front rest : List ℕ) → passes rest ≡ true → some_end passes (front ++ rest) ≡ true
unfolding some_end
end_at passes [] [] h = h
end_at passes [] (d ∷ ds) h = ap (λ b. b || some_end passes ds) h
end_at passes (d ∷ ds) rest h = or_right (passes (d ∷ (ds ++ rest))) (some_end passes (ds ++ rest)) (end_at passes ds rest h)

takes_from : (c d : ℕ) → (c == 63 || c == d) ≡ true → Takes c d
takes_from c d h = elim (or_cases (c == 63) (c == d) h) [
  | inl e ↦ inl (eqb-true c 63 e)
  | inr e ↦ inr (eqb-true c d e)
]

taken_test : (c d : ℕ) → Takes c d → (c == 63 || c == d) ≡ true
taken_test c d k = elim k [
  | inl e ↦ ap (λ b. b || c == d) (eq-eqb c 63 e)
  | inr e ↦ or_right (c == 63) (c == d) (eq-eqb c d e)
]

star_test : (cs text : List ℕ) (c : ℕ) → c ≡ 42 → is_match (c ∷ cs) text ≡ some_end (is_match cs) text
unfolding is_match
star_test cs text c e = ap (λ b. cond b (some_end (is_match cs) text) (faced_first c (is_match cs) text)) (eq-eqb c 42 e)

one_test : (cs text : List ℕ) (c : ℕ) → c ≢ 42 → is_match (c ∷ cs) text ≡ faced_first c (is_match cs) text
unfolding is_match
one_test cs text c n = ap (λ b. cond b (some_end (is_match cs) text) (faced_first c (is_match cs) text)) (ne_eqb c 42 n)

faced_from : (cs text : List ℕ) (c : ℕ) → c ≢ 42 → ((rest : List ℕ) → is_match cs rest ≡ true → Matches cs rest)
    → faced_first c (is_match cs) text ≡ true → Matches (c ∷ cs) text
unfolding faced_first
faced_from cs [] c n on h = cc
faced_from cs (d ∷ ds) c n on h =
    let b = and_parts (c == 63 || c == d) (is_match cs ds) h in
    Matches-one c d cs ds n (takes_from c d b.0) (on ds b.1)

-- a text that passes the test can be cut
pub Matches-from_test : (pattern text : List ℕ) → is_match pattern text ≡ true → Matches pattern text
unfolding is_match
Matches-from_test [] [] h = Matches-nil
Matches-from_test [] (d ∷ ds) h = cc
Matches-from_test (c ∷ cs) text h = elim (eqb_tells c 42) [
  | inl t ↦ (let e = end_from (is_match cs) text (sym (star_test cs text c t.1) ∙ h) in
      let m = Matches-star cs e.front e.rest (Matches-from_test cs e.rest e.passed) in
      subst (λ (p : ℕ). Matches (p ∷ cs) text) (sym t.1) (subst (λ (x : List ℕ). Matches (42 ∷ cs) x) e.whole m))
  | inr t ↦ faced_from cs text c t.1 (λ rest k. Matches-from_test cs rest k) (sym (one_test cs text c t.1) ∙ h)
]

-- a text that can be cut passes the test
pub test_from_Matches : (pattern text : List ℕ) → Matches pattern text → is_match pattern text ≡ true
unfolding is_match faced_first
test_from_Matches [] [] m = refl
test_from_Matches [] (d ∷ ds) m = let n = nil_from_Matches (d ∷ ds) m in cc
test_from_Matches (c ∷ cs) text m = elim (eqb_tells c 42) [
  | inl t ↦ (let s = star_from_Matches cs text (subst (λ p. Matches (p ∷ cs) text) t.1 m) in
      star_test cs text c t.1 ∙ (ap (some_end (is_match cs)) (sym s.2) ∙ end_at (is_match cs) s.0 s.1 (test_from_Matches cs s.1 s.3)))
  | inr t ↦ (let o = one_from_Matches c cs text t.1 m in
      one_test cs text c t.1 ∙ (ap (faced_first c (is_match cs)) o.2
      ∙ (ap (λ b. b && is_match cs o.1) (taken_test c o.0 o.3) ∙ test_from_Matches cs o.1 o.4)))
]

-- so a test that tells whether the text can be cut is the test
pub same_test : (b : Bool) (pattern text : List ℕ) → (IsTrue b ↔ Matches pattern text) → b ≡ is_match pattern text
same_test true pattern text e = sym (test_from_Matches pattern text (e.0 refl))
same_test false pattern text e = sym (false_from_ne_true (is_match pattern text) (λ h. let f : false ≡ true = e.1 (Matches-from_test pattern text h) in cc))

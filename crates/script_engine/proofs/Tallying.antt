-- The counts of a script with one line more.
use Rattle.std.proofs.Common.{◌≡◌, ◌∙◌, ℕ, ◌+◌, List, [], ◌∷◌, ◌++◌, Bool, true, false, cond, refl, sym, ap, arith}
use Rattle.std.specs.Prelude.{min, count_by}
use Rattle.std.proofs.lemmas.List.Sums.{sum_by_push}
use Rattle.script_engine.specs.declared.summary.Kind.{Kind}
use Rattle.script_engine.specs.declared.summary.Kind.TheVariants.{Empty, Accepted, Refused, Bad}
use Rattle.script_engine.specs.declared.summary.Summary.{Summary}
use Rattle.script_engine.specs.Summaries.{has_reply, is_refused, is_bad, at_most_64_bits, tally, counted}

-- a count that stays within its bound, with one more
bound-more : (n m : ℕ) → min (min n m + 1) m ≡ min (n + 1) m
bound-more n m = omega arith

-- one more of a kind
one-more : (p : Kind → Bool) (ks : List Kind) (k : Kind) → p k ≡ true → at_most_64_bits (at_most_64_bits (count_by p ks) + 1) ≡ at_most_64_bits (count_by p (ks ++ k ∷ []))
one-more p ks k is = bound-more (count_by p ks) _ ∙ ap at_most_64_bits (ap (λ b. count_by p ks + cond b 1 0) (sym is) ∙ sym (sum_by_push (λ x. cond (p x) 1 0) ks k))

-- none more of a kind
none-more : (p : Kind → Bool) (ks : List Kind) (k : Kind) → p k ≡ false → at_most_64_bits (count_by p ks) ≡ at_most_64_bits (count_by p (ks ++ k ∷ []))
none-more p ks k is = ap at_most_64_bits (omega arith ∙ ap (λ b. count_by p ks + cond b 1 0) (sym is) ∙ sym (sum_by_push (λ x. cond (p x) 1 0) ks k))

abbrev told : ℕ → ℕ → ℕ → ℕ → Summary
told lines entries refusals bad = record { lines = lines; entries = entries; refusals = refusals; bad = bad }

same-counts : (a n b c a' n' b' c' : ℕ) → a ≡ a' → n ≡ n' → b ≡ b' → c ≡ c' → told a n b c ≡ told a' n' b' c'
same-counts a n b c a' n' b' c' x w y z = rw (x, w, y, z) refl

-- nothing is counted yet
pub nothing-counted : (s : Summary) → (s.lines ≡ 0) × ((s.entries ≡ 0) × ((s.refusals ≡ 0) × (s.bad ≡ 0))) → s ≡ tally []
nothing-counted s e = same-counts s.lines s.entries s.refusals s.bad 0 0 0 0 e.0 e.1.0 e.1.1.0 e.1.1.1

pub one-line-more : (ks : List Kind) (k : Kind) → counted k (tally ks) ≡ tally (ks ++ k ∷ [])
one-line-more ks Empty = same-counts _ _ _ _ _ _ _ _ (none-more has_reply ks Empty refl) refl (none-more is_refused ks Empty refl) (none-more is_bad ks Empty refl)
one-line-more ks Accepted = same-counts _ _ _ _ _ _ _ _ (one-more has_reply ks Accepted refl) refl (none-more is_refused ks Accepted refl) (none-more is_bad ks Accepted refl)
one-line-more ks Refused = same-counts _ _ _ _ _ _ _ _ (one-more has_reply ks Refused refl) refl (one-more is_refused ks Refused refl) (none-more is_bad ks Refused refl)
one-line-more ks Bad = same-counts _ _ _ _ _ _ _ _ (one-more has_reply ks Bad refl) refl (none-more is_refused ks Bad refl) (one-more is_bad ks Bad refl)

-- One pass with a place to go back to: what is left of the pattern and of the text, and where the last star was tried.
use Rattle.std.proofs.Common.{◌≡◌, ◌≢◌, ℕ, ◌+◌, ◌*◌, ◌≤◌, ◌<◌, List, [], ◌∷◌, ◌++◌, length, ◌↔◌, refl, sym, ap, ◌∙◌, arith, append_assoc, length-append}
use Rattle.transitions.specs.Patterns.{Matches}
use Rattle.transitions.proofs.Cuts.{Takes, one_from_Matches, Matches-one, star_from_Matches, Matches-star, star_iff, star_at_end, star_here}
use Rattle.std.proofs.Math.Nat.{mul-le-mul_right}
use Rattle.std.proofs.Common.{Option, None, Some, Bor}
use Rattle.std.specs.Str.{chars}

-- from the pattern and the text p t one comes to the rests q u by characters that are no stars, each over one character
pub data Walked (p t : List ℕ) : List ℕ → List ℕ → Type 0 where
  here : Walked p t p t
  step : {c d : ℕ} {q u : List ℕ} → Walked p t (c ∷ q) (d ∷ u) → c ≢ 42 → Takes c d → Walked p t q u

pub Walked-shorter : (p t q u : List ℕ) → Walked p t q u → (length q ≤ length p) × (length u ≤ length t)
Walked-shorter p t q u here = (omega arith, omega arith)
Walked-shorter p t q u (step {c = c} {d = d} w n k) = let h = Walked-shorter p t (c ∷ q) (d ∷ u) w in (omega arith, omega arith)

-- so the rests match exactly where the whole does
pub Walked-from : (p t q u : List ℕ) → Walked p t q u → Matches p t → Matches q u
Walked-from p t q u here m = m
Walked-from p t q u (step {c = c} {d = d} w n k) m =
    let o = one_from_Matches c q (d ∷ u) n (Walked-from p t (c ∷ q) (d ∷ u) w m) in
    let e = o.2 in let same : o.1 ≡ u = cc in let h = o.4 in rw same at h

pub Walked-back : (p t q u : List ℕ) → Walked p t q u → Matches q u → Matches p t
Walked-back p t q u here m = m
Walked-back p t q u (step {c = c} {d = d} w n k) m = Walked-back p t (c ∷ q) (d ∷ u) w (Matches-one c d q u n k m)

-- wherever else in the text the pattern is tried, what is left then is an end of that text, matched by the rest q
reached : (p t q u v : List ℕ) → Walked p t q u → Matches p v → length v ≤ length t
    → (front : List ℕ) × (rest : List ℕ) × (front ++ rest ≡ v) × (length rest ≤ length u) × Matches q rest
reached p t q u v here m l = ([], v, refl, l, m)
reached p t q u v (step {c = c} {d = d} w n k) m l =
    let r = reached p t (c ∷ q) (d ∷ u) v w m l in
    let o = one_from_Matches c q r.1 n r.4 in (
      r.0 ++ o.0 ∷ [],
      o.1,
      (rw append_assoc (ap (λ x. r.0 ++ x) (sym o.2) ∙ r.2)),
      (let e = ap length o.2 in let b = r.3 in omega arith),
      o.4,
    )

-- what the walk has passed of the text
passed : (p t q u : List ℕ) → Walked p t q u → (front : List ℕ) × (front ++ u ≡ t)
passed p t q u here = ([], refl)
passed p t q u (step {c = c} {d = d} w n k) =
    let r = passed p t (c ∷ q) (d ∷ u) w in (r.0 ++ d ∷ [], rw append_assoc r.1)

-- of two ends of a text the shorter is an end of the longer
end_of_end : (a b x y : List ℕ) → a ++ x ≡ b ++ y → length x ≤ length y → (w : List ℕ) × (w ++ x ≡ y)
end_of_end a [] x y e l = (a, e)
end_of_end [] (b ∷ bs) x y e l = absurd (omega (arith, ap length e, length-append bs y))
end_of_end (a ∷ as') (b ∷ bs) x y e l = end_of_end as' bs x y (let t : as' ++ x ≡ bs ++ y = cc in t) l

-- a star takes what stands before an end of the text that it can match
star_reaches : (q front x u : List ℕ) → front ++ x ≡ u → Matches (42 ∷ q) x → Matches (42 ∷ q) u
star_reaches q front x u e m =
    let s = star_from_Matches q x m in
    let y : (front ++ s.0) ++ s.1 ≡ u = rw append_assoc (rw s.2 e) in
    rw (← y) (Matches-star q (front ++ s.0) s.1 s.3)

-- a later star makes going back to an earlier one needless: if the earlier star, before p, can lead to a match of t
-- at all, then the later one, which the walk has come to at u, does too
pub later_star : (p t q u : List ℕ) → Walked p t (42 ∷ q) u → Matches (42 ∷ p) t → Matches (42 ∷ q) u
later_star p t q u w m =
    let f = star_from_Matches p t m in
    let r = reached p t (42 ∷ q) u f.1 w f.3 (omega (arith, ap length f.2, length-append f.0 f.1)) in
    let a = passed p t (42 ∷ q) u w in
    let e : (f.0 ++ r.0) ++ r.1 ≡ a.0 ++ u = rw (append_assoc, r.2, f.2, a.1) in
    let z = end_of_end (f.0 ++ r.0) a.0 r.1 u e r.3 in
    star_reaches q z.0 r.1 u z.1 r.4

pub earlier_star : (p t q u : List ℕ) → Walked p t (42 ∷ q) u → Matches (42 ∷ q) u → Matches (42 ∷ p) t
earlier_star p t q u w m = Matches-star p [] t (Walked-back p t (42 ∷ q) u w m)

-- where a star has been met: the whole question is whether that star, before p, leads to a match of t, the text that
-- it is tried at now; the walk from there has come to q and u
pub record Tried (pattern text p t q u : List ℕ) : Type 0 where
  pub fair : Matches pattern text ↔ Matches (42 ∷ p) t
  pub walk : Walked p t q u
  pub fewer : length p < length pattern
  pub within : length t ≤ length text

pub walked_on : (p t q u : List ℕ) (c d : ℕ) (q' u' : List ℕ) → q ≡ c ∷ q' → u ≡ d ∷ u' → c ≢ 42 → Takes c d → Walked p t q u → Walked p t q' u'
walked_on p t q u c d q' u' e f n k w = let v : Walked p t (c ∷ q') (d ∷ u') = rw (← e, ← f) w in step v n k

pub Tried-step : (pattern text p t q u : List ℕ) (c d : ℕ) (q' u' : List ℕ) → q ≡ c ∷ q' → u ≡ d ∷ u' → c ≢ 42 → Takes c d
    → Tried pattern text p t q u → Tried pattern text p t q' u'
Tried-step pattern text p t q u c d q' u' e f n k r = record {
  fair = r.fair;
  walk = walked_on p t q u c d q' u' e f n k r.walk;
  fewer = r.fewer;
  within = r.within;
}

-- the first star
pub Tried-first : (pattern text q u q' : List ℕ) → q ≡ 42 ∷ q' → Walked pattern text q u → Tried pattern text q' u q' u
Tried-first pattern text q u q' e v =
    let w : Walked pattern text (42 ∷ q') u = rw (← e) v in
    let s = Walked-shorter pattern text (42 ∷ q') u w in
    record {
      fair = (Walked-from pattern text (42 ∷ q') u w, Walked-back pattern text (42 ∷ q') u w);
      walk = here;
      fewer = omega arith;
      within = s.1;
    }

-- a later star
pub Tried-later : (pattern text p t q u q' : List ℕ) → q ≡ 42 ∷ q' → Tried pattern text p t q u → Tried pattern text q' u q' u
Tried-later pattern text p t q u q' e r =
    let v = r.walk in
    let w : Walked p t (42 ∷ q') u = rw (← e) v in
    let s = Walked-shorter p t (42 ∷ q') u w in
    let a = r.fewer in
    let b = r.within in
    record {
      fair = ((λ m. later_star p t q' u w (r.fair.0 m)), (λ m. r.fair.1 (earlier_star p t q' u w m)));
      walk = here;
      fewer = omega arith;
      within = omega arith;
    }

-- the walk has failed: the star is tried at the rest of its text
pub Tried-again : (pattern text p t q u : List ℕ) (d : ℕ) (t' : List ℕ) → t ≡ d ∷ t' → (Matches q u → ⊥)
    → Tried pattern text p t q u → Tried pattern text p t' p t'
Tried-again pattern text p t q u d t' e n r =
    let s = star_iff p t d t' e (λ m. n (Walked-from p t q u r.walk m)) in
    let a = r.within in
    let l = ap length e in
    record {
      fair = ((λ m. s.0 (r.fair.0 m)), (λ m. r.fair.1 (s.1 m)));
      walk = here;
      fewer = r.fewer;
      within = omega arith;
    }

-- the answers
pub Tried-no : (pattern text p t q u : List ℕ) → t ≡ [] → (Matches q u → ⊥) → Tried pattern text p t q u → Matches pattern text → ⊥
Tried-no pattern text p t q u e n r m = star_at_end p t e (λ k. n (Walked-from p t q u r.walk k)) (r.fair.0 m)

pub Tried-yes : (pattern text p t q u : List ℕ) → Matches q u → Tried pattern text p t q u → Matches pattern text
Tried-yes pattern text p t q u m r = r.fair.1 (star_here p t (Walked-back p t q u r.walk m))

-- the measure: tries that are left, each of at most as many steps as the pattern has characters
pub fewer_tries : (n r s a b : ℕ) → r < s → a ≤ n → r * (n + 1) + a < s * (n + 1) + b
fewer_tries n r s a b h k = let m = mul-le-mul_right (n + 1) h in omega arith

pub same_tries : (n r s a b : ℕ) → r ≤ s → a < b → r * (n + 1) + a < s * (n + 1) + b
same_tries n r s a b h k = let m = mul-le-mul_right (n + 1) h in omega arith

-- what the loop keeps, by the place to go back to
abbrev pub Place : Type 0
Place = Option (Bor (List ℕ) × Bor (List ℕ))

abbrev pub Kept : List ℕ → List ℕ → Place → List ℕ → List ℕ → Type 0
Kept pattern text None q u = Walked pattern text q u
Kept pattern text (Some b) q u = Tried pattern text (chars b.0.now) (chars b.1.now) q u

-- how many tries are left
abbrev pub tries_left : List ℕ → Place → ℕ
tries_left text None = length text + 1
tries_left text (Some b) = length (chars b.1.now)

pub Kept-step : (pattern text : List ℕ) (o : Place) (q u : List ℕ) (c d : ℕ) (q' u' : List ℕ) → q ≡ c ∷ q' → u ≡ d ∷ u' → c ≢ 42 → Takes c d
    → Kept pattern text o q u → Kept pattern text o q' u'
Kept-step pattern text None q u c d q' u' e f n k r = walked_on pattern text q u c d q' u' e f n k r
Kept-step pattern text (Some b) q u c d q' u' e f n k r = Tried-step pattern text (chars b.0.now) (chars b.1.now) q u c d q' u' e f n k r

pub Kept-star : (pattern text : List ℕ) (o : Place) (q u q' : List ℕ) → q ≡ 42 ∷ q' → Kept pattern text o q u → Tried pattern text q' u q' u
Kept-star pattern text None q u q' e r = Tried-first pattern text q u q' e r
Kept-star pattern text (Some b) q u q' e r = Tried-later pattern text (chars b.0.now) (chars b.1.now) q u q' e r

-- a new star is tried at no more texts than are left, and the pattern is shorter
pub Kept-star_smaller : (pattern text : List ℕ) (o : Place) (q u q' : List ℕ) → q ≡ 42 ∷ q' → Kept pattern text o q u
    → length u * (length pattern + 1) + length q' < tries_left text o * (length pattern + 1) + length q
Kept-star_smaller pattern text None q u q' e r =
    let s = Walked-shorter pattern text q u r in
    let l = ap length e in
    same_tries (length pattern) (length u) (length text + 1) (length q') (length q) (omega arith) (omega arith)
Kept-star_smaller pattern text (Some b) q u q' e r =
    let s = Walked-shorter (chars b.0.now) (chars b.1.now) q u r.walk in
    let l = ap length e in
    same_tries (length pattern) (length u) (length (chars b.1.now)) (length q') (length q) (omega arith) (omega arith)

pub Kept-yes : (pattern text : List ℕ) (o : Place) (q u : List ℕ) → Matches q u → Kept pattern text o q u → Matches pattern text
Kept-yes pattern text None q u m r = Walked-back pattern text q u r m
Kept-yes pattern text (Some b) q u m r = Tried-yes pattern text (chars b.0.now) (chars b.1.now) q u m r

pub Kept-no : (pattern text : List ℕ) (o : Place) (q u : List ℕ) → o ≡ None → (Matches q u → ⊥) → Kept pattern text o q u → Matches pattern text → ⊥
Kept-no pattern text None q u e n r m = n (Walked-from pattern text q u r m)
Kept-no pattern text (Some b) q u e n r m = cc

pub Kept-last : (pattern text : List ℕ) (o : Place) (b : Bor (List ℕ) × Bor (List ℕ)) (q u : List ℕ) → o ≡ Some b → chars b.1.now ≡ []
    → (Matches q u → ⊥) → Kept pattern text o q u → Matches pattern text → ⊥
Kept-last pattern text o b q u e t n r m =
    let k = rw e at r in
    Tried-no pattern text (chars b.0.now) (chars b.1.now) q u t n k m

pub Kept-again : (pattern text : List ℕ) (o : Place) (b : Bor (List ℕ) × Bor (List ℕ)) (q u : List ℕ) (d : ℕ) (t' : List ℕ) → o ≡ Some b → chars b.1.now ≡ d ∷ t'
    → (Matches q u → ⊥) → Kept pattern text o q u → Tried pattern text (chars b.0.now) t' (chars b.0.now) t'
Kept-again pattern text o b q u d t' e t n r =
    let k = rw e at r in
    Tried-again pattern text (chars b.0.now) (chars b.1.now) q u d t' t n k

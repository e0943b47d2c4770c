-- Sums over the views of a table, and numbers of sessions in them.
use Rattle.std.proofs.Common.{eq-eqb, ne_eqb, ◌≡◌, ◌≢◌, ℕ, zero, suc, ◌+◌, ◌≤◌, ◌<◌, ◌==◌, List, [], ◌∷◌, ◌++◌, map, length, set, refl, ap, sym, arith}
use mathlib.Core.Option.{some, some-injective, some-ne-none}
use lib.ListN.{get_elem?}
use Rattle.batch_history.specs.declared.call.Entry.{Entry}
use Rattle.seat_rules.specs.declared.view.SessionView.{SessionView}
use Rattle.seat_rules.specs.Rule.{IsSessionOf}
use Rattle.seat_rules.specs.Views.{Each, one_if, times, total}

module _ {A : Type 0} (f : A → ℕ) where
  -- the sum after a change of one
  pub sum_set : (l : List A) (i : ℕ) (v w : A) → get_elem? l i ≡ some v → total f (set l i w) + f v ≡ total f l + f w
  sum_set [] i v w e = absurd (some-ne-none v (sym e))
  sum_set (x ∷ xs) zero v w e = let h : f x ≡ f v = ap f (some-injective x v e) in omega arith
  sum_set (x ∷ xs) (suc i) v w e = let h = sum_set xs i v w e in omega arith

  pub sum_at : (l : List A) (i : ℕ) (v : A) → get_elem? l i ≡ some v → f v ≤ total f l
  sum_at [] i v e = absurd (some-ne-none v (sym e))
  sum_at (x ∷ xs) zero v e = let h : f x ≡ f v = ap f (some-injective x v e) in omega arith
  sum_at (x ∷ xs) (suc i) v e = let h = sum_at xs i v e in omega arith

  pub sum_two : (l : List A) (i j : ℕ) (v u : A) → get_elem? l i ≡ some v → get_elem? l j ≡ some u → j ≢ i → f v + f u ≤ total f l
  sum_two [] i j v u e e' n = absurd (some-ne-none v (sym e))
  sum_two (x ∷ xs) zero zero v u e e' n = absurd (n refl)
  sum_two (x ∷ xs) zero (suc j) v u e e' n = let h : f x ≡ f v = ap f (some-injective x v e) in let k = sum_at xs j u e' in omega arith
  sum_two (x ∷ xs) (suc i) zero v u e e' n = let h : f x ≡ f u = ap f (some-injective x u e') in let k = sum_at xs i v e in omega arith
  sum_two (x ∷ xs) (suc i) (suc j) v u e e' n = let k = sum_two xs i j v u e e' (λ q. n (ap suc q)) in omega arith

  pub sum_zero : (l : List A) → ((i : ℕ) (v : A) → get_elem? l i ≡ some v → f v ≡ 0) → total f l ≡ 0
  sum_zero [] h = refl
  sum_zero (x ∷ xs) h = let a = h 0 x refl in let b = sum_zero xs (λ i v e. h (suc i) v e) in omega arith

pub total-snoc : {A : Type 0} (f : A → ℕ) (xs : List A) (x : A) → total f (xs ++ x ∷ []) ≡ total f xs + f x
total-snoc f [] x = omega arith
total-snoc f (y ∷ xs) x = let h = total-snoc f xs x in omega arith

pub times-append : (n : ℕ) (gs hs : List SessionView) → times n (gs ++ hs) ≡ times n gs + times n hs
times-append n [] hs = omega arith
times-append n (g ∷ gs) hs = let h = times-append n gs hs in omega arith

pub each-append : {A : Type 0} (P : A → Type 0) (xs ys : List A) → Each P xs → Each P ys → Each P (xs ++ ys)
each-append P [] ys p q = q
each-append P (x ∷ xs) ys p q = (p.0, each-append P xs ys p.1 q)

pub each-imp : {A : Type 0} (P Q : A → Type 0) (xs : List A) → ((x : A) → P x → Q x) → Each P xs → Each Q xs
each-imp P Q [] h p = tt
each-imp P Q (x ∷ xs) h p = (h x p.0, each-imp P Q xs h p.1)

pub each-none : {A : Type 0} (P : A → Type 0) (xs : List A) → length xs ≡ 0 → Each P xs
each-none P [] e = tt
each-none P (x ∷ xs) e = absurd (omega arith)

one_off : (k n : ℕ) → k ≢ n → one_if (k == n) ≡ 0
one_off k n ne = ap one_if (ne_eqb k n ne)

one_on : (k n : ℕ) → k ≡ n → one_if (k == n) ≡ 1
one_on k n e = ap one_if (eq-eqb k n e)

-- what holds of those with another number
pub each-other : (n : ℕ) (P Q : SessionView → Type 0) (gs : List SessionView) → times n gs ≡ 0 → ((g : SessionView) → g.number ≢ n → P g → Q g) → Each P gs → Each Q gs
each-other n P Q [] e h p = tt
each-other n P Q (g ∷ gs) e h p =
    (h g (λ same. let one = one_on g.number n same in absurd (omega arith)) p.0, each-other n P Q gs (omega arith) h p.1)

-- no session has a number above all of theirs
pub times_high : (log : List Entry) (last n : ℕ) (gs : List SessionView) → last < n → Each (IsSessionOf log last) gs → times n gs ≡ 0
times_high log last n [] h p = refl
times_high log last n (g ∷ gs) h p =
    let low = p.0.number in
    let rest = times_high log last n gs h p.1 in
    let off = one_off g.number n (λ e. omega arith) in
    omega arith

-- a session has its own number
pub times_own : (n : ℕ) (g : SessionView) → g.number ≡ n → times n (g ∷ []) ≡ 1
times_own n g e = let one = one_on g.number n e in omega arith

pub times_not : (n : ℕ) (g : SessionView) → g.number ≢ n → times n (g ∷ []) ≡ 0
times_not n g ne = let one = one_off g.number n ne in omega arith

pub times_map : (n : ℕ) (f : SessionView → SessionView) (gs : List SessionView) → ((g : SessionView) → (f g).number ≡ g.number) → times n (map f gs) ≡ times n gs
times_map n f [] h = refl
times_map n f (g ∷ gs) h =
    let a = times_map n f gs h in
    let b : one_if ((f g).number == n) ≡ one_if (g.number == n) = ap (λ (k : ℕ). one_if (k == n)) (h g) in
    omega arith

pub each-map : {A : Type 0} (P Q : A → Type 0) (f : A → A) (xs : List A) → ((x : A) → P x → Q (f x)) → Each P xs → Each Q (map f xs)
each-map P Q f [] h p = tt
each-map P Q f (x ∷ xs) h p = (h x p.0, each-map P Q f xs h p.1)

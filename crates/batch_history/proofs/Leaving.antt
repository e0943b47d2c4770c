-- What is left of a list when elements are left out: what is found in it, what passes in some place, and what is changed.
use Rattle.std.proofs.Common.{◌≡◌, ℕ, ◌+◌, ◌==◌, ◌<◌, ◌≤◌, ◌||◌, ◌&&◌, Bool, true, false, cond, Option, None, Some, List, [], ◌∷◌, ◌++◌, find, filter, refl, sym, ◌∙◌, ap, subst, arith}
use Rattle.std.specs.List.{list_any}
use Rattle.std.proofs.lemmas.Bool.{eqb-true, eq-eqb, ne_eqb}
use Rattle.std.proofs.lemmas.List.Elements.{filter-append}
use Rattle.batch_history.proofs.WorkLists.{each-map, each-both}
use Rattle.batch_history.specs.Lists.{change_first, Each}

pub on-or-off : {P : Type 0} (b : Bool) → (b ≡ true → P) → (b ≡ false → P) → P
on-or-off true on off = on refl
on-or-off false on off = off refl

-- nothing holds and fails
pub never : {P : Type 0} (b : Bool) → b ≡ true → b ≡ false → P
never b holds fails = absurd (let no : true ≡ false = sym holds ∙ fails in cc)

-- ---- A test in some place

-- what passes a test is not left out, so that it passes in what is left
pub any-left : {X : Type 0} (p q : X → Bool) (xs : List X) → ((x : X) → p x ≡ true → q x ≡ true) → list_any p (filter q xs) ≡ list_any p xs
any-left p q [] h = refl
any-left p q (x ∷ xs) h =
    on-or-off (q x)
    (λ on. ap (λ b. list_any p (cond b (x ∷ filter q xs) (filter q xs))) on ∙ ap (λ b. p x || b) (any-left p q xs h))
    (λ off. on-or-off (p x)
    (λ passes. never (q x) (h x passes) off)
    (λ fails. ap (λ b. list_any p (cond b (x ∷ filter q xs) (filter q xs))) off ∙ (any-left p q xs h ∙ sym (ap (λ b. b || list_any p xs) fails))))

-- what passes in what is left passes, and is not left out
pub any-there : {X P : Type 0} (p q : X → Bool) (xs : List X) → list_any p (filter q xs) ≡ true → ((x : X) → p x ≡ true → q x ≡ true → P) → P
any-there p q [] h then = cc
any-there p q (x ∷ xs) h then =
    on-or-off (q x)
    (λ on.
    let here : (p x || list_any p (filter q xs)) ≡ true = sym (ap (λ b. list_any p (cond b (x ∷ filter q xs) (filter q xs))) on) ∙ h in
    on-or-off (p x)
    (λ passes. then x passes on)
    (λ fails. any-there p q xs (sym (ap (λ b. b || list_any p (filter q xs)) fails) ∙ here) then))
    (λ off. any-there p q xs (sym (ap (λ b. list_any p (cond b (x ∷ filter q xs) (filter q xs))) off) ∙ h) then)

pub any-whole : {X : Type 0} (p q : X → Bool) (xs : List X) → list_any p (filter q xs) ≡ true → list_any p xs ≡ true
any-whole p q [] h = cc
any-whole p q (x ∷ xs) h =
    on-or-off (p x)
    (λ passes. ap (λ b. b || list_any p xs) passes)
    (λ fails. ap (λ b. b || list_any p xs) fails
    ∙ on-or-off (q x)
    (λ on. any-whole p q xs (sym (ap (λ b. b || list_any p (filter q xs)) fails) ∙ (sym (ap (λ b. list_any p (cond b (x ∷ filter q xs) (filter q xs))) on) ∙ h)))
    (λ off. any-whole p q xs (sym (ap (λ b. list_any p (cond b (x ∷ filter q xs) (filter q xs))) off) ∙ h)))

-- ---- What is found

-- a test that tells of what is left what another tells, and that finds nothing that is left out
pub record SeesLeft {X : Type 0} (p other q : X → Bool) (x : X) : Type 0 where
  pub same : q x ≡ true → p x ≡ other x
  pub unseen : q x ≡ false → other x ≡ false

pub find-seen : {X : Type 0} (p other q : X → Bool) (xs : List X) → Each (SeesLeft p other q) xs → find p (filter q xs) ≡ find other xs
find-seen p other q [] h = refl
find-seen p other q (x ∷ xs) h =
    on-or-off (q x)
    (λ on. ap (λ b. find p (cond b (x ∷ filter q xs) (filter q xs))) on
    ∙ (ap (λ b. cond b (Some x) (find p (filter q xs))) (h.0.same on)
    ∙ ap (λ o. cond (other x) (Some x) o) (find-seen p other q xs h.1)))
    (λ off. ap (λ b. find p (cond b (x ∷ filter q xs) (filter q xs))) off
    ∙ (find-seen p other q xs h.1 ∙ sym (ap (λ b. cond b (Some x) (find other xs)) (h.0.unseen off))))

-- what passes a test is not left out, so that it is found in what is left
pub find-left : {X : Type 0} (p q : X → Bool) (xs : List X) → ((x : X) → p x ≡ true → q x ≡ true) → find p (filter q xs) ≡ find p xs
find-left p q xs h = find-seen p p q xs (all xs)
  where
    all : (ys : List _) → Each (SeesLeft p p q) ys
    all [] = tt
    all (y ∷ ys) = (record { same = λ _. refl; unseen = λ off. on-or-off (p y) (λ passes. never (q y) (h y passes) off) (λ fails. fails) }, all ys)

-- what was found, if it is not left out
abbrev pub unless_out : {X : Type 0} → (X → Bool) → Option X → Option X
unless_out q None = None
unless_out q (Some x) = cond (q x) (Some x) None

-- elements that are numbered from one on
abbrev pub AreKeyed : {X : Type 0} → (X → ℕ) → ℕ → List X → Type 0
AreKeyed key k [] = Unit {0}
AreKeyed key k (x ∷ xs) = (key x ≡ k) × AreKeyed key (k + 1) xs

left-above : {X : Type 0} (key : X → ℕ) (q : X → Bool) (n k : ℕ) (xs : List X) → AreKeyed key k xs → n < k → find (λ x. key x == n) (filter q xs) ≡ None
left-above key q n k [] h lt = refl
left-above key q n k (x ∷ xs) h lt =
    let rest : find (λ y. key y == n) (filter q xs) ≡ None = left-above key q n (k + 1) xs h.1 (omega arith) in
    on-or-off (q x)
    (λ on. ap (λ b. find (λ y. key y == n) (cond b (x ∷ filter q xs) (filter q xs))) on
    ∙ (ap (λ b. cond b (Some x) (find (λ y. key y == n) (filter q xs))) (ne_eqb (key x) n (λ e. omega (arith, h.0, e))) ∙ rest))
    (λ off. ap (λ b. find (λ y. key y == n) (cond b (x ∷ filter q xs) (filter q xs))) off ∙ rest)

-- what has a number in what is left is what has it in all, unless that is left out
pub find-numbered : {X : Type 0} (key : X → ℕ) (q : X → Bool) (n k : ℕ) (xs : List X) → AreKeyed key k xs
    → find (λ x. key x == n) (filter q xs) ≡ unless_out q (find (λ x. key x == n) xs)
find-numbered key q n k [] h = refl
find-numbered key q n k (x ∷ xs) h =
    let rest = find-numbered key q n (k + 1) xs h.1 in
    on-or-off (key x == n)
    (λ here. on-or-off (q x)
    (λ on. ap (λ b. find (λ y. key y == n) (cond b (x ∷ filter q xs) (filter q xs))) on
    ∙ (ap (λ b. cond b (Some x) (find (λ y. key y == n) (filter q xs))) here
    ∙ (sym (ap (λ b. cond b (Some x) None) on) ∙ sym (ap (λ b. unless_out q (cond b (Some x) (find (λ y. key y == n) xs))) here))))
    (λ off. ap (λ b. find (λ y. key y == n) (cond b (x ∷ filter q xs) (filter q xs))) off
    ∙ (left-above key q n (k + 1) xs h.1 (let is : key x ≡ n = eqb-true (key x) n here in omega (arith, h.0, is))
    ∙ (sym (ap (λ b. cond b (Some x) None) off) ∙ sym (ap (λ b. unless_out q (cond b (Some x) (find (λ y. key y == n) xs))) here)))))
    (λ away. on-or-off (q x)
    (λ on. ap (λ b. find (λ y. key y == n) (cond b (x ∷ filter q xs) (filter q xs))) on
    ∙ (ap (λ b. cond b (Some x) (find (λ y. key y == n) (filter q xs))) away
    ∙ (rest ∙ sym (ap (λ b. unless_out q (cond b (Some x) (find (λ y. key y == n) xs))) away))))
    (λ off. ap (λ b. find (λ y. key y == n) (cond b (x ∷ filter q xs) (filter q xs))) off
    ∙ (rest ∙ sym (ap (λ b. unless_out q (cond b (Some x) (find (λ y. key y == n) xs))) away))))

keyed-above : {X : Type 0} (key : X → ℕ) (k : ℕ) (xs : List X) → AreKeyed key k xs → Each (λ x. k ≤ key x) xs
keyed-above key k [] h = tt
keyed-above key k (x ∷ xs) h =
    (omega (arith, h.0), each-map (λ y. k + 1 ≤ key y) (λ y. k ≤ key y) xs (λ y le. omega (arith, le)) (keyed-above key (k + 1) xs h.1))

-- each is found under its number
pub found-itself : {X : Type 0} (key : X → ℕ) (k : ℕ) (xs : List X) → AreKeyed key k xs → Each (λ x. find (λ y. key y == key x) xs ≡ Some x) xs
found-itself key k [] h = tt
found-itself key k (x ∷ xs) h = (
  ap (λ b. cond b (Some x) (find (λ y. key y == key x) xs)) (eq-eqb (key x) (key x) refl),
  each-both (λ z. k + 1 ≤ key z) (λ z. find (λ y. key y == key z) xs ≡ Some z) (λ z. find (λ y. key y == key z) (x ∷ xs) ≡ Some z) xs
      (λ z le found. ap (λ b. cond b (Some x) (find (λ y. key y == key z) xs)) (ne_eqb (key x) (key z) (λ e. omega (arith, h.0, le, e))) ∙ found)
      (keyed-above key (k + 1) xs h.1) (found-itself key (k + 1) xs h.1),
)

-- ---- What is added, changed and left out

pub filter-added : {X : Type 0} (q : X → Bool) (xs : List X) (x : X) → q x ≡ true → filter q (xs ++ x ∷ []) ≡ filter q xs ++ x ∷ []
filter-added q xs x on = filter-append q xs (x ∷ []) ∙ ap (λ b. filter q xs ++ cond b (x ∷ []) []) on

-- the first that passes is not left out, and changed it is not
pub filter-changed : {X : Type 0} (p q : X → Bool) (f : X → X) (xs : List X) → ((x : X) → q (f x) ≡ q x) → ((x : X) → find p xs ≡ Some x → q x ≡ true)
    → filter q (change_first p f xs) ≡ change_first p f (filter q xs)
filter-changed p q f [] same h = refl
filter-changed p q f (x ∷ xs) same h =
    on-or-off (p x)
    (λ here.
    let on : q x ≡ true = h x (ap (λ b. cond b (Some x) (find p xs)) here) in
    ap (λ b. filter q (cond b (f x ∷ xs) (x ∷ change_first p f xs))) here
    ∙ (ap (λ b. cond b (f x ∷ filter q xs) (filter q xs)) (same x ∙ on)
    ∙ (sym (ap (λ b. cond b (f x ∷ filter q xs) (x ∷ change_first p f (filter q xs))) here)
    ∙ sym (ap (λ b. change_first p f (cond b (x ∷ filter q xs) (filter q xs))) on))))
    (λ away.
    let rest : filter q (change_first p f xs) ≡ change_first p f (filter q xs) =
    filter-changed p q f xs same (λ y found. h y (ap (λ b. cond b (Some x) (find p xs)) away ∙ found)) in
    ap (λ b. filter q (cond b (f x ∷ xs) (x ∷ change_first p f xs))) away
    ∙ (ap (λ ys. cond (q x) (x ∷ ys) ys) rest
    ∙ on-or-off (q x)
    (λ on. ap (λ b. cond b (x ∷ change_first p f (filter q xs)) (change_first p f (filter q xs))) on
    ∙ (sym (ap (λ b. cond b (f x ∷ filter q xs) (x ∷ change_first p f (filter q xs))) away)
    ∙ sym (ap (λ b. change_first p f (cond b (x ∷ filter q xs) (filter q xs))) on)))
    (λ off. ap (λ b. cond b (x ∷ change_first p f (filter q xs)) (change_first p f (filter q xs))) off
    ∙ sym (ap (λ b. change_first p f (cond b (x ∷ filter q xs) (filter q xs))) off))))

-- changes that do the same to the first that passes
pub change-alike : {X : Type 0} (p : X → Bool) (f g : X → X) (xs : List X) → ((x : X) → find p xs ≡ Some x → f x ≡ g x) → change_first p f xs ≡ change_first p g xs
change-alike p f g [] h = refl
change-alike p f g (x ∷ xs) h =
    on-or-off (p x)
    (λ here. ap (λ b. cond b (f x ∷ xs) (x ∷ change_first p f xs)) here
    ∙ (ap (λ y. y ∷ xs) (h x (ap (λ b. cond b (Some x) (find p xs)) here))
    ∙ sym (ap (λ b. cond b (g x ∷ xs) (x ∷ change_first p g xs)) here)))
    (λ away. ap (λ b. cond b (f x ∷ xs) (x ∷ change_first p f xs)) away
    ∙ (ap (λ ys. x ∷ ys) (change-alike p f g xs (λ y found. h y (ap (λ b. cond b (Some x) (find p xs)) away ∙ found)))
    ∙ sym (ap (λ b. cond b (g x ∷ xs) (x ∷ change_first p g xs)) away)))

-- tests that tell the same leave the same
pub filter-alike : {X : Type 0} (p q : X → Bool) (xs : List X) → Each (λ x. p x ≡ q x) xs → filter p xs ≡ filter q xs
filter-alike p q [] h = refl
filter-alike p q (x ∷ xs) h =
    ap (λ b. cond b (x ∷ filter p xs) (filter p xs)) h.0 ∙ ap (λ ys. cond (q x) (x ∷ ys) ys) (filter-alike p q xs h.1)

pub filter-both : {X : Type 0} (p q : X → Bool) (xs : List X) → filter p (filter q xs) ≡ filter (λ x. q x && p x) xs
filter-both p q [] = refl
filter-both p q (x ∷ xs) =
    elim (q x) as (λ b. filter p (cond b (x ∷ filter q xs) (filter q xs)) ≡ cond (b && p x) (x ∷ filter (λ y. q y && p y) xs) (filter (λ y. q y && p y) xs)) [
      | true ↦ ap (λ ys. cond (p x) (x ∷ ys) ys) (filter-both p q xs)
      | false ↦ filter-both p q xs
    ]

-- Counts and lists with one element more.
use Rattle.std.proofs.Common.{◌≡◌, suc, ◌+◌, Bool, true, cond, Option, None, Some, is_some, List, [], ◌∷◌, ◌++◌, length, map, count_by, refl, ◌∙◌, ap, arith}
use Rattle.std.specs.Option.{option_map}
use Rattle.std.proofs.lemmas.List.{length-append}
use Rattle.std.proofs.lemmas.List.Sums.{sum_by-cons}

-- an element in front that is counted
pub counted : {X : Type 0} (p : X → Bool) (x : X) (xs : List X) → p x ≡ true → count_by p (x ∷ xs) ≡ suc (count_by p xs)
counted p x xs is =
    let one : 1 + count_by p xs ≡ suc (count_by p xs) = omega arith in
    sum_by-cons (λ y. cond (p y) 1 0) x xs ∙ (ap (λ b. cond b 1 0 + count_by p xs) is ∙ one)

-- an element at the end
pub one-more : {X : Type 0} (xs : List X) (x : X) → length (xs ++ x ∷ []) ≡ suc (length xs)
one-more xs x = omega (arith, length-append xs (x ∷ []))

-- functions that agree map a list alike
pub map-same : {X Y : Type 0} (f g : X → Y) (xs : List X) → ((x : X) → f x ≡ g x) → map f xs ≡ map g xs
map-same f g [] same = refl
map-same f g (x ∷ xs) same = ap (λ y. y ∷ map f xs) (same x) ∙ ap (λ ys. g x ∷ ys) (map-same f g xs same)

-- what is there stays there
pub some-map : {X Y : Type 0} (f : X → Y) (o : Option X) → is_some (option_map f o) ≡ is_some o
some-map f None = refl
some-map f (Some x) = refl

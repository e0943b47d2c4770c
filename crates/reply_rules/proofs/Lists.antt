-- Facts of lists that the answers need.
use Rattle.std.proofs.Common.{◌≡◌, ◌||◌, Bool, true, false, cond, Some, is_some, List, [], ◌∷◌, find, refl}
use Rattle.std.specs.List.{list_any}

-- there is one that passes where one is found
pub any_found : {A : Type 0} (p : A → Bool) (xs : List A) → list_any p xs ≡ is_some (find p xs)
any_found p [] = refl
any_found p (x ∷ xs) =
    elim (p x) as (λ b. (b || list_any p xs) ≡ is_some (cond b (Some x) (find p xs))) [
      | true ↦ refl
      | false ↦ any_found p xs
    ]

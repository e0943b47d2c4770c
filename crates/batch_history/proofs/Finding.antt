-- What is found in a list.
use Rattle.std.proofs.Common.{◌≡◌, Bool, true, false, cond, Some, List, [], ◌∷◌, find, refl, sym, ap, ◌∙◌, subst}
use Rattle.std.specs.List.{list_any}
use Rattle.std.proofs.lemmas.Bool.{or_parts}

-- it passes the test
pub found-passes : {X : Type 0} (p : X → Bool) (xs : List X) (x : X) → find p xs ≡ Some x → p x ≡ true
found-passes p [] x e = cc
found-passes p (y ∷ ys) x e =
    (elim (p y) as (λ b. p y ≡ b → cond b (Some y) (find p ys) ≡ Some x → p x ≡ true) [
      | true ↦ λ is s. let same : y ≡ x = cc in ap p (sym same) ∙ is
      | false ↦ λ is s. found-passes p ys x s
    ]) refl e

-- what passes in no place passes not where something is found
pub any-none : {X : Type 0} (p q : X → Bool) (xs : List X) (x : X) → list_any p xs ≡ false → find q xs ≡ Some x → p x ≡ false
any-none p q [] x none e = cc
any-none p q (y ∷ ys) x none e =
    let both = or_parts (p y) (list_any p ys) none in
    (elim (q y) as (λ b. cond b (Some y) (find q ys) ≡ Some x → p x ≡ false) [
      | true ↦ λ s. let same : y ≡ x = cc in subst (λ z. p z ≡ false) same both.0
      | false ↦ λ s. any-none p q ys x both.1 s
    ]) e

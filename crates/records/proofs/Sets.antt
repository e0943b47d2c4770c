-- Rising numbers as an ordered set.
use Rattle.std.proofs.Common.{◌≡◌, ℕ, ◌==◌, ◌<◌, true, false, cond, nat_lt, List, [], ◌∷◌, ◌++◌, refl, ◌∙◌, ap, arith}
use Rattle.std.specs.Ordering.{nat_cmp, match_ordering, is_eq, is_lt}
use Rattle.std.specs.declared.cmp.Ordering.TheVariants.{Greater}
use Rattle.std.specs.BTreeSet.{insert_key}
use Rattle.std.specs.Bool.{OnTrue}
use Rattle.std.specs.List.{All}
use Rattle.std.specs.Set.{remove_key}
use Rattle.std.proofs.lemmas.List.Elements.{All-head, All-tail}
use Rattle.records.specs.Indexes.{without_number}
use Rattle.records.specs.Maps.{AreBelow}

cmp-more : (x y : ℕ) → y < x → nat_cmp x y ≡ Greater
cmp-more x y lt = grind arith

-- a number above all others
pub put_last : (x : ℕ) (ks : List ℕ) → AreBelow x ks → insert_key nat_cmp ks x ≡ ks ++ x ∷ []
put_last x [] h = refl
put_last x (k ∷ ks) h =
    ap (λ o. match_ordering o (x ∷ k ∷ ks) (k ∷ ks) (k ∷ insert_key nat_cmp ks x)) (cmp-more x k h.0)
    ∙ ap (λ (l : List ℕ). k ∷ l) (put_last x ks h.1)

-- all up to one that is below another are below that other
pub all_below : (k x : ℕ) (ks : List ℕ) → All (λ q. is_lt (nat_cmp k q) ≡ false) ks → k < x → AreBelow x ks
all_below k x [] each lt = tt
all_below k x (q ∷ ks) each lt =
    let first : is_lt (nat_cmp k q) ≡ false = All-head (λ (q : ℕ). is_lt (nat_cmp k q) ≡ false) _ _ each in
    (grind (arith, first), all_below k x ks (All-tail (λ (q : ℕ). is_lt (nat_cmp k q) ≡ false) _ _ each) lt)

-- what follows where one number is below another
pub less_is : (k x : ℕ) (P : Type 0) → (k < x → P) → OnTrue (nat_lt k x) P
less_is k x P there =
    (elim (nat_lt k x) as (λ b. nat_lt k x ≡ b → OnTrue b P) [
      | true ↦ λ e. there (grind (arith, e))
      | false ↦ λ e. tt
    ]) refl

-- a number that is compared with another
same-number : (x n : ℕ) → is_eq (nat_cmp x n) ≡ (n == x)
same-number x n = grind arith

pub removed : (x : ℕ) (ks : List ℕ) → remove_key (λ y. is_eq (nat_cmp x y)) ks ≡ without_number x ks
removed x [] = refl
removed x (k ∷ ks) =
    ap (λ b. cond b ks (k ∷ remove_key (λ y. is_eq (nat_cmp x y)) ks)) (same-number x k)
    ∙ ap (λ (l : List ℕ). cond (k == x) ks (k ∷ l)) (removed x ks)

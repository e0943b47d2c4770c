-- A number in an ordered set.
use Rattle.std.proofs.Common.{◌≡◌, ℕ, Bool, true, false, cond, not, List, [], ◌∷◌, refl, sym, ◌∙◌, ap, arith}
use Rattle.std.specs.Ordering.{nat_cmp, match_ordering, is_eq}
use Rattle.std.specs.declared.cmp.Ordering.TheVariants.{Less, Equal, Greater}
use Rattle.std.specs.BTreeSet.{insert_key}
use Rattle.std.specs.List.{list_any}
use Rattle.std.specs.Set.{remove_key}

pub cmp-same : (x : ℕ) → nat_cmp x x ≡ Equal
cmp-same x = grind arith

pub remove-same : (x : ℕ) (ks : List ℕ) → remove_key (λ y. is_eq (nat_cmp x y)) (x ∷ ks) ≡ ks
remove-same x ks = ap (λ o. cond (is_eq o) ks (x ∷ remove_key (λ y. is_eq (nat_cmp x y)) ks)) (cmp-same x)

-- a number that was put is taken back
pub taken_back : (x : ℕ) (ks : List ℕ) → list_any (λ y. is_eq (nat_cmp x y)) ks ≡ false → remove_key (λ y. is_eq (nat_cmp x y)) (insert_key nat_cmp ks x) ≡ ks
taken_back x [] absent = remove-same x []
taken_back x (k ∷ ks) absent =
    (elim (nat_cmp x k) as (λ o. nat_cmp x k ≡ o → list_any (λ y. is_eq (nat_cmp x y)) (k ∷ ks) ≡ false
    → remove_key (λ y. is_eq (nat_cmp x y)) (match_ordering o (x ∷ k ∷ ks) (k ∷ ks) (k ∷ insert_key nat_cmp ks x)) ≡ k ∷ ks) [
      | Less ↦ λ e none. remove-same x (k ∷ ks)
      | Equal ↦ λ e none. cc
      | Greater ↦ λ e none.
          let behind : list_any (λ y. is_eq (nat_cmp x y)) ks ≡ false = sym (rw e refl) ∙ none in
          ap (λ o. cond (is_eq o) (insert_key nat_cmp ks x) (k ∷ remove_key (λ y. is_eq (nat_cmp x y)) (insert_key nat_cmp ks x))) e
          ∙ ap (λ (l : List ℕ). k ∷ l) (taken_back x ks behind)
    ]) refl absent

-- an ordered set into which a number was put, or in which it stood before
pub put_back : (added : Bool) (x : ℕ) (old new : List ℕ) → added ≡ not (list_any (λ y. is_eq (nat_cmp x y)) old) → new ≡ insert_key nat_cmp old x
    → (added ≡ false → new ≡ old) → cond added (remove_key (λ y. is_eq (nat_cmp x y)) new) new ≡ old
put_back true x old new is put same =
    let absent : list_any (λ y. is_eq (nat_cmp x y)) old ≡ false =
    (elim (list_any (λ y. is_eq (nat_cmp x y)) old) as (λ d. true ≡ not d → d ≡ false) [
      | true ↦ λ e. cc
      | false ↦ λ e. refl
    ]) is in
    ap (remove_key (λ y. is_eq (nat_cmp x y))) put ∙ taken_back x old absent
put_back false x old new is put same = same refl

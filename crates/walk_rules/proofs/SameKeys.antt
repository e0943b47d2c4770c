-- Work keys: when two of them are the same.
use Rattle.std.proofs.Common.{◌≡◌, ◌≢◌, ℕ, zero, suc, ◌+◌, ◌==◌, ◌&&◌, ◌||◌, nat_lt, Bool, true, false, List, [], ◌∷◌, map, refl, sym, ◌∙◌, ap, arith, add-one}
use Rattle.std.specs.Cmp.Lexicographic.{bytes_decides}
use Rattle.std.proofs.lemmas.Bool.{eqb-true, eqb-false, eq-eqb, and_parts, lt-ltb, ltb-true, le-ltb, ltb-false}
use Rattle.std.proofs.lemmas.List.Folds.{list_any-append}
use Rattle.std.proofs.lemmas.List.FromFn.{map-range_with_len_more}
use Rattle.std.specs.Cmp.Derive.{both_true}
use Rattle.std.specs.Str.{bytes_eq}
use Rattle.walk_rules.specs.declared.work_key.WorkKey.{WorkKey}
use Rattle.walk_rules.specs.Keys.{key_of, numbers_to, has_key, is_same_key}

-- work keys that pass the test are one
pub same-one : (one other : WorkKey) → is_same_key one other ≡ true → one ≡ other
same-one one other h =
    let parts = and_parts (bytes_eq one.element other.element) _ h in
    let element : one.element ≡ other.element = (bytes_decides one.element other.element).0 parts.0 in
    let partition : one.partition ≡ other.partition = eqb-true one.partition other.partition parts.1 in
    λ i. record { element = element i; partition = partition i }

-- and each passes the test with itself
pub same-self : (one other : WorkKey) → one ≡ other → is_same_key one other ≡ true
same-self one other h =
    both_true ((bytes_decides one.element other.element).1 (ap (λ (key : WorkKey). key.element) h)) (eq-eqb one.partition other.partition (ap (λ (key : WorkKey). key.partition) h))

-- work keys that differ fail the test
pub differing-keys : (one other : WorkKey) → one ≢ other → is_same_key one other ≡ false
differing-keys one other differ =
    (elim (is_same_key one other) as (λ b. is_same_key one other ≡ b → b ≡ false) [
      | true ↦ λ e. absurd (differ (same-one one other e))
      | false ↦ λ e. refl
    ]) refl

-- the test is the same from both sides
pub same-sym : (one other : WorkKey) → is_same_key one other ≡ is_same_key other one
same-sym one other =
    (elim (is_same_key one other) as (λ b. is_same_key one other ≡ b → b ≡ is_same_key other one) [
      | true ↦ λ e. sym (same-self other one (sym (same-one one other e)))
      | false ↦ λ e. sym (differing-keys other one (λ same. let yes : is_same_key one other ≡ true = same-self one other (sym same) in cc))
    ]) refl

-- ---- The work keys of a step

both-false : (b : Bool) → (b && false) ≡ false
both-false true = refl
both-false false = refl

below-more : (k n : ℕ) (below same : Bool) → nat_lt k n ≡ below → (k == n) ≡ same → (below || (same || false)) ≡ nat_lt k (n + 1)
below-more k n true same lt eq = sym (lt-ltb k (n + 1) (omega (arith, ltb-true k n lt)))
below-more k n false true lt eq = sym (lt-ltb k (n + 1) (omega (arith, eqb-true k n eq)))
below-more k n false false lt eq = sym (le-ltb k (n + 1) (omega (arith, ltb-false k n lt, eqb-false k n eq)))

both-or : (element below same rest : Bool) → (below || (same || false)) ≡ rest → ((element && below) || ((element && same) || false)) ≡ (element && rest)
both-or true below same rest h = h
both-or false below same rest h = refl

-- a work key is that of a partition where its element is the step, and its number below that of the partitions
pub one_of_partitions : (id : List ℕ) (n : ℕ) (key : WorkKey) → has_key (map (key_of id) (numbers_to n)) key ≡ (bytes_eq key.element id && nat_lt key.partition n)
one_of_partitions id zero key =
    sym (ap (λ b. bytes_eq key.element id && b) (le-ltb key.partition 0 (omega arith)) ∙ both-false (bytes_eq key.element id))
one_of_partitions id (suc n) key =
    ap (λ m. has_key (map (key_of id) (numbers_to m)) key) (sym (add-one n))
    ∙ (ap (λ ks. has_key ks key) (map-range_with_len_more (key_of id) 0 n n (omega arith))
    ∙ (list_any-append (is_same_key key) (map (key_of id) (numbers_to n)) (key_of id n ∷ [])
    ∙ (ap (λ b. b || (is_same_key key (key_of id n) || false)) (one_of_partitions id n key)
    ∙ (both-or (bytes_eq key.element id) (nat_lt key.partition n) (key.partition == n) (nat_lt key.partition (n + 1)) (below-more key.partition n _ _ refl refl)
    ∙ ap (λ m. bytes_eq key.element id && nat_lt key.partition m) (add-one n)))))

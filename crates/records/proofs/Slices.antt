-- A slice of the numbers under a name, with the rows that they are of.
use Rattle.std.proofs.Common.{◌≡◌, ℕ, zero, suc, Option, Some, bytes_eq, List, [], ◌∷◌, length, take, drop, map, find, refl, ◌∙◌, ap}
use Rattle.std.specs.List.{filter_map}
use Rattle.batch_history.specs.Answers.{instances_of_job}
use Rattle.batch_history.specs.declared.rows.JobInstance.{JobInstance}
use Rattle.records.specs.Indexes.{AreIndexed}
use Rattle.records.specs.Left.{instances_numbered}
use Rattle.records.specs.Maps.{Maps, is_instance}
use Rattle.records.proofs.Stepped.{found_each}

module _ {R : Type 0} (num : R → ℕ) (h : ℕ → Option R) where
  all-found : (l : List R) → map h (map num l) ≡ map (λ row. Some row) l → (k : ℕ) → filter_map h (take k (map num l)) ≡ take k l
  all-found [] each zero = refl
  all-found [] each (suc k) = refl
  all-found (x ∷ xs) each zero = refl
  all-found (x ∷ xs) each (suc k) =
      let first : h (num x) ≡ Some x = cc in
      let others : map h (map num xs) ≡ map (λ row. Some row) xs = cc in
      rw first (ap (λ l. x ∷ l) (all-found xs others k))

  sliced : (l : List R) → map h (map num l) ≡ map (λ row. Some row) l → (j k : ℕ) → filter_map h (take k (drop j (map num l))) ≡ take k (drop j l)
  sliced l each zero k = all-found l each k
  sliced [] each (suc j) zero = refl
  sliced [] each (suc j) (suc k) = refl
  sliced (x ∷ xs) each (suc j) k = let others : map h (map num xs) ≡ map (λ row. Some row) xs = cc in sliced xs others j k

-- the rows of a slice
pub instances_sliced : (maps : Maps) (names : List ℕ → List ℕ) (executions works : ℕ → List ℕ) (q : List ℕ) (j k : ℕ) → AreIndexed maps names executions works
    → instances_numbered (take k (drop j (names q))) maps.instances ≡ take k (drop j (instances_of_job q maps.instances))
instances_sliced maps names executions works q j k h =
    ap (λ (ns : List ℕ). instances_numbered (take k (drop j ns)) maps.instances) (h.instances_by_name q)
    ∙ sliced (λ (row : JobInstance). row.instance) (λ i. find (is_instance i) maps.instances) (instances_of_job q maps.instances)
    (found_each (λ (row : JobInstance). row.instance) (λ row. bytes_eq row.job q) maps.instances h.keyed.instances) j k

pub as_many : {R : Type 0} (num : R → ℕ) (l : List R) → length (map num l) ≡ length l
as_many num [] = refl
as_many num (x ∷ xs) = ap suc (as_many num xs)

-- as many numbers as job instances
pub instances_counted : (maps : Maps) (names : List ℕ → List ℕ) (executions works : ℕ → List ℕ) (q : List ℕ) → AreIndexed maps names executions works
    → length (names q) ≡ length (instances_of_job q maps.instances)
instances_counted maps names executions works q h =
    ap (λ (ns : List ℕ). length ns) (h.instances_by_name q) ∙ as_many (λ (row : JobInstance). row.instance) (instances_of_job q maps.instances)

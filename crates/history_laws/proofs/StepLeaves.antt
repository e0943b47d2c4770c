-- A step of a checked job stands once in it: all work keys with its id are of its own partitions.
use Rattle.std.proofs.Common.{◌≡◌, ℕ, suc, ◌+◌, ◌<◌, ◌≤◌, ◌&&◌, ◌||◌, All, nat_lt, Bool, true, false, cond, Option, None, Some, is_some, List, [], ◌∷◌, find, refl, sym, ◌∙◌, ap, subst, arith}
use Rattle.std.specs.Cmp.Lexicographic.{bytes_decides}
use Rattle.std.specs.Option.{option_map, option_and_then}
use Rattle.std.specs.Str.{bytes_eq}
use Rattle.std.proofs.lemmas.Bool.{and_parts, ltb-true, lt-ltb}
use Rattle.jsl_model.specs.Catalogues.{AreJobs}
use Rattle.jsl_model.specs.Faults.{IsChecked}
use Rattle.jsl_model.specs.Jobs.{JobTree}
use Rattle.jsl_model.specs.declared.element.Task.{Task}
use Rattle.job_plans.proofs.KeysOnce.{count-append, list-keys}
use Rattle.job_plans.proofs.Once.{ids-once}
use Rattle.job_plans.specs.Lists.{key_count}
use Rattle.job_plans.specs.Runnables.{Leaf, all_leaves, keys_of, all_keys, leaf_with}
use Rattle.job_plans.specs.declared.runnable.Runnable.{Runnable}
use Rattle.job_plans.specs.declared.runnable.Runnable.TheVariants.{Step as RunsStep}
use Rattle.walk_rules.proofs.SameKeys.{one_of_partitions, same-one, same-self}
use Rattle.walk_rules.specs.Counts.{one_if}
use Rattle.walk_rules.specs.Keys.{has_key, is_same_key, key_of, keys_of_step}
use Rattle.walk_rules.specs.declared.work_key.WorkKey.{WorkKey}
use Rattle.batch_history.proofs.Finding.{found-passes}
use Rattle.batch_history.specs.Replies.{runnable_of_job, partitions_of_job}
use Rattle.batch_history.specs.Walks.{job_named}

-- ---- Lists

all-found : {X : Type 0} (P : X → Type 0) (p : X → Bool) (xs : List X) (x : X) → All P xs → find p xs ≡ Some x → P x
all-found P p [] x h e = cc
all-found P p (y ∷ ys) x h e =
    (elim (p y) as (λ b. cond b (Some y) (find p ys) ≡ Some x → P x) [
      | true ↦ λ s. let same : y ≡ x = cc in subst P same (h 0 y (omega arith))
      | false ↦ λ s. all-found P p ys x (λ k d lt. h (suc k) d (omega (arith, lt))) s
    ]) e

-- the jobs of a catalogue are checked
pub job-checked : (catalogue : List JobTree) (name : List ℕ) (job : JobTree) → AreJobs catalogue → job_named catalogue name ≡ Some job → IsChecked job
job-checked catalogue name job jobs found = all-found IsChecked (λ (j : JobTree). bytes_eq j.id name) catalogue job jobs.checked found

-- what passes a test is found by it
pub find-some : {X : Type 0} (p q : X → Bool) (xs : List X) (x : X) → find p xs ≡ Some x → q x ≡ true → is_some (find q xs) ≡ true
find-some p q [] x e h = cc
find-some p q (y ∷ ys) x e h =
    (elim (p y) as (λ b. cond b (Some y) (find p ys) ≡ Some x → is_some (cond (q y) (Some y) (find q ys)) ≡ true) [
      | true ↦ λ s. let same : y ≡ x = cc in ap (λ b. is_some (cond b (Some y) (find q ys))) (ap q same ∙ h)
      | false ↦ λ s. (elim (q y) as (λ b. is_some (cond b (Some y) (find q ys)) ≡ true) [
        | true ↦ refl
        | false ↦ find-some p q ys x s h
      ])
    ]) e

pub some-of : {X : Type 0} (o : Option X) → is_some o ≡ true → (x : X) × (o ≡ Some x)
some-of None h = cc
some-of (Some x) h = (x, refl)

-- ---- A work key that stands once

counts-has : (key : WorkKey) (keys : List WorkKey) → has_key keys key ≡ true → 1 ≤ key_count key keys
counts-has key [] h = cc
counts-has key (k ∷ ks) h =
    (elim (is_same_key key k) as (λ b. is_same_key key k ≡ b → (b || has_key ks key) ≡ true → 1 ≤ one_if b + key_count key ks) [
      | true ↦ λ e t. omega arith
      | false ↦ λ e t. let more = counts-has key ks t in omega (arith, more)
    ]) refl h

counts-found : (key : WorkKey) (q : Leaf → Bool) (all : List Leaf) (l : Leaf) → find q all ≡ Some l → has_key (keys_of l) key ≡ true → 1 ≤ key_count key (all_keys all)
counts-found key q [] l e h = cc
counts-found key q (x ∷ rest) l e h =
    let both = count-append key (keys_of x) (all_keys rest) in
    (elim (q x) as (λ b. cond b (Some x) (find q rest) ≡ Some l → 1 ≤ key_count key (all_keys (x ∷ rest))) [
      | true ↦ λ s.
          let same : x ≡ l = cc in
          let here = counts-has key (keys_of x) (ap (λ z. has_key (keys_of z) key) same ∙ h) in
          omega (arith, both, here)
      | false ↦ λ s. let more = counts-found key q rest l s h in omega (arith, both, more)
    ]) e

one-leaf : (key : WorkKey) (q : Leaf → Bool) (all : List Leaf) (l other : Leaf) → key_count key (all_keys all) ≤ 1 → leaf_with all key ≡ Some l
    → find q all ≡ Some other → has_key (keys_of other) key ≡ true → other ≡ l
one-leaf key q [] l other once e f h = cc
one-leaf key q (x ∷ rest) l other once e f h =
    let both = count-append key (keys_of x) (all_keys rest) in
    (elim (has_key (keys_of x) key) as (λ b. has_key (keys_of x) key ≡ b → cond b (Some x) (leaf_with rest key) ≡ Some l → other ≡ l) [
      | true ↦ λ has s.
          let same : x ≡ l = cc in
          let here = counts-has key (keys_of x) has in
          (elim (q x) as (λ c. cond c (Some x) (find q rest) ≡ Some other → other ≡ l) [
            | true ↦ λ t. let is : x ≡ other = cc in sym is ∙ same
            | false ↦ λ t. let more = counts-found key q rest other t h in absurd (omega (arith, both, here, more, once))
          ]) f
      | false ↦ λ has s.
          (elim (q x) as (λ c. cond c (Some x) (find q rest) ≡ Some other → other ≡ l) [
            | true ↦ λ t.
                let is : x ≡ other = cc in
                absurd (let bad : true ≡ false = sym h ∙ (ap (λ z. has_key (keys_of z) key) (sym is) ∙ has) in cc)
            | false ↦ λ t. one-leaf key q rest l other (omega (arith, both, once)) s t h
          ]) f
    ]) refl e

-- ---- A partitioned step

-- a partitioned step among these steps and decisions
pub record IsPartitionedIn (all : List Leaf) (step : List ℕ) (n : ℕ) (task : Task) : Type 0 where
  pub leaf : Leaf
  pub found : leaf_with all (key_of step 0) ≡ Some leaf
  pub runs : leaf.runs ≡ RunsStep task
  pub partitions : leaf.partitions ≡ Some n
  pub once : key_count (key_of step 0) (all_keys all) ≤ 1

has-key : (leaf : Leaf) (n : ℕ) (key : WorkKey) → leaf.partitions ≡ Some n → has_key (keys_of leaf) key ≡ (bytes_eq key.element leaf.id && nat_lt key.partition n)
has-key leaf n key is = ap (λ o. has_key (keys_of_step leaf.id o) key) is ∙ one_of_partitions leaf.id n key

leaf-id : (all : List Leaf) (step : List ℕ) (n : ℕ) (task : Task) (p : IsPartitionedIn all step n task) → step ≡ p.leaf.id
leaf-id all step n task p =
    let has : has_key (keys_of p.leaf) (key_of step 0) ≡ true = found-passes (λ (l : Leaf). has_key (keys_of l) (key_of step 0)) all p.leaf p.found in
    (bytes_decides step p.leaf.id).0 (and_parts (bytes_eq step p.leaf.id) (nat_lt 0 n) (sym (has-key p.leaf n (key_of step 0) p.partitions) ∙ has)).0

-- what has a work key of the step has its first one
first-too : (other : Leaf) (o : Option ℕ) (step : List ℕ) (q : ℕ) → has_key (keys_of_step other.id o) (key_of step q) ≡ true → has_key (keys_of_step other.id o) (key_of step 0) ≡ true
first-too other None step q h =
    let is : key_of step q ≡ key_of other.id 0 = same-one (key_of step q) (key_of other.id 0) (only (is_same_key (key_of step q) (key_of other.id 0)) h) in
    ap (λ b. b || false) (same-self (key_of step 0) (key_of other.id 0) (ap (λ (k : WorkKey). key_of k.element 0) is))
  where
    only : (b : Bool) → (b || false) ≡ true → b ≡ true
    only true h = refl
    only false h = cc
first-too other (Some c) step q h =
    let both = and_parts (bytes_eq step other.id) (nat_lt q c) (sym (one_of_partitions other.id c (key_of step q)) ∙ h) in
    let lt = ltb-true q c both.1 in
    one_of_partitions other.id c (key_of step 0) ∙ (ap (λ b. b && nat_lt 0 c) both.0 ∙ lt-ltb 0 c (omega (arith, lt)))

-- each work key of the step is of the same one
pub same-leaf : (all : List Leaf) (step : List ℕ) (n : ℕ) (task : Task) (p : IsPartitionedIn all step n task) (q : ℕ) (other : Leaf)
    → leaf_with all (key_of step q) ≡ Some other → other ≡ p.leaf
same-leaf all step n task p q other found =
    let has : has_key (keys_of other) (key_of step q) ≡ true = found-passes (λ (l : Leaf). has_key (keys_of l) (key_of step q)) all other found in
    one-leaf (key_of step 0) (λ (l : Leaf). has_key (keys_of l) (key_of step q)) all p.leaf other p.once p.found found
    (first-too other other.partitions step q has)

-- each partition of it has a work key
pub partition-there : (all : List Leaf) (step : List ℕ) (n : ℕ) (task : Task) (p : IsPartitionedIn all step n task) (q : ℕ) → q < n
    → leaf_with all (key_of step q) ≡ Some p.leaf
partition-there all step n task p q lt =
    let id : step ≡ p.leaf.id = leaf-id all step n task p in
    let has : has_key (keys_of p.leaf) (key_of step q) ≡ true =
    has-key p.leaf n (key_of step q) p.partitions
    ∙ (ap (λ b. b && nat_lt q n) ((bytes_decides step p.leaf.id).1 id) ∙ lt-ltb q n lt) in
    let some = some-of (leaf_with all (key_of step q))
    (find-some (λ (l : Leaf). has_key (keys_of l) (key_of step 0)) (λ (l : Leaf). has_key (keys_of l) (key_of step q)) all p.leaf p.found has) in
    some.1 ∙ ap (λ (l : Leaf). Some l) (same-leaf all step n task p q some.0 some.1)

-- and no other number has one
pub partition-below : (all : List Leaf) (step : List ℕ) (n : ℕ) (task : Task) (p : IsPartitionedIn all step n task) (q : ℕ) (other : Leaf)
    → leaf_with all (key_of step q) ≡ Some other → q < n
partition-below all step n task p q other found =
    let same : other ≡ p.leaf = same-leaf all step n task p q other found in
    let has : has_key (keys_of p.leaf) (key_of step q) ≡ true =
    ap (λ (l : Leaf). has_key (keys_of l) (key_of step q)) (sym same) ∙ found-passes (λ (l : Leaf). has_key (keys_of l) (key_of step q)) all other found in
    ltb-true q n (and_parts (bytes_eq step p.leaf.id) (nat_lt q n) (sym (has-key p.leaf n (key_of step q) p.partitions) ∙ has)).1

-- ---- Of a job

some-run : (o : Option Leaf) (task : Task) (n : ℕ) → option_map (λ (l : Leaf). l.runs) o ≡ Some (RunsStep task) → option_and_then (λ (l : Leaf). l.partitions) o ≡ Some n
    → (l : Leaf) × (o ≡ Some l) × (l.runs ≡ RunsStep task) × (l.partitions ≡ Some n)
some-run None task n h k = cc
some-run (Some l) task n h k = (l, refl, (let is : l.runs ≡ RunsStep task = cc in is), k)

-- a partitioned step of a checked job
pub record IsPartitionedOf (job : Option JobTree) (step : List ℕ) (n : ℕ) (task : Task) : Type 0 where
  pub tree : JobTree
  pub is : job ≡ Some tree
  pub step_there : IsPartitionedIn (all_leaves tree.elements) step n task

partitioned-tree : (job : Option JobTree) (step : List ℕ) (n : ℕ) (task : Task) → ((tree : JobTree) → job ≡ Some tree → IsChecked tree)
    → runnable_of_job job (key_of step 0) ≡ Some (RunsStep task) → partitions_of_job job (key_of step 0) ≡ Some n → IsPartitionedOf job step n task
partitioned-tree None step n task checked runs partitions = cc
partitioned-tree (Some tree) step n task checked runs partitions =
    let found = some-run (leaf_with (all_leaves tree.elements) (key_of step 0)) task n runs partitions in
    let few = list-keys (key_of step 0) tree.elements in
    let once = ids-once tree (checked tree refl) step in
    record {
      tree = tree;
      is = refl;
      step_there = record { leaf = found.0; found = found.1; runs = found.2; partitions = found.3; once = omega (arith, few, once) };
    }

pub partitioned-of : (catalogue : List JobTree) (name : List ℕ) (step : List ℕ) (n : ℕ) (task : Task) → AreJobs catalogue
    → runnable_of_job (job_named catalogue name) (key_of step 0) ≡ Some (RunsStep task) → partitions_of_job (job_named catalogue name) (key_of step 0) ≡ Some n
    → IsPartitionedOf (job_named catalogue name) step n task
partitioned-of catalogue name step n task jobs runs partitions =
    partitioned-tree (job_named catalogue name) step n task (λ tree is. job-checked catalogue name tree jobs is) runs partitions

-- what is run for each of its partitions
pub runs-partition : (job : Option JobTree) (step : List ℕ) (n : ℕ) (task : Task) (p : IsPartitionedOf job step n task) (q : ℕ) → q < n
    → runnable_of_job job (key_of step q) ≡ Some (RunsStep task)
runs-partition job step n task p q lt =
    ap (λ j. runnable_of_job j (key_of step q)) p.is
    ∙ (ap (option_map (λ (l : Leaf). l.runs)) (partition-there (all_leaves p.tree.elements) step n task p.step_there q lt)
    ∙ ap (λ (r : Runnable). Some r) p.step_there.runs)

-- what has a work key of it is one of its partitions
pub record IsPartitionOf (job : Option JobTree) (step : List ℕ) (n : ℕ) (task : Task) (q : ℕ) : Type 0 where
  pub below : q < n
  pub count : partitions_of_job job (key_of step q) ≡ Some n
  pub runs : runnable_of_job job (key_of step q) ≡ Some (RunsStep task)

some-leaf : (o : Option Leaf) → is_some (option_map (λ (l : Leaf). l.runs) o) ≡ true → (l : Leaf) × (o ≡ Some l)
some-leaf None h = cc
some-leaf (Some l) h = (l, refl)

pub partition-of : (job : Option JobTree) (step : List ℕ) (n : ℕ) (task : Task) (p : IsPartitionedOf job step n task) (q : ℕ)
    → is_some (runnable_of_job job (key_of step q)) ≡ true → IsPartitionOf job step n task q
partition-of job step n task p q runs =
    let all : List Leaf = all_leaves p.tree.elements in
    let found = some-leaf (leaf_with all (key_of step q)) (sym (ap (λ j. is_some (runnable_of_job j (key_of step q))) p.is) ∙ runs) in
    let lt : q < n = partition-below all step n task p.step_there q found.0 found.1 in
    record {
      below = lt;
      count = ap (λ j. partitions_of_job j (key_of step q)) p.is
          ∙ (ap (option_and_then (λ (l : Leaf). l.partitions)) (partition-there all step n task p.step_there q lt) ∙ p.step_there.partitions);
      runs = runs-partition job step n task p q lt;
    }

-- A catalogue without the jobs that no row names.
use Rattle.std.proofs.Common.{◌≡◌, ◌∙◌, ◌<◌, ℕ, ◌+◌, ◌||◌, ◌&&◌, Bool, true, false, cond, Option, Some, None, is_some, List, [], ◌∷◌, ◌++◌, find, length, map, replicate, refl, sym, ap, subst, arith}
use Rattle.std.specs.Option.{option_map}
use Rattle.std.specs.List.{list_any}
use Rattle.std.specs.Str.{bytes_eq}
use Rattle.std.proofs.lemmas.Bool.Decides.{Decides-eqb}
use Rattle.std.proofs.lemmas.List.{length-append, length-replicate}
use Rattle.std.proofs.lemmas.Slice.Eq.{bytes_eq-Decides}
use Rattle.jsl_model.specs.Jobs.{JobTree}
use Rattle.batch_history.specs.declared.call.Entry.{Entry}
use Rattle.batch_history.specs.declared.rows.ExecutionRow.{ExecutionRow}
use Rattle.batch_history.specs.declared.rows.JobInstance.{JobInstance}
use Rattle.batch_history.specs.Legal.{IsLegal}
use Rattle.batch_history.specs.Lists.{Each}
use Rattle.batch_history.specs.Rows.{Rows, history, rows}
use Rattle.batch_history.specs.Walks.{job_named}
use Rattle.catalogue_laws.specs.Leaving.{AreShort, KeepsJobs, hidden_bytes, hidden_name, is_used, job_hidden, name_in_past, with_hidden}
use Rattle.catalogue_laws.specs.Renaming.{AreAlike, HasRenamed, entry_renamed, execution_renamed, instance_renamed, rows_renamed}
use Rattle.catalogue_laws.proofs.ShownInstances.{AreShown, IsShown, shown-used, shown_rows}
use Rattle.catalogue_laws.proofs.OtherNames.{each-of, find-mapped, legal_renamed, rows_are_renamed}

-- ---- Lists

pub found-front : {X : Type 0} (p : X → Bool) (xs more : List X) → is_some (find p xs) ≡ true → find p (xs ++ more) ≡ find p xs
found-front p [] more some = cc
found-front p (x ∷ xs) more some =
    elim (p x) as (λ b. is_some (cond b (Some x) (find p xs)) ≡ true → cond b (Some x) (find p (xs ++ more)) ≡ cond b (Some x) (find p xs)) [
      | true ↦ λ here. refl
      | false ↦ λ later. found-front p xs more later
    ] some

pub found-behind : {X : Type 0} (p : X → Bool) (xs more : List X) → Each (λ x. p x ≡ false) xs → find p (xs ++ more) ≡ find p more
found-behind p [] more none = refl
found-behind p (x ∷ xs) more none = ap (λ b. cond b (Some x) (find p (xs ++ more))) none.0 ∙ found-behind p xs more none.1

or-right : (a b : Bool) → b ≡ true → a || b ≡ true
or-right true b is = refl
or-right false b is = is

or-left : (a b : Bool) → a ≡ true → a || b ≡ true
or-left true b is = refl
or-left false b is = cc

-- each element passes a test with some element of the list
each-any : {X : Type 0} (p : X → X → Bool) → ((x : X) → p x x ≡ true) → (xs : List X) → Each (λ x. list_any (λ y. p y x) xs ≡ true) xs
each-any p self [] = tt
each-any {X} p self (z ∷ zs) =
    let later : X → Type 0 = λ x. list_any (λ y. p y x) zs ≡ true in
    let all : X → Type 0 = λ x. list_any (λ y. p y x) (z ∷ zs) ≡ true in
    (or-left (p z z) (list_any (λ y. p y z) zs) (self z), each-of later all zs (λ x is. or-right (p z x) (list_any (λ y. p y x) zs) is) (each-any p self zs))

-- what follows from each element that passes a test follows if one does
from-any : {X : Type 0} (p : X → Bool) (Q : X → Type 0) (C : Type 0) (xs : List X) → ((x : X) → p x ≡ true → Q x → C) → Each Q xs → list_any p xs ≡ true → C
from-any p Q C [] then all is = cc
from-any p Q C (x ∷ xs) then all is =
    elim (p x) as (λ b. p x ≡ b → b || list_any p xs ≡ true → C) [
      | true ↦ λ here _. then x here all.0
      | false ↦ λ here later. from-any p Q C xs then all.1 later
    ] refl is

pub map-same : {X : Type 0} (g : X → X) (xs : List X) → Each (λ x. g x ≡ x) xs → map g xs ≡ xs
map-same g [] all = refl
map-same g (x ∷ xs) all = λ i. all.0 i ∷ map-same g xs all.1 i

-- ---- Names

bytes-behind : (front a b : List ℕ) → bytes_eq (front ++ a) (front ++ b) ≡ bytes_eq a b
bytes-behind [] a b = refl
bytes-behind (x ∷ xs) a b = ap (λ t. t && bytes_eq (xs ++ a) (xs ++ b)) ((Decides-eqb x x).1 refl) ∙ bytes-behind xs a b

bytes-self : (a : List ℕ) → bytes_eq a a ≡ true
bytes-self a = (bytes_eq-Decides a a).1 refl

-- two texts of different lengths are not equal
pub equal-lengths : (a b : List ℕ) (test : Bool) → bytes_eq a b ≡ test → (length a ≡ length b → ⊥) → test ≡ false
equal-lengths a b true is differ = absurd (differ (ap length ((bytes_eq-Decides a b).0 is)))
equal-lengths a b false is differ = refl

pub hidden-length : (name : List ℕ) → length (hidden_name name) ≡ hidden_bytes + length name
hidden-length name = length-append (replicate hidden_bytes 0) name ∙ ap (λ n. n + length name) (length-replicate {A = ℕ} hidden_bytes 0)

none-hidden : (name : List ℕ) (jobs : List JobTree) → AreShort jobs → Each (λ (job : JobTree). bytes_eq job.id (hidden_name name) ≡ false) jobs
none-hidden name jobs short =
    each-of (λ (job : JobTree). length job.id < hidden_bytes) (λ (job : JobTree). bytes_eq job.id (hidden_name name) ≡ false) jobs
    (λ job less. equal-lengths job.id (hidden_name name) (bytes_eq job.id (hidden_name name)) refl (λ same. omega (arith, same, less, hidden-length name))) short

-- ---- Jobs

pub alike-same : (one : Option JobTree) → AreAlike one one
alike-same None = tt
alike-same (Some job) = record { restartable = refl; elements = refl }

alike-hidden : (one : Option JobTree) → AreAlike one (option_map job_hidden one)
alike-hidden None = tt
alike-hidden (Some job) = record { restartable = refl; elements = refl }

-- a job that isn't kept is found under its hidden name
hidden-found : (now earlier : List JobTree) (name : List ℕ) → AreShort now → job_named (with_hidden now earlier) (hidden_name name) ≡ option_map job_hidden (job_named earlier name)
hidden-found now earlier name short =
    found-behind (λ (job : JobTree). bytes_eq job.id (hidden_name name)) now (map job_hidden earlier) (none-hidden name now short)
    ∙ (find-mapped (λ (job : JobTree). bytes_eq job.id (hidden_name name)) job_hidden earlier
    ∙ ap (λ (p : JobTree → Bool). option_map job_hidden (find p earlier)) (λ i (job : JobTree). bytes-behind (replicate hidden_bytes 0) job.id name i))

abbrev IsKept : List JobTree → List JobTree → List ℕ → Type 0
IsKept now earlier name = job_named now name ≡ job_named earlier name

used-kept : (r : Rows) (now : List JobTree) (name : List ℕ) → KeepsJobs r now → is_used r name ≡ true → IsKept now r.catalogue name
used-kept r now name keeps is =
    from-any (λ (row : ExecutionRow). bytes_eq row.job name) (λ (row : ExecutionRow). IsKept now r.catalogue row.job) (IsKept now r.catalogue name) r.executions
    (λ row same kept. subst (IsKept now r.catalogue) ((bytes_eq-Decides row.job name).0 same) kept) keeps is

has-renamed : (r : Rows) (now : List JobTree) → AreShort now → KeepsJobs r now → HasRenamed (name_in_past r) r.catalogue (with_hidden now r.catalogue)
has-renamed r now short keeps name some =
    let earlier = r.catalogue in
    elim (is_used r name) as (λ b. is_used r name ≡ b → AreAlike (job_named earlier name) (job_named (with_hidden now earlier) (cond b name (hidden_name name)))) [
      | true ↦ λ used.
          let kept = used-kept r now name keeps used in
          let there : is_some (job_named now name) ≡ true = ap is_some kept ∙ some in
          let found : job_named (with_hidden now earlier) name ≡ job_named earlier name
          = found-front (λ (job : JobTree). bytes_eq job.id name) now (map job_hidden earlier) there ∙ kept in
          subst (AreAlike (job_named earlier name)) (sym found) (alike-same (job_named earlier name))
      | false ↦ λ unused. subst (AreAlike (job_named earlier name)) (sym (hidden-found now earlier name short)) (alike-hidden (job_named earlier name))
    ] refl

-- ---- Rows

-- the names of rows stay
names-stay : (r : Rows) (other : List JobTree) → AreShown r → rows_renamed (name_in_past r) other r ≡ record r { catalogue = other }
names-stay r other shown =
    let same_name : (name : List ℕ) → is_used r name ≡ true → name_in_past r name ≡ name = λ name used. ap (λ b. cond b name (hidden_name name)) used in
    let instances : map (instance_renamed (name_in_past r)) r.instances ≡ r.instances
    = map-same (instance_renamed (name_in_past r)) r.instances
    (each-of (IsShown r.executions) (λ (row : JobInstance). instance_renamed (name_in_past r) row ≡ row) r.instances
    (λ row is i. record row { job = same_name row.job (shown-used r row is) i }) shown) in
    let executions : map (execution_renamed (name_in_past r)) r.executions ≡ r.executions
    = map-same (execution_renamed (name_in_past r)) r.executions
    (each-of (λ (row : ExecutionRow). list_any (λ (other : ExecutionRow). bytes_eq other.job row.job) r.executions ≡ true) (λ (row : ExecutionRow). execution_renamed (name_in_past r) row ≡ row) r.executions
    (λ row used i. record row { job = same_name row.job used i })
    (each-any (λ (other row : ExecutionRow). bytes_eq other.job row.job) (λ row. bytes-self row.job) r.executions)) in
    λ i. record r { catalogue = other; instances = instances i; executions = executions i }

pub legal_without : (limit : ℕ) (earlier now : List JobTree) (log : List Entry) → AreShort now → KeepsJobs (rows (history earlier log)) now → IsLegal limit (history earlier log)
    → IsLegal limit (history (with_hidden now earlier) (map (entry_renamed (name_in_past (rows (history earlier log)))) log))
legal_without limit earlier now log short keeps legal =
    let r = rows (history earlier log) in
    legal_renamed limit (name_in_past r) earlier (with_hidden now earlier) log (has-renamed r now short keeps) legal

pub rows_without : (limit : ℕ) (earlier now : List JobTree) (log : List Entry) → AreShort now → KeepsJobs (rows (history earlier log)) now → IsLegal limit (history earlier log)
    → rows (history (with_hidden now earlier) (map (entry_renamed (name_in_past (rows (history earlier log)))) log)) ≡ record (rows (history earlier log)) { catalogue = with_hidden now earlier }
rows_without limit earlier now log short keeps legal =
    let r = rows (history earlier log) in
    rows_are_renamed limit (name_in_past r) earlier (with_hidden now earlier) log (has-renamed r now short keeps) legal ∙ names-stay r (with_hidden now earlier) (shown_rows limit (history earlier log) legal)

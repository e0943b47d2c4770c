-- The names of job instances, each once: those of the job instances that are the first of their job.
use Rattle.std.proofs.Common.{◌≡◌, ℕ, ◌<◌, ◌≤◌, ◌||◌, Bool, true, false, not, cond, Option, None, Some, IfSome, List, [], ◌∷◌, ◌++◌, length, filter, slice_get, bytes_eq, refl, subst, sym, ◌∙◌, ap, arith}
use Rattle.std.proofs.lemmas.Bool.{eq-eqb, ne_eqb}
use Rattle.std.proofs.lemmas.List.{append_assoc}
use Rattle.std.proofs.lemmas.Slice.Eq.{bytes_eq-Decides}
use Rattle.jsl_model.proofs.Among.{bytes_eq-sym, unheld-seen, unheld-new}
use Rattle.jsl_model.specs.Names.{distinct, unheld, is_among}
use Rattle.batch_history.specs.Answers.{instances_of_job}
use Rattle.batch_history.specs.Lists.{is_at}
use Rattle.batch_history.specs.declared.rows.JobInstance.{JobInstance}
use Rattle.records.specs.Left.{job_names, is_first_of_job}
use Rattle.records.specs.Maps.{instance_numbers, AreAbove, AreRising}

-- the number of the first job instance of a job
abbrev first_number : List ℕ → List JobInstance → Option ℕ
first_number q rows = slice_get (instance_numbers (instances_of_job q rows)) 0

-- one more name
among-pushed : (names : List (List ℕ)) (name q : List ℕ) → is_among (names ++ name ∷ []) q ≡ cond (bytes_eq name q) true (is_among names q)
among-pushed [] name q =
    ap (λ (b : Bool). b || false) (bytes_eq-sym q name)
    ∙ elim (bytes_eq name q) as (λ b. (b || false) ≡ cond b true false) [ true ↦ refl | false ↦ refl ]
among-pushed (other ∷ names) name q =
    ap (λ (b : Bool). bytes_eq q other || b) (among-pushed names name q)
    ∙ elim (bytes_eq q other) as (λ b. (b || cond (bytes_eq name q) true (is_among names q)) ≡ cond (bytes_eq name q) true (b || is_among names q)) [
      | true ↦ elim (bytes_eq name q) as (λ b. true ≡ cond b true true) [ true ↦ refl | false ↦ refl ]
      | false ↦ refl
    ]

names-pushed : (front : List JobInstance) (row : JobInstance) → job_names (front ++ row ∷ []) ≡ job_names front ++ row.job ∷ []
names-pushed [] row = refl
names-pushed (one ∷ front) row = ap (λ (ns : List (List ℕ)). one.job ∷ ns) (names-pushed front row)

-- the number of a row is not that of a row before it
before-it : (one : JobInstance) (front : List JobInstance) (row : JobInstance) (rest : List JobInstance)
    → AreAbove one.instance (instance_numbers (front ++ row ∷ rest)) → one.instance < row.instance
before-it one [] row rest h = h.0
before-it one (other ∷ front) row rest h = before-it one front row rest h.1

-- a job instance is the first of its job where its name doesn't stand before it
first-here : (front : List JobInstance) (row : JobInstance) (rest : List JobInstance) → AreRising (instance_numbers (front ++ row ∷ rest))
    → is_first_of_job (front ++ row ∷ rest) row ≡ not (is_among (job_names front) row.job)
first-here [] row rest up =
    let own : bytes_eq row.job row.job ≡ true = grind (arith, bytes_eq-Decides) in
    ap (λ (b : Bool). is_at row.instance (slice_get (instance_numbers (cond b (row ∷ instances_of_job row.job rest) (instances_of_job row.job rest))) 0)) own
    ∙ eq-eqb row.instance row.instance refl
first-here (one ∷ front) row rest up =
    let others : List JobInstance = instances_of_job row.job (front ++ row ∷ rest) in
    ap (λ (b : Bool). is_at row.instance (slice_get (instance_numbers (cond b (one ∷ others) others)) 0)) (bytes_eq-sym one.job row.job)
    ∙ elim (bytes_eq row.job one.job) as (λ b. is_at row.instance (slice_get (instance_numbers (cond b (one ∷ others) others)) 0)
    ≡ not (b || is_among (job_names front) row.job)) [
      | true ↦ ne_eqb one.instance row.instance (λ e. omega (arith, before-it one front row rest up.0, e))
      | false ↦ first-here front row rest up.1
    ]

firsts-from : (front rest : List JobInstance) → AreRising (instance_numbers (front ++ rest))
    → job_names (filter (is_first_of_job (front ++ rest)) rest) ≡ unheld (is_among (job_names front)) (job_names rest)
firsts-from front [] up = refl
firsts-from front (row ∷ rest) up =
    let all : List JobInstance = front ++ row ∷ rest in
    let again : (front ++ row ∷ []) ++ rest ≡ all = append_assoc front (row ∷ []) rest in
    let held : List ℕ → Bool = is_among (job_names front) in
    let new : List ℕ → Bool = is_among (job_names (front ++ row ∷ [])) in
    let firsts : List JobInstance = filter (is_first_of_job all) rest in
    let adds : (q : List ℕ) → new q ≡ cond (bytes_eq row.job q) true (held q) =
    λ q. ap (λ (ns : List (List ℕ)). is_among ns q) (names-pushed front row) ∙ among-pushed (job_names front) row.job q in
    let more : job_names firsts ≡ unheld new (job_names rest) =
    subst (λ (l : List JobInstance). job_names (filter (is_first_of_job l) rest) ≡ unheld new (job_names rest)) again
    (firsts-from (front ++ row ∷ []) rest (subst (λ (l : List JobInstance). AreRising (instance_numbers l)) (sym again) up)) in
    ap (λ (b : Bool). job_names (cond b (row ∷ firsts) firsts)) (first-here front row rest up)
    ∙ (elim (held row.job) as (λ b. held row.job ≡ b → job_names (cond (not b) (row ∷ firsts) firsts) ≡ unheld held (row.job ∷ job_names rest)) [
      | true ↦ λ is. more ∙ unheld-seen held new row.job adds is (job_names rest)
      | false ↦ λ is. ap (λ (ns : List (List ℕ)). row.job ∷ ns) more ∙ unheld-new held new row.job adds is (job_names rest)
    ]) refl

pub firsts_distinct : (rows : List JobInstance) → AreRising (instance_numbers rows) → job_names (filter (is_first_of_job rows) rows) ≡ distinct (job_names rows)
firsts_distinct rows up = firsts-from [] rows up

-- Behind the last job instance that is the first of its job

not-at : (x bound : ℕ) (first : Option ℕ) → IfSome first (λ n. n ≤ bound) → bound < x → is_at x first ≡ false
not-at x bound None le lt = refl
not-at x bound (Some n) le lt = ne_eqb n x (λ e. omega (arith, le, lt, e))

-- none above a number is the first of its job, where no first one is above it
pub none_first : (rows : List JobInstance) (bound : ℕ) → ((q : List ℕ) → IfSome (first_number q rows) (λ n. n ≤ bound)) → (row : JobInstance) → bound < row.instance
    → is_first_of_job rows row ≡ false
none_first rows bound each row lt = not-at row.instance bound (first_number row.job rows) (each row.job) lt

-- there are no more job instances of a job than job instances
pub instances_few : (name : List ℕ) (rows : List JobInstance) → length (instances_of_job name rows) ≤ length rows
instances_few name [] = omega arith
instances_few name (row ∷ rest) =
    let few : length (instances_of_job name rest) ≤ length rest = instances_few name rest in
    elim (bytes_eq row.job name) as (λ b. length (cond b (row ∷ instances_of_job name rest) (instances_of_job name rest)) ≤ length (row ∷ rest)) [
      | true ↦ omega (arith, few)
      | false ↦ omega (arith, few)
    ]

-- The jobs that may leave a log's catalogue.
use Rattle.std.proofs.Common.{◌≡◌, ◌∙◌, inl, inr, ℕ, suc, ◌<◌, ◌+◌, ◌||◌, not, Bool, true, false, cond, Option, Some, None, is_some, Result, Ok, Err, List, [], ◌∷◌, ◌++◌, length, take, drop, get_or, refl, sym, ap, subst, arith}
use Rattle.std.specs.Bool.{Decides}
use Rattle.std.specs.Prelude.{IfOk, MatchOption}
use Rattle.std.specs.List.{list_any}
use Rattle.std.specs.Str.{bytes_eq}
use Rattle.std.proofs.Math.Seq.{split_at, take-suc}
use Rattle.std.proofs.lemmas.Bool.{false≢true}
use Rattle.std.proofs.lemmas.List.{length-take-le}
use Rattle.std.proofs.lemmas.List.Folds.{list_any-append}
use Rattle.std.proofs.lemmas.Slice.Eq.{bytes_eq-Decides}
use Rattle.jsl_model.specs.Jobs.{JobTree}
use Rattle.batch_history.specs.declared.rows.ExecutionRow.{ExecutionRow}
use Rattle.batch_history.specs.Lists.{Each}
use Rattle.batch_history.specs.Rows.{Rows}
use Rattle.batch_history.specs.Walks.{job_named}
use Rattle.catalogue_laws.specs.Leaving.{AreNamed, KeepsJobs, is_used}
use Rattle.catalogue_laws.proofs.OtherNames.{IsNamed, each-append, each-of}
use Rattle.logged_script.specs.Compactions.{HasJob, IsFirstLeft, MayLeave}
use Rattle.logged_script.proofs.Forgetting.{each-both}

-- ---- The search among rows

or-end : (a b c : Bool) → (a || b) || c ≡ a || (b || (c || false))
or-end true b c = refl
or-end false true c = refl
or-end false false true = refl
or-end false false false = refl

-- one row more was looked at
pub found_more : (name : List ℕ) (rows : List ExecutionRow) (row : ExecutionRow) (begun old new : Bool) → old ≡ begun || list_any (λ (r : ExecutionRow). bytes_eq r.job name) rows
    → new ≡ old || bytes_eq row.job name → new ≡ begun || list_any (λ (r : ExecutionRow). bytes_eq r.job name) (rows ++ row ∷ [])
found_more name rows row begun old new was is =
    let p : ExecutionRow → Bool = λ r. bytes_eq r.job name in
    is
    ∙ (ap (λ b. b || p row) was
    ∙ (or-end begun (list_any p rows) (p row)
    ∙ ap (λ b. begun || b) (sym (list_any-append p rows (row ∷ [])))))

-- ---- One job

same-job : (job other : JobTree) → Some other ≡ Some job → job ≡ other
same-job job other is = cc is

-- a catalogue has a job if the one that it has under that id is the same
pub same_found : (found : Option JobTree) (job other : JobTree) (test : Bool) → found ≡ Some other → Decides test (job ≡ other) → Decides test (found ≡ Some job)
same_found found job other test is same =
    (λ holds. is ∙ ap (λ (j : JobTree). Some j) (sym (same.0 holds)), λ has. same.1 (same-job job other (sym is ∙ has)))

-- and if it has none under that id
pub none_found : (found : Option JobTree) (job : JobTree) → found ≡ None → Decides false (found ≡ Some job)
none_found found job none = (λ holds. absurd (false≢true holds), λ has. absurd (cc (sym none ∙ has)))

-- a job of which there is no job execution may leave, and one of which there is one may not if it isn't given
pub unused_leaves : (r : Rows) (given : List JobTree) (job : JobTree) (name : List ℕ) (used : Bool) → name ≡ job.id → used ≡ is_used r name → not used ≡ true → MayLeave r given job
unused_leaves r given job name true same is may = cc
unused_leaves r given job name false same is may = inr (ap (is_used r) (sym same) ∙ sym is)

pub used_stays : (r : Rows) (job : JobTree) (name : List ℕ) (used : Bool) → name ≡ job.id → used ≡ is_used r name → not used ≡ false → is_used r job.id ≡ true
used_stays r job name true same is may = ap (is_used r) (sym same) ∙ sym is
used_stays r job name false same is may = cc

-- ---- The first job that may not leave

-- one job more may leave
pub one_more : (r : Rows) (kept given : List JobTree) (number : ℕ) (job : JobTree) → number < length kept → job ≡ get_or kept number job
    → Each (MayLeave r given) (take number kept) → MayLeave r given job → Each (MayLeave r given) (take (number + 1) kept)
one_more r kept given number job within is before may =
    let next : suc number ≡ number + 1 = omega arith in
    let more : take number kept ++ job ∷ [] ≡ take (suc number) kept = ap (λ (j : JobTree). take number kept ++ j ∷ []) is ∙ sym (take-suc kept number job within) in
    subst (λ (n : ℕ). Each (MayLeave r given) (take n kept)) next
    (subst (Each (MayLeave r given)) more (each-append (MayLeave r given) (take number kept) job before may))

pub first_at : (r : Rows) (kept given : List JobTree) (number : ℕ) (job : JobTree) → number < length kept → job ≡ get_or kept number job
    → Each (MayLeave r given) (take number kept) → (HasJob given job → ⊥) → is_used r job.id ≡ true → IsFirstLeft r kept given number
first_at r kept given number job within is may differs used = record {
  before = take number kept;
  job = job;
  others = drop (suc number) kept;
  split = split_at kept number job within ∙ ap (λ (j : JobTree). take number kept ++ j ∷ drop (suc number) kept) (sym is);
  place = sym (length-take-le number kept (omega arith));
  may_leave = may;
  differs = differs;
  used = used;
}

-- ---- If all may leave, the jobs of rows are kept

or-right : (a b : Bool) → b ≡ true → a || b ≡ true
or-right true b is = refl
or-right false b is = is

or-left : (a b : Bool) → a ≡ true → a || b ≡ true
or-left true b is = refl
or-left false b is = cc

-- the job of each row is used
each-used : (rows : List ExecutionRow) → Each (λ (row : ExecutionRow). list_any (λ (r : ExecutionRow). bytes_eq r.job row.job) rows ≡ true) rows
each-used [] = tt
each-used (z ∷ zs) =
    let p : ExecutionRow → ExecutionRow → Bool = λ y x. bytes_eq y.job x.job in (
      or-left (p z z) (list_any (λ y. p y z) zs) ((bytes_eq-Decides z.job z.job).1 refl),
      each-of (λ (x : ExecutionRow). list_any (λ y. p y x) zs ≡ true) (λ (x : ExecutionRow). list_any (λ y. p y x) (z ∷ zs) ≡ true) zs (λ x is. or-right (p z x) (list_any (λ y. p y x) zs) is) (each-used zs),
    )

kept-here : (r : Rows) (given : List JobTree) (name : List ℕ) (job : JobTree) → MayLeave r given job → is_used r name ≡ true → job.id ≡ name → job_named given name ≡ Some job
kept-here r given name job (inl has) used same = subst (λ (n : List ℕ). job_named given n ≡ Some job) same has
kept-here r given name job (inr none) used same = absurd (false≢true (sym none ∙ (ap (is_used r) same ∙ used)))

kept-by : (r : Rows) (given : List JobTree) (name : List ℕ) (kept : List JobTree) → Each (MayLeave r given) kept → is_used r name ≡ true → is_some (job_named kept name) ≡ true
    → job_named given name ≡ job_named kept name
kept-by r given name [] all used some = cc
kept-by r given name (job ∷ rest) all used some =
    elim (bytes_eq job.id name) as (λ b. bytes_eq job.id name ≡ b → is_some (cond b (Some job) (job_named rest name)) ≡ true → job_named given name ≡ cond b (Some job) (job_named rest name)) [
      | true ↦ λ here _. kept-here r given name job all.0 used ((bytes_eq-Decides job.id name).0 here)
      | false ↦ λ here later. kept-by r given name rest all.1 used later
    ] refl some

pub keeps_jobs : (r : Rows) (kept given : List JobTree) → r.catalogue ≡ kept → AreNamed r → Each (MayLeave r given) kept → KeepsJobs r given
keeps_jobs r kept given is named all =
    each-both (λ (row : ExecutionRow). is_used r row.job ≡ true) (IsNamed r.catalogue) (λ (row : ExecutionRow). job_named given row.job ≡ job_named r.catalogue row.job) r.executions
    (λ row used some. kept-by r given row.job r.catalogue (subst (Each (MayLeave r given)) (sym is) all) used some) (each-used r.executions) named

-- the first job that may not leave, of a catalogue that the rows have
pub left_of : {E : Type 0} (r : Rows) (kept jobs given : List JobTree) (found : Result (Option ℕ) E) → r.catalogue ≡ kept → jobs ≡ kept → AreNamed r
    → IfOk found (λ n. MatchOption n (Each (MayLeave r given) jobs) (IsFirstLeft r jobs given))
    → IfOk found (λ n. MatchOption n (KeepsJobs r given) (IsFirstLeft r kept given))
left_of r kept jobs given (Ok None) is same named all = keeps_jobs r kept given is named (subst (Each (MayLeave r given)) same all)
left_of r kept jobs given (Ok (Some n)) is same named first = subst (λ (o : List JobTree). IsFirstLeft r o given n) same first
left_of r kept jobs given (Err why) is same named all = tt

-- it is that of the rows and of the catalogue that was read
pub left_at : {E : Type 0} (old r : Rows) (kept given read : List JobTree) (found : Result (Option ℕ) E) → old ≡ r → given ≡ read
    → IfOk found (λ n. MatchOption n (KeepsJobs old given) (IsFirstLeft old kept given)) → IfOk found (λ n. MatchOption n (KeepsJobs r read) (IsFirstLeft r kept read))
left_at old r kept given read found are is first =
    subst (λ (o : List JobTree). IfOk found (λ n. MatchOption n (KeepsJobs r o) (IsFirstLeft r kept o))) is
    (subst (λ (o : Rows). IfOk found (λ n. MatchOption n (KeepsJobs o given) (IsFirstLeft o kept given))) are first)

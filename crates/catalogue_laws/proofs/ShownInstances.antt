-- Each job instance has a job execution of its job.
use Rattle.std.proofs.Common.{◌≡◌, ◌∙◌, ◌==◌, ◌&&◌, ◌||◌, not, ℕ, ◌+◌, Bool, true, false, cond, Option, Some, None, List, [], ◌∷◌, ◌++◌, find, filter, reverse, refl, sym, ap, subst}
use Rattle.std.specs.List.{list_any}
use Rattle.std.specs.Str.{bytes_eq}
use Rattle.std.proofs.lemmas.Bool.Decides.{Decides-eqb}
use Rattle.std.proofs.lemmas.List.{reverse-append, reverse-reverse}
use Rattle.std.proofs.lemmas.Slice.Eq.{bytes_eq-Decides}
use Rattle.jsl_model.specs.Jobs.{JobTree}
use Rattle.batch_history.specs.declared.call.Call.{Call}
use Rattle.batch_history.specs.declared.call.Call.TheVariants.{Start, Restart, Stop, Abandon, Claim, Checkpoint, Finish, Lose, Purge}
use Rattle.batch_history.specs.declared.call.Entry.{Entry}
use Rattle.batch_history.specs.declared.call.Reply.{Reply}
use Rattle.batch_history.specs.declared.rows.ExecutionRow.{ExecutionRow}
use Rattle.batch_history.specs.declared.rows.JobInstance.{JobInstance}
use Rattle.batch_history.specs.declared.rows.WorkRow.{WorkRow}
use Rattle.batch_history.specs.Legal.{IsLegal}
use Rattle.batch_history.specs.Lists.{Each, change_first}
use Rattle.batch_history.specs.NextRows.{again_row, executions_after, fresh_row, instances_after, refreshed_at, refreshed_by, rows_after, rows_with, without, works_after}
use Rattle.batch_history.specs.Operations.{purged_by}
use Rattle.batch_history.specs.Replies.{is_execution}
use Rattle.batch_history.specs.Restarts.{first_plan}
use Rattle.batch_history.specs.Rows.{History, Rows, history, rows}
use Rattle.batch_history.specs.Walks.{job_named}
use Rattle.batch_history.specs.Works.{execution_of_operation}
use Rattle.batch_history.proofs.Legal.{legal-beginning}
use Rattle.batch_history.proofs.Legality.{rows_grown}
use Rattle.catalogue_laws.specs.Leaving.{is_used}
use Rattle.catalogue_laws.proofs.OtherNames.{each-of, each-append}

-- whether a job execution is of a job instance, and of its job
abbrev is_of : JobInstance → ExecutionRow → Bool
is_of i row = (row.instance == i.instance) && bytes_eq row.job i.job

abbrev pub IsShown : List ExecutionRow → JobInstance → Type 0
IsShown executions i = list_any (is_of i) executions ≡ true

abbrev pub AreShown : Rows → Type 0
AreShown r = Each (IsShown r.executions) r.instances

-- ---- Tests of lists

both : (a b : Bool) → a && b ≡ true → b ≡ true
both true b is = is
both false b is = cc

any-implied : {X : Type 0} (p q : X → Bool) (xs : List X) → ((x : X) → p x ≡ true → q x ≡ true) → list_any p xs ≡ true → list_any q xs ≡ true
any-implied p q [] implies is = is
any-implied p q (x ∷ xs) implies is =
    elim (p x) as (λ b. p x ≡ b → b || list_any p xs ≡ true → q x || list_any q xs ≡ true) [
      | true ↦ λ here _. ap (λ b. b || list_any q xs) (implies x here)
      | false ↦ λ here later.
          (elim (q x) as (λ b. b || list_any q xs ≡ true) [
            | true ↦ refl
            | false ↦ any-implied p q xs implies later
          ])
    ] refl is

any-front : {X : Type 0} (p : X → Bool) (xs more : List X) → list_any p xs ≡ true → list_any p (xs ++ more) ≡ true
any-front p [] more is = cc
any-front p (x ∷ xs) more is =
    elim (p x) as (λ b. b || list_any p xs ≡ true → b || list_any p (xs ++ more) ≡ true) [
      | true ↦ λ here. refl
      | false ↦ λ later. any-front p xs more later
    ] is

any-last : {X : Type 0} (p : X → Bool) (xs : List X) (x : X) → p x ≡ true → list_any p (xs ++ x ∷ []) ≡ true
any-last p [] x is = ap (λ b. b || false) is
any-last p (y ∷ ys) x is =
    elim (p y) as (λ b. b || list_any p (ys ++ x ∷ []) ≡ true) [
      | true ↦ refl
      | false ↦ any-last p ys x is
    ]

any-changed : {X : Type 0} (p q : X → Bool) (f : X → X) (xs : List X) → ((x : X) → p (f x) ≡ p x) → list_any p (change_first q f xs) ≡ list_any p xs
any-changed p q f [] same = refl
any-changed p q f (x ∷ xs) same =
    elim (q x) as (λ b. list_any p (cond b (f x ∷ xs) (x ∷ change_first q f xs)) ≡ p x || list_any p xs) [
      | true ↦ ap (λ b. b || list_any p xs) (same x)
      | false ↦ ap (λ b. p x || b) (any-changed p q f xs same)
    ]

-- what passes a test is left by a filter that it passes too
any-filtered : {X : Type 0} (p keep : X → Bool) (xs : List X) → ((x : X) → p x ≡ true → keep x ≡ true) → list_any p xs ≡ true → list_any p (filter keep xs) ≡ true
any-filtered p keep [] passes is = is
any-filtered p keep (x ∷ xs) passes is =
    elim (p x) as (λ b. p x ≡ b → b || list_any p xs ≡ true → list_any p (cond (keep x) (x ∷ filter keep xs) (filter keep xs)) ≡ true) [
      | true ↦ λ here _. ap (λ b. list_any p (cond b (x ∷ filter keep xs) (filter keep xs))) (passes x here) ∙ ap (λ b. b || list_any p (filter keep xs)) here
      | false ↦ λ here later.
          (elim (keep x) as (λ b. list_any p (cond b (x ∷ filter keep xs) (filter keep xs)) ≡ true) [
            | true ↦ ap (λ b. b || list_any p (filter keep xs)) here ∙ any-filtered p keep xs passes later
            | false ↦ any-filtered p keep xs passes later
          ])
    ] refl is

pub shown-used : (r : Rows) (i : JobInstance) → IsShown r.executions i → is_used r i.job ≡ true
shown-used r i is = any-implied (is_of i) (λ (row : ExecutionRow). bytes_eq row.job i.job) r.executions (λ row of. both (row.instance == i.instance) (bytes_eq row.job i.job) of) is

-- ---- One operation more

shown-front : (executions : List ExecutionRow) (row : ExecutionRow) (instances : List JobInstance) → Each (IsShown executions) instances → Each (IsShown (executions ++ row ∷ [])) instances
shown-front executions row instances all = each-of (IsShown executions) (IsShown (executions ++ row ∷ [])) instances (λ i is. any-front (is_of i) executions (row ∷ []) is) all

shown-refreshed : (catalogue : List JobTree) (works : List WorkRow) (at : ℕ) (call : Call) (given : Reply) (x : Option ℕ) (executions : List ExecutionRow) (instances : List JobInstance)
    → Each (IsShown executions) instances → Each (IsShown (refreshed_at catalogue works at call given x executions)) instances
shown-refreshed catalogue works at call given None executions instances all = all
shown-refreshed catalogue works at call given (Some x) executions instances all =
    each-of (IsShown executions) (IsShown (change_first (is_execution x) (refreshed_by catalogue works at call given) executions)) instances
    (λ i is. any-changed (is_of i) (is_execution x) (refreshed_by catalogue works at call given) executions (λ row. refl) ∙ is) all

started-is : (n : ℕ) (job : List ℕ) → (n == n) && bytes_eq job job ≡ true
started-is n job = ap (λ b. b && bytes_eq job job) ((Decides-eqb n n).1 refl) ∙ (bytes_eq-Decides job job).1 refl

shown-executions : (r : Rows) (works : List WorkRow) (at : ℕ) (call : Call) (given : Reply) → AreShown r
    → Each (IsShown (executions_after r works at call given)) (instances_after (r.last.instance + 1) call r.instances)
shown-executions r works at (Start job parameters) given all =
    let row = fresh_row (r.last.execution + 1) (r.last.instance + 1) at job parameters (first_plan (job_named r.catalogue job)) in
    let i : JobInstance = record { instance = r.last.instance + 1; job = job } in
    each-append (IsShown (r.executions ++ row ∷ [])) r.instances i (shown-front r.executions row r.instances all)
    (any-last (is_of i) r.executions row (started-is (r.last.instance + 1) job))
shown-executions r works at (Restart y parameters) given all =
    shown-front r.executions (again_row r (r.last.execution + 1) at parameters (find (is_execution y) r.executions)) r.instances all
shown-executions r works at (Stop y) given all = shown-refreshed r.catalogue works at (Stop y) given (Some y) r.executions r.instances all
shown-executions r works at (Abandon y) given all = shown-refreshed r.catalogue works at (Abandon y) given (Some y) r.executions r.instances all
shown-executions r works at Claim given all = shown-refreshed r.catalogue works at Claim given (execution_of_operation r.works Claim given) r.executions r.instances all
shown-executions r works at (Checkpoint w mark step) given all = shown-refreshed r.catalogue works at (Checkpoint w mark step) given (execution_of_operation r.works (Checkpoint w mark step) given) r.executions r.instances all
shown-executions r works at (Finish w outcome exit step) given all = shown-refreshed r.catalogue works at (Finish w outcome exit step) given (execution_of_operation r.works (Finish w outcome exit step) given) r.executions r.instances all
shown-executions r works at (Lose w) given all = shown-refreshed r.catalogue works at (Lose w) given (execution_of_operation r.works (Lose w) given) r.executions r.instances all
shown-executions r works at (Purge i) given all = all

left : (a b : Bool) → a && b ≡ true → a ≡ true
left true b is = refl
left false b is = cc

-- a job instance that stays keeps its job executions
stays : (n : ℕ) (executions : List ExecutionRow) (instances : List JobInstance) → Each (IsShown executions) instances
    → Each (IsShown (filter (λ (row : ExecutionRow). not (row.instance == n)) executions)) (filter (λ (i : JobInstance). not (i.instance == n)) instances)
stays n executions [] all = tt
stays n executions (i ∷ rest) all =
    elim (i.instance == n) as (λ b. (i.instance == n) ≡ b → Each (IsShown (filter (λ (row : ExecutionRow). not (row.instance == n)) executions)) (cond (not b) (i ∷ filter (λ (i : JobInstance). not (i.instance == n)) rest) (filter (λ (i : JobInstance). not (i.instance == n)) rest))) [
      | true ↦ λ gone. stays n executions rest all.1
      | false ↦ λ there. (
        any-filtered (is_of i) (λ (row : ExecutionRow). not (row.instance == n)) executions
            (λ row of. ap (λ (k : ℕ). not (k == n)) ((Decides-eqb row.instance i.instance).0 (left (row.instance == i.instance) (bytes_eq row.job i.job) of)) ∙ ap not there) all.0,
        stays n executions rest all.1,
      )
    ] refl

shown-without : (i : Option ℕ) (r : Rows) → AreShown r → AreShown (without i r)
shown-without None r all = all
shown-without (Some n) r all = stays n r.executions r.instances all

shown-after : (r : Rows) (e : Entry) → AreShown r → AreShown (rows_after r e)
shown-after r e all = shown-without (purged_by e.call) (rows_with r e) (shown-executions r (works_after (r.count + 1) e.who e.at e.call e.reply r.works) e.at e.call e.reply all)

-- ---- Whole histories

shown-past : (limit : ℕ) (catalogue : List JobTree) (past : List Entry) → IsLegal limit (history catalogue (reverse past)) → AreShown (rows (history catalogue (reverse past)))
shown-past limit catalogue [] legal = tt
shown-past limit catalogue (e ∷ older) legal =
    let split : reverse (e ∷ older) ≡ reverse older ++ e ∷ [] = reverse-append (e ∷ []) older in
    let before = legal-beginning limit (history catalogue (reverse (e ∷ older))) legal (reverse older) (e ∷ []) split in
    let h = history catalogue (reverse older) in
    let all = subst (λ (log : List Entry). IsLegal limit (history catalogue log)) split legal in
    subst (λ (log : List Entry). AreShown (rows (history catalogue log))) (sym split)
    (subst AreShown (sym (rows_grown limit h e all)) (shown-after (rows h) e (shown-past limit catalogue older before)))

pub shown_rows : (limit : ℕ) (h : History) → IsLegal limit h → AreShown (rows h)
shown_rows limit h legal =
    let twice : reverse (reverse h.log) ≡ h.log = reverse-reverse h.log in
    subst (λ (log : List Entry). AreShown (rows (history h.catalogue log))) twice
    (shown-past limit h.catalogue (reverse h.log) (subst (λ (l : List Entry). IsLegal limit (history h.catalogue l)) (sym twice) legal))

-- Jobs that are added before the hidden ones.
use Rattle.std.proofs.Common.{◌≡◌, ◌∙◌, ◌≤◌, ◌<◌, ℕ, ◌+◌, Bool, true, false, Option, Some, None, is_some, List, [], ◌∷◌, ◌++◌, find, length, map, refl, sym, ap, subst, arith, ltb-false, ltb-true}
use Rattle.std.specs.Prelude.{nat_lt}
use Rattle.std.specs.Str.{bytes_eq}
use Rattle.jsl_model.specs.Jobs.{JobTree}
use Rattle.batch_history.specs.declared.call.Call.{Call}
use Rattle.batch_history.specs.declared.call.Call.TheVariants.{Start, Restart, Stop, Abandon, Claim, Checkpoint, Finish, Lose, Purge}
use Rattle.batch_history.specs.declared.call.Entry.{Entry}
use Rattle.batch_history.specs.declared.rows.ExecutionRow.{ExecutionRow}
use Rattle.batch_history.specs.declared.rows.JobInstance.{JobInstance}
use Rattle.batch_history.specs.Legal.{IsLegal}
use Rattle.batch_history.specs.Lists.{Each}
use Rattle.batch_history.specs.Rows.{Rows, history, rows}
use Rattle.batch_history.specs.Walks.{job_named}
use Rattle.catalogue_laws.specs.Leaving.{AreShort, hidden_bytes, job_hidden, with_hidden}
use Rattle.catalogue_laws.specs.Renaming.{AreAlike, HasRenamed, call_renamed, entry_renamed, execution_renamed, instance_renamed, rows_renamed}
use Rattle.catalogue_laws.proofs.OtherNames.{each-of, legal_renamed, rows_are_renamed}
use Rattle.catalogue_laws.proofs.Leavers.{alike-same, equal-lengths, found-behind, found-front, map-same}
use Rattle.catalogue_laws.proofs.OverHidden.{none-behind, none-named}

-- ---- The same names

abbrev same : List ℕ → List ℕ
same name = name

each-all : {X : Type 0} (P : X → Type 0) (xs : List X) → ((x : X) → P x) → Each P xs
each-all P [] f = tt
each-all P (x ∷ xs) f = (f x, each-all P xs f)

same-call : (call : Call) → call_renamed same call ≡ call
same-call (Start job parameters) = refl
same-call (Restart x parameters) = refl
same-call (Stop x) = refl
same-call (Abandon x) = refl
same-call Claim = refl
same-call (Checkpoint w mark step) = refl
same-call (Finish w outcome exit step) = refl
same-call (Lose w) = refl
same-call (Purge i) = refl

same-log : (log : List Entry) → map (entry_renamed same) log ≡ log
same-log log = map-same (entry_renamed same) log (each-all (λ e. entry_renamed same e ≡ e) log (λ e i. record e { call = same-call e.call i }))

same-names : (other : List JobTree) (r : Rows) → rows_renamed same other r ≡ record r { catalogue = other }
same-names other r =
    let instances = map-same (instance_renamed same) r.instances (each-all (λ (row : JobInstance). instance_renamed same row ≡ row) r.instances (λ row. refl)) in
    let executions = map-same (execution_renamed same) r.executions (each-all (λ (row : ExecutionRow). execution_renamed same row ≡ row) r.executions (λ row. refl)) in
    λ i. record r { catalogue = other; instances = instances i; executions = executions i }

-- ---- The hidden jobs

each-front : {X : Type 0} (P : X → Type 0) (xs more : List X) → Each P (xs ++ more) → Each P xs
each-front P [] more all = tt
each-front P (x ∷ xs) more all = (all.0, each-front P xs more all.1)

none-long : (name : List ℕ) (jobs : List JobTree) → hidden_bytes ≤ length name → AreShort jobs → Each (λ (job : JobTree). bytes_eq job.id name ≡ false) jobs
none-long name jobs long short =
    each-of (λ (job : JobTree). length job.id < hidden_bytes) (λ (job : JobTree). bytes_eq job.id name ≡ false) jobs
    (λ job less. equal-lengths job.id name (bytes_eq job.id name) refl (λ same. omega (arith, same, less, long))) short

module _ (kept more hidden : List JobTree) (name : List ℕ) where
  abbrev is : JobTree → Bool
  is job = bytes_eq job.id name

  abbrev behind : List JobTree
  behind = map job_hidden hidden

  -- a name that a call can have
  found-short : length name < hidden_bytes → is_some (find is (kept ++ behind)) ≡ true → find is ((kept ++ more) ++ behind) ≡ find is (kept ++ behind)
  found-short short some =
      let none = none-named name hidden short in
      let kept_alone : find is (kept ++ behind) ≡ find is kept = none-behind is kept behind none in
      let there : is_some (find is kept) ≡ true = ap is_some (sym kept_alone) ∙ some in
      none-behind is (kept ++ more) behind none ∙ (found-front is kept more there ∙ sym kept_alone)

  -- a name that none can have
  found-long : hidden_bytes ≤ length name → AreShort (kept ++ more) → find is ((kept ++ more) ++ behind) ≡ find is (kept ++ behind)
  found-long long short =
      found-behind is (kept ++ more) behind (none-long name (kept ++ more) long short)
      ∙ sym (found-behind is kept behind (none-long name kept long (each-front (λ (job : JobTree). length job.id < hidden_bytes) kept more short)))

  found-grown : AreShort (kept ++ more) → is_some (find is (kept ++ behind)) ≡ true → find is ((kept ++ more) ++ behind) ≡ find is (kept ++ behind)
  found-grown short some =
      elim (nat_lt (length name) hidden_bytes) as (λ b. nat_lt (length name) hidden_bytes ≡ b → find is ((kept ++ more) ++ behind) ≡ find is (kept ++ behind)) [
        | true ↦ λ less. found-short (ltb-true (length name) hidden_bytes less) some
        | false ↦ λ long. found-long (ltb-false (length name) hidden_bytes long) short
      ] refl

has-grown : (kept more hidden : List JobTree) → AreShort (kept ++ more) → HasRenamed same (with_hidden kept hidden) (with_hidden (kept ++ more) hidden)
has-grown kept more hidden short name some =
    let earlier = job_named (with_hidden kept hidden) name in
    subst (AreAlike earlier) (sym (found-grown kept more hidden name short some)) (alike-same earlier)

-- a legal history over a catalogue with hidden jobs is legal over that with more jobs before these, with equal rows
pub legal_grown : (limit : ℕ) (kept more hidden : List JobTree) (log : List Entry) → AreShort (kept ++ more) → IsLegal limit (history (with_hidden kept hidden) log)
    → IsLegal limit (history (with_hidden (kept ++ more) hidden) log)
legal_grown limit kept more hidden log short legal =
    subst (λ (l : List Entry). IsLegal limit (history (with_hidden (kept ++ more) hidden) l)) (same-log log)
    (legal_renamed limit same (with_hidden kept hidden) (with_hidden (kept ++ more) hidden) log (has-grown kept more hidden short) legal)

pub rows_grown : (limit : ℕ) (kept more hidden : List JobTree) (log : List Entry) → AreShort (kept ++ more) → IsLegal limit (history (with_hidden kept hidden) log)
    → rows (history (with_hidden (kept ++ more) hidden) log) ≡ record (rows (history (with_hidden kept hidden) log)) { catalogue = with_hidden (kept ++ more) hidden }
rows_grown limit kept more hidden log short legal =
    ap (λ (l : List Entry). rows (history (with_hidden (kept ++ more) hidden) l)) (sym (same-log log))
    ∙ (rows_are_renamed limit same (with_hidden kept hidden) (with_hidden (kept ++ more) hidden) log (has-grown kept more hidden short) legal
    ∙ same-names (with_hidden (kept ++ more) hidden) (rows (history (with_hidden kept hidden) log)))

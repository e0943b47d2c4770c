-- Adding a job to those that a catalogue holds.
use Rattle.std.proofs.Common.{◌≡◌, ◌≢◌, ℕ, zero, suc, ◌<◌, Bool, true, false, cond, Option, None, Some, IsNone, IsSome, option_copied, ap, Bor, List, [], ◌∷◌, ◌++◌, length, length-append, get_or, find, refl, sym, ◌∙◌, arith}
use Rattle.std.specs.Cmp.Lexicographic.{bytes_decides}
use Rattle.std.proofs.lemmas.List.Elements.{All-push}
use Rattle.std.proofs.lemmas.List.Quantifiers.{all_pairs_push}
use Rattle.std.specs.Str.{bytes_eq}
use Rattle.jsl_model.specs.Jobs.{JobTree}
use Rattle.jsl_model.specs.Faults.{IsChecked}
use Rattle.jsl_model.specs.Catalogues.{AreJobs}

-- a search whose first step gives nothing: the test fails there, and the rest gives nothing
cond_none : {X : Type 0} (test : Bool) (x : X) (rest : Option X) → cond test (Some x) rest ≡ None → (test ≡ false) × (rest ≡ None)
cond_none true x rest none = cc
cond_none false x rest none = (refl, none)

-- where a search finds nothing, the test fails at each place
pub find_none-at : {X : Type 0} (p : X → Bool) (xs : List X) (k : ℕ) (d : X) → find p xs ≡ None → k < length xs → p (get_or xs k d) ≡ false
find_none-at p [] k d none below = absurd (omega arith)
find_none-at p (x ∷ xs) zero d none below = (cond_none (p x) x (find p xs) none).0
find_none-at p (x ∷ xs) (suc k) d none below = find_none-at p xs k d (cond_none (p x) x (find p xs) none).1 (omega arith)

-- texts whose test fails differ
differ : (one other : List ℕ) → bytes_eq one other ≡ false → one ≢ other
differ one other fails same = let holds : bytes_eq one other ≡ true = (bytes_decides one other).1 same in cc

-- one more job of a new id
pub jobs_push : (jobs : List JobTree) (job : JobTree) → AreJobs jobs → IsChecked job → length jobs < 256
    → find (λ held. bytes_eq held.id job.id) jobs ≡ None → AreJobs (jobs ++ job ∷ [])
jobs_push jobs job kept checked room none = record {
  few = omega (arith, length-append jobs (job ∷ []));
  checked = All-push IsChecked jobs job kept.checked checked;
  distinct = all_pairs_push (λ one other. one.id ≢ other.id) jobs job kept.distinct
      (λ k d below. differ (get_or jobs k d).id job.id (find_none-at (λ held. bytes_eq held.id job.id) jobs k d none below));
}

-- what a look-up that found nothing tells of the new job's id
pub not_held : (jobs : List JobTree) (job : JobTree) (id : List ℕ) (found : Option (Bor JobTree))
    → option_copied found ≡ find (λ held. bytes_eq held.id id) jobs → id ≡ job.id → found ≡ None
    → find (λ held. bytes_eq held.id job.id) jobs ≡ None
not_held jobs job id found told same none =
    ap (λ (sought : List ℕ). find (λ (held : JobTree). bytes_eq held.id sought) jobs) (sym same) ∙ (sym told ∙ ap option_copied none)

-- what a look-up that found a job tells of the new job's id
pub is_held : (jobs : List JobTree) (job : JobTree) (id : List ℕ) (found : Option (Bor JobTree)) (one : Bor JobTree)
    → option_copied found ≡ find (λ held. bytes_eq held.id id) jobs → id ≡ job.id → found ≡ Some one
    → find (λ held. bytes_eq held.id job.id) jobs ≡ Some one.now
is_held jobs job id found one told same some =
    ap (λ (sought : List ℕ). find (λ (held : JobTree). bytes_eq held.id sought) jobs) (sym same) ∙ (sym told ∙ ap option_copied some)

-- a search that finds nothing finds no job
pub none_not_some : {X : Type 0} (sought : Option X) → sought ≡ None → IsSome sought → ⊥
none_not_some None none some = cc
none_not_some (Some x) none some = cc

-- a search that finds a job does not find nothing
pub some_not_none : {X : Type 0} (sought : Option X) (x : X) → sought ≡ Some x → IsNone sought → ⊥
some_not_none None x some none = cc
some_not_none (Some y) x some none = cc

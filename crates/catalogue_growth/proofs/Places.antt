-- The first place at which two lists of jobs differ.
use Rattle.std.proofs.Common.{◌≡◌, ◌≢◌, ℕ, suc, ◌<◌, ◌≤◌, List, ◌∷◌, ◌++◌, length, take, drop, get_or, sym, ◌∙◌, ap, arith, length-drop, drop-cons}
use Rattle.std.proofs.Math.Seq.{split_at}
use Rattle.std.proofs.lemmas.List.{length-take-le}
use Rattle.jsl_model.specs.Jobs.{JobTree}
use Rattle.catalogue_growth.specs.Growth.{IsFirstOther}

-- the jobs ahead of a place are the same, and the jobs behind it begin otherwise
first_at : (kept given : List JobTree) (number : ℕ) (job : JobTree) → number < length kept → job ≡ get_or kept number job
    → given ≡ take number kept ++ drop number given → ((more : List JobTree) → drop number given ≡ job ∷ more → ⊥)
    → IsFirstOther kept given number
first_at kept given number job within is begins differs = record {
  before = take number kept;
  job = job;
  others = drop (suc number) kept;
  rest = drop number given;
  split = split_at kept number job within ∙ ap (λ (j : JobTree). take number kept ++ j ∷ drop (suc number) kept) (sym is);
  place = sym (length-take-le number kept (omega arith));
  begins = begins;
  differs = differs;
}

-- the given jobs end ahead of a kept job
pub first_missing : (kept given : List JobTree) (number : ℕ) (job : JobTree) → number < length kept → job ≡ get_or kept number job
    → given ≡ take number kept ++ drop number given → length given ≤ number → IsFirstOther kept given number
first_missing kept given number job within is begins ended =
    first_at kept given number job within is begins (λ more e. omega (arith, ap length e, length-drop number given))

-- another job stands in the place of a kept job
pub first_differing : (kept given : List JobTree) (number : ℕ) (job other : JobTree) → number < length kept → job ≡ get_or kept number job
    → given ≡ take number kept ++ drop number given → number < length given → other ≡ get_or given number other → job ≢ other
    → IsFirstOther kept given number
first_differing kept given number job other within is begins longer stands differs =
    first_at kept given number job within is begins (λ more e. let rest = drop-cons given number other longer in differs (cc))

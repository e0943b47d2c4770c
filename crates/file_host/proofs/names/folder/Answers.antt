use Rattle.std.proofs.Common.{◌≡◌, ◌∙◌, arith, ℕ, zero, suc, ◌-◌, List, take, refl, ap, subst}
use Rattle.std.specs.Prelude.{Some, slice_range}
use Rattle.std.specs.Str.Pattern.{RFindsChar}
use Rattle.file_host.specs.Names.{before_slash}
use Rattle.file_host.proofs.names.folder.Goals as goal

before-slash : (path folder : List ℕ) (at end : ℕ) → (at ≡ 0 → ⊥) → folder ≡ slice_range path 0 at → folder ≡ before_slash path (Some (at, end))
before-slash path folder zero end other is = absurd (other refl)
before-slash path folder (suc at) end other is = let same : suc at - 0 ≡ suc at = omega arith in is ∙ ap (λ (n : ℕ). take n path) same

pub returns-in-Some-eq0 : goal.returns-in-Some-eq0
returns-in-Some-eq0 c = (Some (0, c.in-Some-eq0.ensures.cases.0), subst (λ (n : ℕ). RFindsChar 0x2f c.args.path.now (Some (n, c.in-Some-eq0.ensures.cases.0))) c.in-Some-eq0.field-0-test c.in-Some-eq0.ensures.cases.1, refl)

pub returns-in-Some : goal.returns-in-Some
returns-in-Some c = (Some (c.in-Some.at, c.in-Some.ensures.cases.0), c.in-Some.ensures.cases.1, before-slash _ _ _ _ c.in-Some.at-test.1 c.range.ensures.value)

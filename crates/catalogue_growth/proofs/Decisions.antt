-- The `==` that is derived for a step and for a transition element is true exactly if the two are equal.
use Rattle.std.proofs.Common.{◌≡◌, ◌==◌, Bool, Option, ℕ, ap, rules}
use Rattle.std.specs.Bool.{Decides}
use Rattle.std.specs.Option.{option_eq}
use Rattle.std.specs.Cmp.{booleans_Decides}
use Rattle.std.proofs.lemmas.Bool.Decides.{Decides-and, Decides-eqb}
use Rattle.std.proofs.lemmas.Slice.Eq.{bytes_eq-Decides}
use Rattle.jsl_model.specs.declared.element.Task.{Task}
use Rattle.jsl_model.specs.declared.element.Step.{Step}
use Rattle.jsl_model.specs.declared.element.Then.{Then}
use Rattle.jsl_model.specs.declared.element.Transition.{Transition}
use Rattle.jsl_model.specs.contracts.element.TaskPartialEq.TheImpl as task_impl
use Rattle.jsl_model.specs.contracts.element.StepPartialEq.TheImpl as step_impl
use Rattle.jsl_model.specs.contracts.element.ThenPartialEq.TheImpl as then_impl
use Rattle.jsl_model.specs.contracts.element.TransitionPartialEq.TheImpl as transition_impl

then_decides : (a b : Then) → Decides (then_impl.ghosts.eq a b) (a ≡ b)
then_decides a b = search rules

task_decides : (a b : Task) → Decides (task_impl.ghosts.eq a b) (a ≡ b)
task_decides a b = search rules

partitions_decide : (a b : Option ℕ) → Decides (option_eq ◌==◌ a b) (a ≡ b)
partitions_decide a b = search rules

by_parts : {P Q : Type 0} (test : Bool) → Decides test P → (P → Q) → (Q → P) → Decides test Q
by_parts test parts join split = (λ e. join (parts.0 e), λ same. parts.1 (split same))

pub transition_decides : (a b : Transition) → Decides (transition_impl.ghosts.eq a b) (a ≡ b)
transition_decides a b =
    by_parts _ (Decides-and _ _ (bytes_eq-Decides a.on b.on) (then_decides a.then b.then))
    (λ parts i. record { on = parts.0 i; then = parts.1 i })
    (λ same. (ap (λ (t : Transition). t.on) same, ap (λ (t : Transition). t.then) same))

pub step_decides : (a b : Step) → Decides (step_impl.ghosts.eq a b) (a ≡ b)
step_decides a b =
    by_parts _ (Decides-and _ _ (Decides-eqb a.start_limit b.start_limit)
    (Decides-and _ _ (booleans_Decides a.allow_start_if_complete b.allow_start_if_complete)
    (Decides-and _ _ (partitions_decide a.partitions b.partitions) (task_decides a.task b.task))))
    (λ parts i. record {
      start_limit = parts.0 i;
      allow_start_if_complete = parts.1.0 i;
      partitions = parts.1.1.0 i;
      task = parts.1.1.1 i;
    })
    (λ same. (
      ap (λ (s : Step). s.start_limit) same,
      (ap (λ (s : Step). s.allow_start_if_complete) same, (ap (λ (s : Step). s.partitions) same, ap (λ (s : Step). s.task) same)),
    ))

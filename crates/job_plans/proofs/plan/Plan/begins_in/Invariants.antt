use Rattle.std.proofs.Common.{◌≡◌, drop}
use Rattle.std.specs.List.{list_any}
use Rattle.std.specs.Str.{bytes_eq}
use Rattle.job_plans.proofs.plan.Plan.begins_in.Given as goal

abbrev pub invariant-loop-element : goal.invariant-loop-element
invariant-loop-element l = list_any (λ element. bytes_eq element.id l.self.from) (drop l.element-index l.element-items) ≡ list_any (λ element. bytes_eq element.id l.self.from) l.element-items

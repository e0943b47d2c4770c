use Rattle.std.proofs.Common.{◌≡◌, drop}
use Rattle.jsl_model.specs.Names.{is_among}
use Rattle.job_walk.proofs.first_facts.is_among.Given as goal

abbrev pub invariant-loop-step : goal.invariant-loop-step
invariant-loop-step l = is_among (drop l.step-index l.steps) l.id ≡ is_among l.steps l.id

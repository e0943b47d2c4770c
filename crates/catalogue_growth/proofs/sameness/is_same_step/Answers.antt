use Rattle.std.proofs.Common.{rules}
use Rattle.catalogue_growth.proofs.Decisions.{step_decides}
use Rattle.catalogue_growth.proofs.sameness.is_same_step.Goals as goal

pub returns : goal.returns
returns c = search (rules, step_decides)

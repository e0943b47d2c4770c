use Rattle.std.proofs.Common.{ap}
use Rattle.records.specs.Maps.{Maps}
use Rattle.restart_rules.specs.Restarting.{rows_over}
use Rattle.seq_repository.proofs.restored.RestoredRowRestorationRepository.new.Goals as goal

pub returns-clause-made : goal.returns-clause-made
returns-clause-made g c = ap (λ (m : Maps). rows_over c.args.catalogue c.args.count c.args.last m) c.new.ensures

use Rattle.target_graph.proofs.Paths.{no_cycle}
use Rattle.target_graph.proofs.laws.ranked_has_no_cycle.Goals as goal

pub returns : goal.returns
returns c = no_cycle

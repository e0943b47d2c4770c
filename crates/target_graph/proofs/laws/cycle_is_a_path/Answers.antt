use Rattle.target_graph.proofs.Paths.{cycle-path}
use Rattle.target_graph.proofs.laws.cycle_is_a_path.Goals as goal

pub returns : goal.returns
returns c = cycle-path

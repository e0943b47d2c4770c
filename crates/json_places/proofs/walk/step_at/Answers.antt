use Rattle.std.proofs.Common.{arith}
use Rattle.json_places.proofs.Counted.{within}
use Rattle.json_places.proofs.walk.step_at.Goals as goal

pub returns-then-at-nodes : goal.returns-then-at-nodes
returns-then-at-nodes c j begins = let inside = within c.args.nodes.now c.args.at j begins in absurd (omega arith)

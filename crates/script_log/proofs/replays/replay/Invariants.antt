use Rattle.std.proofs.Common.{length, map}
use Rattle.durable_log.specs.Shown.{record_shown}
use Rattle.script_log.proofs.Replaying.{Replayed}
use Rattle.script_log.proofs.replays.replay.Given as goal

abbrev pub invariant-loop-rest : goal.invariant-loop-rest
invariant-loop-rest g l = Replayed g.E.Engine.keeps g.E.Engine.reply l._catalogue (map record_shown l.records) (map record_shown l.rest) (g.E.Engine.stands l.engine)

abbrev pub decreases-loop-rest : goal.decreases-loop-rest
decreases-loop-rest g l = length l.rest

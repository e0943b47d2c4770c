use Rattle.log_host.proofs.Replays.{tell-noted, tell-time, silent-time}
use Rattle.file_host.proofs.host.FileHostHost.tell.Goals as goal

pub returns-then-self-clause-time : goal.returns-then-self-clause-time
returns-then-self-clause-time g c = silent-time c.args.self.now.tape.past c.then-self.result.past c.args.piece.now c.then-self.ensures

pub returns-in-Ok-clause-crash : goal.returns-in-Ok-clause-crash
returns-in-Ok-clause-crash g c = tell-noted c.args.self.now.tape.past c.then-self-in-Ok.result.past _ c.args.piece.now c.then-self-in-Ok.ensures

pub returns-in-Ok-clause-time : goal.returns-in-Ok-clause-time
returns-in-Ok-clause-time g c = tell-time c.args.self.now.tape.past c.then-self-in-Ok.result.past 1 _ c.args.piece.now c.then-self-in-Ok.ensures

pub returns-in_default-clause-time : goal.returns-in_default-clause-time
returns-in_default-clause-time g c = tell-time c.args.self.now.tape.past c.then-self-in_default.result.past 0 0 c.args.piece.now c.then-self-in_default.ensures

use Rattle.log_host.proofs.Replays.{sync-noted, refused-noted}
use Rattle.file_host.proofs.host.FileHostHost.sync.Goals as goal

pub returns-then-self-clause-crash : goal.returns-then-self-clause-crash
returns-then-self-clause-crash g c = refused-noted c.args.self.now.tape.past c.then-self.result.past c.then-self.ensures

pub returns-in-Ok-clause-crash : goal.returns-in-Ok-clause-crash
returns-in-Ok-clause-crash g c = sync-noted c.args.self.now.tape.past c.then-self-in-Ok.result.past _ c.then-self-in-Ok.ensures

pub returns-in-Err-clause-crash : goal.returns-in-Err-clause-crash
returns-in-Err-clause-crash g c = sync-noted c.args.self.now.tape.past c.then-self-in-Err.result.past _ c.then-self-in-Err.ensures

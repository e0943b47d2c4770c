use Rattle.log_host.proofs.Replays.{write-noted, refused-write-noted}
use Rattle.file_host.proofs.host.FileHostHost.write_at.Goals as goal

pub returns-then-self-clause-crash : goal.returns-then-self-clause-crash
returns-then-self-clause-crash g c = refused-write-noted c.args.self.now.tape.past c.then-self.result.past c.args.at c.args.bytes.now c.then-self.ensures

pub returns-in-Ok-clause-crash : goal.returns-in-Ok-clause-crash
returns-in-Ok-clause-crash g c = write-noted c.args.self.now.tape.past c.then-self-in-Ok.result.past _ c.args.at c.args.bytes.now c.then-self-in-Ok.ensures c.requires

pub returns-in-Err-clause-crash : goal.returns-in-Err-clause-crash
returns-in-Err-clause-crash g c = write-noted c.args.self.now.tape.past c.then-self-in-Err.result.past _ c.args.at c.args.bytes.now c.then-self-in-Err.ensures c.requires

use Rattle.program_calls.proofs.Reading.{read-next}
use Rattle.program_calls.proofs.memory.QuietArtifact.read.Goals as goal

pub returns : goal.returns
returns c = read-next c.args.self.now.items c.args.self.now.left c.new.result c.if-self-eq0.false c.new.ensures.bytes

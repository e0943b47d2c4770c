use Rattle.log_base.proofs.Written.{stands_still}
use Rattle.log_base.proofs.writing.BaseFile.put.Goals as goal

pub invariant_of-self : goal.invariant_of-self
invariant_of-self c = (
  c.push.ensures.rest,
  stands_still c.push.result c.self.inside.file.bytes.items c.push.new.self.bytes.items _ c.self.invariant.1 c.push.ensures.records c.push.ensures.stands c.push.ensures.err,
)

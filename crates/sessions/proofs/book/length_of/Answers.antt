use Rattle.sessions.proofs.Limits.{legal_within}
use Rattle.sessions.proofs.book.length_of.Goals as goal

pub returns-clause-legal : goal.returns-clause-legal
returns-clause-legal g c = legal_within _ _ _ c.requires c.len.ensures.legal

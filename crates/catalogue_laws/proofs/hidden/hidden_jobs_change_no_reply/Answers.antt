use Rattle.catalogue_laws.proofs.OtherNames.{named-after}
use Rattle.catalogue_laws.proofs.OverHidden.{same_reply, same_answer, same_rows}
use Rattle.catalogue_laws.proofs.hidden.hidden_jobs_change_no_reply.Goals as goal

pub returns-clause-reply : goal.returns-clause-reply
returns-clause-reply c = same_reply

pub returns-clause-answer : goal.returns-clause-answer
returns-clause-answer c = same_answer

pub returns-clause-rows : goal.returns-clause-rows
returns-clause-rows c = same_rows

pub returns-clause-named : goal.returns-clause-named
returns-clause-named c = named-after

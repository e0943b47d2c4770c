use Rattle.history_laws.proofs.SameRows.{same_reply, same_answer, same_legal, same_rows}
use Rattle.history_laws.proofs.same_rows.histories_with_the_same_rows_are_answered_alike.Goals as goal

pub returns-clause-reply : goal.returns-clause-reply
returns-clause-reply c = same_reply

pub returns-clause-answer : goal.returns-clause-answer
returns-clause-answer c = same_answer

pub returns-clause-legal : goal.returns-clause-legal
returns-clause-legal c = same_legal

pub returns-clause-rows : goal.returns-clause-rows
returns-clause-rows c = same_rows

use Rattle.seq_repository.proofs.answers.answer.Goals as goal

pub returns-in-JobExecutions : goal.returns-in-JobExecutions
returns-in-JobExecutions c = λ r cs is es ws. rw c.in-JobExecutions.is (rw is (rw es c.executions.ensures))

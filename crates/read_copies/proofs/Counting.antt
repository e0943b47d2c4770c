-- The counts of a repository are those of the history that it stands for.
use Rattle.std.proofs.Common.{◌≡◌, Ok}
use Rattle.batch_history.specs.Answers.{answer, counts_of}
use Rattle.batch_history.specs.Rows.{History, rows}
use Rattle.batch_history.specs.declared.query.Answer.TheVariants.{StatusCounts as AreCounts}
use Rattle.batch_history.specs.declared.query.CountsByStatus.{CountsByStatus}
use Rattle.batch_history.specs.declared.query.Query.TheVariants.{StatusCounts}

pub counts_are : (h : History) (counts : CountsByStatus) → answer h StatusCounts ≡ Ok (AreCounts counts) → counts ≡ counts_of (rows h).executions
counts_are h counts is = cc

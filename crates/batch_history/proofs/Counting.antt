-- Each job execution is counted once.
use Rattle.std.proofs.Common.{◌≡◌, ◌+◌, List, [], ◌∷◌, length, refl, arith}
use Rattle.batch_ids.specs.declared.status.BatchStatus.{BatchStatus}
use Rattle.batch_ids.specs.declared.status.BatchStatus.TheVariants.{Starting, Started, Stopping, Stopped, Failed, Completed, Abandoned}
use Rattle.batch_history.specs.declared.query.CountsByStatus.{CountsByStatus}
use Rattle.batch_history.specs.declared.rows.ExecutionRow.{ExecutionRow}
use Rattle.batch_history.specs.Answers.{with_one_more, counts_of, total}
use Rattle.batch_history.specs.Replies.{row_status}

one-more : (status : BatchStatus) (counts : CountsByStatus) → total (with_one_more status counts) ≡ total counts + 1
one-more Starting counts = omega arith
one-more Started counts = omega arith
one-more Stopping counts = omega arith
one-more Stopped counts = omega arith
one-more Failed counts = omega arith
one-more Completed counts = omega arith
one-more Abandoned counts = omega arith

pub total_of : (rows : List ExecutionRow) → total (counts_of rows) ≡ length rows
total_of [] = refl
total_of (row ∷ rest) = omega (arith, one-more (row_status row) (counts_of rest), total_of rest)

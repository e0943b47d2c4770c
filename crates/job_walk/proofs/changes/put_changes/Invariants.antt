use Rattle.std.proofs.Common.{◌≡◌, vec_len}
use Rattle.job_walk.specs.KeptLists.{put_all}
use Rattle.job_walk.proofs.changes.put_changes.Given as goal

abbrev pub invariant-loop-change : goal.invariant-loop-change
invariant-loop-change l = put_all l.changes.items l.lists.items ≡ put_all l.initial.changes.items l.initial.lists.items

abbrev pub decreases-loop-change : goal.decreases-loop-change
decreases-loop-change l = vec_len l.changes

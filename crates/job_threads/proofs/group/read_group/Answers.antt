use Rattle.std.proofs.Common.{[], refl, true, false}
use Rattle.job_threads.proofs.Turns.{roles-calm, group-begin, group-dropped, group-kept, group-end, group-full, group-fault}
use Rattle.job_threads.proofs.group.read_group.Goals as goal

pub loop-read-init : goal.loop-read-init
loop-read-init g c = rw c.new-kept.ensures.items ([], _, group-begin c.args.roles c.args.size (g.K.Artifacts.seen c.args.kit.now))

pub read_item-requires : goal.read_item-requires
read_item-requires g c = roles-calm c.args.roles _ _ c.loop-read.invariant.2.read.calm c.requires

pub returns-in-Err : goal.returns-in-Err
returns-in-Err g c = group-fault c.args.roles c.args.size c.loop-read.read _ c.in-Err.field-0 _ _ _ c.loop-read.invariant c.in-Err.ensures

pub returns-in-Ok-End : goal.returns-in-Ok-End
returns-in-Ok-End g c = group-end c.args.roles c.args.size record { read = c.loop-read.read; kept = c.loop-read.kept; ended = true } _ _ _ c.loop-read.invariant (rw c.in-Ok-End.field-0-is at c.in-Ok-End.ensures) refl

pub loop-read-preserved-in-Ok-Dropped : goal.loop-read-preserved-in-Ok-Dropped
loop-read-preserved-in-Ok-Dropped g c = group-dropped c.args.roles c.args.size c.loop-read.read _ _ _ _ c.loop-read.invariant c.loop-read-test.true (rw c.in-Ok-Dropped.field-0-is at c.in-Ok-Dropped.ensures)

pub returns : goal.returns
returns g c = group-full c.args.roles c.args.size record { read = c.loop-read.read; kept = c.loop-read.kept; ended = false } _ _ c.loop-read.invariant c.loop-read-test.false refl

pub loop-read-preserved : goal.loop-read-preserved
loop-read-preserved g c = group-kept c.args.roles c.args.size c.loop-read.read c.in-Ok-Kept.item c.loop-read.kept.items c.push.new.self.items _ _ _ c.loop-read.invariant c.loop-read-test.true (rw c.in-Ok-Kept.field-0-is at c.in-Ok-Kept.ensures) c.in-Ok.ensures.items

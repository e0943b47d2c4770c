use Rattle.std.proofs.Common.{[], Bool, slice_index_or, subst}
use Rattle.durable_log.specs.Shown.{record_shown}
use Rattle.durable_log.specs.declared.record.Record.{Record}
use Rattle.script_log.specs.Replays.{AnswersAlike}
use Rattle.script_log.proofs.Replaying.{replayed-slice, replayed-refused}
use Rattle.script_log.proofs.replays.replay.Goals as goal

pub loop-rest-preserved : goal.loop-rest-preserved
loop-rest-preserved g c =
    let d : Record = record { mark = 0; line = record { ref_ptr = (0, 0); now = [] }; reply_check = 0 } in
    replayed-slice g.E.Engine.keeps g.E.Engine.reply c.args._catalogue.now c.args.records.now c.loop-rest.rest.now d (g.E.Engine.stands c.loop-rest.engine) (g.E.Engine.stands c.is_alike.new.engine) c.in-len1-up.len_at_least c.loop-rest.invariant
    (λ h stands. subst (λ (v : Bool). AnswersAlike g.E.Engine.keeps g.E.Engine.reply h (record_shown (slice_index_or c.loop-rest.rest.now 0 d)) (g.E.Engine.stands c.is_alike.new.engine) v) c.if-not-branch.false (c.in_ok-is_alike.ensures h stands))

pub returns-then-not-branch-clause-fault : goal.returns-then-not-branch-clause-fault
returns-then-not-branch-clause-fault g c =
    let d : Record = record { mark = 0; line = record { ref_ptr = (0, 0); now = [] }; reply_check = 0 } in
    replayed-refused g.E.Engine.keeps g.E.Engine.reply c.args._catalogue.now c.args.records.now c.loop-rest.rest.now d (g.E.Engine.stands c.loop-rest.engine) (g.E.Engine.stands c.is_alike.new.engine) c.in-len1-up.len_at_least c.loop-rest.invariant
    (λ h stands. subst (λ (v : Bool). AnswersAlike g.E.Engine.keeps g.E.Engine.reply h (record_shown (slice_index_or c.loop-rest.rest.now 0 d)) (g.E.Engine.stands c.is_alike.new.engine) v) c.if-not-branch.true (c.in_ok-is_alike.ensures h stands))

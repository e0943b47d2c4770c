use Rattle.std.proofs.Common.{sym, subst}
use Rattle.job_plans.specs.Cursors.{CursorState}
use Rattle.job_walk.specs.Changing.{AreChanges}
use Rattle.job_walk.proofs.Learning.{still-kept}
use Rattle.job_walk.proofs.cursor.Cursor.learn.Goals as goal

pub invariant_of-self : goal.invariant_of-self
invariant_of-self c =
    let cursor : CursorState = record { job = c.self.inside.job; from = c.self.inside.from; facts = c.self.inside.known.items } in
    let made : AreChanges cursor c.args.key.now c.args.fact c.in-Ok.changes.items = subst (λ (s : CursorState). AreChanges s c.args.key.now c.args.fact c.in-Ok.changes.items) (sym c.self.view_is) c.in-Ok.ensures in
    still-kept cursor c.self.inside.lists.items c.put_changes.new.lists.items c.args.key.now c.args.fact c.in-Ok.changes.items c.put_fact.new.known.items c.self.invariant
    made.lists c.put_fact.ensures c.put_changes.ensures

use Rattle.std.proofs.Common.{◌∙◌, ap, arith}
use Rattle.std.specs.List.{list_any}
use Rattle.batch_history.specs.Replies.{is_running_in}
use Rattle.batch_history.specs.declared.call.Reply.TheVariants.{Done}
use Rattle.seq_repository.specs.Kept.{Kept}
use Rattle.seq_repository.proofs.Purging.{purge_entered}
use Rattle.seq_repository.proofs.Keeping.{kept_purge}
use Rattle.seq_repository.proofs.repository.Repository.enter_purge.Goals as goal

pub invariant_of-self : goal.invariant_of-self
invariant_of-self g c =
    let kept : Kept = record { catalogue = c.self.inside.catalogue; count = c.self.inside.count; last = c.self.inside.last; records = c.self.inside.records } in
    kept_purge g.row.LIMIT c.self.inside.agenda.keys c.self.inside.cursors kept c.remove_instance.new.self c.args.i c.self.invariant (omega (arith, c.requires.room, ap (λ (r : Kept). r.count) c.self.view_is))
    (ap (λ (r : Kept). list_any (is_running_in c.args.i) r.records.executions) c.self.view_is ∙ c.requires.finished) c.remove_instance.ensures

pub returns : goal.returns
returns g c =
    rw (← c.self.view_is)
    (purge_entered c.self.inside.catalogue c.self.inside.count c.self.inside.last c.self.inside.records c.remove_instance.new.self 0 0 c.args.i Done c.remove_instance.ensures)

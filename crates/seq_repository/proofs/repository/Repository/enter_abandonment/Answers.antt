use Rattle.std.proofs.Common.{false, None, subst, arith}
use Rattle.std.specs.Option.{option_copied}
use Rattle.seq_repository.specs.Changes.{row_given_up}
use Rattle.seq_repository.specs.Kept.{Kept}
use Rattle.seq_repository.specs.Reports.{IsChange}
use Rattle.seq_repository.proofs.Reported.{is_given_up}
use Rattle.seq_repository.proofs.repository.Repository.enter_abandonment.Goals as goal

pub put_change-requires : goal.put_change-requires
put_change-requires g c =
    let kept : Kept = record { catalogue = c.self.inside.catalogue; count = c.self.inside.count; last = c.self.inside.last; records = c.self.inside.records } in
    let change = is_given_up kept c.args.x c.args.at (option_copied c.execution.result) c.in_ok-row.row c.self.invariant.settled c.execution.ensures.found c.in_ok-row.ensures.row c.in_ok-row.ensures.own in (
      omega arith,
      (
        c.requires.room,
        (
          row_given_up c.args.self.now.catalogue c.args.self.now.records.works c.args.at,
          subst (λ (k : Kept). IsChange k c.args.x (row_given_up k.catalogue k.records.works c.args.at) c.in_ok-row.row false None) c.self.view_is change,
        ),
      ),
    )

pub returns-clause-rows : goal.returns-clause-rows
returns-clause-rows g c =
    let kept : Kept = record { catalogue = c.self.inside.catalogue; count = c.self.inside.count; last = c.self.inside.last; records = c.self.inside.records } in
    let change = is_given_up kept c.args.x c.args.at (option_copied c.execution.result) c.in_ok-row.row c.self.invariant.settled c.execution.ensures.found c.in_ok-row.ensures.row c.in_ok-row.ensures.own in
    c.put_change.ensures.rows (row_given_up c.args.self.now.catalogue c.args.self.now.records.works c.args.at)
    (subst (λ (k : Kept). IsChange k c.args.x (row_given_up k.catalogue k.records.works c.args.at) c.in_ok-row.row false None) c.self.view_is change)

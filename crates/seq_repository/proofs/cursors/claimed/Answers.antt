use Rattle.std.proofs.Common.{◌≡◌, ◌++◌, ◌∷◌, [], Bor, IfSome, Option, Some, sym, subst}
use Rattle.std.specs.Option.{option_copied}
use Rattle.batch_history.specs.Works.{busy_work}
use Rattle.batch_history.specs.declared.rows.ExecutionRow.{ExecutionRow}
use Rattle.seq_repository.specs.Following.{IsFirst, Walks}
use Rattle.seq_repository.proofs.Walked.{claimed_ready, claimed_walks}
use Rattle.seq_repository.proofs.cursors.claimed.Goals as goal

pub take-requires : goal.take-requires
take-requires c =
    record {
      ready =
          claimed_ready c.args.catalogue.now c.args.records.now.works c.in-Some.row.now c.in_ok-cursor-in-Some.cursor c.args.item.now c.in_ok-key.key
          (subst (λ (o : Option (Bor ExecutionRow)). IsFirst c.args.catalogue.now c.args.records.now.works (option_copied o) c.args.item.now) c.in-Some.is c.requires.first)
          c.in_ok-key.ensures c.in_ok-cursor-in-Some.ensures;
    }

pub returns-in-Ok : goal.returns-in-Ok
returns-in-Ok c = λ who at.
    subst (λ (o : Option (Bor ExecutionRow)). Walks c.args.catalogue.now (c.args.records.now.works ++ busy_work who at c.args.item.now ∷ []) (option_copied o) (Some c.take.new.self)) (sym c.in-Some.is)
    (claimed_walks c.args.catalogue.now c.args.records.now.works c.in-Some.row.now c.in_ok-cursor-in-Some.cursor c.take.new.self c.args.item.now c.in_ok-key.key who at
    (subst (λ (o : Option (Bor ExecutionRow)). IfSome (option_copied o) (λ (row : ExecutionRow). row.execution ≡ c.args.item.now.execution)) c.in-Some.is c.requires.own)
    (subst (λ (o : Option (Bor ExecutionRow)). IsFirst c.args.catalogue.now c.args.records.now.works (option_copied o) c.args.item.now) c.in-Some.is c.requires.first)
    c.in_ok-key.ensures c.in_ok-cursor-in-Some.ensures c.in-Ok.ensures.taken)

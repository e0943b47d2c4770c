use Rattle.std.proofs.Common.{◌≡◌, true, false, find, Some, sym, ◌∙◌, ap}
use Rattle.batch_history.specs.Replies.{is_execution}
use Rattle.seq_repository.proofs.Agendas.{none_due}
use Rattle.seq_repository.proofs.Entries.{found-execution}
use Rattle.seq_repository.proofs.Numbers.{empty_list}
use Rattle.restart_rules.proofs.Placing.{placed_found}
use Rattle.seq_repository.proofs.search.find_claimable.Goals as goal

pub next_key-requires : goal.next_key-requires
next_key-requires c =
    let placed = placed_found c.args.catalogue.now (is_execution c.new.result) c.args.records.now.executions c.in-Some-execution.row.now (sym c.in-Some-execution.ensures.found) c.requires.placed in
    let found : find (is_execution c.new.result) c.args.records.now.executions ≡ Some c.in-Some-execution.row.now = sym c.in-Some-execution.ensures.found in
    record {
      placed = placed;
      there = ap (λ x. find (is_execution x) c.args.records.now.executions) (found-execution c.new.result c.args.records.now.executions c.in-Some-execution.row.now found) ∙ found;
      followed = c.requires.followed;
    }

pub returns-in_default-clause-first : goal.returns-in_default-clause-first
returns-in_default-clause-first c =
    sym (none_due c.args.catalogue.now c.args.records.now.works c.args.records.now.executions c.args.agenda.now.keys c.requires.agenda
    (empty_list c.args.agenda.now.keys (λ lt. let no : false ≡ true = c.in_default.ensures.variant.1 lt in cc)))

use Rattle.std.proofs.Common.{◌≡◌, ◌==◌, [], filter, sym, ◌∙◌, ap, subst}
use Rattle.batch_history.specs.declared.rows.CheckpointRow.{CheckpointRow}
use Rattle.record_lists.specs.Places.{mark_at, AreApart}
use Rattle.record_lists.proofs.Listing.{empty_list, none_gone}
use Rattle.record_lists.proofs.checkpoint_lists.CheckpointLists.clear.Goals as goal

pub returns-then-is_empty-clause-set : goal.returns-then-is_empty-clause-set
returns-then-is_empty-clause-set c =
    let none : filter (λ (row : CheckpointRow). row.instance == c.args.i) c.leave_out.new.self ≡ [] =
    sym c.of_instance.ensures ∙ empty_list _ (sym c.is_empty.ensures ∙ c.if-is_empty.true) in
    λ q. ap (λ l. mark_at l q) (c.remove_instance.ensures ∙ none_gone c.args.i c.leave_out.new.self none) ∙ c.leave_out.ensures.set q

pub returns-then-is_empty-clause-apart : goal.returns-then-is_empty-clause-apart
returns-then-is_empty-clause-apart c =
    let none : filter (λ (row : CheckpointRow). row.instance == c.args.i) c.leave_out.new.self ≡ [] =
    sym c.of_instance.ensures ∙ empty_list _ (sym c.is_empty.ensures ∙ c.if-is_empty.true) in
    subst AreApart (sym (c.remove_instance.ensures ∙ none_gone c.args.i c.leave_out.new.self none)) c.leave_out.ensures.apart

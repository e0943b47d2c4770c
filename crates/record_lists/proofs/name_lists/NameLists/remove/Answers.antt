use Rattle.std.proofs.Common.{sym, ◌∙◌}
use Rattle.record_lists.proofs.Listing.{empty_list}
use Rattle.record_lists.proofs.name_lists.NameLists.remove.Goals as goal

pub forget-requires : goal.forget-requires
forget-requires c = sym c.under.ensures ∙ empty_list _ (sym c.is_empty.ensures ∙ c.if-is_empty.true)

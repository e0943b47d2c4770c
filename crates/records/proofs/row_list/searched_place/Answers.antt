use Rattle.std.proofs.Common.{rules, ◌∙◌}
use Rattle.std.proofs.lemmas.List.Sorted.{answers_always}
use Rattle.records.specs.contracts.row_list.searched_place.{T-type}
use Rattle.records.specs.declared.row_list.Slot.{Slot}
use Rattle.records.proofs.Numbered.{searched}
use Rattle.records.proofs.row_list.searched_place.Goals as goal

pub returns : goal.returns
returns g c rising =
    let facts = c.binary_search_by_key.ensures in
    let by_key = facts.position (λ (slot : Slot (T-type g.row.T)). slot.number) (answers_always _ _ _ (λ f a r g called. search rules)) in
    c.ok.ensures.value
    ∙ searched (λ (slot : Slot (T-type g.row.T)). slot.number) c.args.slots.now c.args.number c.binary_search_by_key.result rising facts.bound by_key

use Rattle.std.proofs.Common.{◌∙◌, ◌++◌, false, map, ap}
use Rattle.serde_json.specs.View.{items_view}
use Rattle.element_numbers.specs.Numbering.{all_in}
use Rattle.element_numbers.specs.Ways.{bare, bare_of}
use Rattle.element_numbers.proofs.numbering.elements_of.Goals as goal

pub returns : goal.returns
returns c = c.in_ok-add_all.ensures ∙ ap (λ xs. map bare_of xs ++ map bare (all_in false 0 (items_view c.args.list.now))) c.new-all.ensures.items

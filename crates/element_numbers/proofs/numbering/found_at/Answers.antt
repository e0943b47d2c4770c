use Rattle.std.proofs.Common.{◌≡◌, ◌∙◌, ◌<◌, length, map, false, slice_get, Some, Ok, option_map, refl, ap, sym, arith}
use Rattle.std.proofs.lemmas.Option.{slice_get-map, slice_get_read}
use Rattle.serde_json.specs.View.{items_view}
use Rattle.element_numbers.specs.Numbering.{key_of, all_in}
use Rattle.element_numbers.specs.Ways.{bare, bare_of, way_of, way_to}
use Rattle.element_numbers.proofs.Held.{by_way, no_way}
use Rattle.element_numbers.proofs.numbering.found_at.Goals as goal

pub returns-in-Back-clause-element : goal.returns-in-Back-clause-element
returns-in-Back-clause-element c =
    let es = all_in false 0 (items_view c.args.list.now) in
    let all = c.in_ok-all.all.items in
    let n = c.args.number in
    let numbered = c.index-numbered.result.now in
    let within : n < length all = omega arith in
    let here : slice_get all n ≡ Some numbered = slice_get_read all (length all) n numbered refl within c.index-numbered.ensures in
    let added : map bare_of all ≡ map bare es = c.in_ok-all.ensures in
    let held : slice_get (map bare es) n ≡ Some (bare_of numbered) = ap (λ xs. slice_get xs n) (sym added) ∙ slice_get-map bare_of all n ∙ ap (option_map bare_of) here in
    let path : Ok (map key_of c.reverse.new.self.items) ≡ way_to n es = ap (λ ss. Ok (map key_of ss)) c.reverse.ensures.items ∙ sym (ap way_of c.in-Back.is) ∙ c.in_ok-back.ensures false in
    by_way es n (map key_of c.reverse.new.self.items) (bare_of numbered) path held

pub returns-clause-element : goal.returns-clause-element
returns-clause-element c =
    no_way (all_in false 0 (items_view c.args.list.now)) c.args.number c.in-Left.field-0 (sym (ap way_of c.in-Left.is) ∙ c.in_ok-back.ensures false)

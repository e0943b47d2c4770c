use Rattle.std.proofs.Common.{◌≡◌, ◌∙◌, false, true, ap, sym, arith}
use Rattle.serde_json.specs.View.{view, items_view}
use Rattle.jsl_json.proofs.Nesting.{list_depth, item_depth}
use Rattle.element_numbers.specs.Numbering.{named}
use Rattle.element_numbers.specs.Ways.{way_of, way_to, outside, all_by}
use Rattle.element_numbers.proofs.Held.{goes_on, goes_past, through_item, through_list, of_kind}
use Rattle.element_numbers.proofs.numbering.+way.Goals as goal

pub way_in-way_at-requires : goal.way_in-way_at-requires
way_in-way_at-requires t c =
    let d = item_depth c.args.list.now c.loop-index.index c.index-list-index.result c.loop-index-test.true c.index-list-index.is in
    (omega (arith, d), tt)

pub way_by-way_in-requires : goal.way_by-way_in-requires
way_by-way_in-requires t c =
    let d = list_depth c.args.name.now (view c.args.value.now) (items_view c.in-Some.list.now) (sym c.in-Some.ensures) in
    (omega (arith, d), tt)

pub way_in-returns-in-Back : goal.way_in-returns-in-Back
way_in-returns-in-Back t c =
    λ in_split. goes_on in_split c.args.list.now c.loop-index.index c.loop-index.left c.index-list-index.result _ _
    c.loop-index-test.true c.index-list-index.is (sym (ap way_of c.in-Back.is) ∙ c.in_ok-back.ensures in_split) (c.loop-index.invariant in_split)

pub way_in-loop-index-preserved : goal.way_in-loop-index-preserved
way_in-loop-index-preserved t c =
    λ in_split. goes_on in_split c.args.list.now c.loop-index.index c.loop-index.left c.index-list-index.result _ _
    c.loop-index-test.true c.index-list-index.is (sym (ap way_of c.in-Left.is) ∙ c.in_ok-back.ensures in_split) (c.loop-index.invariant in_split)

pub way_in-returns : goal.way_in-returns
way_in-returns t c =
    λ in_split. goes_past in_split c.args.list.now c.loop-index.index c.loop-index.left _ c.loop-index-test.false (c.loop-index.invariant in_split)

pub way_at-returns : goal.way_at-returns
way_at-returns t c =
    λ in_split. through_item c.args.number in_split c.args.index (view c.args.value.now) (way_of c.in_ok-inner.inner) (way_of c.in_ok-way.way) (omega arith) c.in_ok-inner.ensures c.in_ok-way.ensures

pub way_inside-returns-in_ok-way_by-in-true-default : goal.way_inside-returns-in_ok-way_by-in-true-default
way_inside-returns-in_ok-way_by-in-true-default t c =
    let d = view c.args.value.now in
    c.in_ok-way_by-in-true-default.ensures false ∙ ap (way_to c.args.number) (sym (of_kind d true c.is_text-split.result c.in-true-default.ensures c.is_text-split.ensures))

pub way_inside-returns-in_ok-way_by-in-false-true : goal.way_inside-returns-in_ok-way_by-in-false-true
way_inside-returns-in_ok-way_by-in-false-true t c =
    let d = view c.args.value.now in
    c.in_ok-way_by-in-false-true.ensures true ∙ ap (way_to c.args.number) (sym (of_kind d false true c.in-false-true.ensures c.in-false-true.ensures'))

pub way_inside-returns-in-false-false : goal.way_inside-returns-in-false-false
way_inside-returns-in-false-false t c =
    ap (way_to c.args.number) (sym (of_kind (view c.args.value.now) false false c.in-false-false.ensures c.in-false-false.ensures'))

pub way_by-returns-in_ok-way-in-Some : goal.way_by-returns-in_ok-way-in-Some
way_by-returns-in_ok-way-in-Some t c =
    let name = c.args.name.now in
    let inner = c.in_ok-inner-in-Some.inner in
    let way = c.in_ok-way-in-Some.way in
    let out : way_of way ≡ outside (named name) (way_of inner) = c.in_ok-way-in-Some.ensures ∙ ap (λ k. outside (named k) (way_of inner)) c.in_ok-from_str-in-Some.ensures.ok in
    λ in_split. through_list c.args.number name in_split (items_view c.in-Some.list.now) (way_of inner) (way_of way) (c.in_ok-inner-in-Some.ensures in_split) out
    ∙ ap (λ o. way_to c.args.number (all_by name in_split o)) c.in-Some.ensures

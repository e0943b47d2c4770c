use Rattle.std.proofs.Common.{◌≡◌, ◌∙◌, ◌-◌, [], ◌∷◌, ◌++◌, map, true, false, OnOk, ap, sym, subst, arith}
use Rattle.std.proofs.lemmas.List.{append-nil}
use Rattle.serde_json.specs.View.{view, items_view}
use Rattle.jsl_json.proofs.Nesting.{list_depth, item_depth}
use Rattle.json_members.specs.Members.{list_at}
use Rattle.element_numbers.specs.Numbering.{named, all_in}
use Rattle.element_numbers.specs.Ways.{all_by}
use Rattle.element_numbers.proofs.Held.{of_kind}
use Rattle.element_levels.specs.Levels.{steps_left}
use Rattle.element_levels.proofs.Added.{all_behind, one_added, all_added}
use Rattle.element_levels.proofs.levels.+levels.Goals as goal

pub add_all-add_inside-requires : goal.add_all-add_inside-requires
add_all-add_inside-requires t c =
    let d = item_depth c.args.list.now c.loop-value.value-index c.value-item.result c.loop-value-test.true c.value-item.is in
    (omega (arith, d), tt)

pub add_list-add_all-requires : goal.add_list-add_all-requires
add_list-add_all-requires t c =
    let d = list_depth c.args.name.now (view c.args.value.now) (items_view c.in-Some.list.now) (sym c.in-Some.ensures) in
    (omega (arith, d), tt)

pub add_all-loop-value-preserved : goal.add_all-loop-value-preserved
add_all-loop-value-preserved t c =
    λ in_split. one_added c.args.left c.one_less-inner.result in_split c.args.list.now c.loop-value.value-index c.value-item.result c.loop-value.all.items c.push.new.self.items c.add_inside.new.all.items _
    c.one_less-inner.ensures c.loop-value-test.true c.value-item.is c.in_ok-push.ensures.items c.in_ok-add_inside.ensures (c.loop-value.invariant in_split)

pub add_all-returns : goal.add_all-returns
add_all-returns t c =
    λ in_split. all_added c.args.left in_split c.args.list.now c.loop-value.value-index c.loop-value.all.items _ c.loop-value-test.false (c.loop-value.invariant in_split)

pub add_inside-returns-in-true-default : goal.add_inside-returns-in-true-default
add_inside-returns-in-true-default t c =
    let inside = of_kind (view c.args.value.now) true c.is_text-split.result c.in-true-default.ensures c.is_text-split.ensures in
    subst (λ es. OnOk c.add_list.result (c.add_list.new.all.items ≡ c.args.all.now.items ++ map (steps_left c.args.left) es)) (sym inside) (c.add_list.ensures false)

pub add_inside-returns-in-false-true : goal.add_inside-returns-in-false-true
add_inside-returns-in-false-true t c =
    let inside = of_kind (view c.args.value.now) false true c.in-false-true.ensures c.in-false-true.ensures' in
    subst (λ es. OnOk c.add_list-in-false-true.result (c.add_list-in-false-true.new.all.items ≡ c.args.all.now.items ++ map (steps_left c.args.left) es)) (sym inside) (c.add_list-in-false-true.ensures true)

pub add_inside-returns-in-false-false : goal.add_inside-returns-in-false-false
add_inside-returns-in-false-false t c =
    let inside = of_kind (view c.args.value.now) false false c.in-false-false.ensures c.in-false-false.ensures' in
    sym (ap (λ es. c.args.all.now.items ++ map (steps_left c.args.left) es) inside ∙ append-nil c.args.all.now.items)

pub add_list-returns-in-Some : goal.add_list-returns-in-Some
add_list-returns-in-Some t c =
    λ in_split.
    let name = c.args.name.now in
    let less = c.one_less.result in
    let es = all_in in_split 0 (items_view c.in-Some.list.now) in
    let listed : map (steps_left less) es ≡ map (steps_left c.args.left) (all_by name in_split (list_at name (view c.args.value.now))) =
    sym (all_behind c.args.left less (named name) es c.one_less.ensures) ∙ ap (λ o. map (steps_left c.args.left) (all_by name in_split o)) c.in-Some.ensures in
    subst (λ xs. OnOk c.add_all.result (c.add_all.new.all.items ≡ c.args.all.now.items ++ xs)) listed (c.add_all.ensures in_split)

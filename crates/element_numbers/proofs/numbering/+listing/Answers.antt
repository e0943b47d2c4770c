use Rattle.std.proofs.Common.{◌≡◌, ◌∙◌, [], ◌∷◌, ◌++◌, map, true, false, OnOk, ap, sym, subst, arith}
use Rattle.std.proofs.lemmas.List.{append-nil, map_push}
use Rattle.serde_json.specs.View.{view, items_view}
use Rattle.jsl_json.proofs.Nesting.{list_depth, item_depth}
use Rattle.json_members.specs.Members.{list_at}
use Rattle.element_numbers.specs.Numbering.{named, all_in}
use Rattle.element_numbers.specs.Ways.{bare, bare_of, all_by}
use Rattle.element_numbers.proofs.Held.{one_added, all_added, of_kind, bare-behind}
use Rattle.element_numbers.proofs.numbering.+listing.Goals as goal

pub add_all-add_inside-requires : goal.add_all-add_inside-requires
add_all-add_inside-requires t c =
    let d = item_depth c.args.list.now c.loop-value.value-index c.value-item.result c.loop-value-test.true c.value-item.is in
    (omega (arith, d), tt)

pub add_list-add_all-requires : goal.add_list-add_all-requires
add_list-add_all-requires t c =
    let d = list_depth c.args.name.now (view c.args.value.now) (items_view c.in-Some.list.now) (sym c.in-Some.ensures) in
    (omega (arith, d), tt)

pub add_all-loop-value-preserved : goal.add_all-loop-value-preserved
add_all-loop-value-preserved t c =
    let held = c.loop-value.all.items in
    let pushed : map bare_of c.push.new.self.items ≡ map bare_of held ++ (c.args.in_split, view c.value-item.result) ∷ [] = rw c.in_ok-push.ensures.items (map_push bare_of held _) in
    one_added c.args.in_split c.args.list.now c.loop-value.value-index c.value-item.result (map bare_of held) (map bare_of c.push.new.self.items) (map bare_of c.add_inside.new.all.items) _
    c.loop-value-test.true c.value-item.is pushed c.in_ok-add_inside.ensures c.loop-value.invariant

pub add_all-returns : goal.add_all-returns
add_all-returns t c =
    all_added c.args.in_split c.args.list.now c.loop-value.value-index (map bare_of c.loop-value.all.items) _ c.loop-value-test.false c.loop-value.invariant

pub add_inside-returns-in-true-default : goal.add_inside-returns-in-true-default
add_inside-returns-in-true-default t c =
    let inside = of_kind (view c.args.value.now) true c.is_text-split.result c.in-true-default.ensures c.is_text-split.ensures in
    subst (λ es. OnOk c.add_list.result (map bare_of c.add_list.new.all.items ≡ map bare_of c.args.all.now.items ++ map bare es)) (sym inside) c.add_list.ensures

pub add_inside-returns-in-false-true : goal.add_inside-returns-in-false-true
add_inside-returns-in-false-true t c =
    let inside = of_kind (view c.args.value.now) false true c.in-false-true.ensures c.in-false-true.ensures' in
    subst (λ es. OnOk c.add_list-in-false-true.result (map bare_of c.add_list-in-false-true.new.all.items ≡ map bare_of c.args.all.now.items ++ map bare es)) (sym inside) c.add_list-in-false-true.ensures

pub add_inside-returns-in-false-false : goal.add_inside-returns-in-false-false
add_inside-returns-in-false-false t c =
    let inside = of_kind (view c.args.value.now) false false c.in-false-false.ensures c.in-false-false.ensures' in
    sym (ap (λ es. map bare_of c.args.all.now.items ++ map bare es) inside ∙ append-nil (map bare_of c.args.all.now.items))

pub add_list-returns-in-Some : goal.add_list-returns-in-Some
add_list-returns-in-Some t c =
    let name = c.args.name.now in
    let es = all_in c.args.in_split 0 (items_view c.in-Some.list.now) in
    let listed : map bare es ≡ map bare (all_by name c.args.in_split (list_at name (view c.args.value.now))) =
    sym (bare-behind (named name) es) ∙ ap (λ o. map bare (all_by name c.args.in_split o)) c.in-Some.ensures in
    subst (λ xs. OnOk c.add_all.result (map bare_of c.add_all.new.all.items ≡ map bare_of c.args.all.now.items ++ xs)) listed c.add_all.ensures

use Rattle.std.proofs.Common.{[], ◌∷◌, reverse, codes, IfSome, sym, subst, arith}
use Rattle.serde_json.specs.Data.{array}
use Rattle.serde_json.specs.View.{view, items_view}
use Rattle.jsl_json.proofs.Nesting.{list_depth, item_depth}
use Rattle.json_places.specs.declared.path.Step.TheVariants.{Item, Member}
use Rattle.catalogue_places.specs.Paths.{Reaches, ReachesFrom}
use Rattle.catalogue_places.proofs.Reaching.{at_index, through, turned, itself}
use Rattle.catalogue_places.proofs.search.+search.Goals as goal

pub wrong_in-returns-in-Some : goal.wrong_in-returns-in-Some
wrong_in-returns-in-Some t c =
    let list = c.args.list.now in
    let i = c.loop-index.index in
    let wrong = c.in_ok-at_item.field-0 in
    let here = at_index list i c.index-list-index.result [] c.in-Some.spot c.loop-index-test.true c.index-list-index.is (itself (view c.index-list-index.result) c.in-Some.spot c.in-Some.ensures) in
    subst (λ ss. Reaches (reverse ss) (array (items_view list)) wrong.spot) (sym c.in_ok-at_item.ensures.0)
    (subst (λ s. Reaches (Item i ∷ []) (array (items_view list)) s) (sym c.in_ok-at_item.ensures.1) here)

pub wrong_in-wrong_inside-requires : goal.wrong_in-wrong_inside-requires
wrong_in-wrong_inside-requires t c =
    let d = item_depth c.args.list.now c.loop-index.index c.index-list-index.result c.loop-index-test.true c.index-list-index.is in
    (omega (arith, d), tt)

pub wrong_in-returns-in-Some-2 : goal.wrong_in-returns-in-Some-2
wrong_in-returns-in-Some-2 t c =
    let list = c.args.list.now in
    let i = c.loop-index.index in
    let value = c.index-list-index.result in
    let wrong = c.in-Some-2.wrong in
    let r : ReachesFrom i (reverse wrong.back.items) (view value) wrong.spot = subst (λ o. IfSome o (λ w. ReachesFrom i (reverse w.back.items) (view value) w.spot)) c.in-Some-2.is c.in_ok-wrong.ensures in
    subst (λ p. Reaches p (array (items_view list)) wrong.spot) (sym r.1) (at_index list i value r.0 wrong.spot c.loop-index-test.true c.index-list-index.is r.2)

pub wrong_inside-wrong_in-requires : goal.wrong_inside-wrong_in-requires
wrong_inside-wrong_in-requires t c =
    let d = list_depth (codes "elements") (view c.args.value.now) (items_view c.in-Some.elements.now) (sym c.in-Some.ensures) in
    (omega (arith, d), tt)

pub wrong_inside-wrong_in-requires-in-Some-list_at : goal.wrong_inside-wrong_in-requires-in-Some-list_at
wrong_inside-wrong_in-requires-in-Some-list_at t c =
    let d = list_depth (codes "flows") (view c.args.value.now) (items_view c.in-Some-list_at.flows.now) (sym c.in-Some-list_at.ensures) in
    (omega (arith, d), tt)

pub wrong_inside-returns-in_ok-outside-in-Some-2 : goal.wrong_inside-returns-in_ok-outside-in-Some-2
wrong_inside-returns-in_ok-outside-in-Some-2 t c =
    let d = view c.args.value.now in
    let ds = items_view c.in-Some.elements.now in
    let wrong = c.in-Some-2.wrong in
    let outer = c.in_ok-outside-in-Some-2.field-0 in
    let name = c.in_ok-name-in-Some-2.name in
    let inner : Reaches (reverse wrong.back.items) (array ds) wrong.spot = subst (λ o. IfSome o (λ w. Reaches (reverse w.back.items) (array ds) w.spot)) c.in-Some-2.is c.in_ok-wrong.ensures in (
      Member name ∷ reverse wrong.back.items,
      turned wrong.back.items outer.back.items name c.args.index c.in_ok-outside-in-Some-2.ensures.1,
      subst (λ s. Reaches (Member name ∷ reverse wrong.back.items) d s) (sym c.in_ok-outside-in-Some-2.ensures.0)
          (through name (codes "elements") d ds (reverse wrong.back.items) wrong.spot c.in_ok-name-in-Some-2.ensures.ok (sym c.in-Some.ensures) inner),
    )

pub wrong_inside-returns-in_ok-outside-in-Some-3 : goal.wrong_inside-returns-in_ok-outside-in-Some-3
wrong_inside-returns-in_ok-outside-in-Some-3 t c =
    let d = view c.args.value.now in
    let ds = items_view c.in-Some-list_at.flows.now in
    let wrong = c.in-Some-3.wrong in
    let outer = c.in_ok-outside-in-Some-3.field-0 in
    let name = c.in_ok-name-in-Some-3.name in
    let inner : Reaches (reverse wrong.back.items) (array ds) wrong.spot = subst (λ o. IfSome o (λ w. Reaches (reverse w.back.items) (array ds) w.spot)) c.in-Some-3.is c.in_ok-wrong-2.ensures in (
      Member name ∷ reverse wrong.back.items,
      turned wrong.back.items outer.back.items name c.args.index c.in_ok-outside-in-Some-3.ensures.1,
      subst (λ s. Reaches (Member name ∷ reverse wrong.back.items) d s) (sym c.in_ok-outside-in-Some-3.ensures.0)
          (through name (codes "flows") d ds (reverse wrong.back.items) wrong.spot c.in_ok-name-in-Some-3.ensures.ok (sym c.in-Some-list_at.ensures) inner),
    )

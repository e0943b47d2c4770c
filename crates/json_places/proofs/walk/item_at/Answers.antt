use Rattle.std.proofs.Common.{◌≡◌, suc, ◌+◌, ◌-◌, ◌∷◌, map, drop, length, get_or, refl, ap, ap₂, ◌∙◌, subst, arith}
use Rattle.std.proofs.lemmas.List.{drop_all, length-map}
use Rattle.json.specs.Token.{end_array}
use Rattle.json.specs.Json.{after_end_array}
use Rattle.json.specs.Find.{BeginsWith, InItems}
use Rattle.json.specs.Tape.{node_token}
use Rattle.json.specs.Tree.{json_tokens}
use Rattle.json.specs.declared.tape.Node.TheVariants.{Object, Array}
use Rattle.json.proofs.Found.{items_close, items_go_on, items_need_tokens}
use Rattle.json_places.specs.Inside.{after, item_in, item_of}
use Rattle.json_places.proofs.Found.{after_both}
use Rattle.json_places.proofs.Nodes.{here, no_close, no_item, an_array}
use Rattle.json_places.proofs.walk.item_at.Goals as goal

pub returns-in_default : goal.returns-in_default
returns-in_default c j begins =
    let ns = c.args.nodes.now in
    no_item c.args.index (get_or ns c.args.at (Object 0)) _ j c.in_default.not-Array (subst (λ ts. BeginsWith ts j) (here ns c.args.at (Object 0) c.requires.within) begins)

pub loop-next-init : goal.loop-next-init
loop-next-init c j begins =
    let ns = c.args.nodes.now in
    let all = map node_token ns in
    let i = c.args.at in
    let a = c.in-Array.field-0 in
    let first : drop i all ≡ node_token (Array a) ∷ drop (i + 1) all = here ns i (Object 0) c.requires.within ∙ ap (λ n. node_token n ∷ drop (i + 1) all) c.in-Array.is in
    let s = an_array a (drop (i + 1) all) j (subst (λ ts. BeginsWith ts j) first begins) in
    (1, s.0, refl, s.2, ap (item_of c.args.index) s.1)

pub returns-then-next-nodes : goal.returns-then-next-nodes
returns-then-next-nodes c j begins =
    let ns = c.args.nodes.now in
    let all = map node_token ns in
    let now = c.loop-next.invariant j begins in
    absurd (items_need_tokens now.1 (subst (λ ts. InItems ts now.1) (drop_all c.loop-next.next all (omega (arith, length-map ns node_token))) now.3))

pub returns-in-EndArray : goal.returns-in-EndArray
returns-in-EndArray c j begins =
    let ns = c.args.nodes.now in
    let all = map node_token ns in
    let i = c.loop-next.next in
    let now = c.loop-next.invariant j begins in
    let closing : drop i all ≡ end_array ∷ drop (i + 1) all = here ns i (Object 0) (omega arith) ∙ ap (λ n. node_token n ∷ drop (i + 1) all) c.in-EndArray.is in
    now.4 ∙ ap (λ js. after now.0 (item_in c.loop-next.left js)) (items_close _ now.1 (subst (λ ts. InItems ts now.1) closing now.3))

pub returns-then-left-eq0 : goal.returns-then-left-eq0
returns-then-left-eq0 c j begins =
    let ns = c.args.nodes.now in
    let all = map node_token ns in
    let i = c.loop-next.next in
    let now = c.loop-next.invariant j begins in
    let going = ap after_end_array (here ns i (Object 0) (omega arith)) ∙ no_close (get_or ns i (Object 0)) _ (λ e. grind arith) in
    let f = items_go_on (drop i all) now.1 going now.3 in
    let zero_left : c.loop-next.left ≡ 0 = omega arith in
    (now.0 + 0, f.1, now.4 ∙ ap₂ (λ n js. after now.0 (item_in n js)) zero_left f.5, omega (arith, now.2), (f.0, f.2, f.4))

pub loop-next-preserved : goal.loop-next-preserved
loop-next-preserved c j begins =
    let ns = c.args.nodes.now in
    let all = map node_token ns in
    let i = c.loop-next.next in
    let now = c.loop-next.invariant j begins in
    let going = ap after_end_array (here ns i (Object 0) (omega arith)) ∙ no_close (get_or ns i (Object 0)) _ (λ e. grind arith) in
    let f = items_go_on (drop i all) now.1 going now.3 in
    let passed = c.place_after-next.ensures.value f.0 f.1 f.2 f.4 in
    let some : c.loop-next.left ≡ suc (c.loop-next.left - 1) = omega arith in
    let size = length (json_tokens f.1) in (
      now.0 + size,
      f.3,
      omega (arith, now.2, passed.1),
      subst (λ ts. InItems ts f.3) passed.0 f.6,
      now.4 ∙ ap₂ (λ n js. after now.0 (item_in n js)) some f.5 ∙ after_both now.0 size (item_in (c.loop-next.left - 1) f.3),
    )

use Rattle.std.proofs.Common.{◌≡◌, ◌+◌, ◌∷◌, map, drop, length, get_or, bytes_eq, Bool, true, false, cond, Some, None, refl, sym, ap, ◌∙◌, subst, arith}
use Rattle.std.proofs.lemmas.List.{length-drop, length-map}
use Rattle.std.specs.Option.{option_or}
use Rattle.json.specs.Token.{key}
use Rattle.json.specs.Json.{no_members}
use Rattle.json.specs.Find.{BeginsWith, InMembers}
use Rattle.json.specs.Tape.{node_token}
use Rattle.json.specs.Tree.{json_tokens}
use Rattle.json.specs.declared.tape.Node.TheVariants.{Object}
use Rattle.json.proofs.Found.{members_go_on, members_close, members_short}
use Rattle.json_places.specs.Inside.{after, member_in, member_of}
use Rattle.json_places.specs.Walk.{StandsAt}
use Rattle.json_places.proofs.Found.{or_none, turn_same, turn_other}
use Rattle.json_places.proofs.Nodes.{here, no_key, no_member, an_object}
use Rattle.json_places.proofs.walk.member_at.Goals as goal
use Rattle.json_places.proofs.walk.member_at.Goals.{then-eq, else-eq}

pub returns-in_default : goal.returns-in_default
returns-in_default c j begins =
    let ns = c.args.nodes.now in
    no_member c.args.name.now (get_or ns c.args.at (Object 0)) _ j c.in_default.not-Object (subst (λ ts. BeginsWith ts j) (here ns c.args.at (Object 0) c.requires.within) begins)

pub loop-next-init : goal.loop-next-init
loop-next-init c j begins =
    let ns = c.args.nodes.now in
    let all = map node_token ns in
    let i = c.args.at in
    let a = c.in-Object.field-0 in
    let first : drop i all ≡ node_token (Object a) ∷ drop (i + 1) all = here ns i (Object 0) c.requires.within ∙ ap (λ n. node_token n ∷ drop (i + 1) all) c.in-Object.is in
    let s = an_object a (drop (i + 1) all) j (subst (λ ts. BeginsWith ts j) first begins) in
    (1, s.0, None, refl, s.2, refl, ap (member_of c.args.name.now) s.1 ∙ or_none _)

pub returns-in_default-nodes : goal.returns-in_default-nodes
returns-in_default-nodes c j begins =
    let ns = c.args.nodes.now in
    let i = c.loop-next.next in
    let n = get_or ns i (Object 0) in
    let now = c.loop-next.invariant j begins in
    let done : now.1 ≡ no_members = members_close (node_token n) _ now.1 (no_key n (λ s e. grind arith)) (subst (λ ts. InMembers ts now.1) (here ns i (Object 0) (omega arith)) now.4) in
    subst (StandsAt ns c.args.at c.loop-next.found) (sym (now.6 ∙ ap (λ ms. option_or (after now.0 (member_in c.args.name.now ms)) now.2) done)) now.5

pub loop-next-preserved : goal.loop-next-preserved
loop-next-preserved c j begins =
    let ns = c.args.nodes.now in
    let all = map node_token ns in
    let name = c.args.name.now in
    let i = c.loop-next.next in
    let now = c.loop-next.invariant j begins in
    let k = c.in-Key.key.now in
    let named : drop i all ≡ key k ∷ drop (i + 1) all = here ns i (Object 0) (omega arith) ∙ ap (λ n. node_token n ∷ drop (i + 1) all) c.in-Key.is in
    let f = members_go_on k (drop (i + 1) all) now.1 (subst (λ ts. InMembers ts now.1) named now.4) in
    let passed = c.place_after-next.ensures.value f.0 f.1 f.2 f.4 in
    let size = 1 + length (json_tokens f.1) in
    let turn = now.6 ∙ ap (λ ms. option_or (after now.0 (member_in name ms)) now.2) f.5 in
    let later = member_in name f.3 in
    let pick = λ (b : Bool). option_or (after now.0 (option_or (after size later) (cond b (Some (1, f.1)) None))) now.2 in
    let rest = subst (λ ts. InMembers ts f.3) passed.0 f.6 in
    elim c.if-eq.branch [
      | then-eq w ↦
          let same : bytes_eq k name ≡ true = grind arith in (
            now.0 + size,
            f.3,
            Some (now.0 + 1, f.1),
            omega (arith, now.3, passed.1),
            rest,
            subst (λ r. StandsAt ns c.args.at r (Some (now.0 + 1, f.1))) (sym w.found-is) (now.0 + 1, f.1, refl, omega (arith, now.3), (f.0, f.2, f.4)),
            turn ∙ ap pick same ∙ turn_same now.0 size later now.2 f.1,
          )
      | else-eq w ↦
          let other : bytes_eq k name ≡ false = grind arith in (
            now.0 + size,
            f.3,
            now.2,
            omega (arith, now.3, passed.1),
            rest,
            subst (λ r. StandsAt ns c.args.at r now.2) (sym w.found-is) now.5,
            turn ∙ ap pick other ∙ turn_other now.0 size later now.2,
          )
    ]

pub returns : goal.returns
returns c j begins =
    let ns = c.args.nodes.now in
    let all = map node_token ns in
    let i = c.loop-next.next in
    let now = c.loop-next.invariant j begins in
    let done : now.1 ≡ no_members = members_short (drop i all) now.1 (omega (arith, length-drop i all, length-map ns node_token)) now.4 in
    subst (StandsAt ns c.args.at c.loop-next.found) (sym (now.6 ∙ ap (λ ms. option_or (after now.0 (member_in c.args.name.now ms)) now.2) done)) now.5

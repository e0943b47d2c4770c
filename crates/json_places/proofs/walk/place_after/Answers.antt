use Rattle.std.proofs.Common.{◌≡◌, ◌+◌, ◌<◌, ◌≤◌, map, drop, length, get_or, sym, ap, ◌∙◌, subst, arith, ⊎_elim}
use Rattle.std.proofs.lemmas.List.{get_or_default, length-append, length-drop, length-map}
use Rattle.json.specs.Json.{value}
use Rattle.json.specs.Tree.{json_tokens}
use Rattle.json.specs.Tape.{node_token, LinkAt}
use Rattle.json.specs.declared.tape.Node.TheVariants.{Object, Null}
use Rattle.json_places.proofs.Nodes.{here, one_token, by_link}
use Rattle.json_places.proofs.Taken.{taken}
use Rattle.json_places.proofs.walk.place_after.Goals as goal

pub returns-in_default : goal.returns-in_default
returns-in_default c =
    let ns = c.args.nodes.now in
    let all = map node_token ns in
    let i = c.args.at in
    let n = get_or ns i (Object 0) in
    record {
      value = λ depth j rest e.
          let next = one_token n _ j depth rest (λ a z. grind arith) (λ a z. grind arith) (ap (value depth) (sym (here ns i (Object 0) c.requires.within)) ∙ e) in
          let lengths : length (drop i all) ≡ length (json_tokens j) + length rest = ap length (taken depth (drop i all) j rest e) ∙ length-append (json_tokens j) rest in
          let rests : length rest ≡ length (drop (i + 1) all) = ap length next in
          (next, omega (arith, lengths, rests, length-drop i all, length-drop (i + 1) all, length-map ns node_token));
      later = omega arith;
    }

pub returns-in-Object-clause-value : goal.returns-in-Object-clause-value
returns-in-Object-clause-value c depth j rest e =
    let ns = c.args.nodes.now in
    let all = map node_token ns in
    let i = c.args.at in
    let end = c.in-Object.end in
    let linked = subst (LinkAt all i) (get_or_default ns i Null (Object 0) c.requires.within) (c.requires.linked i (omega arith) c.requires.within) in
    let passes = ⊎_elim (λ is. subst (LinkAt all i) is linked) (λ is. subst (LinkAt all i) is linked) c.in-Object.is in
    let next = by_link all i end depth j rest passes e in
    let lengths : length (drop i all) ≡ length (json_tokens j) + length rest = ap length (taken depth (drop i all) j rest e) ∙ length-append (json_tokens j) rest in
    let rests : length rest ≡ length (drop end all) = ap length next in
    let later : i < end = passes.2 in
    let within : end ≤ length all = passes.3 in
    (next, omega (arith, lengths, rests, later, within, length-drop i all, length-drop end all))

pub returns-in-Object-clause-later : goal.returns-in-Object-clause-later
returns-in-Object-clause-later c =
    let ns = c.args.nodes.now in
    let all = map node_token ns in
    let i = c.args.at in
    let linked = subst (LinkAt all i) (get_or_default ns i Null (Object 0) c.requires.within) (c.requires.linked i (omega arith) c.requires.within) in
    let passes = ⊎_elim (λ is. subst (LinkAt all i) is linked) (λ is. subst (LinkAt all i) is linked) c.in-Object.is in
    passes.2

pub returns-in-Object-2-clause-value : goal.returns-in-Object-2-clause-value
returns-in-Object-2-clause-value c depth j rest e =
    let ns = c.args.nodes.now in
    let all = map node_token ns in
    let i = c.args.at in
    let end = c.in-Object.end in
    let linked = subst (LinkAt all i) (get_or_default ns i Null (Object 0) c.requires.within) (c.requires.linked i (omega arith) c.requires.within) in
    let passes = ⊎_elim (λ is. subst (LinkAt all i) is linked) (λ is. subst (LinkAt all i) is linked) c.in-Object.is in
    let next = by_link all i end depth j rest passes e in
    let lengths : length (drop i all) ≡ length (json_tokens j) + length rest = ap length (taken depth (drop i all) j rest e) ∙ length-append (json_tokens j) rest in
    let rests : length rest ≡ length (drop end all) = ap length next in
    let later : i < end = passes.2 in
    let within : end ≤ length all = passes.3 in
    (next, omega (arith, lengths, rests, later, within, length-drop i all, length-drop end all))

pub returns-in-Object-2-clause-later : goal.returns-in-Object-2-clause-later
returns-in-Object-2-clause-later c =
    let ns = c.args.nodes.now in
    let all = map node_token ns in
    let i = c.args.at in
    let linked = subst (LinkAt all i) (get_or_default ns i Null (Object 0) c.requires.within) (c.requires.linked i (omega arith) c.requires.within) in
    let passes = ⊎_elim (λ is. subst (LinkAt all i) is linked) (λ is. subst (LinkAt all i) is linked) c.in-Object.is in
    passes.2

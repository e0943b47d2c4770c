use Rattle.std.proofs.Common.{rules, ◌≡◌, get_or, ◌-◌, take, Bool, cond, Some, sym, ap, ◌∙◌, arith}
use Rattle.lent_json.specs.Flat.{last_named}
use Rattle.lent_json.proofs.Members.{member-before}
use Rattle.lent_json.proofs.flat.last_named.Goals as goal

pub returns-then-is_name : goal.returns-then-is_name
returns-then-is_name g c =
    let ms = c.args.members.now in
    let i = c.loop-left.left - 1 in
    let m = c.index-members-left.result in
    let at : get_or ms i m ≡ m = search rules in
    let step = c.loop-left.invariant.0 ∙ member-before c.args.name.now ms c.loop-left.left i m (omega arith) (omega arith) at in
    let pick = λ (b : Bool). cond b (Some m.1) (last_named c.args.name.now (take i ms)) in
    sym (step ∙ ap pick (sym c.is_name.ensures ∙ c.if-is_name.true))

pub loop-left-preserved : goal.loop-left-preserved
loop-left-preserved g c =
    let ms = c.args.members.now in
    let i = c.loop-left.left - 1 in
    let m = c.index-members-left.result in
    let at : get_or ms i m ≡ m = search rules in
    let step = c.loop-left.invariant.0 ∙ member-before c.args.name.now ms c.loop-left.left i m (omega arith) (omega arith) at in
    let pick = λ (b : Bool). cond b (Some m.1) (last_named c.args.name.now (take i ms)) in
    (step ∙ ap pick (sym c.is_name.ensures ∙ c.if-is_name.false), omega arith)

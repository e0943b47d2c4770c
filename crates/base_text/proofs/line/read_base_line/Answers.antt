use Rattle.std.proofs.Common.{rules, ◌≡◌, Some, IfOk, subst}
use Rattle.std.specs.Str.{IsUtf8}
use Rattle.base_text.proofs.Bytes.{of-text, of-bytes, faulty}
use Rattle.base_text.proofs.line.read_base_line.Goals as goal

pub returns-in-Ok-clause-read : goal.returns-in-Ok-clause-read
returns-in-Ok-clause-read c =
    let same : c.in-Ok.text.now ≡ c.args.line.now = search rules in
    let utf8 : IsUtf8 c.args.line.now = search rules in
    subst (λ due. IfOk c.line_of_text.result (λ line. due ≡ Some line)) (of-text c.args.line.now c.in-Ok.text.now same utf8) c.line_of_text.ensures.read

pub returns-in-Ok-clause-fault : goal.returns-in-Ok-clause-fault
returns-in-Ok-clause-fault c =
    let same : c.in-Ok.text.now ≡ c.args.line.now = search rules in
    let utf8 : IsUtf8 c.args.line.now = search rules in
    faulty c.line_of_text.result _ _ (of-text c.args.line.now c.in-Ok.text.now same utf8) c.line_of_text.ensures.wrong

pub returns-in-Err-clause-fault : goal.returns-in-Err-clause-fault
returns-in-Err-clause-fault c =
    let no_text : IsUtf8 c.args.line.now → ⊥ = search rules in
    λ _. of-bytes c.args.line.now no_text

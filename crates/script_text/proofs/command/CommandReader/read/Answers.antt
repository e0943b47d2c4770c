use Rattle.std.proofs.Common.{rules, ◌≡◌, IfOk, subst}
use Rattle.std.specs.Str.{IsUtf8}
use Rattle.script_text.proofs.Lines.{of-text, of-bytes}
use Rattle.script_text.proofs.command.CommandReader.read.Goals as goal

pub returns-in-Ok : goal.returns-in-Ok
returns-in-Ok c =
    let same : c.in-Ok.text.now ≡ c.args.line.now = search rules in
    let utf8 : IsUtf8 c.args.line.now = search rules in
    subst (λ due. IfOk c.command_of_text.result (λ command. command ≡ due)) (of-text c.args.line.now c.in-Ok.text.now same utf8) c.command_of_text.ensures

pub returns-in-Err : goal.returns-in-Err
returns-in-Err c =
    let no_text : IsUtf8 c.args.line.now → ⊥ = search rules in
    of-bytes c.args.line.now no_text

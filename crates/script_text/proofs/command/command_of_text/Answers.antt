use Rattle.std.proofs.Common.{rules, ◌≡◌, Ok, Err, Some, None, IfOk, sym, ap, subst}
use Rattle.serde_json.specs.Read.{read}
use Rattle.lent_json.specs.Flat.{flat_data}
use Rattle.script_text.specs.Commands.{command_of_data}
use Rattle.script_text.specs.RawCommands.{command_of_read}
use Rattle.script_text.proofs.command.command_of_text.Goals as goal

pub returns-in-Ok : goal.returns-in-Ok
returns-in-Ok c =
    let d = flat_data c.in-Ok.object.members.items in
    let seen : read c.args.text.now ≡ Some d = subst (λ flat. IfOk flat (λ found. read c.args.text.now ≡ Some (flat_data found.members.items))) c.in-Ok.is c.read_flat-flat.ensures.read in
    let is : command_of_data d ≡ command_of_read (read c.args.text.now) = sym (ap command_of_read seen) in
    subst (λ due. IfOk c.command_of_value.result (λ command. command ≡ due)) is c.command_of_value.ensures

pub returns-in-Err-NoJson : goal.returns-in-Err-NoJson
returns-in-Err-NoJson c =
    let none : read c.args.text.now ≡ None = c.read_flat-flat.ensures.no_json (search rules) in
    sym (ap command_of_read none)

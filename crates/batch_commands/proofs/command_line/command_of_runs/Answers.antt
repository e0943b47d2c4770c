use Rattle.std.proofs.Common.{◌∙◌, ap, ap₂}
use Rattle.std.proofs.lemmas.Result.{IfOk-weaker}
use Rattle.clap.specs.Words.{App, with_subcommand}
use Rattle.batch_commands.proofs.Building.{no_globals}
use Rattle.batch_commands.proofs.command_line.command_of_runs.Goals as goal

pub returns-in-Ok : goal.returns-in-Ok
returns-in-Ok c =
    let run = c.in-Ok.ensures in
    IfOk-weaker c.subcommand.result _ _ (λ command adds. adds.shape (no_globals _ (ap (λ (a : App). a.top.is_plain) run)) ∙ ap₂ with_subcommand c.in_ok-command.ensures (ap (λ (a : App). a.top) run)) c.subcommand.ensures

-- The commands of the command line, as clap's contracts see them.
use Rattle.std.specs.Prelude.{◌≡◌, ◌⊎◌, true, [], ◌∷◌, Some, codes}
use Rattle.clap.specs.Words.{App, Rule, kind_of, new_app, new_rule, with_rule, with_subcommand}
use Rattle.clap.specs.Simple.{on_top}
use Rattle.clap.specs.declared.builder.action.ArgAction.TheVariants.{SetTrue}
use Rattle.clap.specs.declared.builder.value_parser.ValueParser.TheVariants.{Unsigned, String as TextParser}
use Rattle.clap.specs.declared.error.Error.{Error}
use Rattle.clap.specs.declared.error.kind.ErrorKind.TheVariants.{DisplayHelp, DisplayVersion}

-- the option `--workers` takes a number from 1 to 16, by default 2
abbrev pub workers_rule : Rule
workers_rule = record (new_rule (codes "workers")) { long = Some (codes "workers"); value_names = 1; parser = Some (Unsigned 1 16); defaults = codes "2" ∷ [] }

-- the option `--log` takes a text
abbrev pub log_rule : Rule
log_rule = record (new_rule (codes "log")) { long = Some (codes "log"); value_names = 1; parser = Some TextParser }

-- the option `--tags` takes nothing
abbrev pub tags_rule : Rule
tags_rule = record (new_rule (codes "tags")) { long = Some (codes "tags"); action = Some SetTrue }

-- the option `--compact` takes nothing
abbrev pub compact_rule : Rule
compact_rule = record (new_rule (codes "compact")) { long = Some (codes "compact"); action = Some SetTrue }

-- the command `script`
abbrev pub script_app : App
script_app = with_rule (with_rule (with_rule (new_app (codes "script")) log_rule) tags_rule) compact_rule

-- the command `run`
abbrev pub run_app : App
run_app = with_rule (new_app (codes "run")) workers_rule

-- the name of the file to check is a text
abbrev pub file_rule : Rule
file_rule = record (new_rule (codes "file")) { value_names = 1; parser = Some TextParser }

-- the command `check`
abbrev pub check_app : App
check_app = with_rule (new_app (codes "check")) file_rule

-- the program without its commands, of which one must follow its name
abbrev pub bare_app : App
bare_app = on_top (λ s. record s { has_version = true; no_binary_name = true; subcommand_required = true; arg_required_else_help = true }) (new_app (codes "batchctl"))

-- the program with only the command `script`
abbrev pub scripts_app : App
scripts_app = with_subcommand bare_app script_app.top

-- the program with only the commands `script` and `run`
abbrev pub runs_app : App
runs_app = with_subcommand scripts_app run_app.top

-- the program
abbrev pub batchctl_app : App
batchctl_app = with_subcommand runs_app check_app.top

-- clap returns a text that the words ask for
abbrev pub IsShown : Error → Type 0
IsShown error = (kind_of error ≡ DisplayHelp) ⊎ (kind_of error ≡ DisplayVersion)

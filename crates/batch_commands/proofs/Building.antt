-- The commands of the command line are plain.
use Rattle.std.proofs.Common.{◌≡◌, ◌&&◌, Bool, true, false, not}
use Rattle.std.proofs.lemmas.Bool.{and_parts, not-true}
use Rattle.clap.specs.Words.{app_of}
use Rattle.clap.specs.declared.builder.command.Command.{Command}
use Rattle.clap.specs.declared.builder.command.Command.TheViews.{out-Command}

third : (a b c d : Bool) → (a && (b && (not c && d))) ≡ true → c ≡ false
third a b c d e = not-true c (and_parts (not c) d (and_parts b (not c && d) (and_parts a (b && (not c && d)) e).1).1).0

-- a plain command has no global argument
pub no_globals : (command : Command) → (app_of command).top.is_plain ≡ true → (out-Command command).has_globals ≡ false
no_globals command e = third _ _ _ _ e

use Rattle.std.proofs.Common.{◌∙◌, ap, map, List, Bor, ℕ}
use Rattle.std.proofs.lemmas.Result.{err_from_is_err_and}
use Rattle.clap.specs.Words.{App, takes}
use Rattle.batch_commands.proofs.Taking.{asked_taken, not_shown}
use Rattle.batch_commands.proofs.command_line.read_words.Goals as goal

pub returns-in_err-matches-clause-shown : goal.returns-in_err-matches-clause-shown
returns-in_err-matches-clause-shown c =
    let r = err_from_is_err_and c.from_residual.result c.from_residual.ensures.1 in
    let words : List (List ℕ) = map (λ (w : Bor (List ℕ)). w.now) c.args.words.now in
    rw (r.1, r.2) (λ shown arguments asked. not_shown _ (c.in_err-matches.ensures.passes (ap (λ (a : App). takes a words) c.requires ∙ asked_taken arguments words asked)) shown)

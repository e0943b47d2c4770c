use Rattle.std.specs.Str.{chars}
use Rattle.transitions.proofs.Decided.{same_test}
use Rattle.transitions.proofs.pattern.matches.Goals as goal

pub returns-clause-same : goal.returns-clause-same
returns-clause-same c = same_test c.is_cut_by.result (chars c.args.pattern.now) (chars c.args.text.now) c.is_cut_by.ensures

use Rattle.std.proofs.Common.{List, [], subst}
use Rattle.std.specs.List.{All}
use Rattle.jsl_model.specs.Jobs.{JobTree}
use Rattle.read_copies.specs.States.{StandsForCounts, StandsForLog}
use Rattle.batch_operator.proofs.operator.Operator.new.Goals as goal

pub seated-requires-clause-repositories : goal.seated-requires-clause-repositories
seated-requires-clause-repositories g c =
    let J = g.J.JobRepository in
    subst (λ (jobs : List JobTree). All (λ s. StandsForLog J.limit (J.stands s.repository) jobs []) c.in_ok-repositories.repositories.items) c.requires.catalogue c.in_ok-repositories.ensures.empty

pub seated-requires-clause-counts : goal.seated-requires-clause-counts
seated-requires-clause-counts g c =
    let J = g.J.JobRepository in
    subst (λ (jobs : List JobTree). All (λ s. StandsForCounts J.limit (J.stands s.repository) s.counts jobs []) c.in_ok-counts.counts.items) c.requires.catalogue c.in_ok-counts.ensures.empty

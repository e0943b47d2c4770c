use Rattle.read_copies.proofs.states.RepositoryStateAbsorb.begin.Goals as goal

pub returns : goal.returns
returns g c = record { limit_is = c.requires; stood = c.in_ok-new.ensures.stands }

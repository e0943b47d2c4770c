use Rattle.std.proofs.Common.{arith}
use Rattle.catalogue_growth.proofs.Places.{first_missing, first_differing}
use Rattle.catalogue_growth.proofs.growth.first_other.Goals as goal

pub returns-in-None-clause-other : goal.returns-in-None-clause-other
returns-in-None-clause-other c =
    first_missing _ _ _ c.index-kept-number.result (omega arith) c.index-kept-number.is c.loop-number.invariant c.in-None.ensures.lookup.3

pub returns-then-not-is_same_job-clause-other : goal.returns-then-not-is_same_job-clause-other
returns-then-not-is_same_job-clause-other c =
    let stands = c.in-Some.ensures.lookup in
    first_differing _ _ _ c.index-kept-number.result c.in-Some.other.now (omega arith) c.index-kept-number.is
    c.loop-number.invariant stands.3.0 stands.1 (λ same. let no = c.if-not-is_same_job.ensures.1 same in cc)

use Rattle.std.proofs.Common.{◌≡◌, subst, IfOk}
use Rattle.walk_rules.specs.Keys.{key_of}
use Rattle.walk_rules.specs.Walk.{runnable_result}
use Rattle.job_walk.proofs.keeping.runnable_kept.Goals as goal

pub returns : goal.returns
returns c = subst (λ fact. IfOk c.result_by-made.result (λ made. made ≡ runnable_result (key_of c.args.id.now 0) fact)) c.in_ok-fact.ensures c.result_by-made.ensures

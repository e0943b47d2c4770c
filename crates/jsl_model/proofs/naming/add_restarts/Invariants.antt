use Rattle.std.proofs.Common.{◌≡◌, ◌++◌, map, drop}
use Rattle.jsl_model.specs.Faults.{restarts_in}
use Rattle.jsl_model.proofs.naming.add_restarts.Given as goal

abbrev pub invariant-loop-transition : goal.invariant-loop-transition
invariant-loop-transition l =
    map (λ id. id.now) l.found.items ++ restarts_in (drop l.transition-index l.transitions) ≡ map (λ id. id.now) l.fn.found.items ++ restarts_in l.transitions

use Rattle.std.proofs.Common.{◌≡◌, drop}
use Rattle.std.specs.List.{list_any}
use Rattle.jsl_model.specs.Targets.{lacks_target}
use Rattle.jsl_model.proofs.InnerLists.{outlines}
use Rattle.jsl_model.proofs.targets.lacks_some_target.Given as goal

abbrev pub invariant-loop-list : goal.invariant-loop-list
invariant-loop-list l = list_any lacks_target (outlines (drop l.list-index l.lists)) ≡ list_any lacks_target (outlines l.lists)

use Rattle.std.proofs.Common.{◌≡◌, drop, take}
use Rattle.std.specs.List.{All, list_any}
use Rattle.jsl_model.specs.Targets.{has_loop, HasRanks}
use Rattle.jsl_model.proofs.InnerLists.{outlines}
use Rattle.jsl_model.proofs.targets.has_some_loop.Given as goal

abbrev pub invariant-loop-list : goal.invariant-loop-list
invariant-loop-list l =
    (list_any has_loop (outlines (drop l.list-index l.lists)) ≡ list_any has_loop (outlines l.lists))
    × All HasRanks (outlines (take l.list-index l.lists))

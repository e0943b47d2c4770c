use Rattle.std.proofs.Common.{◌≡◌, ◌++◌, map, take}
use Rattle.std.specs.List.{filter_map}
use Rattle.std.specs.Option.{option_to_list}
use Rattle.jsl_model.specs.Targets.{named_by}
use Rattle.jsl_model.proofs.targets.add_targets.Given as goal

abbrev pub invariant-loop-transition : goal.invariant-loop-transition
invariant-loop-transition l =
    map (λ name. name.now) l.targets.items
    ≡ map (λ name. name.now) l.fn.targets.items ++ (option_to_list l.element.next ++ filter_map (λ transition. named_by transition.then) (take l.transition-index l.transition-items))

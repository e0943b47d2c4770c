use Rattle.std.proofs.Common.{◌≡◌, ◌++◌, map}
use Rattle.script_text.proofs.run.values_of.Given as goal

abbrev pub invariant-loop-value : goal.invariant-loop-value
invariant-loop-value l = l.values.items ++ l.value-iterator ≡ map (λ entry. entry.1) l.fn.members.entries

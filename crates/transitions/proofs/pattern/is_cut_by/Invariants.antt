use Rattle.std.proofs.Common.{◌+◌, ◌*◌, length}
use denote.Text.{Utf8}
use denote.Shadow.{shadow}
use Rattle.std.specs.Str.{chars}
use Rattle.transitions.proofs.Retries.{Kept, tries_left}
use Rattle.transitions.proofs.pattern.is_cut_by.Given as goal

abbrev pub invariant-loop-wanted : goal.invariant-loop-wanted
invariant-loop-wanted l =
    shadow (Utf8 l.pattern_left) × shadow (Utf8 l.text_left)
    × Kept (chars l.pattern) (chars l.text) l.retry (chars l.pattern_left) (chars l.text_left)

-- the tries that are left, each of at most as many steps as the pattern has characters, and the steps left of this one
abbrev pub decreases-loop-wanted : goal.decreases-loop-wanted
decreases-loop-wanted l =
    tries_left (chars l.text) l.retry * (length (chars l.pattern) + 1) + length (chars l.pattern_left)

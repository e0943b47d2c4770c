-- The transition element that an exit status matches.
use Rattle.std.specs.Prelude.{ℕ, Bool, Option, List, find}
use Rattle.std.specs.Str.{chars}
use Rattle.jsl_model.specs.declared.element.Transition.{Transition}
use Rattle.transitions.specs.Patterns.{Matches, is_match}

-- whether the exit status matches the `on` of a transition element
abbrev pub matches_on : List ℕ → Transition → Bool
matches_on exit transition = is_match (chars transition.on) (chars exit)

-- the first transition element, in written order, whose `on` matches the exit status
abbrev pub matching_transition : List Transition → List ℕ → Option Transition
matching_transition transitions exit = find (matches_on exit) transitions

-- the exit status can be cut into pieces that the characters of a transition element's `on` match
abbrev pub MatchesOn : List ℕ → Transition → Type 0
MatchesOn exit transition = Matches (chars transition.on) (chars exit)

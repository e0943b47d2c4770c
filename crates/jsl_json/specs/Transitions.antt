-- The transition elements of an element. An object has the members that are listed, and no others.
use Rattle.std.specs.Prelude.{ℕ, List, [], ◌∷◌, codes, Option, Some, None, option_map, if◌then◌else◌}
use Rattle.serde_json.specs.Data.{Data, Items, no_items, item}
use Rattle.json_members.specs.Members.{has_only, is_text, text_at, optional_text, optional_list}
use Rattle.jsl_model.specs.declared.element.Then.{Then}
use Rattle.jsl_model.specs.declared.element.Then.TheVariants.{Next, End, Fail, Stop}
use Rattle.jsl_model.specs.declared.element.Transition.{Transition}
use Rattle.json_members.specs.Chains.{◌>>=◌}

-- the members that a `next` lists
abbrev pub next_names : List (List ℕ)
next_names = codes "kind" ∷ codes "on" ∷ codes "to" ∷ []

-- the members that an `end` or a `fail` lists
abbrev pub end_names : List (List ℕ)
end_names = codes "kind" ∷ codes "on" ∷ codes "exit-status" ∷ []

-- the members that a `stop` lists
abbrev pub stop_names : List (List ℕ)
stop_names = codes "kind" ∷ codes "on" ∷ codes "exit-status" ∷ codes "restart" ∷ []

-- the transition to the element that `to` names
abbrev pub then_next : Data → Option Then
then_next d = if has_only next_names d then option_map Next (text_at (codes "to") d) else None

-- the exit status of an `end` or a `fail`
abbrev pub exit_status_of : Data → Option (Option (List ℕ))
exit_status_of d = if has_only end_names d then optional_text (codes "exit-status") d else None

-- a stop, with its exit status and the element of a restart
unfoldable pub then_stop : Data → Option Then
then_stop d =
    if has_only stop_names d
    then (do
      exit_status ← optional_text (codes "exit-status") d
      restart ← optional_text (codes "restart") d
      Some (Stop exit_status restart))
    else None

-- the transition of a transition element, by its kind
unfoldable pub then_of_data : Data → Option Then
then_of_data d =
    if is_text (codes "kind") (codes "next") d then then_next d
    else (if is_text (codes "kind") (codes "end") d then option_map End (exit_status_of d)
    else (if is_text (codes "kind") (codes "fail") d then option_map Fail (exit_status_of d)
    else (if is_text (codes "kind") (codes "stop") d then then_stop d else None)))

-- the transition element in a value
unfoldable pub transition_of_data : Data → Option Transition
transition_of_data d = do
  on ← text_at (codes "on") d
  target ← then_of_data d
  Some (record { on = on; then = target })

-- the transition elements of a list
abbrev pub transitions_of : Items → Option (List Transition)
transitions_of no_items = Some []
transitions_of (item d ds) = do
  first ← transition_of_data d
  rest ← transitions_of ds
  Some (first ∷ rest)

-- the transition elements of a list, none if it is left out
abbrev pub transitions_if : Option Items → Option (List Transition)
transitions_if None = Some []
transitions_if (Some ds) = transitions_of ds

-- the transition elements of an element
unfoldable pub transitions_at : Data → Option (List Transition)
transitions_at d = do
  found ← optional_list (codes "transitions") d
  transitions_if found

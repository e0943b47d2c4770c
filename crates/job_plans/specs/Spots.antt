-- The spot of a step or decision: its runnable there is its runnable in the whole, if the whole has its id
-- once.
use Rattle.std.specs.Prelude.{ℕ, ◌≡◌, ◌≤◌, Some, List}
use Rattle.jsl_model.specs.declared.element.Element.{Element}
use Rattle.walk_rules.specs.declared.work_key.WorkKey.{WorkKey}
use Rattle.walk_rules.specs.Counts.{count_in, count_of}
use Rattle.job_plans.specs.Runnables.{Inside, run_with, leaves, all_leaves}

-- an element of a list, whose runnable of a work key is the list's
abbrev pub IsElementIn : WorkKey → List Element → Element → Type 0
IsElementIn key list element =
    (count_in key.element element ≤ 1) × ((run : Inside) → run_with (leaves element) key ≡ Some run → run_with (all_leaves list) key ≡ Some run)

-- a list inside an element, whose runnable of a work key is the element's
abbrev pub IsListIn : WorkKey → Element → List Element → Type 0
IsListIn key element list =
    count_in key.element element ≤ 1
    → (count_of key.element list ≤ 1) × ((run : Inside) → run_with (all_leaves list) key ≡ Some run → run_with (leaves element) key ≡ Some run)

-- a list at any depth below others, whose runnable of a work key is theirs
abbrev pub IsListBelow : WorkKey → List Element → List Element → Type 0
IsListBelow key elements list =
    (count_of key.element list ≤ 1) × ((run : Inside) → run_with (all_leaves list) key ≡ Some run → run_with (all_leaves elements) key ≡ Some run)

-- The work keys that a value shows: those that may be run now, and those that are being run.
use Rattle.std.specs.Prelude.{◌||◌, Bool, List, []}
use Rattle.walk_rules.specs.declared.facts.Value.{Value}
use Rattle.walk_rules.specs.declared.facts.Value.TheVariants.{Open, Done, Ended}
use Rattle.walk_rules.specs.declared.work_key.WorkKey.{WorkKey}
use Rattle.walk_rules.specs.Keys.{has_key}

-- the work keys that may be run now, in written order and by rising partition
abbrev pub ready_of : Value → List WorkKey
ready_of (Open ready busy) = ready
ready_of (Done exit) = []
ready_of (Ended status exit point) = []

-- the work keys that are being run, in the same order
abbrev pub busy_of : Value → List WorkKey
busy_of (Open ready busy) = busy
busy_of (Done exit) = []
busy_of (Ended status exit point) = []

-- whether a work key may be run now or is being run
abbrev pub is_shown : Value → WorkKey → Bool
is_shown value key = has_key (ready_of value) key || has_key (busy_of value) key

-- whether a value shows this work key: it may be run now or is being run
abbrev pub shows : WorkKey → Value → Bool
shows key value = is_shown value key

-- The meaning of an artifact that reads the given items, and filters out none.
use Rattle.std.specs.Prelude.{ℕ, zero, suc, map, drop, slice_get, string_bytes, List, [], Option, Some, None, String}
use Rattle.std.specs.declared.alloc.Global.{Global}
use Rattle.job_threads.specs.Meaning.{Coming, Told, Meaning}
use Rattle.job_threads.specs.Past.{Past}

-- an item is its own checkpoint
abbrev pub coming : String Global → Coming
coming item = record { item = string_bytes item; mark = string_bytes item }

-- the checkpoint after the item that was read last
abbrev pub mark_of : Option (String Global) → List ℕ
mark_of None = []
mark_of (Some item) = string_bytes item

abbrev pub mark_at : List (String Global) → ℕ → List ℕ
mark_at items zero = []
mark_at items (suc before) = mark_of (slice_get items before)

-- the description of the artifact, for any partition
abbrev pub told_of : List (String Global) → Told
told_of items = record { opens = λ _. map coming items; gives = λ item. Some item; exit = None }

-- the meaning after this many items were read, and with this past
abbrev pub staged : List (String Global) → ℕ → Past → Meaning
staged items at past =
    record {
      begins = λ _. told_of items;
      opens = λ _. map coming items;
      left = map coming (drop at items);
      mark = mark_at items at;
      gives = λ item. Some item;
      exit = None;
      holds = Some past.groups;
      open_faults = past.open_faults;
      faults = past.faults;
    }

-- The meaning of an artifact that takes no memory.
use Rattle.std.specs.Prelude.{ℕ, replicate, [], Option, Some, None}
use Rattle.job_threads.specs.Meaning.{Coming, Told, Meaning}

-- an empty item, with an empty checkpoint
abbrev pub empty_item : Coming
empty_item = record { item = []; mark = [] }

-- the number of items in a partition, or without one
abbrev pub items_in : Option ℕ → ℕ
items_in None = 0
items_in (Some partition) = 5

-- the description of an artifact with this number of items
abbrev pub told_of : ℕ → Told
told_of items = record { opens = λ _. replicate items empty_item; gives = λ _. Some []; exit = None }

-- the meaning of an artifact with this number of items, if so many are left
abbrev pub quiet : ℕ → ℕ → Meaning
quiet items left =
    record {
      begins = λ partition. told_of (items_in partition);
      opens = λ _. replicate items empty_item;
      left = replicate left empty_item;
      mark = [];
      gives = λ _. Some [];
      exit = None;
      holds = None;
      open_faults = 0;
      faults = 0;
    }

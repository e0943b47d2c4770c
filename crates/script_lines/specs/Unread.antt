-- The bytes that were read from a reader and haven't been used yet.
use Rattle.std.specs.Prelude.{ℕ, ◌+◌, ◌*◌, List, [], Bool, false, length, drop}
use Rattle.script_lines.specs.declared.input_buffer.TheConstants.{CHUNK, MAX_READS}

-- the bytes, whether the reader reported its end, and how often it may be called again
pub record Unread : Type 0 where
  pub bytes : List ℕ
  pub ended : Bool
  pub reads_left : ℕ

-- the state before the first call of the reader
abbrev pub nothing_read : Unread
nothing_read = record { bytes = []; ended = false; reads_left = MAX_READS }

-- the state with `count` bytes used
abbrev pub skipped : ℕ → Unread → Unread
skipped count p = record { bytes = drop count p.bytes; ended = p.ended; reads_left = p.reads_left }

-- the state with all bytes used
abbrev pub emptied : Unread → Unread
emptied p = record { bytes = []; ended = p.ended; reads_left = p.reads_left }

-- a measure of the work left, which falls with each line that is cut off
abbrev pub weight : Unread → ℕ
weight p = p.reads_left * (CHUNK + 1) + length p.bytes

-- The reading of lines in a run.
use Rattle.std.specs.Prelude.{ℕ, ◌≡◌, ◌⊎◌, ◌+◌, List, ◌++◌, true}
use Rattle.script_lines.specs.Device.{Told}
use Rattle.script_lines.specs.Unread.{Unread}
use Rattle.script_lines.specs.Lines.{HasEnded, lines_since}
use Rattle.script_log.specs.Runs.{Answering, replies, history_of}
use Rattle.script_log.specs.Hosts.{Account}

-- A READING: the past of a reader, and the bytes at hand, at the begin of a run and at its end
pub record Reading : Type 0 where
  pub from : Told
  pub to : Told
  pub before : Unread
  pub left : Unread

abbrev pub reading : Told → Told → Unread → Unread → Reading
reading from to before left = record { from = from; to = to; before = before; left = left }

-- the complete lines of the bytes that were at hand before, and of the bytes that were delivered since then
abbrev pub lines_in : Reading → List (List ℕ)
lines_in x = lines_since x.from x.to x.before

-- the reader has reported its end
abbrev pub HasReadAll : Reading → Type 0
HasReadAll x = (x.before.ended ≡ true) ⊎ HasEnded x.from x.to

-- the reader failed, or may not be called again
abbrev pub HasReadFault : Reading → Type 0
HasReadFault x = (x.to.failures ≡ x.from.failures + 1) ⊎ ((x.to.failures ≡ x.from.failures) × (x.left.reads_left ≡ 0))

-- THE LISTENER HAS CAUGHT UP with the reader: it has heard the replies to all lines that were delivered whole,
-- and nothing else
abbrev pub HasCaughtUp : Answering → Account → Told → Unread → Told → List ℕ → Type 0
HasCaughtUp e old from before to heard = heard ≡ old.heard ++ replies e.keeps e.reply (history_of old.records) (lines_since from to before)

-- REPLIES LEAVE BEFORE THE NEXT READ: the reader may be called if the listener has caught up. A run is proved
-- for each reader, also for one that may not be called at any other time; so it makes no other call
abbrev pub MayReadInTurn : Answering → Account → Told → Unread → (Told → List ℕ → Type 0) → Type 0
MayReadInTurn e old from before may_read = (to : Told) (heard : List ℕ) → HasCaughtUp e old from before to heard → may_read to heard

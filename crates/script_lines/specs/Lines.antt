-- The effect of a call for the next line.
use Rattle.std.specs.Prelude.{◌≡◌, ◌⊎◌, ℕ, ◌+◌, ◌<◌, ◌≤◌, nat_lt, List, [], ◌∷◌, ◌++◌, Bool, true, false, ◌||◌, if◌then◌else◌, length, take, drop, Option, Some, None, Result, Ok, Err}
use Rattle.script_lines.specs.declared.line.TheConstants.{MAX_LINE}
use Rattle.script_lines.specs.declared.line.Line.{Line}
use Rattle.script_lines.specs.declared.line.Line.TheVariants.{Whole, TooLong}
use Rattle.script_lines.specs.declared.line_fault.LineFault.{LineFault}
use Rattle.script_lines.specs.declared.line_fault.LineFault.TheVariants.{Read, Write, OutOfMemory}
use Rattle.script_lines.specs.declared.input_buffer.TheConstants.{MAX_READS}
use Rattle.std.specs.Io.KnownBytes.{IsAtEnd}
use Rattle.script_lines.specs.Device.{Told, Held, Tells, Takes, wide}
use Rattle.script_lines.specs.Cut.{has_feed, lines_of, whole_lines, script_lines}
use Rattle.script_lines.specs.Unread.{Unread}

-- the bytes of a line
abbrev pub Shows : Line → List ℕ → Type 0
Shows (Whole bytes) line = (bytes.items ≡ line) × (length line ≤ MAX_LINE)
Shows TooLong line = MAX_LINE < length line

-- the bytes of the first line of a script: if there is no line, it is empty
abbrev pub ShowsFirst : Option Line → List ℕ → Type 0
ShowsFirst None line = line ≡ []
ShowsFirst (Some first) line = Shows first line

-- the line is cut off with its line feed, or it is the last line, which lacks the line feed
abbrev pub Cuts : List ℕ → List ℕ → Unread → Type 0
Cuts bytes line p = (bytes ≡ line ++ 10 ∷ p.bytes) ⊎ ((bytes ≡ line) × (0 < length line) × (p.bytes ≡ []) × (p.ended ≡ true))

module _ (bytes : List ℕ) (p : Unread) where
  -- a line is cut off, which is shown
  abbrev pub IsCut : Line → Type 0
  IsCut shown = (line : List ℕ) × Shows shown line × (has_feed line ≡ false) × Cuts bytes line p

  -- the bytes at hand after a call, by its result
  abbrev pub Outcome : Result (Option Line) LineFault → Type 0
  Outcome (Ok None) = (bytes ≡ []) × (p.bytes ≡ []) × (p.ended ≡ true)
  Outcome (Ok (Some shown)) = IsCut shown
  Outcome (Err Read) = has_feed bytes ≡ false
  Outcome (Err Write) = Unit {0}
  Outcome (Err OutOfMemory) = Unit {0}

module _ (old new : Told) (before after : Unread) where
  -- the reader failed or may not be called again, and hasn't reported its end
  abbrev pub HasFailed : Type 0
  HasFailed = ((new.failures ≡ old.failures + 1) ⊎ ((new.failures ≡ old.failures) × (after.reads_left ≡ 0))) × (before.ended ≡ false) × (after.ended ≡ false)

  -- a result Read has a cause: the reader failed; with any other result it didn't fail
  abbrev pub HasCause : Result (Option Line) LineFault → Type 0
  HasCause (Ok line) = new.failures ≡ old.failures
  HasCause (Err Read) = HasFailed
  HasCause (Err Write) = new.failures ≡ old.failures
  HasCause (Err OutOfMemory) = new.failures ≡ old.failures

-- since the start, the reader failed once, or was called as often as it may be
abbrev pub IsReadFault : Told → Told → Type 0
IsReadFault start now = (now.failures ≡ start.failures + 1) ⊎ ((now.failures ≡ start.failures) × (now.calls ≡ start.calls + MAX_READS))

-- since the start, the reader reported its end once, and has nothing left
abbrev pub HasEnded : Told → Told → Type 0
HasEnded start now = (now.ends ≡ start.ends + 1) × IsAtEnd now.left

-- since the start, the reader reported its end at most once, and was called at most as often as it may be
abbrev pub IsBounded : Told → Told → Type 0
IsBounded start now = (now.ends ≤ start.ends + 1) × (now.calls ≤ start.calls + MAX_READS)

-- lines that were read completely: those that have their line feed, or all of them if the reader reported its
-- end
abbrev pub AreComplete : Told → Told → List ℕ → List (List ℕ) → Type 0
AreComplete start now input lines = (lines ≡ whole_lines input) ⊎ ((start.ends < now.ends) × (lines ≡ script_lines input))

-- either nothing more was delivered, or no line was whole before the last read
abbrev pub InTurn : List ℕ → List ℕ → Type 0
InTurn bytes more = (more ≡ [])
    ⊎ ((first : List ℕ) × (last : List ℕ) × (more ≡ first ++ last) × (length last ≤ wide) × (has_feed (bytes ++ first) ≡ false))

-- the reader delivered more, and a line was cut off
pub record LineRead (old new : Told) (before after : Unread) (result : Result (Option Line) LineFault) : Type 0 where
  -- the bytes that were delivered in this call
  pub more : List ℕ
  pub told : Tells old new more
  pub turn : InTurn before.bytes more
  -- these bytes and the bytes that were at hand before, after the call
  pub outcome : Outcome (before.bytes ++ more) after result
  pub cause : HasCause old new before after result
  -- each call of the reader counts
  pub calls : new.calls + after.reads_left ≡ old.calls + before.reads_left
  -- after the end nothing is read, and nothing is left
  pub quiet : before.ended ≡ true → (more ≡ []) × (new ≡ old)
  pub drained : after.ended ≡ true → after.bytes ≡ []
  -- the buffer has ended if the reader reported its end, and only then
  pub ended : after.ended ≡ true → (before.ended ≡ true) ⊎ HasEnded old new
  pub going : after.ended ≡ false → new.ends ≡ old.ends
  pub later : old.ends ≤ new.ends

-- the reader delivered more, and no line is whole so far
pub record IsPartRead (from to : Told) (before : Unread) : Type 0 where
  pub more : List ℕ
  pub told : Tells from to more
  pub no_feed : has_feed (before.bytes ++ more) ≡ false
  pub running : before.ended ≡ false
  pub going : to.ends ≡ from.ends
  pub quiet : to.failures ≡ from.failures

-- the bytes that the reader delivered since then
abbrev pub told_since : Told → Told → List ℕ
told_since old new = drop (length old.bytes) new.bytes

-- whether the reader has reported its end
abbrev pub has_told_end : Told → Told → Unread → Bool
has_told_end old new before = before.ended || nat_lt old.ends new.ends

-- the lines of a text that was read to its end, or else those that have their line feed
abbrev pub complete_lines : Bool → List ℕ → List (List ℕ)
complete_lines ended text = if ended then lines_of text else whole_lines text

-- the complete lines of the bytes that were at hand before, and of the bytes that the reader delivered since
-- then
abbrev pub lines_since : Told → Told → Unread → List (List ℕ)
lines_since old new before = complete_lines (has_told_end old new before) (before.bytes ++ told_since old new)

-- lines were cut off from the bytes that a reader delivered since then
pub record LinesRead (old new : Told) (before after : Unread) : Type 0 where
  pub told : Tells old new (told_since old new)
  -- each call of the reader counts
  pub calls : new.calls + after.reads_left ≡ old.calls + before.reads_left
  -- it reported its end at most once
  pub later : old.ends ≤ new.ends
  pub once : new.ends ≤ old.ends + 1

-- the written and the waiting bytes together are the same as before, and the writer didn't fail
abbrev pub IsPassedOn : Held → Held → List ℕ → List ℕ → Type 0
IsPassedOn old new waited waits = (new.bytes ++ waits ≡ old.bytes ++ waited) × (new.failures ≡ old.failures)

-- the writer failed, and took a front of the waiting bytes
abbrev pub HasBrokenOff : Held → Held → List ℕ → Type 0
HasBrokenOff old new waited = ((n : ℕ) × Takes old new (take n waited)) × (old.failures < new.failures)

module _ (old new : Held) (waited waits : List ℕ) where
  -- the effect of a call for the next line on the writer and on the waiting bytes, by its result
  abbrev pub PassedOn : Result (Option Line) LineFault → Type 0
  PassedOn (Ok line) = IsPassedOn old new waited waits
  PassedOn (Err Read) = IsPassedOn old new waited waits
  PassedOn (Err OutOfMemory) = IsPassedOn old new waited waits
  PassedOn (Err Write) = HasBrokenOff old new waited

module _ (old new : Told) (waits : List ℕ) where
  -- the reader is called only after nothing waits, and never after the writer failed
  abbrev pub IsPrompt : Result (Option Line) LineFault → Type 0
  IsPrompt (Ok line) = (new ≡ old) ⊎ (waits ≡ [])
  IsPrompt (Err Read) = (new ≡ old) ⊎ (waits ≡ [])
  IsPrompt (Err OutOfMemory) = (new ≡ old) ⊎ (waits ≡ [])
  IsPrompt (Err Write) = new ≡ old

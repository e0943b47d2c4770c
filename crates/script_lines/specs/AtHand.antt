-- Cutting a line from the bytes at hand, and reading more of them.
use Rattle.std.specs.Prelude.{◌≡◌, ◌⊎◌, ℕ, ◌+◌, ◌<◌, ◌≤◌, List, [], ◌∷◌, ◌++◌, true, false, length, take, drop, Option, Result, OnOk, IfErr, MatchOption}
use Rattle.script_lines.specs.declared.line.Line.{Line}
use Rattle.script_lines.specs.declared.line_fault.LineFault.{LineFault}
use Rattle.script_lines.specs.declared.line_fault.LineFault.TheVariants.{Read}
use Rattle.script_lines.specs.declared.input_buffer.TheConstants.{CHUNK}
use Rattle.script_lines.specs.declared.at_hand.AtHand.{AtHand}
use Rattle.script_lines.specs.declared.at_hand.AtHand.TheVariants as given
use Rattle.script_lines.specs.Cut.{has_feed}
use Rattle.script_lines.specs.Device.{Told, Tells}
use Rattle.script_lines.specs.Unread.{Unread, skipped, emptied}
use Rattle.script_lines.specs.Lines.{Shows, HasEnded}

-- a line with more bytes at its end
abbrev pub IsLonger : Line → List ℕ → Line → Type 0
IsLonger line more longer = (bytes : List ℕ) → Shows line bytes → Shows longer (bytes ++ more)

-- the last line is the part, if that isn't empty
abbrev pub IsLast : Line → Option Line → Type 0
IsLast part last = (bytes : List ℕ) → Shows part bytes → MatchOption last (bytes ≡ []) (λ line. Shows line bytes × (0 < length bytes))

module _ (part : Line) (before after : Unread) where
  -- the bytes before the first line feed are removed, with the line feed
  abbrev pub HasCutLine : Line → Type 0
  HasCutLine line = (before.ended ≡ false)
      × ((at : ℕ) × (at < length before.bytes) × (has_feed (take at before.bytes) ≡ false)
      × (drop at before.bytes ≡ 10 ∷ drop (at + 1) before.bytes) × (after ≡ skipped (at + 1) before) × IsLonger part (take at before.bytes) line)

  -- there is no line feed, and all bytes are removed
  abbrev pub HasUsedAll : Line → Type 0
  HasUsedAll longer = (before.ended ≡ false) × (after ≡ emptied before) × (has_feed before.bytes ≡ false) × IsLonger part before.bytes longer

  -- there are no bytes, and there will be none
  abbrev pub HasNoMore : Option Line → Type 0
  HasNoMore last = (before.ended ≡ true) × (after ≡ before) × (before.bytes ≡ []) × IsLast part last

  -- the bytes at hand as a line or a part of one, after a part that was there before
  abbrev pub IsAtHand : AtHand → Type 0
  IsAtHand (given.Line line) = HasCutLine line
  IsAtHand (given.Part longer) = HasUsedAll longer
  IsAtHand (given.End last) = HasNoMore last

-- the reader delivered the bytes that are at hand; there are none if it reported its end
pub record HasFilled (old new : Told) (before after : Unread) : Type 0 where
  pub told : Tells old new after.bytes
  pub ended : after.ended ≡ true → (after.bytes ≡ []) × HasEnded old new
  pub quiet : new.failures ≡ old.failures
  pub fewer : after.reads_left < before.reads_left
  pub small : length after.bytes ≤ CHUNK

-- the reader failed or may not be called again, and delivered nothing
pub record HasNotFilled (old new : Told) (before after : Unread) (fault : LineFault) : Type 0 where
  pub fault_is : fault ≡ Read
  pub told : Tells old new []
  pub ended : after.ended ≡ before.ended
  pub cause : (new.failures ≡ old.failures + 1) ⊎ ((new.failures ≡ old.failures) × (after.reads_left ≡ 0))

-- the reader reported its end no less often, and no more often unless it has ended
pub record KeepsEnds (old new : Told) (after : Unread) : Type 0 where
  pub later : old.ends ≤ new.ends
  pub going : after.ended ≡ false → new.ends ≡ old.ends

-- the reader was called once, and the bytes that it delivered are at hand; or it failed or may not be called
-- again, and delivered nothing
pub record Filled (old new : Told) (before after : Unread) (result : Result Unit LineFault) : Type 0 where
  pub ok : OnOk result (HasFilled old new before after)
  pub err : IfErr result (HasNotFilled old new before after)
  pub ends : KeepsEnds old new after
  pub calls : new.calls + after.reads_left ≡ old.calls + before.reads_left

-- The turns of a script's reader and writer.
use Rattle.std.specs.Prelude.{ℕ, ◌≡◌, List, ◌++◌}
use Rattle.script_lines.specs.Cut.{whole_lines}
use Rattle.script_lines.specs.Device.{Told, Held, Tells}
use Rattle.script_engine.specs.Script.{text_of_lines}

-- THE WRITER HAS CAUGHT UP with the reader: since the begin of the run it has taken the replies to all lines
-- that were delivered whole, and nothing else; and the reader has neither reported its end nor failed
pub record HasCaughtUp (r to : Told) (w : Held) (taken : List ℕ) : Type 0 where
  pub input : List ℕ
  pub told : Tells r to input
  pub going : to.ends ≡ r.ends
  pub quiet : to.failures ≡ r.failures
  pub replied : taken ≡ w.bytes ++ text_of_lines (whole_lines input)

-- REPLIES LEAVE BEFORE THE NEXT READ: the reader may be called if the writer has caught up. A run is proved for
-- each reader, also for one that may not be called at any other time; so it makes no other call
abbrev pub MayReadInTurn : Told → Held → (Told → List ℕ → Type 0) → Type 0
MayReadInTurn r w may_read = (to : Told) (taken : List ℕ) → HasCaughtUp r to w taken → may_read to taken

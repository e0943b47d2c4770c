-- A crash may leave the current state. Now is one of the moments since an earlier one, and the only one since
-- now.
use Rattle.std.specs.Prelude.{ℕ, List, [], ◌∷◌, length, refl}
use mathlib.Core.Logic.{inl, inr}
use native.Mathlib.Nat.{lt_irrefl}
use Rattle.log_host.specs.Past.{Call, seen_after, heard_after, leaves_after, left_after}

pub now_left : (start : List ℕ) (calls : List Call) → leaves_after start calls (seen_after start calls) (heard_after calls)
now_left start [] = (refl, refl)
now_left start (call ∷ calls) = inr (refl, refl)

pub counts : (start : List ℕ) (calls : List Call) (t : ℕ) (c o : List ℕ) → leaves_after start calls c o → left_after start calls t c o
counts start [] t c o now = now
counts start (call ∷ calls) t c o now = inl now

pub only : (start : List ℕ) (calls : List Call) (c o : List ℕ) → left_after start calls (length calls) c o → leaves_after start calls c o
only start [] c o left = left
only start (call ∷ calls) c o (inl now) = now
only start (call ∷ calls) c o (inr before) = absurd (lt_irrefl (length calls) before.0)

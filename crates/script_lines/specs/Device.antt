-- The past of a reader and of a writer.
use Rattle.std.specs.Prelude.{◌≡◌, ℕ, ◌+◌, ◌&&◌, ◌==◌, List, ◌++◌, length, take, nat_lt, Option, Result, Ok, Err, if◌then◌else◌}
use Rattle.std.specs.Io.KnownBytes.{Consumes, Appends}
use Rattle.script_lines.specs.declared.device.DeviceFault.{DeviceFault}

-- bytes, if they are determined
abbrev pub Known : Type 0
Known = Option (List ℕ)

-- the response of a device: how many bytes it moved, or that it failed
abbrev pub Moved : Type 0
Moved = Result ℕ DeviceFault

-- the past of a reader. It has the bytes that it delivered, and how often it reported its end and failed. It
-- has the number of its calls, and how many of them had room for fewer bytes than a read must offer. It also
-- has the bytes that the reader has left, if they are determined.
pub record Told : Type 0 where
  pub bytes : List ℕ
  pub ends : ℕ
  pub failures : ℕ
  pub calls : ℕ
  pub narrow : ℕ
  pub left : Known

-- the number of bytes for which a read must offer room
abbrev pub wide : ℕ
wide = 1048576

-- the number of narrow calls after one more call
abbrev pub narrow_after : ℕ → ℕ → ℕ
narrow_after narrow room = if nat_lt room wide then narrow + 1 else narrow

-- a count with one more, if a call moved 0 bytes although the piece isn't empty
abbrev pub plus_if_idle : ℕ → ℕ → List ℕ → ℕ
plus_if_idle count n piece = if n == 0 && nat_lt 0 (length piece) then count + 1 else count

-- the past of a reader after one more call, with this buffer, if it has these bytes left
abbrev pub with_call : Told → List ℕ → Known → Told
with_call t buffer left = record t { calls = t.calls + 1; narrow = narrow_after t.narrow (length buffer); left = left }

-- the past of a reader after a read into a buffer, if it has these bytes left: 0 bytes for a buffer that
-- isn't empty mean the end
abbrev pub after_read : Told → Moved → List ℕ → Known → Told
after_read t (Ok n) buffer left = record (with_call t buffer left) { bytes = t.bytes ++ take n buffer; ends = plus_if_idle t.ends n buffer }
after_read t (Err e) buffer left = record (with_call t buffer left) { failures = t.failures + 1 }

-- a reader delivered more bytes, which it no longer has left, and none of its calls was narrow
pub record Tells (old new : Told) (more : List ℕ) : Type 0 where
  pub bytes : new.bytes ≡ old.bytes ++ more
  pub lost : Consumes old.left new.left more
  pub roomy : new.narrow ≡ old.narrow

-- the past of a writer: the bytes that it took, how often it failed, and its contents, if they are determined
pub record Held : Type 0 where
  pub bytes : List ℕ
  pub failures : ℕ
  pub contents : Known

-- the past of a writer after a write of a piece, if it has these contents: to take no byte of a piece that
-- isn't empty is a failure
abbrev pub after_write : Held → Moved → List ℕ → Known → Held
after_write h (Ok n) piece contents = record { bytes = h.bytes ++ take n piece; failures = plus_if_idle h.failures n piece; contents = contents }
after_write h (Err e) piece contents = record h { failures = h.failures + 1; contents = contents }

-- a writer took more bytes, and its contents have them
pub record Takes (old new : Held) (more : List ℕ) : Type 0 where
  pub bytes : new.bytes ≡ old.bytes ++ more
  pub gained : Appends old.contents new.contents more

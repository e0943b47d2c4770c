-- Text that is appended to the output, of which a part may wait in a buffer.
use Rattle.std.specs.Prelude.{◌≡◌, ℕ, ◌<◌, Bool, true, false, List, [], ◌++◌, Result, Ok, Err}
use Rattle.script_lines.specs.Device.{Held, Takes}
use Rattle.script_engine.specs.declared.fault.EngineFault.{EngineFault}
use Rattle.script_engine.specs.declared.fault.EngineFault.TheVariants.{Catalogue, Read, Write, OutOfMemory}

-- the output, written and waiting, grew by a text, and the writer didn't fail
pub record Grows (w : Held) (waited : List ℕ) (w' : Held) (waits text : List ℕ) : Type 0 where
  pub sent : List ℕ
  pub written : Takes w w' sent
  pub whole : sent ++ waits ≡ waited ++ text
  pub failures : w'.failures ≡ w.failures

-- the writer failed, and took a prefix of the waiting output with a text appended
pub record Breaks (w : Held) (waited : List ℕ) (w' : Held) (text : List ℕ) : Type 0 where
  pub front : List ℕ
  pub rest : List ℕ
  pub written : Takes w w' front
  pub both : front ++ rest ≡ waited ++ text
  pub failures : w.failures < w'.failures

-- one text is put, by the result: all of it, or a prefix if the writer failed, or nothing if memory was
-- refused
abbrev pub Puts : Held → List ℕ → Held → List ℕ → List ℕ → Result Unit EngineFault → Type 0
Puts w waited w' waits text (Ok done) = Grows w waited w' waits text
Puts w waited w' waits text (Err (Catalogue fault)) = ⊥
Puts w waited w' waits text (Err Read) = ⊥
Puts w waited w' waits text (Err Write) = Breaks w waited w' text
Puts w waited w' waits text (Err OutOfMemory) = Grows w waited w' waits []

-- a text is put: all of it, for any result, except for a prefix if the writer failed
abbrev pub Writes : Held → List ℕ → Held → List ℕ → List ℕ → Result Unit EngineFault → Type 0
Writes w waited w' waits text (Ok done) = Grows w waited w' waits text
Writes w waited w' waits text (Err (Catalogue fault)) = Grows w waited w' waits text
Writes w waited w' waits text (Err Read) = Grows w waited w' waits text
Writes w waited w' waits text (Err Write) = Breaks w waited w' text
Writes w waited w' waits text (Err OutOfMemory) = Grows w waited w' waits text

-- all the waiting output is written, or a prefix of it if the writer failed
abbrev pub Flushes : Held → List ℕ → Held → List ℕ → Result Unit EngineFault → Type 0
Flushes w waited w' waits (Ok done) = Grows w waited w' waits [] × (waits ≡ [])
Flushes w waited w' waits (Err (Catalogue fault)) = ⊥
Flushes w waited w' waits (Err Read) = ⊥
Flushes w waited w' waits (Err Write) = Breaks w waited w' []
Flushes w waited w' waits (Err OutOfMemory) = ⊥

-- whether a result is that the writer failed
abbrev pub has_writer_failed : Result Unit EngineFault → Bool
has_writer_failed (Ok done) = false
has_writer_failed (Err (Catalogue fault)) = false
has_writer_failed (Err Read) = false
has_writer_failed (Err Write) = true
has_writer_failed (Err OutOfMemory) = false

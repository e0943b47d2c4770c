-- The last replies of a run are written.
use Rattle.std.proofs.Common.{◌≡◌, ◌∙◌, inl, inr, ℕ, true, false, List, [], ◌++◌, Result, Ok, Err, refl, sym, ap, subst, arith}
use Rattle.std.proofs.lemmas.Bool.{false≢true}
use Rattle.std.proofs.lemmas.List.{append-nil}
use Rattle.script_lines.specs.Cut.{whole_lines}
use Rattle.script_lines.specs.Device.{Told, Held}
use Rattle.script_lines.proofs.Telling.{tells_nothing, takes_nothing}
use Rattle.script_engine.specs.declared.fault.EngineFault.{EngineFault}
use Rattle.script_engine.specs.declared.fault.EngineFault.TheVariants.{Catalogue, Read, Write, OutOfMemory}
use Rattle.batch_commands.specs.Putting.{Grows, Flushes, has_writer_failed}
use Rattle.batch_commands.specs.Runs.{HasRun, IsDueText}
use Rattle.batch_commands.specs.Turns.{RunsSoFar}
use Rattle.batch_commands.proofs.Putting.{grows_no_more, broken_no_more}

-- nothing waited at the beginning, and nothing waits at the end
all_sent : (w w' : Held) (waits text : List ℕ) (G : Grows w [] w' waits text) → waits ≡ [] → G.sent ≡ text
all_sent w w' waits text G none = sym (append-nil G.sent) ∙ ap (λ b. G.sent ++ b) (sym none) ∙ G.whole

-- the text that is due where the writer fails may be any
any_text : (r r' : Told) (input text : List ℕ) (result : Result Unit EngineFault) → IsDueText r r' input text result → IsDueText r r' input text (Err Write)
any_text r r' input text (Ok done) (inl (ended, (made, lines)), quiet) = inl (inr (ended, (made, made, omega arith, lines)))
any_text r r' input text (Ok done) (inr unopened, quiet) = inr (inl unopened)
any_text r r' input text (Err (Catalogue fault)) due = inr (inr (fault, due))
any_text r r' input text (Err Read) due = inl (inl (whole_lines input, [], inl (append-nil (whole_lines input)), due.0))
any_text r r' input text (Err Write) due = due
any_text r r' input text (Err OutOfMemory) due = inl due

-- all that waited is written
pub finished : (r r' : Told) (w held new : Held) (waits left : List ℕ) (result : Result Unit EngineFault) → has_writer_failed result ≡ false → RunsSoFar r r' w [] held waits result → Flushes held waits new left (Ok tt) → HasRun r r' w new result
finished r r' w held new waits left (Ok done) other R (F, none) =
    let G = grows_no_more w held new [] waits left R.text R.put F in
    record { input = R.input; text = R.text; output = G.sent; read = R.read; due = R.due; taken = G.written; written = (all_sent w new left R.text G none, G.failures); bounded = R.bounded }
finished r r' w held new waits left (Err (Catalogue fault)) other R (F, none) =
    let G = grows_no_more w held new [] waits left R.text R.put F in
    record { input = R.input; text = R.text; output = G.sent; read = R.read; due = R.due; taken = G.written; written = (all_sent w new left R.text G none, G.failures); bounded = R.bounded }
finished r r' w held new waits left (Err Read) other R (F, none) =
    let G = grows_no_more w held new [] waits left R.text R.put F in
    record { input = R.input; text = R.text; output = G.sent; read = R.read; due = R.due; taken = G.written; written = (all_sent w new left R.text G none, G.failures); bounded = R.bounded }
finished r r' w held new waits left (Err Write) other R F = absurd (false≢true (sym other))
finished r r' w held new waits left (Err OutOfMemory) other R (F, none) =
    let G = grows_no_more w held new [] waits left R.text R.put F in
    record { input = R.input; text = R.text; output = G.sent; read = R.read; due = R.due; taken = G.written; written = (all_sent w new left R.text G none, G.failures); bounded = R.bounded }

-- the writer had failed
pub failed_before : (r r' : Told) (w held : Held) (waits : List ℕ) (result : Result Unit EngineFault) → has_writer_failed result ≡ true → RunsSoFar r r' w [] held waits result → HasRun r r' w held result
failed_before r r' w held waits (Ok done) other R = absurd (false≢true other)
failed_before r r' w held waits (Err (Catalogue fault)) other R = absurd (false≢true other)
failed_before r r' w held waits (Err Read) other R = absurd (false≢true other)
failed_before r r' w held waits (Err Write) other R = record {
  input = R.input;
  text = R.text;
  output = R.put.front;
  read = R.read;
  due = R.due;
  taken = R.put.written;
  written = ((R.put.rest, R.put.both), R.put.failures);
  bounded = R.bounded;
}
failed_before r r' w held waits (Err OutOfMemory) other R = absurd (false≢true other)

-- the text so far, whatever the answer, where the writer didn't fail
grown : (r r' : Told) (w held : Held) (waits : List ℕ) (result : Result Unit EngineFault) → has_writer_failed result ≡ false → (R : RunsSoFar r r' w [] held waits result) → Grows w [] held waits R.text
grown r r' w held waits (Ok done) other R = R.put
grown r r' w held waits (Err (Catalogue fault)) other R = R.put
grown r r' w held waits (Err Read) other R = R.put
grown r r' w held waits (Err Write) other R = absurd (false≢true (sym other))
grown r r' w held waits (Err OutOfMemory) other R = R.put

-- the writer fails while it takes what waited
pub failed_at_end : (r r' : Told) (w held new : Held) (waits left : List ℕ) (result : Result Unit EngineFault) (fault : EngineFault) → has_writer_failed result ≡ false → RunsSoFar r r' w [] held waits result → Flushes held waits new left (Err fault) → HasRun r r' w new (Err fault)
failed_at_end r r' w held new waits left result (Catalogue told) other R F = absurd F
failed_at_end r r' w held new waits left result Read other R F = absurd F
failed_at_end r r' w held new waits left result Write other R F =
    let B = broken_no_more w held new [] waits R.text (grown r r' w held waits result other R) F in
    record {
      input = R.input;
      text = R.text;
      output = B.front;
      read = R.read;
      due = any_text r r' R.input R.text result R.due;
      taken = B.written;
      written = ((B.rest, B.both), B.failures);
      bounded = R.bounded;
    }
failed_at_end r r' w held new waits left result OutOfMemory other R F = absurd F

-- memory was refused before anything was read
pub not_begun : (r : Told) (w : Held) → HasRun r r w w (Err OutOfMemory)
not_begun r w = record {
  input = [];
  text = [];
  output = [];
  read = tells_nothing r;
  due = inl ([], whole_lines [], inl refl, refl);
  taken = takes_nothing w;
  written = (refl, refl);
  bounded = (omega arith, omega arith);
}

-- nothing waited at the beginning
pub from_nothing : (r r' : Told) (w held : Held) (waited waits : List ℕ) (result : Result Unit EngineFault) → waited ≡ [] → RunsSoFar r r' w waited held waits result → RunsSoFar r r' w [] held waits result
from_nothing r r' w held waited waits result none R = subst (λ b. RunsSoFar r r' w b held waits result) none R

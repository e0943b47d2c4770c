-- The last replies are written.
use Rattle.std.proofs.Common.{◌≡◌, ◌∙◌, ℕ, ◌<◌, List, ◌++◌, false, cond, take, drop, Result, Ok, Err, refl, sym, ap, subst, append_assoc}
use Rattle.std.proofs.lemmas.Bool.{false≢true}
use Rattle.std.proofs.lemmas.List.{append_cancel_left, take-append-drop}
use Rattle.script_lines.specs.Device.{Told, Held, Takes}
use Rattle.script_lines.proofs.Telling.{takes_more}
use Rattle.script_engine.specs.declared.summary.Summary.{Summary}
use Rattle.script_engine.specs.declared.fault.EngineFault.{EngineFault}
use Rattle.script_engine.specs.declared.fault.EngineFault.TheVariants.{Catalogue, Read, Write, OutOfMemory}
use Rattle.script_engine.specs.Ran.{Ran, RanSoFar, has_writer_failed, with_waiting, with_all}
use Rattle.script_engine.proofs.Turning.{turn_more}
use Rattle.script_engine.proofs.Fronts.{output_front}

-- what was sent and what waits are the output
all_sent : (r r' : Told) (w held : Held) (waits : List ℕ) (result : Result Summary EngineFault) → has_writer_failed result ≡ false → (R : RanSoFar r r' w held waits result) → R.front.sent ++ waits ≡ R.ran.output
all_sent r r' w held waits result e R =
    let whole : held.bytes ++ waits ≡ w.bytes ++ R.ran.output = sym (ap (λ b. (cond b held (with_all held waits)).bytes) e) ∙ R.ran.written.bytes in
    append_cancel_left w.bytes (R.front.sent ++ waits) R.ran.output (sym (append_assoc w.bytes R.front.sent waits) ∙ ap (λ b. b ++ waits) (sym R.front.grown.bytes) ∙ whole)

-- the writer took the output
took_all : (r r' : Told) (w held new : Held) (waits : List ℕ) (result : Result Summary EngineFault) → has_writer_failed result ≡ false → (R : RanSoFar r r' w held waits result)
    → Takes held new waits → Takes w new R.ran.output
took_all r r' w held new waits result e R wrote =
    subst (λ b. Takes w new b) (all_sent r r' w held waits result e R) (takes_more w held new R.front.sent waits R.front.grown wrote)

-- all that waited is written
pub flushed : (r r' : Told) (w held new : Held) (waits : List ℕ) (result : Result Summary EngineFault) → has_writer_failed result ≡ false → RanSoFar r r' w held waits result
    → Takes held new waits → new.failures ≡ held.failures → Ran r r' w new result
flushed r r' w held new waits (Ok summary) e R wrote quiet =
    let o = R.ran.outcome in
    record { input = R.ran.input; output = R.ran.output; read = R.ran.read; written = took_all r r' w held new waits (Ok summary) e R wrote; outcome = (o.0, o.1, o.2, o.3, o.4, quiet ∙ R.quiet refl); bounded = R.ran.bounded }
flushed r r' w held new waits (Err (Catalogue fault)) e R wrote quiet = record { input = R.ran.input; output = R.ran.output; read = R.ran.read; written = took_all r r' w held new waits (Err (Catalogue fault)) e R wrote; outcome = R.ran.outcome; bounded = R.ran.bounded }
flushed r r' w held new waits (Err Read) e R wrote quiet = record { input = R.ran.input; output = R.ran.output; read = R.ran.read; written = took_all r r' w held new waits (Err Read) e R wrote; outcome = R.ran.outcome; bounded = R.ran.bounded }
flushed r r' w held new waits (Err Write) e R wrote quiet = absurd (false≢true (sym e))
flushed r r' w held new waits (Err OutOfMemory) e R wrote quiet = record { input = R.ran.input; output = R.ran.output; read = R.ran.read; written = took_all r r' w held new waits (Err OutOfMemory) e R wrote; outcome = R.ran.outcome; bounded = R.ran.bounded }

-- the writer failed while it took what waited
pub flush_failed : (r r' : Told) (w held new : Held) (waits : List ℕ) (result : Result Summary EngineFault) (n : ℕ) → has_writer_failed result ≡ false → RanSoFar r r' w held waits result
    → Takes held new (take n waits) → held.failures < new.failures → Ran r r' w new (Err Write)
flush_failed r r' w held new waits result n e R wrote failed =
    let S = R.ran in
    let all : R.front.sent ++ waits ≡ S.output = all_sent r r' w held waits result e R in
    let front = output_front S.input S.output r r' w (with_waiting held waits result) result S.outcome in
    let fore = take n waits in
    let rest = drop n waits in
    record {
      input = S.input;
      output = R.front.sent ++ fore;
      read = S.read;
      written = takes_more w held new R.front.sent fore R.front.grown wrote;
      outcome = (
        (
          front.0,
          rest ++ front.1,
          front.2,
          append_assoc R.front.sent fore (rest ++ front.1) ∙ ap (λ b. R.front.sent ++ b) (sym (append_assoc fore rest front.1) ∙ ap (λ b. b ++ front.1) (take-append-drop n waits))
              ∙ sym (append_assoc R.front.sent waits front.1) ∙ ap (λ b. b ++ front.1) all ∙ front.3,
        ),
        turn_more S.input R.front.sent fore R.front.turn,
        subst (λ k. k < new.failures) (R.quiet e) failed,
      );
      bounded = S.bounded;
    }

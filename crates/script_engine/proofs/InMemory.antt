-- A script that stands in memory, and its replies in a buffer.
use Rattle.std.proofs.Common.{◌≡◌, ◌∙◌, ℕ, ◌+◌, ◌≤◌, List, [], ◌++◌, length, Some, Result, Ok, Err, refl, sym, ap, inl, inr, arith, subst}
use Rattle.std.proofs.lemmas.List.{append-nil, length-append}
use Rattle.script_lines.specs.declared.input_buffer.TheConstants.{MAX_READS}
use Rattle.script_lines.specs.Device.{Held}
use Rattle.script_lines.specs.Lines.{IsReadFault}
use Rattle.script_lines.specs.Tape.{Past, nothing_past, told_in_memory, held_by}
use Rattle.script_engine.specs.declared.summary.Summary.{Summary}
use Rattle.script_engine.specs.declared.fault.EngineFault.{EngineFault}
use Rattle.script_engine.specs.declared.fault.EngineFault.TheVariants.{Catalogue, Read, Write, OutOfMemory}
use Rattle.script_engine.specs.Script.{script_text}
use Rattle.script_engine.specs.Ran.{Ran, RanInMemory, HoldsReplies}

-- all of the script was read, and the buffer holds its text
pub holds_replies : (p p' q q' : Past) (script rest text : List ℕ) (result : Result Summary EngineFault)
    → Ran (told_in_memory p script) (told_in_memory p' rest) (held_by q (Some [])) (held_by q' (Some text)) result → HoldsReplies script text result
holds_replies p p' q q' script rest text (Ok summary) R =
    R.written.gained ∙ R.outcome.0 ∙ ap script_text (sym (R.read.lost ∙ ap (λ b. R.input ++ b) R.outcome.1.1 ∙ append-nil R.input))
holds_replies p p' q q' script rest text (Err (Catalogue fault)) R = R.written.gained ∙ R.outcome.0
holds_replies p p' q q' script rest text (Err Read) R = tt
holds_replies p p' q q' script rest text (Err Write) R = tt
holds_replies p p' q q' script rest text (Err OutOfMemory) R = tt

-- a front of the script was read, and the buffer holds all that was written
pub ran_in_memory : (p p' q q' : Past) (script rest text : List ℕ) (result : Result Summary EngineFault)
    → Ran (told_in_memory p script) (told_in_memory p' rest) (held_by q (Some [])) (held_by q' (Some text)) result → RanInMemory script text result
ran_in_memory p p' q q' script rest text result R = record {
  r = told_in_memory p script;
  r' = told_in_memory p' rest;
  w = held_by q (Some []);
  w' = held_by q' (Some text);
  ran = R;
  read = record { whole = refl; front = (rest, refl, R.read.lost); calm = refl };
  written = record { empty = refl; all = refl; text_is = R.written.gained };
}

-- as many calls as there may be deliver that many bytes, but for the end
all_calls : (calls ends narrow more rest : ℕ) → calls ≤ more + ends + narrow → calls ≡ MAX_READS → ends ≡ 0 → narrow ≡ 0 → MAX_READS ≤ more + rest
all_calls calls ends narrow more rest few all none wide = omega (arith, few, all, none, wide)

-- a slice never failed
is_called_out : (p' : Past) (script rest : List ℕ) → IsReadFault (told_in_memory nothing_past script) (told_in_memory p' rest) → p'.calls ≡ MAX_READS
is_called_out p' script rest (inl failed) = absurd (omega (arith, failed))
is_called_out p' script rest (inr calls) = calls.1

-- a reader of a slice that was called as often as it may be has delivered a byte by each call
pub is_long : (p' : Past) (w w' : Held) (script rest : List ℕ) → p'.calls ≤ length p'.bytes + p'.ends + p'.narrow
    → Ran (told_in_memory nothing_past script) (told_in_memory p' rest) w w' (Err Read) → MAX_READS ≤ length script
is_long p' w w' script rest few R =
    let more : length p'.bytes ≡ length R.input = ap length R.read.bytes in
    let some : p'.calls ≤ length R.input + p'.ends + p'.narrow = subst (λ n. p'.calls ≤ n + p'.ends + p'.narrow) more few in
    let whole : length script ≡ length R.input + length rest = ap length R.read.lost ∙ length-append R.input rest in
    subst (λ n. MAX_READS ≤ n) (sym whole) (all_calls _ _ _ _ (length rest) some (is_called_out p' script rest R.outcome.1) R.outcome.3 R.read.roomy)

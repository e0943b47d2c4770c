-- What was written for the lines so far is a front of a script's text.
use Rattle.std.proofs.Common.{◌≡◌, ◌∙◌, inl, inr, ℕ, ◌==◌, List, [], ◌∷◌, ◌++◌, Bool, true, false, cond, Result, Ok, Err, refl, sym, ap, append_assoc, arith}
use Rattle.std.proofs.lemmas.List.{append-nil}
use Rattle.jsl_model.specs.Jobs.{JobTree}
use Rattle.batch_history.specs.Rows.{History}
use Rattle.script_lines.specs.Cut.{grow, grow_whole, lines_of, whole_lines, at_least_one, script_lines}
use Rattle.script_lines.specs.Device.{Told, Held}
use Rattle.script_lines.specs.Lines.{AreComplete}
use Rattle.jsl_json.specs.declared.fault.ReadFault.{ReadFault}
use Rattle.script_text.specs.Faults.{fault_text}
use Rattle.script_engine.specs.declared.summary.Summary.{Summary}
use Rattle.script_engine.specs.declared.fault.EngineFault.{EngineFault}
use Rattle.script_engine.specs.declared.fault.EngineFault.TheVariants.{Catalogue, Read, Write, OutOfMemory}
use Rattle.script_engine.specs.Script.{catalogue_at, line_text, line_after, replies, begin, opened, text_of_lines}
use Rattle.script_engine.specs.Ran.{IsFront, IsOutcome}

replies_front : (h : History) (done rest : List (List ℕ)) → (tail : List ℕ) × (replies h done ++ tail ≡ replies h (done ++ rest))
replies_front h [] rest = (replies h rest, refl)
replies_front h (line ∷ lines) rest =
    let k = replies_front (line_after h line) lines rest in
    (k.0, append_assoc (line_text h line) (replies (line_after h line) lines) k.0 ∙ ap (λ b. line_text h line ++ b) k.1)

opened_front : (o : Result (List JobTree) ReadFault) (done rest : List (List ℕ)) → (tail : List ℕ) × (opened o done ++ tail ≡ opened o (done ++ rest))
opened_front (Ok catalogue) done rest = replies_front (begin catalogue) done rest
opened_front (Err fault) done rest = ([], append-nil (fault_text fault))

-- the text for some lines is a front of that for more lines
text_front : (done rest : List (List ℕ)) → (tail : List ℕ) × (text_of_lines done ++ tail ≡ text_of_lines (done ++ rest))
text_front [] rest = (text_of_lines rest, refl)
text_front (first ∷ later) rest = opened_front (catalogue_at first) later rest

more_whole : (feed : Bool) (b : ℕ) (lines whole : List (List ℕ)) → (rest : List (List ℕ)) × (lines ≡ whole ++ rest)
    → (rest : List (List ℕ)) × (cond feed ([] ∷ lines) (grow b lines) ≡ cond feed ([] ∷ whole) (grow_whole b whole) ++ rest)
more_whole true b lines whole k = (k.0, ap (λ (ls : List (List ℕ)). [] ∷ ls) k.1)
more_whole false b lines [] k = (grow b lines, refl)
more_whole false b lines (line ∷ whole) k = (k.0, ap (grow b) k.1)

-- the whole lines are a front of the lines
whole_front : (bytes : List ℕ) → (rest : List (List ℕ)) × (lines_of bytes ≡ whole_lines bytes ++ rest)
unfolding lines_of whole_lines
whole_front [] = ([], refl)
whole_front (b ∷ bytes) = more_whole (b == 10) b (lines_of bytes) (whole_lines bytes) (whole_front bytes)

with_first : (lines whole rest : List (List ℕ)) → lines ≡ whole ++ rest → (more : List (List ℕ)) × (at_least_one lines ≡ whole ++ more)
with_first lines [] rest e = (at_least_one lines, refl)
with_first lines (line ∷ whole) rest e = (rest, ap at_least_one e)

-- lines that were told to their end are a front of all lines
pub complete_front : (r r' : Told) (input : List ℕ) (lines : List (List ℕ)) → AreComplete r r' input lines → (rest : List (List ℕ)) × (script_lines input ≡ lines ++ rest)
complete_front r r' input lines (inl e) =
    let front = whole_front input in
    let more = with_first (lines_of input) (whole_lines input) front.0 front.1 in
    (more.0, more.1 ∙ ap (λ ls. ls ++ more.0) (sym e))
complete_front r r' input lines (inr e) = ([], sym e.1 ∙ sym (append-nil lines))

-- whatever the answer, the output is a front of the text of complete lines
pub output_front : (input output : List ℕ) (r r' : Told) (w w' : Held) (result : Result Summary EngineFault) → IsOutcome input output r r' w w' result → IsFront r r' input output
output_front input output r r' w w' (Ok summary) o = (script_lines input, [], inr (omega (arith, o.1.0), refl), append-nil output ∙ o.0)
output_front input output r r' w w' (Err (Catalogue fault)) o =
    let first = o.2.2 in
    (o.2.0, [], o.2.1, append-nil output ∙ o.0 ∙ sym (ap text_of_lines first.2 ∙ ap (λ c. opened c first.1) first.3))
output_front input output r r' w w' (Err Read) o = (whole_lines input, [], inl refl, append-nil output ∙ o.0)
output_front input output r r' w w' (Err Write) o = o.0
output_front input output r r' w w' (Err OutOfMemory) (o, turn) =
    let text = text_front o.0 o.1 in
    (o.0 ++ o.1, text.0, o.2, ap (λ b. b ++ text.0) o.3 ∙ text.1)

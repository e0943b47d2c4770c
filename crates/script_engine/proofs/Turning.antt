-- The replies to whole lines are written before the reader is asked for more.
use Rattle.std.proofs.Common.{◌≡◌, ◌∙◌, ◌⊎◌, inl, inr, ℕ, List, [], ◌++◌, Bool, true, false, Option, Result, Ok, Err, refl, sym, ap, subst, append_assoc, arith}
use Rattle.std.proofs.lemmas.List.{append-nil, append_cancel_left}
use Rattle.script_lines.specs.declared.line.Line.{Line}
use Rattle.script_lines.specs.declared.line_fault.LineFault.{LineFault}
use Rattle.script_lines.specs.declared.line_fault.LineFault.TheVariants.{Read, OutOfMemory, Write}
use Rattle.script_lines.specs.Device.{Told}
use Rattle.script_lines.specs.Cut.{whole_lines}
use Rattle.script_lines.specs.Unread.{Unread, nothing_read}
use Rattle.script_lines.specs.Lines.{InTurn, LineRead, IsPrompt}
use Rattle.script_lines.proofs.CutLaws.{whole_lines-none}
use Rattle.script_lines.proofs.Cutting.{Cutting, whole_before}
use Rattle.script_engine.specs.Script.{text_of_lines}
use Rattle.script_engine.specs.Ran.{RepliesInTurn}

-- before the first read
pub turn_none : (sent : List ℕ) → RepliesInTurn [] sent
turn_none sent = record {
  before = [];
  last = [];
  others = sent;
  split = refl;
  one_read = omega arith;
  replied = ap (λ ls. text_of_lines ls ++ sent) (sym (whole_lines-none [] refl));
}

-- more was written
pub turn_more : (input sent more : List ℕ) → RepliesInTurn input sent → RepliesInTurn input (sent ++ more)
turn_more input sent more T = record {
  before = T.before;
  last = T.last;
  others = T.others ++ more;
  split = T.split;
  one_read = T.one_read;
  replied = ap (λ b. b ++ more) T.replied ∙ append_assoc (text_of_lines (whole_lines T.before)) T.others more;
}

-- nothing was told
pub turn_still : (input more sent : List ℕ) → more ≡ [] → RepliesInTurn input sent → RepliesInTurn (input ++ more) sent
turn_still input more sent e T = subst (λ i. RepliesInTurn i sent) (sym (ap (λ m. input ++ m) e ∙ append-nil input)) T

-- a reader that wasn't called told nothing
pub told_nothing : (now next : Told) (p q : Unread) (r : Result (Option Line) LineFault) (t : LineRead now next p q r) → next ≡ now → t.more ≡ []
told_nothing now next p q r t e =
    append_cancel_left now.bytes t.more [] (sym t.told.bytes ∙ ap (λ (s : Told). s.bytes) e ∙ sym (append-nil now.bytes))

turn_first_by : (more sent : List ℕ) → InTurn [] more → RepliesInTurn more sent
turn_first_by more sent (inl e) = subst (λ i. RepliesInTurn i sent) (sym e) (turn_none sent)
turn_first_by more sent (inr t) = record {
  before = t.0;
  last = t.1;
  others = sent;
  split = t.2;
  one_read = t.3;
  replied = ap (λ ls. text_of_lines ls ++ sent) (sym (whole_lines-none t.0 t.4));
}

-- ahead of the first line no line is whole
pub turn_first : (start next : Told) (q : Unread) (r : Result (Option Line) LineFault) (t : LineRead start next nothing_read q r) (sent : List ℕ) → RepliesInTurn t.more sent
turn_first start next q r t sent = turn_first_by t.more sent t.turn

turn_read : (start now next : Told) (p q : Unread) (done : List (List ℕ)) (r : Result (Option Line) LineFault) (C : Cutting start now p done) (t : LineRead now next p q r)
    → (sent : List ℕ) → sent ≡ text_of_lines done → (before : List ℕ) → RepliesInTurn C.input before → (more : List ℕ) → sent ≡ before ++ more
    → (ended : Bool) → p.ended ≡ ended → InTurn p.bytes t.more → RepliesInTurn (C.input ++ t.more) sent
turn_read start now next p q done r C t sent e before T more grown ended open_end (inl none) =
    turn_still C.input t.more sent none (subst (λ s. RepliesInTurn C.input s) (sym grown) (turn_more C.input before more T))
turn_read start now next p q done r C t sent e before T more grown true ended (inr turn) =
    turn_still C.input t.more sent (t.quiet ended).0 (subst (λ s. RepliesInTurn C.input s) (sym grown) (turn_more C.input before more T))
turn_read start now next p q done r C t sent e before T more grown false open_end (inr turn) = record {
  before = C.input ++ turn.0;
  last = turn.1;
  others = [];
  split = ap (λ m. C.input ++ m) turn.2 ∙ sym (append_assoc C.input turn.0 turn.1);
  one_read = turn.3;
  replied = e ∙ ap text_of_lines (sym (whole_before start now next p q done r C t turn.0 turn.1 turn.2 turn.4 open_end)) ∙ sym (append-nil (text_of_lines (whole_lines (C.input ++ turn.0))));
}

turn_by : (start now next : Told) (p q : Unread) (done : List (List ℕ)) (r : Result (Option Line) LineFault) (C : Cutting start now p done) (t : LineRead now next p q r)
    → (output before waits : List ℕ) → output ≡ text_of_lines done → RepliesInTurn C.input before → (next ≡ now) ⊎ (waits ≡ [])
    → (more : List ℕ) → (before ++ more) ++ waits ≡ output → RepliesInTurn (C.input ++ t.more) (before ++ more)
turn_by start now next p q done r C t output before waits e T (inl still) more all =
    turn_still C.input t.more (before ++ more) (told_nothing now next p q r t still) (turn_more C.input before more T)
turn_by start now next p q done r C t output before waits e T (inr none) more all =
    let sent : before ++ more ≡ output = sym (append-nil (before ++ more)) ∙ ap (λ w. (before ++ more) ++ w) (sym none) ∙ all in
    turn_read start now next p q done r C t (before ++ more) (sent ∙ e) before T more refl p.ended refl t.turn

prompt_by : (old new : Told) (waits : List ℕ) (r : Result (Option Line) LineFault) → IsPrompt old new waits r → (new ≡ old) ⊎ (waits ≡ [])
prompt_by old new waits (Ok line) h = h
prompt_by old new waits (Err Read) h = h
prompt_by old new waits (Err OutOfMemory) h = h
prompt_by old new waits (Err Write) h = inl h

-- a call for the next line, behind lines that are replied to
pub turn_on : (start now next : Told) (p q : Unread) (done : List (List ℕ)) (r : Result (Option Line) LineFault) (C : Cutting start now p done) (t : LineRead now next p q r)
    → (output before waits : List ℕ) → output ≡ text_of_lines done → RepliesInTurn C.input before → IsPrompt now next waits r
    → (more : List ℕ) → (before ++ more) ++ waits ≡ output → RepliesInTurn (C.input ++ t.more) (before ++ more)
turn_on start now next p q done r C t output before waits e T prompt =
    turn_by start now next p q done r C t output before waits e T (prompt_by now next waits r prompt)

-- The first line of a script, and what may go wrong with it.
use Rattle.std.proofs.Common.{◌≡◌, ◌∙◌, inl, ℕ, List, [], ◌∷◌, ◌++◌, false, take, Option, Result, Ok, Err, refl, sym, ap, subst, arith}
use Rattle.std.proofs.lemmas.List.{append-nil}
use Rattle.script_lines.specs.declared.line.Line.{Line}
use Rattle.script_lines.specs.declared.line_fault.LineFault.{LineFault}
use Rattle.script_lines.specs.declared.line_fault.LineFault.TheVariants as line_faults
use Rattle.script_lines.specs.Cut.{whole_lines}
use Rattle.script_lines.specs.Device.{Told, Held, Tells, Takes}
use Rattle.script_lines.specs.Lines.{ShowsFirst, LineRead, IsPassedOn, PassedOn, IsPrompt, IsBounded}
use Rattle.script_lines.specs.Unread.{Unread, nothing_read}
use Rattle.script_lines.proofs.Telling.{tells_nothing, takes_nothing}
use Rattle.script_lines.proofs.Cutting.{Cutting, cut_first, cut_so_far, first_fault, cut_bounded, first_bounded}
use Rattle.jsl_json.specs.declared.fault.ReadFault.{ReadFault}
use Rattle.jsl_json.specs.Catalogues.{is_out_of_memory}
use Rattle.script_text.specs.Faults.{fault_text}
use Rattle.script_engine.specs.declared.fault.EngineFault.{EngineFault}
use Rattle.script_engine.specs.declared.fault.EngineFault.TheVariants as faults
use Rattle.script_engine.specs.Faults.{engine_fault}
use Rattle.script_engine.specs.Script.{catalogue_at, opened, text_of_lines}
use Rattle.script_engine.specs.Ran.{Ran, RanSoFar, TellsFault}
use Rattle.script_engine.proofs.Fronts.{complete_front}
use Rattle.script_engine.proofs.Turning.{turn_none, turn_first, told_nothing}
use Rattle.script_engine.proofs.Passing.{Passing, Grew, turn_whole, nothing_sent, all_written, passed_on, put_behind, broken, same_input}
use Rattle.script_engine.proofs.Running.{breaks}

-- memory was refused ahead of the first reply
pub nothing_done : (start next : Told) (begun new : Held) (waits more : List ℕ) → Tells start next more → IsBounded start next → Passing begun new waits [] more → RanSoFar start next begun new waits (Err faults.OutOfMemory)
nothing_done start next begun new waits more told bounded P = record {
  ran = record {
    input = more;
    output = [];
    read = told;
    written = all_written begun new waits [] more P;
    outcome = (([], whole_lines more, inl refl, refl, inl refl), turn_whole begun new waits [] more P);
    bounded = bounded;
  };
  front = record { sent = P.sent; grown = P.written; turn = P.turn };
  quiet = λ _. P.failures;
}

never_called : (start : Told) → IsBounded start start
never_called start = (omega arith, omega arith)

-- memory was refused ahead of the first read
pub not_begun : (start : Told) (w : Held) → Ran start start w w (Err faults.OutOfMemory)
not_begun start w = record {
  input = [];
  output = [];
  read = tells_nothing start;
  written = takes_nothing w;
  outcome = (([], whole_lines [], inl refl, refl, inl refl), turn_none []);
  bounded = never_called start;
}

-- memory was refused before the first line was asked for
pub nothing_asked : (start : Told) (w : Held) (waits : List ℕ) → waits ≡ [] → RanSoFar start start w w waits (Err faults.OutOfMemory)
nothing_asked start w waits e = nothing_done start start w w waits [] (tells_nothing start) (never_called start) (nothing_sent w waits e)

-- the call for the first line, of a reader of which nothing was read before, passes on what waits
pub first_passed : (start next : Told) (begun new : Held) (waited waits : List ℕ) (q : Unread) (r : Result (Option Line) LineFault) → waited ≡ [] → (t : LineRead start next nothing_read q r)
    → IsPassedOn begun new waited waits → Grew begun new → Passing begun new waits [] t.more
first_passed start next begun new waited waits q r e t on grew =
    passed_on begun begun new waited waits [] [] t.more (nothing_sent begun waited e) on grew (λ more _. turn_first start next q r t _)

-- the first line is there, and what waited is passed on
pub first_line : (start next : Told) (begun new : Held) (waited waits : List ℕ) (p q : Unread) (first : Option Line) → p ≡ nothing_read → waited ≡ [] → LineRead start next p q (Ok first) → IsPassedOn begun new waited waits → Grew begun new
    → (line : List ℕ) × ShowsFirst first line × ((C : Cutting start next q (line ∷ [])) × Passing begun new waits [] C.input)
first_line start next begun new waited waits p q first e none read on grew =
    let t = subst (λ (x : Unread). LineRead start next x q (Ok first)) e read in
    let cut = cut_first start next q first t in
    (cut.0, cut.1, (cut.2.0, same_input begun new waits [] t.more cut.2.0.input cut.2.1 (first_passed start next begun new waited waits q (Ok first) none t on grew)))

-- there is no first line
first_failed_of : (start next : Told) (begun new : Held) (waited waits : List ℕ) (q : Unread) (f : LineFault) → waited ≡ [] → (t : LineRead start next nothing_read q (Err f))
    → PassedOn begun new waited waits (Err f) → Grew begun new → IsPrompt start next waits (Err f) → RanSoFar start next begun new waits (Err (engine_fault f))
first_failed_of start next begun new waited waits q line_faults.Read e t on grew prompt =
    let fault = first_fault start next q t in
    let P = first_passed start next begun new waited waits q (Err line_faults.Read) e t on grew in
    record {
      ran = record {
        input = t.more;
        output = [];
        read = t.told;
        written = all_written begun new waits [] t.more P;
        outcome = (ap text_of_lines (sym fault.0), fault.1, inl fault.0, fault.2);
        bounded = first_bounded start next q (Err line_faults.Read) t;
      };
      front = record { sent = P.sent; grown = P.written; turn = P.turn };
      quiet = λ _. P.failures;
    }
first_failed_of start next begun new waited waits q line_faults.Write e t on grew prompt =
    let wrote : Takes begun new (take on.0.0 (waited ++ [])) = subst (λ w. Takes begun new (take on.0.0 w)) (sym (append-nil waited)) on.0.1 in
    let still : t.more ≡ [] = told_nothing start next nothing_read q (Err line_faults.Write) t prompt in
    let P = same_input begun begun waited [] [] t.more still (nothing_sent begun waited e) in
    breaks start next begun begun new waits t.more [] (text_of_lines (whole_lines t.more)) (whole_lines t.more) t.told (first_bounded start next q (Err line_faults.Write) t) (inl refl) refl (broken begun begun new waited [] [] t.more on.0.0 P wrote) refl on.1
first_failed_of start next begun new waited waits q line_faults.OutOfMemory e t on grew prompt =
    nothing_done start next begun new waits t.more t.told (first_bounded start next q (Err line_faults.OutOfMemory) t) (first_passed start next begun new waited waits q (Err line_faults.OutOfMemory) e t on grew)

pub first_failed : (start next : Told) (begun new : Held) (waited waits : List ℕ) (p q : Unread) (f : LineFault) → waited ≡ [] → p ≡ nothing_read → LineRead start next p q (Err f)
    → PassedOn begun new waited waits (Err f) → Grew begun new → IsPrompt start next waits (Err f) → RanSoFar start next begun new waits (Err (engine_fault f))
first_failed start next begun new waited waits p q f e unread t on grew prompt =
    first_failed_of start next begun new waited waits q f e (subst (λ (x : Unread). LineRead start next x q (Err f)) unread t) on grew prompt

-- the fault of the first line is all that there is to tell
faulty_text : (line : List ℕ) (rest : List (List ℕ)) (fault : ReadFault) → catalogue_at line ≡ Err fault → text_of_lines (line ∷ rest) ≡ fault_text fault
faulty_text line rest fault e = ap (λ o. opened o rest) e

-- the first line is no catalogue
pub refused : (start now : Told) (begun held new : Held) (waited waits : List ℕ) (p : Unread) (line : List ℕ) (fault : ReadFault) (e : EngineFault) (C : Cutting start now p (line ∷ []))
    → (is_out_of_memory fault ≡ false → catalogue_at line ≡ Err fault) → Passing begun held waited [] C.input → TellsFault fault held waited new waits e → RanSoFar start now begun new waits (Err e)
refused start now begun held new waited waits p line fault (faults.Catalogue told) C given P T =
    let so_far = cut_so_far start now p (line ∷ []) C in
    let here : catalogue_at line ≡ Err told = given T.1 ∙ ap Err (sym T.0) in
    let Q = put_behind begun held new waited waits [] (fault_text fault) C.input P T.2 T.3 T.4 in
    let all = complete_front start now C.input (line ∷ so_far.0) so_far.1 in
    record {
      ran = record {
        input = C.input;
        output = fault_text fault;
        read = C.read;
        written = all_written begun new waits (fault_text fault) C.input Q;
        outcome = (
          ap fault_text (sym T.0),
          ap text_of_lines all.1 ∙ faulty_text line (so_far.0 ++ all.0) told here,
          (line ∷ so_far.0, so_far.1, (line, so_far.0, refl, here)),
        );
        bounded = cut_bounded start now p (line ∷ []) C;
      };
      front = record { sent = Q.sent; grown = Q.written; turn = Q.turn };
      quiet = λ _. Q.failures;
    }
refused start now begun held new waited waits p line fault faults.Read C given P T = absurd T
refused start now begun held new waited waits p line fault faults.Write C given P T =
    let so_far = cut_so_far start now p (line ∷ []) C in
    let whole = faulty_text line so_far.0 fault (given T.0) ∙ sym (append-nil (fault_text fault)) in
    breaks start now begun held new waits C.input (fault_text fault) [] (line ∷ so_far.0) C.read (cut_bounded start now p (line ∷ []) C) so_far.1 whole (broken begun held new waited [] (fault_text fault) C.input T.1.0 P T.1.1) P.failures T.2
refused start now begun held new waited waits p line fault faults.OutOfMemory C given P T =
    nothing_done start now begun new waits C.input C.read (cut_bounded start now p (line ∷ []) C) (subst (λ w. Passing begun w waits [] C.input) (sym T.0) (subst (λ b. Passing begun held b [] C.input) (sym T.1) P))

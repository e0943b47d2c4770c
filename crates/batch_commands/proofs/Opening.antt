-- The first line of a run, and what is done behind it.
use Rattle.std.proofs.Common.{◌≡◌, ◌∙◌, ◌⊎◌, inl, inr, ℕ, ◌+◌, false, List, [], ◌∷◌, ◌++◌, Option, None, Result, Ok, Err, refl, sym, ap, subst, arith, append_assoc}
use Rattle.jsl_model.specs.Jobs.{JobTree}
use Rattle.jsl_json.specs.declared.fault.ReadFault.{ReadFault}
use Rattle.jsl_json.specs.Catalogues.{is_out_of_memory}
use Rattle.script_lines.specs.Cut.{whole_lines, script_lines}
use Rattle.script_lines.specs.declared.line.Line.{Line}
use Rattle.script_lines.specs.declared.line_fault.LineFault.{LineFault}
use Rattle.script_lines.specs.declared.line_fault.LineFault.TheVariants as line_faults
use Rattle.script_lines.specs.Device.{Told, Held, Tells}
use Rattle.script_lines.specs.Lines.{HasEnded, AreComplete, LineRead, IsBounded, ShowsFirst}
use Rattle.script_lines.specs.Unread.{Unread, nothing_read}
use Rattle.script_lines.proofs.Telling.{tells_nothing}
use Rattle.script_lines.proofs.Cutting.{Cutting, cut_first, cut_short, cut_so_far, cut_all, cut_fault, cut_bounded, first_fault, first_bounded, next_bounded}
use Rattle.script_text.specs.Faults.{fault_text}
use Rattle.script_engine.specs.declared.fault.EngineFault.{EngineFault}
use Rattle.script_engine.specs.declared.fault.EngineFault.TheVariants.{Catalogue, Read, Write, OutOfMemory}
use Rattle.script_engine.specs.Faults.{engine_fault}
use Rattle.script_engine.specs.Ran.{TellsFault}
use Rattle.script_engine.specs.Script.{catalogue_at}
use Rattle.batch_commands.specs.Putting.{Grows}
use Rattle.batch_commands.specs.Reads.{AreRead, AreReadTo}
use Rattle.batch_commands.specs.Runs.{IsPart, IsUnopened, LinesReplied, LinesRun}
use Rattle.batch_commands.specs.Turns.{IsDueBehind, IsPartOf, IsUnopenedOf, Runs, RunsSoFar}
use Rattle.batch_commands.proofs.Putting.{put_nothing, unchanged, put_behind, broken}
use Rattle.batch_commands.proofs.Reading.{read_done}

-- ---- Behind a catalogue

-- an input that was told to its end, of which these are all lines
pub record Ended (start next : Told) (lines : List (List ℕ)) : Type 0 where
  pub input : List ℕ
  pub read : Tells start next input
  pub all : script_lines input ≡ lines
  pub ended : HasEnded start next
  pub failures : next.failures ≡ start.failures
  pub bounded : IsBounded start next

read_all : (start r r' : Told) (p p' : Unread) (done lines : List (List ℕ)) → Cutting start r p done → AreReadTo r p lines (Ok None) r' p' → Ended start r' (done ++ lines)
read_all start r r' p p' done lines C (mid, left, read, call) =
    let D = read_done start r mid p left done lines C read in
    let cut = cut_all start mid r' left p' (done ++ lines) D call in
    record { input = D.input ++ call.more; read = cut.0; all = cut.1; ended = cut.2; failures = call.cause ∙ D.failures; bounded = next_bounded start mid r' left p' (done ++ lines) (Ok None) D call }

-- an input of which these lines were told to their end
pub record Complete (start next : Told) (lines : List (List ℕ)) : Type 0 where
  pub input : List ℕ
  pub read : Tells start next input
  pub rest : List (List ℕ)
  pub complete : AreComplete start next input (lines ++ rest)
  pub bounded : IsBounded start next

so_far : (start r : Told) (p : Unread) (done : List (List ℕ)) → Cutting start r p done → Complete start r done
so_far start r p done C =
    let all = cut_so_far start r p done C in
    record { input = C.input; read = C.read; rest = all.0; complete = all.1; bounded = cut_bounded start r p done C }

read_some : (start r r' : Told) (p p' : Unread) (done lines rest : List (List ℕ)) → Cutting start r p done → AreRead r p (lines ++ rest) r' p' ⊎ AreReadTo r p lines (Err line_faults.OutOfMemory) r' p' → Complete start r' (done ++ lines)
read_some start r r' p p' done lines rest C (inl read) =
    let D = read_done start r r' p p' done (lines ++ rest) C read in
    let all = cut_so_far start r' p' (done ++ (lines ++ rest)) D in
    record {
      input = D.input;
      read = D.read;
      rest = rest ++ all.0;
      complete = subst (λ (ls : List (List ℕ)). AreComplete start r' D.input ls) (ap (λ (ls : List (List ℕ)). ls ++ all.0) (sym (append_assoc done lines rest)) ∙ append_assoc (done ++ lines) rest all.0) all.1;
      bounded = cut_bounded start r' p' (done ++ (lines ++ rest)) D;
    }
read_some start r r' p p' done lines rest C (inr (mid, left, read, call)) =
    let D = read_done start r mid p left done lines C read in
    let cut = cut_short start mid r' left p' (done ++ lines) (Err line_faults.OutOfMemory) D call in
    record { input = D.input ++ call.more; read = cut.0; rest = cut.1.0; complete = cut.1.1; bounded = next_bounded start mid r' left p' (done ++ lines) (Err line_faults.OutOfMemory) D call }

part_so_far : (start r r' : Told) (p p' : Unread) (first : List ℕ) (catalogue : List JobTree) (text : List ℕ) → Cutting start r p (first ∷ []) → catalogue_at first ≡ Ok catalogue → IsPartOf catalogue r r' p p' text
    → (input : List ℕ) × Tells start r' input × IsBounded start r' × IsPart start r' input text
part_so_far start r r' p p' first catalogue text C e (inl (lines, rest, read, A)) =
    let all = read_some start r r' p p' (first ∷ []) lines rest C read in
    (all.input, all.read, all.bounded, inl (first ∷ lines, all.rest, all.complete, (catalogue, e, A)))
part_so_far start r r' p p' first catalogue text C e (inr (lines, made, told, read, within, T)) =
    let all = read_all start r r' p p' (first ∷ []) lines C read in
    (all.input, all.read, all.bounded, inr (all.ended, (made, told, within, subst (λ ls. LinesRun ls made told text) (sym all.all) (catalogue, e, T))))

unopened_so_far : (start r r' : Told) (p p' : Unread) (first : List ℕ) (catalogue : List JobTree) (text : List ℕ) → Cutting start r p (first ∷ []) → catalogue_at first ≡ Ok catalogue → IsUnopenedOf r r' p p' text
    → (input : List ℕ) × Tells start r' input × IsBounded start r' × IsUnopened start r' input text × (r'.failures ≡ start.failures)
unopened_so_far start r r' p p' first catalogue text C e (still, left, is) =
    let all = so_far start r p (first ∷ []) C in
    let here : (input : List ℕ) × Tells start r input × IsBounded start r × IsUnopened start r input text × (r.failures ≡ start.failures) = (all.input, all.read, all.bounded, (first ∷ all.rest, all.complete, (first, all.rest, catalogue, refl, e), is), C.failures) in
    subst (λ (t : Told). (input : List ℕ) × Tells start t input × IsBounded start t × IsUnopened start t input text × (t.failures ≡ start.failures)) (sym still) here

-- what is done behind a catalogue, as a run so far
pub behind : (start r r' : Told) (p p' : Unread) (first : List ℕ) (catalogue : List JobTree) (w w' : Held) (waited waits : List ℕ) (result : Result Unit EngineFault) → Cutting start r p (first ∷ []) → catalogue_at first ≡ Ok catalogue
    → Runs catalogue r r' p p' w waited w' waits result → RunsSoFar start r' w waited w' waits result
behind start r r' p p' first catalogue w w' waited waits (Ok done) C e R = whole R.due
  where
    whole : IsDueBehind catalogue r r' p p' R.text (Ok done) → RunsSoFar start r' w waited w' waits (Ok done)
    whole (inl (lines, made, read, T)) =
        let all = read_all start r r' p p' (first ∷ []) lines C read in
        record {
          input = all.input;
          text = R.text;
          read = all.read;
          due = (inl (all.ended, (made, subst (λ ls. LinesRun ls made made R.text) (sym all.all) (catalogue, e, T))), all.failures);
          put = R.put;
          bounded = all.bounded;
        }
    whole (inr unopened) =
        let all = unopened_so_far start r r' p p' first catalogue R.text C e unopened in
        record { input = all.0; text = R.text; read = all.1; due = (inr all.3, all.4); put = R.put; bounded = all.2 }
behind start r r' p p' first catalogue w w' waited waits (Err (Catalogue told)) C e R = absurd R.due
behind start r r' p p' first catalogue w w' waited waits (Err Read) C e R = failed R.due
  where
    failed : IsDueBehind catalogue r r' p p' R.text (Err Read) → RunsSoFar start r' w waited w' waits (Err Read)
    failed (lines, (mid, left, read, call), A) =
        let D = read_done start r mid p left (first ∷ []) lines C read in
        let cut = cut_fault start mid r' left p' (first ∷ lines) D call in
        record {
          input = D.input ++ call.more;
          text = R.text;
          read = cut.0;
          due = (subst (λ ls. LinesReplied ls R.text) (sym cut.1) (catalogue, e, A), cut.2, cut.3);
          put = R.put;
          bounded = next_bounded start mid r' left p' (first ∷ lines) (Err line_faults.Read) D call;
        }
behind start r r' p p' first catalogue w w' waited waits (Err Write) C e R = front R.due
  where
    front : IsDueBehind catalogue r r' p p' R.text (Err Write) → RunsSoFar start r' w waited w' waits (Err Write)
    front (inl part) =
        let all = part_so_far start r r' p p' first catalogue R.text C e part in
        record { input = all.0; text = R.text; read = all.1; due = inl all.3; put = R.put; bounded = all.2 }
    front (inr unopened) =
        let all = unopened_so_far start r r' p p' first catalogue R.text C e unopened in
        record { input = all.0; text = R.text; read = all.1; due = inr (inl all.3); put = R.put; bounded = all.2 }
behind start r r' p p' first catalogue w w' waited waits (Err OutOfMemory) C e R =
    let all = part_so_far start r r' p p' first catalogue R.text C e R.due in
    record { input = all.0; text = R.text; read = all.1; due = all.3; put = R.put; bounded = all.2 }

-- ---- The first line

-- the first line was read
pub opened : (start r r' : Told) (p p' q : Unread) (shown : Option Line) (catalogue : List JobTree) (w w' : Held) (waited waits : List ℕ) (result : Result Unit EngineFault) → p ≡ nothing_read → LineRead start r p q (Ok shown)
    → ((line : List ℕ) → ShowsFirst shown line → catalogue_at line ≡ Ok catalogue) → Runs catalogue r r' q p' w waited w' waits result → RunsSoFar start r' w waited w' waits result
opened start r r' p p' q shown catalogue w w' waited waits result none call given R =
    let t = subst (λ (u : Unread). LineRead start r u q (Ok shown)) none call in
    let cut = cut_first start r q shown t in
    behind start r r' q p' cut.0 catalogue w w' waited waits result cut.2.0 (given cut.0 cut.1) R

-- nothing was read, or no whole line
nothing_so_far : (start next : Told) (w w' : Held) (waited waits input : List ℕ) → Tells start next input → IsBounded start next → Grows w waited w' waits [] → RunsSoFar start next w waited w' waits (Err OutOfMemory)
nothing_so_far start next w w' waited waits input read bounded put = record {
  input = input;
  text = [];
  read = read;
  due = inl ([], whole_lines input, inl refl, refl);
  put = put;
  bounded = bounded;
}

-- memory was refused before the first line was asked for
pub nothing_asked : (start : Told) (w : Held) (waited : List ℕ) → RunsSoFar start start w waited w waited (Err OutOfMemory)
nothing_asked start w waited = nothing_so_far start start w w waited waited [] (tells_nothing start) (omega arith, omega arith) (put_nothing w waited)

no_first_of : (start next : Told) (q : Unread) (fault : LineFault) (w : Held) (waited : List ℕ) → (call : LineRead start next nothing_read q (Err fault)) → (fault ≡ line_faults.Write → ⊥) → RunsSoFar start next w waited w waited (Err (engine_fault fault))
no_first_of start next q line_faults.Read w waited call other =
    let fault = first_fault start next q call in
    record {
      input = call.more;
      text = [];
      read = call.told;
      due = (subst (λ ls. LinesReplied ls []) (sym fault.0) refl, fault.1, fault.2);
      put = put_nothing w waited;
      bounded = first_bounded start next q (Err line_faults.Read) call;
    }
no_first_of start next q line_faults.Write w waited call other = absurd (other refl)
no_first_of start next q line_faults.OutOfMemory w waited call other =
    nothing_so_far start next w w waited waited call.more call.told (first_bounded start next q (Err line_faults.OutOfMemory) call) (put_nothing w waited)

-- there is no first line
pub no_first : (start next : Told) (p q : Unread) (fault : LineFault) (w : Held) (waited : List ℕ) → p ≡ nothing_read → LineRead start next p q (Err fault) → (fault ≡ line_faults.Write → ⊥) → RunsSoFar start next w waited w waited (Err (engine_fault fault))
no_first start next p q fault w waited none call other = no_first_of start next q fault w waited (subst (λ (u : Unread). LineRead start next u q (Err fault)) none call) other

-- the first line is no catalogue
faulty_by : (start r : Told) (q : Unread) (first : List ℕ) (fault : ReadFault) (w w' : Held) (waited waits : List ℕ) (e : EngineFault) → Cutting start r q (first ∷ []) → (is_out_of_memory fault ≡ false → catalogue_at first ≡ Err fault)
    → TellsFault fault w waited w' waits e → RunsSoFar start r w waited w' waits (Err e)
faulty_by start r q first fault w w' waited waits (Catalogue told) C given T =
    let all = so_far start r q (first ∷ []) C in
    let here : catalogue_at first ≡ Err told = given T.1 ∙ ap Err (sym T.0) in
    record {
      input = all.input;
      text = fault_text fault;
      read = all.read;
      due = (first ∷ all.rest, all.complete, (first, all.rest, refl, here), ap fault_text (sym T.0));
      put = put_behind w w' waited waits (fault_text fault) T.2 T.3 T.4;
      bounded = all.bounded;
    }
faulty_by start r q first fault w w' waited waits Read C given T = absurd T
faulty_by start r q first fault w w' waited waits Write C given T =
    let all = so_far start r q (first ∷ []) C in
    record {
      input = all.input;
      text = fault_text fault;
      read = all.read;
      due = inr (inr (fault, (first ∷ all.rest, all.complete, (first, all.rest, refl, given T.0), refl)));
      put = broken w w' waited (fault_text fault) T.1 T.2;
      bounded = all.bounded;
    }
faulty_by start r q first fault w w' waited waits OutOfMemory C given T =
    let all = so_far start r q (first ∷ []) C in
    record {
      input = all.input;
      text = [];
      read = all.read;
      due = inl ([], first ∷ all.rest, all.complete, refl);
      put = unchanged w w' waited waits T.0 T.1;
      bounded = all.bounded;
    }

pub faulty : (start r : Told) (p q : Unread) (shown : Option Line) (fault : ReadFault) (w w' : Held) (waited waits : List ℕ) (e : EngineFault) → p ≡ nothing_read → LineRead start r p q (Ok shown)
    → (is_out_of_memory fault ≡ false → (line : List ℕ) → ShowsFirst shown line → catalogue_at line ≡ Err fault) → TellsFault fault w waited w' waits e → RunsSoFar start r w waited w' waits (Err e)
faulty start r p q shown fault w w' waited waits e none call given T =
    let t = subst (λ (u : Unread). LineRead start r u q (Ok shown)) none call in
    let cut = cut_first start r q shown t in
    faulty_by start r q cut.0 fault w w' waited waits e cut.2.0 (λ known. given known cut.0 cut.1) T

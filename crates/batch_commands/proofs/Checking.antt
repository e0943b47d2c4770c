-- The first line of a check.
use Rattle.std.proofs.Common.{◌≡◌, inl, inr, ℕ, List, Option, Result, Ok, Err, refl, sym, subst}
use Rattle.script_lines.specs.Device.{Told, Held}
use Rattle.script_lines.specs.Lines.{LineRead, ShowsFirst}
use Rattle.script_lines.specs.Unread.{Unread, nothing_read}
use Rattle.script_lines.specs.declared.line.Line.{Line}
use Rattle.script_lines.specs.declared.line_fault.LineFault.{LineFault}
use Rattle.script_lines.specs.declared.line_fault.LineFault.TheVariants as line_faults
use Rattle.script_lines.proofs.Cutting.{cut_first}
use Rattle.script_engine.specs.declared.fault.EngineFault.{EngineFault}
use Rattle.script_engine.specs.declared.fault.EngineFault.TheVariants.{Catalogue, Read, Write, OutOfMemory}
use Rattle.script_engine.specs.Faults.{engine_fault}
use Rattle.batch_commands.specs.Checks.{HasChecked, TellsVerdict, checked_outcome, ended}
use Rattle.batch_commands.specs.Logging.{PutsLine}
use Rattle.catalogue_checks.specs.Verdicts.{IsVerdict}
use Rattle.jsl_json.specs.declared.fault.ReadFault.{ReadFault}

-- there is no first line
unread_of : (r r' : Told) (q : Unread) (fault : LineFault) (w : Held) → LineRead r r' nothing_read q (Err fault) → (fault ≡ line_faults.Write → ⊥) → HasChecked r r' w w (Err (engine_fault fault))
unread_of r r' q line_faults.Read w call other = inr (inl (q, call, refl, refl))
unread_of r r' q line_faults.Write w call other = absurd (other refl)
unread_of r r' q line_faults.OutOfMemory w call other = inr (inr (refl, refl))

pub unread : (r r' : Told) (p q : Unread) (fault : LineFault) (w : Held) → p ≡ nothing_read → LineRead r r' p q (Err fault) → (fault ≡ line_faults.Write → ⊥) → HasChecked r r' w w (Err (engine_fault fault))
unread r r' p q fault w none call other = unread_of r r' q fault w (subst (λ (u : Unread). LineRead r r' u q (Err fault)) none call) other

-- the first line is checked
pub checked : (r r' : Told) (p q : Unread) (first : Option Line) (w w' : Held) (result : Result Unit EngineFault) → p ≡ nothing_read → LineRead r r' p q (Ok first)
    → ((line : List ℕ) → ShowsFirst first line → TellsVerdict line w w' result) → HasChecked r r' w w' result
checked r r' p q first w w' result none call told =
    let t = subst (λ (u : Unread). LineRead r r' u q (Ok first)) none call in
    let cut = cut_first r r' q first t in
    inl (record { left = q; first = first; line = cut.0; read = t; shown = cut.1; told = told cut.0 cut.1 })

-- memory was refused before the first line was asked for
pub not_asked : (r : Told) (w : Held) → HasChecked r r w w (Err OutOfMemory)
not_asked r w = inr (inr (refl, refl))

-- ---- the line about the catalogue

told_all : (line : List ℕ) (w w' : Held) (text : List ℕ) (outcome : Result Unit ReadFault) (result : Result Unit EngineFault) → result ≡ checked_outcome outcome → IsVerdict line text outcome → PutsLine w w' text (Ok tt)
    → TellsVerdict line w w' result
told_all line w w' text (Ok done) result is verdict puts = subst (TellsVerdict line w w') (sym is) (text, verdict, puts.0, puts.1)
told_all line w w' text (Err fault) result is verdict puts = subst (TellsVerdict line w w') (sym is) (text, verdict, puts.0, puts.1)

told_fault : (line : List ℕ) (w w' : Held) (text : List ℕ) (fault : EngineFault) → PutsLine w w' text (Err fault) → TellsVerdict line w w' (Err fault)
told_fault line w w' text (Catalogue fault) puts = absurd puts
told_fault line w w' text Read puts = absurd puts
told_fault line w w' text Write puts = puts
told_fault line w w' text OutOfMemory puts = tt

pub told : (line : List ℕ) (w w' : Held) (text : List ℕ) (outcome : Result Unit ReadFault) (puts : Result Unit EngineFault) (result : Result Unit EngineFault) → result ≡ ended puts outcome → IsVerdict line text outcome → PutsLine w w' text puts
    → TellsVerdict line w w' result
told line w w' text outcome (Ok done) result is verdict puts = told_all line w w' text outcome result is verdict puts
told line w w' text outcome (Err fault) result is verdict puts = subst (TellsVerdict line w w') (sym is) (told_fault line w w' text fault puts)

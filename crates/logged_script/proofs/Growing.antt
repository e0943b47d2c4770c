-- A catalogue that grows.
use Rattle.std.proofs.Common.{◌≡◌, ◌∙◌, ℕ, ◌≤◌, ◌^◌, Bool, true, false, cond, List, [], ◌∷◌, length, Ok, Err, inr, refl, sym, ap, arith, ltb-false, ltb-true}
use Rattle.std.specs.Prelude.{nat_lt, ◌+◌, ◌++◌}
use Rattle.std.proofs.lemmas.Bool.{false≢true}
use Rattle.std.proofs.lemmas.List.{append-nil, length-append}
use Rattle.catalogue_growth.specs.Growth.{IsGrown}
use Rattle.durable_log.specs.Format.{LogRecord}
use Rattle.script_log.specs.Catalogues.{BeginsWithCatalogue, HasNoCatalogue}
use Rattle.script_log.specs.Runs.{last_catalogue}
use Rattle.logged_script.specs.Faults.{HasGrown, IsCatalogueFault}
use Rattle.logged_script.specs.Openings.{fault_of_catalogue}
use Rattle.jsl_model.specs.Jobs.{JobTree}
use Rattle.jsl_json.specs.declared.fault.ReadFault.{ReadFault}
use Rattle.jsl_json.specs.declared.fault.ReadFault.TheVariants.{NotJson, NotACatalogue, BadElement, InJob, OutOfMemory}
use Rattle.jsl_json.specs.Catalogues.{catalogue_of, is_out_of_memory}
use Rattle.script_lines.specs.declared.line.TheConstants.{MAX_LINE}
use Rattle.script_engine.specs.Script.{catalogue_at}

short_by : (line : List ℕ) (catalogue : List JobTree) (long : Bool) → nat_lt MAX_LINE (length line) ≡ long
    → cond long (Err NotACatalogue) (catalogue_of line) ≡ Ok catalogue → length line ≤ MAX_LINE
short_by line catalogue true e is = absurd (cc is)
short_by line catalogue false e is = ltb-false MAX_LINE (length line) e

-- the line of a catalogue is short
pub catalogue_is_short : (line : List ℕ) (catalogue : List JobTree) → catalogue_at line ≡ Ok catalogue → length line ≤ 2 ^ 24
catalogue_is_short line catalogue is =
    let short : length line ≤ 16777216 = short_by line catalogue (nat_lt MAX_LINE (length line)) refl is in
    omega (arith, short)

grown_by : (kept more given : List JobTree) (b : Bool) → given ≡ kept ++ more → nat_lt (length kept) (length given) ≡ b → HasGrown kept given b
grown_by kept more given true is e = ((more, is), ltb-true (length kept) (length given) e)
grown_by kept [] given false is e = is ∙ append-nil kept
grown_by kept (job ∷ more) given false is e =
    let size : length given ≡ length kept + length (job ∷ more) = ap length is ∙ length-append kept (job ∷ more) in
    let least = ltb-false (length kept) (length given) e in
    absurd (omega (arith, size, least))

-- a catalogue that begins with all jobs of another one has more if it has more of them
pub grown-if : (kept given : List JobTree) → IsGrown kept given → HasGrown kept given (nat_lt (length kept) (length given))
grown-if kept given (more, is) = grown_by kept more given (nat_lt (length kept) (length given)) is refl

-- records without a catalogue do not begin with one
pub none-begins : (records : List LogRecord) → HasNoCatalogue records → BeginsWithCatalogue records → ⊥
none-begins [] none begins = begins
none-begins (r ∷ records) none begins = absurd (false≢true (sym none.0 ∙ begins))

-- the last catalogue can't be read
pub unread_catalogue : (records : List LogRecord) (text : List ℕ) (fault : ReadFault) → last_catalogue [] records ≡ text
    → (is_out_of_memory fault ≡ false → catalogue_at text ≡ Err fault) → IsCatalogueFault records (fault_of_catalogue fault)
unread_catalogue records text NotJson is read = inr (NotJson, ap catalogue_at is ∙ read refl)
unread_catalogue records text NotACatalogue is read = inr (NotACatalogue, ap catalogue_at is ∙ read refl)
unread_catalogue records text (BadElement job element) is read = inr (BadElement job element, ap catalogue_at is ∙ read refl)
unread_catalogue records text (InJob job fault) is read = inr (InJob job fault, ap catalogue_at is ∙ read refl)
unread_catalogue records text OutOfMemory is read = tt

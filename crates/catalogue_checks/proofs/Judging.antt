-- The verdict on a line.
use Rattle.std.proofs.Common.{◌≡◌, ◌∙◌, inl, inr, ℕ, ◌<◌, ◌≤◌, List, length, nat_lt, Bool, true, false, cond, is_some, Option, Some, None, Result, Ok, Err, refl, sym, ap, subst, lt-ltb, arith}
use Rattle.std.specs.Str.{IsUtf8}
use Rattle.std.proofs.lemmas.Bool.Decides.{nat_tests}
use Rattle.serde_json.specs.Data.{Data}
use Rattle.serde_json.specs.Read.{read}
use Rattle.json_members.specs.Members.{data_of}
use Rattle.json_members.proofs.ByteLemmas.{data_of-of_none}
use Rattle.jsl_model.specs.Jobs.{JobTree}
use Rattle.jsl_json.specs.declared.fault.ReadFault.{ReadFault}
use Rattle.jsl_json.specs.declared.fault.ReadFault.TheVariants.{NotJson, NotACatalogue}
use Rattle.jsl_json.specs.Catalogues.{or_fault, catalogue_in, catalogue_of}
use Rattle.jsl_json.specs.Elements.{◌>>=◌}
use Rattle.script_lines.specs.declared.line.TheConstants.{MAX_LINE}
use Rattle.script_engine.specs.Script.{catalogue_at}
use Rattle.fault_places.specs.declared.place.Place.{Place}
use Rattle.fault_places.specs.Sites.{site_in, has_place}
use Rattle.fault_places.specs.PlacesOfFaults.{IsPlaceOf}
use Rattle.catalogue_checks.specs.declared.verdict.Checked.{Checked}
use Rattle.catalogue_checks.specs.Verdicts.{HasPlace, IsPlaceIn, IsVerdict, good_text, faulty_text}

-- ---- a line below the bound, and one above it

not_above : (n m : ℕ) → n ≤ m → nat_lt m n ≡ false
not_above n m h = grind (arith, nat_tests)

short : (line : List ℕ) → length line ≤ MAX_LINE → catalogue_at line ≡ catalogue_of line
short line h = ap (λ b. cond b (Err NotACatalogue) (catalogue_of line)) (not_above (length line) MAX_LINE h)

long : (line : List ℕ) → MAX_LINE < length line → catalogue_at line ≡ Err NotACatalogue
long line h = ap (λ b. cond b (Err NotACatalogue) (catalogue_of line)) (lt-ltb MAX_LINE (length line) h)

-- ---- the place

-- a line that is no text is no JSON
pub no_text : (line : List ℕ) (fault : ReadFault) → (IsUtf8 line → ⊥) → catalogue_of line ≡ Err fault → fault ≡ NotJson
unfolding catalogue_of
no_text line fault none h =
    let same : (or_fault (data_of line) NotJson >>= catalogue_in) ≡ Err NotJson = ap (λ (o : Option Data). or_fault o NotJson >>= catalogue_in) (data_of-of_none line (λ utf8. absurd (none utf8))) in
    let both : Err NotJson ≡ Err fault = sym same ∙ h in
    cc

pub no_place : (line : List ℕ) (fault : ReadFault) → fault ≡ NotJson → HasPlace line fault None
no_place line fault is = subst (λ f. HasPlace line f None) (sym is) (record { site = λ d found. refl; known = refl })

pub placed : (line text : List ℕ) (fault : ReadFault) (place : Option Place) → text ≡ line → catalogue_of line ≡ Err fault
    → ((d : Data) → read text ≡ Some d → IsPlaceOf text d (site_in fault d) place) → (catalogue_of text ≡ Err fault → is_some place ≡ has_place fault) → HasPlace line fault place
placed line text fault place same fails site known =
    subst (λ l. HasPlace l fault place) same (record { site = site; known = known (ap catalogue_of same ∙ fails) })

-- ---- the verdict

pub is_good : (line : List ℕ) (catalogue : List JobTree) (checked : Checked) → length line ≤ MAX_LINE → catalogue_of line ≡ Ok catalogue → checked.text.items ≡ good_text (length catalogue) → checked.outcome ≡ Ok tt
    → IsVerdict line checked.text.items checked.outcome
is_good line catalogue checked below read text good = subst (IsVerdict line checked.text.items) (sym good) (catalogue, short line below ∙ read, text)

pub is_faulty : (line : List ℕ) (fault : ReadFault) (place : Option Place) (checked : Checked) → length line ≤ MAX_LINE → catalogue_of line ≡ Err fault → HasPlace line fault place
    → checked.text.items ≡ faulty_text fault place → checked.outcome ≡ Err fault → IsVerdict line checked.text.items checked.outcome
is_faulty line fault place checked below fails has text bad =
    subst (IsVerdict line checked.text.items) (sym bad) (place, short line below ∙ fails, inr (below, has), text)

pub is_too_long : (line : List ℕ) (checked : Checked) → MAX_LINE < length line → checked.text.items ≡ faulty_text NotACatalogue None → checked.outcome ≡ Err NotACatalogue
    → IsVerdict line checked.text.items checked.outcome
is_too_long line checked above text bad =
    subst (IsVerdict line checked.text.items) (sym bad) (None, long line above, inl (above, refl), text)

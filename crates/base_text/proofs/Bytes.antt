-- The line of bytes, by the text that they are.
use Rattle.std.proofs.Common.{◌≡◌, ℕ, List, Option, None, Result, Ok, Err, IfErr, sym, ap, ◌∙◌, refl}
use Rattle.std.specs.Str.{IsUtf8}
use Rattle.std.proofs.lemmas.Str.{is_utf8-from_IsUtf8}
use Rattle.serde_json.specs.Read.{read}
use Rattle.json_members.specs.Members.{data_of}
use Rattle.json_members.proofs.ByteLemmas.{data_of-of_none}
use Rattle.base_text.specs.Lines.{line_in_read, base_line_of}
use Rattle.base_text.specs.declared.fault.BaseLineFault.{BaseLineFault}
use Rattle.base_text.specs.declared.fault.BaseLineFault.TheVariants.{NotABaseLine}

text-data : (line : List ℕ) → IsUtf8 line → read line ≡ data_of line
unfolding data_of
text-data line utf8 = rw (is_utf8-from_IsUtf8 line utf8) refl

-- bytes that are a text are the text's line
pub of-text : (line text : List ℕ) → text ≡ line → IsUtf8 line → line_in_read (read text) ≡ base_line_of line
unfolding base_line_of
of-text line text same utf8 = ap (λ bytes. line_in_read (read bytes)) same ∙ ap line_in_read (text-data line utf8)

-- bytes that are no text are no line
pub of-bytes : (line : List ℕ) → (IsUtf8 line → ⊥) → base_line_of line ≡ None
unfolding base_line_of
of-bytes line no_text = ap line_in_read (data_of-of_none line (λ text. absurd (no_text text)))

-- a fault of a text that is these bytes
pub faulty : {A : Type 0} (r : Result A BaseLineFault) (text line : Option A) → text ≡ line → (r ≡ Err NotABaseLine → text ≡ None)
    → IfErr r (λ fault. fault ≡ NotABaseLine → line ≡ None)
faulty (Ok x) text line same wrong = tt
faulty (Err fault) text line same wrong = λ is. sym same ∙ wrong (ap Err is)

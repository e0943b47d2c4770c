use Rattle.std.proofs.Common.{◌≡◌, ◌↔◌, ◌∷◌, [], IsTrue, map, ℕ, ◌<◌, ◌≤◌, length, get_or, Bool, List, Bor, codes, ap, sym, ◌∙◌, arith}
use Rattle.std.specs.Str.{bytes_eq}
use Rattle.std.proofs.lemmas.Slice.Eq.{bytes_eq-Decides}
use Rattle.batch_commands.proofs.command_line.is_script.Goals as goal

-- one word is this text exactly where the list of words has just this text
only_word : (words : List (Bor (List ℕ))) (d : Bor (List ℕ)) (text : List ℕ) (b : Bool) → 1 ≤ length words → length words < 2
    → b ≡ bytes_eq (get_or words 0 d).now text → (IsTrue b ↔ (map (λ (w : Bor (List ℕ)). w.now) words ≡ text ∷ []))
only_word [] d text b some few e = absurd (omega arith)
only_word (w ∷ []) d text b some few e = (
  (λ t. ap (λ bytes. bytes ∷ []) ((bytes_eq-Decides w.now text).0 (sym e ∙ t))),
  (λ m. let same : w.now ≡ text = cc in e ∙ (bytes_eq-Decides w.now text).1 same),
)
only_word (w ∷ x ∷ rest) d text b some few e = absurd (omega arith)

pub returns-in-len1 : goal.returns-in-len1
returns-in-len1 c = only_word c.args.words.now _ (codes "script") c.eq.result c.in-len1.len_at_least c.in-len1.len_below c.eq.ensures

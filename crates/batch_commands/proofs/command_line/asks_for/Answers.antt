use Rattle.std.proofs.Common.{◌≡◌, ◌∙◌, ◌∷◌, [], map, ℕ, ◌<◌, ◌≤◌, length, get_or, List, Bor, codes, sym, arith}
use Rattle.std.proofs.lemmas.Slice.Eq.{bytes_eq-Decides}
use Rattle.batch_commands.specs.Asked.{IsNumberText, AsksFor}
use Rattle.batch_commands.proofs.command_line.asks_for.Goals as goal

-- two words, the option and the text of the number
two_words : (words : List (Bor (List ℕ))) (d d' : Bor (List ℕ)) (workers : ℕ) → 2 ≤ length words → length words < 3
    → (get_or words 0 d).now ≡ codes "--workers" → IsNumberText (get_or words 1 d').now workers → AsksFor workers (map (λ (w : Bor (List ℕ)). w.now) words)
two_words [] d d' workers some few option number = absurd (omega arith)
two_words (w ∷ []) d d' workers some few option number = absurd (omega arith)
two_words (w ∷ x ∷ []) d d' workers some few option number = (option, number)
two_words (w ∷ x ∷ y ∷ rest) d d' workers some few option number = absurd (omega arith)

pub returns-then-eq : goal.returns-then-eq
returns-then-eq c = λ t. two_words c.args.words.now _ _ c.args.workers c.in-len2.len_at_least c.in-len2.len_below ((bytes_eq-Decides _ (codes "--workers")).0 (sym c.eq.ensures ∙ c.if-eq.true)) (c.writes.ensures t)

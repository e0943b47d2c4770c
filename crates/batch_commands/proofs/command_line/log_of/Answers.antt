use Rattle.std.proofs.Common.{◌≡◌, ◌∙◌, ◌∷◌, [], map, inr, ℕ, Option, Some, None, IfSome, ◌<◌, ◌≤◌, length, get_or, List, Bor, codes, sym, ap₂, subst, arith}
use Rattle.std.proofs.lemmas.Slice.Eq.{bytes_eq-Decides}
use Rattle.batch_commands.specs.Asked.{IsLogName, NamesLog}
use Rattle.batch_commands.proofs.command_line.log_of.Goals as goal

some_weaker : {T : Type 0} (o : Option T) (P Q : T → Type 0) → ((x : T) → P x → Q x) → IfSome o P → IfSome o Q
some_weaker None P Q f h = h
some_weaker (Some x) P Q f h = f x h

-- two words, the option and the name of a log
two_words : (words : List (Bor (List ℕ))) (d d' : Bor (List ℕ)) (log : List ℕ) → 2 ≤ length words → length words < 3
    → (get_or words 0 d).now ≡ codes "--log" → log ≡ (get_or words 1 d').now → IsLogName (get_or words 1 d').now → IsLogName log × NamesLog log (map (λ (w : Bor (List ℕ)). w.now) words)
two_words [] d d' log some few option is named = absurd (omega (arith, some))
two_words (w ∷ []) d d' log some few option is named = absurd (omega (arith, some))
two_words (w ∷ x ∷ []) d d' log some few option is named = (subst IsLogName (sym is) named, inr (ap₂ (λ (a b : List ℕ). a ∷ b ∷ []) option (sym is)))
two_words (w ∷ x ∷ y ∷ rest) d d' log some few option is named = absurd (omega (arith, few))

pub returns-in-len2 : goal.returns-in-len2
returns-in-len2 c = some_weaker c.log_named-in-len2.result _ _ (λ log both. two_words c.args.words.now _ _ log.now c.in-len2.len_at_least c.in-len2.len_below ((bytes_eq-Decides _ (codes "--log")).0 (sym c.eq.ensures ∙ c.if-eq.true)) both.0 both.1) c.log_named-in-len2.ensures

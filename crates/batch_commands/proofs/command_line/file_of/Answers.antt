use Rattle.std.proofs.Common.{◌≡◌, ◌∷◌, [], map, ℕ, Option, Some, None, IfSome, ◌<◌, ◌≤◌, length, get_or, List, Bor, subst, arith}
use Rattle.batch_commands.specs.Asked.{NamesFile}
use Rattle.batch_commands.proofs.command_line.file_of.Goals as goal

-- what one word names is what the list of the word names
one_word : (words : List (Bor (List ℕ))) (d : Bor (List ℕ)) (o : Option (Option (Bor (List ℕ)))) → 1 ≤ length words → length words < 2
    → IfSome o (λ file. NamesFile file ((get_or words 0 d).now ∷ [])) → IfSome o (λ file. NamesFile file (map (λ (w : Bor (List ℕ)). w.now) words))
one_word [] d o some few h = absurd (omega arith)
one_word (w ∷ []) d o some few h = h
one_word (w ∷ x ∷ rest) d o some few h = absurd (omega arith)

pub returns-in-len1 : goal.returns-in-len1
returns-in-len1 c = one_word c.args.words.now _ c.file_named.result c.in-len1.len_at_least c.in-len1.len_below c.file_named.ensures

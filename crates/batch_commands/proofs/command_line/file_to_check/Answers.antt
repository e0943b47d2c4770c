use Rattle.std.proofs.Common.{◌≡◌, ◌∙◌, ◌∷◌, List, ℕ, Bor, Option, Some, None, IfSome, codes, ap}
use Rattle.batch_commands.specs.Asked.{NamesFile, AsksForFile}
use Rattle.batch_commands.proofs.command_line.file_to_check.Goals as goal

-- the file that is named behind the command
file_asked : (o : Option (Bor (List ℕ))) (words rest : List (List ℕ)) → words ≡ codes "check" ∷ rest → NamesFile o rest → IfSome o (λ file. AsksForFile file.now words)
file_asked None words rest is names = tt
file_asked (Some file) words rest is (named, by) = (named, is ∙ ap (λ (ws : List (List ℕ)). codes "check" ∷ ws) by)

pub returns : goal.returns
returns c = file_asked c.in_ok-named.named _ _ c.in_ok-rest.ensures c.in_ok-named.ensures

use Rattle.std.proofs.Common.{rules, ◌==◌, ◌∷◌, not, ℕ, List, ◌∙◌, ap}
use Rattle.std.proofs.lemmas.Fn.{filter_same}
use Rattle.restart_rules.proofs.partitions.move_to_front.Goals as goal

pub returns : goal.returns
returns c =
    c.in_ok-insert.ensures.items
    ∙ ap (λ (l : List ℕ). c.args.x ∷ l) (filter_same _ (λ y. not (y == c.args.x)) _ (λ x b f k. search rules) _ _ c.retain.ensures.filtered)

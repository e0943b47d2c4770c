use Rattle.std.proofs.Common.{◌≡◌, ◌∙◌, ℕ, suc, List, [], ◌∷◌, length, ◌==◌, Bool, false, Bor, Option, Some, option_map, sym, ap, arith}
use Rattle.std.proofs.lemmas.Bool.Decides.{nat_tests}
use Rattle.serde_json.specs.View.{items_view}
use Rattle.serde_json.specs.declared.value.Value.{Value}
use Rattle.rule_spots.specs.Hits.{is_empty_list}
use Rattle.rule_spots.proofs.hits.is_empty_list.Goals as goal

not_zero : (n : ℕ) → (suc n == 0) ≡ false
not_zero n = grind (arith, nat_tests)

no_value : (vs : List Value) (b : Bool) → b ≡ (length vs == 0) → b ≡ is_empty_list (Some (items_view vs))
no_value [] b e = e
no_value (v ∷ vs) b e = e ∙ not_zero (length vs)

pub returns-in-Some : goal.returns-in-Some
returns-in-Some c =
    no_value c.in-Some.list.now c.is_empty.result c.is_empty.ensures
    ∙ sym (ap (λ (o : Option (Bor (List Value))). is_empty_list (option_map (λ items. items_view items.now) o)) c.in-Some.is)

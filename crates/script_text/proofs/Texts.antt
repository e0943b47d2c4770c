-- The values of a map against the members that it stands for.
use Rattle.std.proofs.Common.{◌≡◌, List, [], ◌∷◌, map, String, Global, refl, ap}
use Rattle.serde_json.specs.Data.{item}
use Rattle.serde_json.specs.View.{view, items_of, members_view}
use Rattle.serde_json.specs.declared.value.Value.{Value}
use Rattle.script_text.specs.Runs.{values_of}

-- the values of members, one after another
pub values_by_view : (entries : List (String Global × Value)) → values_of (members_view entries) ≡ items_of (map view (map (λ entry. entry.1) entries))
values_by_view [] = refl
values_by_view (e ∷ es) = ap (item (view e.1)) (values_by_view es)

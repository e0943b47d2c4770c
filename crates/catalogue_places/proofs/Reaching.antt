-- Paths that are put together from the innermost step on.
use Rattle.std.proofs.Common.{◌≡◌, ℕ, ◌<◌, List, [], ◌∷◌, ◌++◌, length, get_or, reverse, String, Global, string_bytes, Option, Some, None, option_and_then, refl, sym, ap, ◌∙◌}
use Rattle.std.proofs.lemmas.List.{reverse-append}
use Rattle.std.proofs.lemmas.Option.{same_Some}
use Rattle.serde_json.specs.Data.{Data, null, boolean, number, string, array, object, Items}
use Rattle.serde_json.specs.Find.{get, get_item, as_array}
use Rattle.serde_json.specs.View.{view, items_view}
use Rattle.serde_json.specs.declared.value.Value.{Value}
use Rattle.serde_json.proofs.Views.{get_item_within}
use Rattle.json_members.specs.Members.{list_at}
use Rattle.json_places.specs.declared.path.Step.{Step}
use Rattle.json_places.specs.declared.path.Step.TheVariants.{Item, Member}
use Rattle.catalogue_places.specs.declared.flaws.Spot.{Spot}
use Rattle.catalogue_places.specs.Paths.{data_at, IsFlawed, Reaches}

-- by an item
pub at_index : (vs : List Value) (i : ℕ) (v : Value) (ss : List Step) (spot : Spot) → i < length vs → v ≡ get_or vs i v → Reaches ss (view v) spot → Reaches (Item i ∷ ss) (array (items_view vs)) spot
at_index vs i v ss spot h is r =
    let found : get_item i (items_view vs) ≡ Some (view v) = sym (get_item_within vs i v h) ∙ ap (λ (x : Value). Some (view x)) (sym is) in
    (r.0, ap (option_and_then (data_at ss)) found ∙ r.1, r.2)

is_array : (e : Option Data) (ds : Items) → option_and_then as_array e ≡ Some ds → e ≡ Some (array ds)
is_array None ds h = cc
is_array (Some null) ds h = cc
is_array (Some (boolean b)) ds h = cc
is_array (Some (number x)) ds h = cc
is_array (Some (string s)) ds h = cc
is_array (Some (array es)) ds h = ap (λ (x : Items). Some (array x)) (same_Some es ds h)
is_array (Some (object ms)) ds h = cc

-- by a member that is a list
pub through : (name : String Global) (text : List ℕ) (d : Data) (ds : Items) (ss : List Step) (spot : Spot) → string_bytes name ≡ text → list_at text d ≡ Some ds → Reaches ss (array ds) spot → Reaches (Member name ∷ ss) d spot
through name text d ds ss spot named found r =
    (r.0, ap (λ n. option_and_then (data_at ss) (get n d)) named ∙ ap (option_and_then (data_at ss)) (is_array (get text d) ds found) ∙ r.1, r.2)

pub turned : (back all : List Step) (name : String Global) (i : ℕ) → all ≡ back ++ Member name ∷ Item i ∷ [] → reverse all ≡ Item i ∷ Member name ∷ reverse back
turned back all name i e = ap reverse e ∙ reverse-append back (Member name ∷ Item i ∷ [])

-- the value itself
pub itself : (d : Data) (spot : Spot) → IsFlawed d spot → Reaches [] d spot
itself d spot h = (d, refl, h)

-- The names of a map's keys, and those of the data that the map stands for.
use Rattle.std.proofs.Common.{◌≡◌, ◌∙◌, ℕ, List, [], ◌∷◌, map, String, Global, string_bytes, slice_get, option_map, refl, ap, sym}
use Rattle.std.proofs.lemmas.Option.{slice_get-map}
use Rattle.serde_json.specs.View.{members_view}
use Rattle.serde_json.specs.declared.value.Value.{Value}
use Rattle.catalogue_places.specs.Flaws.{names_in}

key_names : (es : List (String Global × Value)) → map string_bytes (map (λ e. e.0) es) ≡ names_in (members_view es)
key_names [] = refl
key_names (e ∷ es) = ap (λ ns. string_bytes e.0 ∷ ns) (key_names es)

pub nth_name_of : (es : List (String Global × Value)) (n : ℕ) → option_map string_bytes (slice_get (map (λ e. e.0) es) n) ≡ slice_get (names_in (members_view es)) n
nth_name_of es n = sym (slice_get-map string_bytes (map (λ e. e.0) es) n) ∙ ap (λ ns. slice_get ns n) (key_names es)

-- The first member of a map that is not listed, and that of the data that the map stands for.
use Rattle.std.proofs.Common.{◌≡◌, ◌∙◌, ℕ, suc, ◌+◌, List, [], ◌∷◌, length, map, ◌||◌, not, cond, nat_lt, bytes_eq, String, Global, string_bytes, Bor, Some, None, unwrap_or, refl, ap}
use Rattle.std.specs.List.{list_any, prefix_len, position}
use Rattle.serde_json.specs.View.{members_view}
use Rattle.serde_json.specs.declared.value.Value.{Value}
use Rattle.catalogue_places.specs.Flaws.{names_in, first_other}

-- whether a name is among the borrowed names
now-among : (name : List ℕ) (names : List (Bor (List ℕ))) → list_any (λ listed. bytes_eq name listed.now) names ≡ list_any (bytes_eq name) (map (λ n. n.now) names)
now-among name [] = refl
now-among name (n ∷ ns) = ap (λ rest. bytes_eq name n.now || rest) (now-among name ns)

same_prefix : (names : List (Bor (List ℕ))) (es : List (String Global × Value))
    → prefix_len (λ key. not (not (list_any (λ listed. bytes_eq (string_bytes key) listed.now) names))) (map (λ e. e.0) es)
    ≡ prefix_len (λ name. not (not (list_any (bytes_eq name) (map (λ n. n.now) names)))) (names_in (members_view es))
same_prefix names [] = refl
same_prefix names (e ∷ es) =
    ap (λ here. cond (not (not here)) (1 + prefix_len (λ key. not (not (list_any (λ listed. bytes_eq (string_bytes key) listed.now) names))) (map (λ x. x.0) es)) 0) (now-among (string_bytes e.0) names)
    ∙ ap (λ rest. cond (not (not (list_any (bytes_eq (string_bytes e.0)) (map (λ n. n.now) names)))) (1 + rest) 0) (same_prefix names es)

as_many : (es : List (String Global × Value)) → length (map (λ e. e.0) es) ≡ length (names_in (members_view es))
as_many [] = refl
as_many (e ∷ es) = ap suc (as_many es)

-- the first place below this length, or 0
abbrev place_below : ℕ → ℕ → ℕ
place_below n m = unwrap_or (cond (nat_lt n m) (Some n) None) 0

pub first_key : (names : List (Bor (List ℕ))) (es : List (String Global × Value))
    → unwrap_or (position (λ key. not (list_any (λ listed. bytes_eq (string_bytes key) listed.now) names)) (map (λ e. e.0) es)) 0 ≡ first_other (map (λ n. n.now) names) (members_view es)
first_key names es =
    ap (λ n. place_below n (length (map (λ e. e.0) es))) (same_prefix names es)
    ∙ ap (place_below (prefix_len (λ name. not (not (list_any (bytes_eq name) (map (λ n. n.now) names)))) (names_in (members_view es)))) (as_many es)

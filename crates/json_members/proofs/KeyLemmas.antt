-- The keys of a map against the names of the members that it stands for.
use Rattle.std.proofs.Common.{◌≡◌, ◌∙◌, ℕ, List, [], ◌∷◌, map, ◌&&◌, ◌||◌, Bool, bytes_eq, String, string_bytes, Bor, refl, ap}
use Rattle.std.specs.List.{list_any, list_all}
use Rattle.std.specs.declared.alloc.Global.{Global}
use Rattle.serde_json.specs.View.{members_view}
use Rattle.serde_json.specs.declared.value.Value.{Value}
use Rattle.json_members.specs.Members.{names_among}

-- whether one of the borrowed names is the key
abbrev pub is_among : List (Bor (List ℕ)) → String Global → Bool
is_among names key = list_any (λ listed. bytes_eq (string_bytes key) listed.now) names

is_among-now : (name : List ℕ) (names : List (Bor (List ℕ))) → list_any (λ listed. bytes_eq name listed.now) names ≡ list_any (bytes_eq name) (map (λ n. n.now) names)
is_among-now name [] = refl
is_among-now name (n ∷ ns) = ap (λ rest. bytes_eq name n.now || rest) (is_among-now name ns)

-- all keys are among the names exactly where the members' names are
pub keys_among : (names : List (Bor (List ℕ))) (entries : List (String Global × Value)) → list_all (is_among names) (map (λ e. e.0) entries) ≡ names_among (map (λ n. n.now) names) (members_view entries)
keys_among names [] = refl
keys_among names (e ∷ es) =
    ap (λ here. here && list_all (is_among names) (map (λ e. e.0) es)) (is_among-now (string_bytes e.0) names)
    ∙ ap (λ rest. list_any (bytes_eq (string_bytes e.0)) (map (λ n. n.now) names) && rest) (keys_among names es)

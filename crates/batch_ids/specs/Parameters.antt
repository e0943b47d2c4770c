-- The parameters of a job execution: pairs of a key and a value, in bytes.
use Rattle.std.specs.Prelude.{◌≡◌, ℕ, ◌≤◌, Bool, ◌||◌, nat_lt, Option, None, option_map, List, [], ◌∷◌, filter, find, length, map, String, string_bytes}
use Rattle.std.specs.List.{last_or, list_any}
use Rattle.std.specs.Ordering.{nat_cmp}
use Rattle.std.specs.Cmp.Lexicographic.{slice_cmp}
use Rattle.std.specs.declared.cmp.Ordering.{Ordering}
use Rattle.std.specs.declared.cmp.Ordering.TheVariants.{Less, Equal, Greater}
use Rattle.std.specs.declared.alloc.Global.{Global}
use Rattle.std.specs.Str.{bytes_eq}

-- a key, then its value
abbrev pub Pair : Type 0
Pair = List ℕ × List ℕ

-- how the key of one pair compares with that of another, by its bytes
abbrev pub key_cmp : Pair → Pair → Ordering
key_cmp one other = slice_cmp nat_cmp one.0 other.0

-- the pair's key is lower than that of the first of these
abbrev pub ComesBefore : Pair → List Pair → Type 0
ComesBefore pair [] = Unit {0}
ComesBefore pair (next ∷ _) = key_cmp pair next ≡ Less

-- the keys rise by their bytes, so that no key comes twice
abbrev pub IsRising : List Pair → Type 0
IsRising [] = Unit {0}
IsRising (first ∷ rest) = ComesBefore first rest × IsRising rest

-- a job execution can have these parameters: at most 64, by rising keys
pub record AreParameters (pairs : List Pair) : Type 0 where
  pub rising : IsRising pairs
  pub few : length pairs ≤ 64

-- one of three values, chosen by an ordering
abbrev pub by_order : {A : Type 0} → Ordering → A → A → A → A
by_order Less less equal greater = less
by_order Equal less equal greater = equal
by_order Greater less equal greater = greater

-- the pairs with a new one: after the lower keys, and in place of a pair with its key
abbrev pub with_pair : List Pair → Pair → List Pair
with_pair [] new = new ∷ []
with_pair (held ∷ rest) new = by_order (key_cmp held new) (held ∷ with_pair rest new) (new ∷ rest) (new ∷ held ∷ rest)

-- the pairs with all of these, one after another
abbrev pub with_all : List Pair → List Pair → List Pair
with_all held [] = held
with_all held (new ∷ rest) = with_all (with_pair held new) rest

-- the value that was given last with a key, if there is one
abbrev pub value_given_last : List Pair → List ℕ → Option (List ℕ)
value_given_last given key = option_map (λ pair. pair.1) (last_or None (filter (λ pair. bytes_eq pair.0 key) given))

-- the parameters for these pairs: if a key is given twice, its last value counts
abbrev pub parameters_of : List Pair → List Pair
parameters_of given = with_all [] given

-- the key has more than 256 bytes, or the value more than 4096
abbrev pub is_long : Pair → Bool
is_long pair = nat_lt 256 (length pair.0) || nat_lt 4096 (length pair.1)

-- some given key or value is too long, or there are more than 64 different keys
abbrev pub is_too_large : List Pair → Bool
is_too_large given = list_any is_long given || nat_lt 64 (length (parameters_of given))

-- the value of a key, if there is one
abbrev pub value_of : List Pair → List ℕ → Option (List ℕ)
value_of pairs key = option_map (λ pair. pair.1) (find (λ pair. bytes_eq pair.0 key) pairs)

-- the bytes of a given key and of its value
abbrev pub pair_of : String Global × String Global → Pair
pair_of given = (string_bytes given.0, string_bytes given.1)

-- the given pairs in bytes
abbrev pub pairs_of : List (String Global × String Global) → List Pair
pairs_of given = map pair_of given

-- The members of an object in the order of its text, and the object that they are put into.
use Rattle.std.proofs.Common.{◌≡◌, ℕ, ◌+◌, ◌<◌, ◌&&◌, List, [], ◌∷◌, ◌++◌, length, take, get_or, bytes_eq, map, cond, Bool, true, false, Option, Some, None, option_map, Bor, refl, sym, ap, ◌∙◌, true≢false, Ordering, Less, Equal, Greater, nat_cmp, is_eq}
use Rattle.std.specs.List.{list_any, list_all}
use Rattle.std.specs.Option.{option_or}
use Rattle.std.specs.Ordering.{match_ordering}
use Rattle.std.specs.Cmp.Lexicographic.{slice_cmp}
use Rattle.std.proofs.lemmas.List.{take_more}
use Rattle.std.proofs.lemmas.Map.Text.{is_eq-slice_cmp}
use Rattle.std.proofs.lemmas.Slice.Eq.{bytes_eq-Decides}
use Rattle.serde_json.specs.Data.{Data, object, Members, no_members, member, put}
use Rattle.serde_json.specs.Find.{get_member}
use Rattle.serde_json.proofs.Views.{get_member-put, get_member-put_other}
use Rattle.json_members.specs.Members.{names_among, has_only}
use Rattle.lent_json.specs.Flat.{last_named, put_all}

module _ {A : Type 0} where
  -- ---- The last member of a name

  one-before : (q o p : Option A) (b : Bool) (a : A) → q ≡ cond b (Some a) o → option_or q p ≡ cond b (Some a) (option_or o p)
  one-before q o p true a is = ap (λ x. option_or x p) is
  one-before q o p false a is = ap (λ x. option_or x p) is

  last-behind : (name : List ℕ) (ms : List (Bor (List ℕ) × A)) (m : Bor (List ℕ) × A)
      → last_named name (ms ++ m ∷ []) ≡ cond (bytes_eq m.0.now name) (Some m.1) (last_named name ms)
  last-behind name [] m = refl
  last-behind name (l ∷ ms) m =
      one-before (last_named name (ms ++ m ∷ [])) (last_named name ms) (cond (bytes_eq l.0.now name) (Some l.1) None) (bytes_eq m.0.now name) m.1 (last-behind name ms m)

  -- the member at a place is the last of its name up to there
  pub member-before : (name : List ℕ) (ms : List (Bor (List ℕ) × A)) (left i : ℕ) (m : Bor (List ℕ) × A) → left ≡ i + 1 → i < length ms → get_or ms i m ≡ m
      → last_named name (take left ms) ≡ cond (bytes_eq m.0.now name) (Some m.1) (last_named name (take i ms))
  member-before name ms left i m next within at =
      ap (λ k. last_named name (take k ms)) next
      ∙ ap (last_named name) (take_more ms i m within ∙ ap (λ y. take i ms ++ y ∷ []) at)
      ∙ last-behind name (take i ms) m

same-name : (k name : List ℕ) → bytes_eq k name ≡ true → k ≡ name
same-name k name h = (bytes_eq-Decides k name).0 h

itself : (k : List ℕ) → bytes_eq k k ≡ true
itself k = (bytes_eq-Decides k k).1 refl

-- whether a name is among these
abbrev is_among : List (List ℕ) → List ℕ → Bool
is_among names name = list_any (bytes_eq name) names

idle : (a b : Bool) → (a && b) ≡ (a && (a && b))
idle true b = refl
idle false b = refl

swapped : (a b c : Bool) → (a && (b && c)) ≡ (b && (a && c))
swapped true b c = refl
swapped false true c = refl
swapped false false c = refl

moved : (a b c : Bool) → (a && (b && c)) ≡ ((b && a) && c)
moved true true c = refl
moved true false c = refl
moved false true c = refl
moved false false c = refl

and-true : (b : Bool) → (b && true) ≡ b
and-true true = refl
and-true false = refl

-- whether names are all among these, after one more is put in
among-put_at : (names : List (List ℕ)) (o : Ordering) (k l : List ℕ) (d e : Data) (ms : Members) → slice_cmp nat_cmp k l ≡ o
    → names_among names (put k d ms) ≡ (is_among names k && names_among names ms)
    → names_among names (match_ordering o (member k d (member l e ms)) (member l d ms) (member l e (put k d ms))) ≡ (is_among names k && names_among names (member l e ms))
among-put_at names Less k l d e ms is later = refl
among-put_at names Equal k l d e ms is later =
    let same : k ≡ l = same-name k l (sym (is_eq-slice_cmp k l) ∙ ap is_eq is) in
    idle (is_among names l) (names_among names ms) ∙ ap (λ q. is_among names q && (is_among names l && names_among names ms)) (sym same)
among-put_at names Greater k l d e ms is later =
    ap (λ rest. is_among names l && rest) later ∙ swapped (is_among names l) (is_among names k) (names_among names ms)

among-put : (names : List (List ℕ)) (k : List ℕ) (d : Data) (ms : Members) → names_among names (put k d ms) ≡ (is_among names k && names_among names ms)
among-put names k d no_members = refl
among-put names k d (member l e ms) = among-put_at names (slice_cmp nat_cmp k l) k l d e ms refl (among-put names k d ms)

any-mapped : (name : List ℕ) (names : List (Bor (List ℕ))) → list_any (λ listed. bytes_eq name listed.now) names ≡ list_any (bytes_eq name) (map (λ listed. listed.now) names)
any-mapped name [] = refl
any-mapped name (listed ∷ names) = cc (any-mapped name names)

or-none : {B : Type 0} → (o : Option B) → option_or o None ≡ o
or-none None = refl
or-none (Some b) = refl

module _ {A : Type 0} where
  -- ---- What stands under a name in the object

  last-put : (value : A → Data) (name k : List ℕ) (a : A) (found : Members) (b : Bool) → bytes_eq k name ≡ b
      → get_member name (put k (value a) found) ≡ option_or (option_map value (cond b (Some a) None)) (get_member name found)
  last-put value name k a found true e = ap (λ q. get_member q (put k (value a) found)) (sym (same-name k name e)) ∙ get_member-put k (value a) found
  last-put value name k a found false e = get_member-put_other name k (value a) found (λ (h : name ≡ k). true≢false (sym (itself k) ∙ ap (bytes_eq k) (sym h) ∙ e))

  one-more : (value : A → Data) (name k : List ℕ) (a : A) (found : Members) (later : Option A)
      → option_or (option_map value later) (get_member name (put k (value a) found))
      ≡ option_or (option_map value (option_or later (cond (bytes_eq k name) (Some a) None))) (get_member name found)
  one-more value name k a found (Some x) = refl
  one-more value name k a found None = last-put value name k a found (bytes_eq k name) refl

  found-in : (value : A → Data) (name : List ℕ) (ms : List (Bor (List ℕ) × A)) (found : Members)
      → get_member name (put_all value ms found) ≡ option_or (option_map value (last_named name ms)) (get_member name found)
  found-in value name [] found = refl
  found-in value name (m ∷ ms) found =
      found-in value name ms (put m.0.now (value m.1) found) ∙ one-more value name m.0.now m.1 found (last_named name ms)

  -- the member of a name is the last one
  pub get-last : (value : A → Data) (name : List ℕ) (ms : List (Bor (List ℕ) × A)) → option_map value (last_named name ms) ≡ get_member name (put_all value ms no_members)
  get-last value name ms = sym (found-in value name ms no_members ∙ or-none (option_map value (last_named name ms)))

  -- ---- Which names there are

  names-in : (value : A → Data) (names : List (List ℕ)) (ms : List (Bor (List ℕ) × A)) (found : Members)
      → names_among names (put_all value ms found) ≡ (list_all (λ m. is_among names m.0.now) ms && names_among names found)
  names-in value names [] found = refl
  names-in value names (m ∷ ms) found =
      names-in value names ms (put m.0.now (value m.1) found)
      ∙ ap (λ b. list_all (λ m. is_among names m.0.now) ms && b) (among-put names m.0.now (value m.1) found)
      ∙ moved (list_all (λ m. is_among names m.0.now) ms) (is_among names m.0.now) (names_among names found)

  keys-mapped : (names : List (Bor (List ℕ))) (ms : List (Bor (List ℕ) × A))
      → list_all (λ m. list_any (λ listed. bytes_eq m.0.now listed.now) names) ms ≡ list_all (λ m. is_among (map (λ listed. listed.now) names) m.0.now) ms
  keys-mapped names [] = refl
  keys-mapped names (m ∷ ms) = cc (any-mapped m.0.now names, keys-mapped names ms)

  -- an object has no names but these where each of its members has one of them
  pub only-these : (value : A → Data) (names : List (Bor (List ℕ))) (ms : List (Bor (List ℕ) × A))
      → list_all (λ m. list_any (λ listed. bytes_eq m.0.now listed.now) names) ms ≡ has_only (map (λ listed. listed.now) names) (object (put_all value ms no_members))
  only-these value names ms =
      keys-mapped names ms ∙ sym (names-in value (map (λ listed. listed.now) names) ms no_members ∙ and-true (list_all (λ m. is_among (map (λ listed. listed.now) names) m.0.now) ms))

module _ {A : Type 0} where
  -- one member more is put in last
  pub put-behind : (value : A → Data) (ms : List (Bor (List ℕ) × A)) (m : Bor (List ℕ) × A) (found : Members)
      → put_all value (ms ++ m ∷ []) found ≡ put m.0.now (value m.1) (put_all value ms found)
  put-behind value [] m found = refl
  put-behind value (l ∷ ms) m found = put-behind value ms m (put l.0.now (value l.1) found)

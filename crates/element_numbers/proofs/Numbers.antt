-- The elements of a list, one after another.
use Rattle.std.proofs.Common.{◌≡◌, ◌∙◌, ℕ, zero, suc, ◌+◌, List, [], ◌∷◌, ◌++◌, map, Bool, true, false, cond, codes, Option, Some, option_and_then, Result, Ok, Err, refl, sym, ap}
use Rattle.std.specs.declared.cmp.Ordering.{Ordering}
use Rattle.std.specs.declared.cmp.Ordering.TheVariants.{Less, Equal, Greater}
use Rattle.std.specs.Ordering.{nat_cmp, match_ordering, is_eq}
use Rattle.std.specs.Cmp.Lexicographic.{slice_cmp}
use Rattle.std.proofs.lemmas.Map.Text.{is_eq-slice_cmp}
use Rattle.serde_json.specs.Data.{Data, null, boolean, number, string, array, object, Items, no_items, item, Members, no_members, member}
use Rattle.serde_json.specs.Find.{get_member, as_array}
use Rattle.json_members.specs.Members.{is_text, list_at}
use Rattle.element_numbers.specs.Numbering.{Key, named, Numbered, behind, all_in, all_inside, all_of, all_at}
use Rattle.element_numbers.specs.Ways.{from_item, all_by, way_to, outside}

-- one more item
pub all_in-item : (in_split : Bool) (n : ℕ) (d : Data) (ds : Items) → all_in in_split n (item d ds) ≡ from_item in_split n d ++ all_in in_split (n + 1) ds
unfolding all_in
all_in-item in_split n d ds = refl

pub all_in-none : (in_split : Bool) (n : ℕ) → all_in in_split n no_items ≡ []
unfolding all_in
all_in-none in_split n = refl

-- ---- the elements inside an element

at_list : (name : List ℕ) (in_split : Bool) (d : Data) → map (behind (named name)) (all_at in_split d) ≡ all_by name in_split (as_array d)
unfolding all_in
at_list name in_split null = refl
at_list name in_split (boolean b) = refl
at_list name in_split (number x) = refl
at_list name in_split (string s) = refl
at_list name in_split (array ds) = refl
at_list name in_split (object ms) = refl

-- a member of this name, or one further on
here_or_on : (o : Ordering) (name : List ℕ) (in_split : Bool) (d : Data) (rest : Option Data) (here there : List Numbered) → here ≡ all_by name in_split (as_array d) → there ≡ all_by name in_split (option_and_then as_array rest)
    → cond (is_eq o) here there ≡ all_by name in_split (option_and_then as_array (match_ordering o rest (Some d) rest))
here_or_on Less name in_split d rest here there h t = t
here_or_on Equal name in_split d rest here there h t = h
here_or_on Greater name in_split d rest here there h t = t

all_of-get : (name : List ℕ) (in_split : Bool) (ms : Members) → all_of name in_split ms ≡ all_by name in_split (option_and_then as_array (get_member name ms))
unfolding all_in
all_of-get name in_split no_members = refl
all_of-get name in_split (member k d ms) =
    ap (λ b. cond b (map (behind (named name)) (all_at in_split d)) (all_of name in_split ms)) (sym (is_eq-slice_cmp name k))
    ∙ here_or_on (slice_cmp nat_cmp name k) name in_split d (get_member name ms) _ _ (at_list name in_split d) (all_of-get name in_split ms)

-- the elements inside an element, by its kind
abbrev pub by_kind : (flow split : Bool) → Data → List Numbered
by_kind flow split d = cond flow (all_by (codes "elements") false (list_at (codes "elements") d)) (cond split (all_by (codes "flows") true (list_at (codes "flows") d)) [])

pub inside-is : (d : Data) → all_inside d ≡ by_kind (is_text (codes "kind") (codes "flow") d) (is_text (codes "kind") (codes "split") d) d
unfolding all_in
inside-is null = refl
inside-is (boolean b) = refl
inside-is (number x) = refl
inside-is (string s) = refl
inside-is (array ds) = refl
inside-is (object ms) =
    ap (λ es. cond (is_text (codes "kind") (codes "flow") (object ms)) es (cond (is_text (codes "kind") (codes "split") (object ms)) (all_of (codes "flows") true ms) [])) (all_of-get (codes "elements") false ms)
    ∙ ap (λ es. cond (is_text (codes "kind") (codes "flow") (object ms)) (all_by (codes "elements") false (list_at (codes "elements") (object ms))) (cond (is_text (codes "kind") (codes "split") (object ms)) es [])) (all_of-get (codes "flows") true ms)

-- ---- ways

-- the way to the element of this number after others
abbrev pub onward : Result (List Key) ℕ → List Numbered → Result (List Key) ℕ
onward (Ok path) es = Ok path
onward (Err n) es = way_to n es

pub way-append : (n : ℕ) (es fs : List Numbered) → way_to n (es ++ fs) ≡ onward (way_to n es) fs
way-append n [] fs = refl
way-append zero (e ∷ es) fs = refl
way-append (suc n) (e ∷ es) fs = way-append n es fs

pub way-behind : (n : ℕ) (key : Key) (es : List Numbered) → way_to n (map (behind key) es) ≡ outside key (way_to n es)
way-behind n key [] = refl
way-behind zero key (e ∷ es) = refl
way-behind (suc n) key (e ∷ es) = way-behind n key es

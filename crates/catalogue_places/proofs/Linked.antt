-- A path leads to the same value in a text and in the data that are read from it.
use Rattle.std.proofs.Common.{◌≡◌, ◌⊎◌, inl, inr, ℕ, zero, suc, ◌+◌, ◌≤◌, List, [], ◌∷◌, ◌++◌, length, bytes_eq, string_bytes, Bool, true, false, cond, Option, Some, None, option_map, option_and_then, Result, Ok, Err, IfOk, MatchOption, refl, sym, ap, ◌∙◌, true≢false, arith}
use Rattle.std.proofs.lemmas.Option.{same_Some, none-some}
use Rattle.std.proofs.lemmas.Slice.Eq.{bytes_eq-Decides}
use Rattle.std.specs.Option.{option_or}
use Rattle.json.specs.Token.{Token}
use Rattle.json.specs.Lex.{tokens}
use Rattle.json.specs.Json as json
use Rattle.json.specs.Json.{Json, if_last, value, document}
use Rattle.json.specs.Tree.{json_tokens, depth}
use Rattle.json.proofs.Nesting.{value-depth}
use Rattle.json.proofs.Printed.Trees.{value-json_tokens}
use Rattle.serde_json.specs.Data.{Num, Data, null, boolean, number, string, array, object, Items, no_items, item, Members, no_members, put}
use Rattle.serde_json.specs.Read.{of_json, of_items, of_members, number_of, read}
use Rattle.serde_json.specs.Find.{get, get_member, get_item, at}
use Rattle.serde_json.proofs.Views.{get_member-put, get_member-put_other}
use Rattle.json_places.specs.declared.path.Step.{Step}
use Rattle.json_places.specs.declared.path.Step.TheVariants.{Item, Member}
use Rattle.json_places.specs.Inside.{Found, after, item_in, member_in, item_of, member_of, value_at}
use Rattle.json_places.specs.Starts.{BeginsAt}
use Rattle.json_places.proofs.Taken.{taken}
use Rattle.catalogue_places.specs.Paths.{data_at}
use Rattle.catalogue_places.specs.Places.{IsPlaced}

-- a value is found that has these data
abbrev Holds : Found → Data → Type 0
Holds o e = (n : ℕ) × (j : Json) × (o ≡ Some (n, j)) × (of_json j ≡ Some e)

later : (k : ℕ) (o : Found) (e : Data) → Holds o e → Holds (after k o) e
later k o e h = (k + h.0, h.1, ap (after k) h.2, h.3)

-- ---- items

items_from : (j : Json) (js : json.Items) (o : Option Data) (p : Option Items) (ds : Items) (n : ℕ) (e : Data) → of_json j ≡ o → ((ds' : Items) (m : ℕ) → p ≡ Some ds' → get_item m ds' ≡ Some e → Holds (item_in m js) e)
    → option_and_then (λ d. option_map (item d) p) o ≡ Some ds → get_item n ds ≡ Some e → Holds (item_in n (json.item j js)) e
items_from j js None p ds n e a rest is found = absurd (none-some ds is)
items_from j js (Some d) None ds n e a rest is found = absurd (none-some ds is)
items_from j js (Some d) (Some ds') ds zero e a rest is found = (0, j, refl, a ∙ ap (get_item 0) (same_Some (item d ds') ds is) ∙ found)
items_from j js (Some d) (Some ds') ds (suc m) e a rest is found =
    later _ (item_in m js) e (rest ds' m refl (ap (get_item (suc m)) (same_Some (item d ds') ds is) ∙ found))

items_hold : (js : json.Items) (ds : Items) (n : ℕ) (e : Data) → of_items js ≡ Some ds → get_item n ds ≡ Some e → Holds (item_in n js) e
items_hold json.no_items ds n e is found = absurd (none-some e (ap (get_item n) (same_Some no_items ds is) ∙ found))
items_hold (json.item j js) ds n e is found = items_from j js (of_json j) (of_items js) ds n e refl (λ ds' m. items_hold js ds' m e) is found

number_lacks : (o : Option Num) (d e : Data) (look : Data → Option Data) → ((x : Num) → look (number x) ≡ None) → option_map number o ≡ Some d → look d ≡ Some e → ⊥
number_lacks None d e look none is found = none-some d is
number_lacks (Some x) d e look none is found = none-some e (sym (none x) ∙ ap look (same_Some (number x) d is) ∙ found)

array_item : (js : json.Items) (o : Option Items) (d : Data) (n : ℕ) (e : Data) → of_items js ≡ o → option_map array o ≡ Some d → at n d ≡ Some e → Holds (item_in n js) e
array_item js None d n e a is found = absurd (none-some d is)
array_item js (Some ds) d n e a is found = items_hold js ds n e a (ap (at n) (same_Some (array ds) d is) ∙ found)

object_lacks : (o : Option Members) (d : Data) (n : ℕ) (e : Data) → option_map object o ≡ Some d → at n d ≡ Some e → ⊥
object_lacks None d n e is found = none-some d is
object_lacks (Some ms) d n e is found = none-some e (ap (at n) (same_Some (object ms) d is) ∙ found)

item_holds : (j : Json) (d : Data) (n : ℕ) (e : Data) → of_json j ≡ Some d → at n d ≡ Some e → Holds (item_of n j) e
item_holds json.null d n e is found = absurd (none-some e (ap (at n) (same_Some null d is) ∙ found))
item_holds (json.boolean b) d n e is found = absurd (none-some e (ap (at n) (same_Some (boolean b) d is) ∙ found))
item_holds (json.number s) d n e is found = absurd (number_lacks (number_of s) d e (at n) (λ x. refl) is found)
item_holds (json.string s) d n e is found = absurd (none-some e (ap (at n) (same_Some (string s) d is) ∙ found))
item_holds (json.array js) d n e is found = later 1 (item_in n js) e (array_item js (of_items js) d n e refl is found)
item_holds (json.object ms) d n e is found = absurd (object_lacks (of_members ms no_members) d n e is found)

-- ---- members

-- a member of the text, or one that was there before
abbrev Kept : List ℕ → json.Members → Members → Data → Type 0
Kept name ms found e = Holds (member_in name ms) e ⊎ ((member_in name ms ≡ None) × (get_member name found ≡ Some e))

one_kept : (name k : List ℕ) (j : Json) (ms : json.Members) (found : Members) (d e : Data) (b : Bool) → bytes_eq k name ≡ b → of_json j ≡ Some d → Kept name ms (put k d found) e → Kept name (json.member k j ms) found e
one_kept name k j ms found d e b is a (inl h) = inl (1 + length (json_tokens j) + h.0, h.1, ap (λ (o : Found). option_or (after (1 + length (json_tokens j)) o) (cond (bytes_eq k name) (Some (1, j)) None)) h.2, h.3)
one_kept name k j ms found d e true is a (inr h) =
    let same : k ≡ name = (bytes_eq-Decides k name).0 is in
    let value_is : Some d ≡ Some e = sym (ap (λ q. get_member q (put k d found)) (sym same) ∙ get_member-put k d found) ∙ h.1 in
    inl (1, j, ap (λ (o : Found). option_or (after (1 + length (json_tokens j)) o) (cond (bytes_eq k name) (Some (1, j)) None)) h.0 ∙ ap (λ (c : Bool). cond c (Some (1, j)) None) is, a ∙ value_is)
one_kept name k j ms found d e false is a (inr h) =
    let other : name ≡ k → ⊥ = λ same. true≢false (sym ((bytes_eq-Decides k name).1 (sym same)) ∙ is) in
    inr (
      ap (λ (o : Found). option_or (after (1 + length (json_tokens j)) o) (cond (bytes_eq k name) (Some (1, j)) None)) h.0 ∙ ap (λ (c : Bool). cond c (Some (1, j)) None) is,
      sym (get_member-put_other name k d found other) ∙ h.1,
    )

members_from : (name k : List ℕ) (j : Json) (ms : json.Members) (found ds : Members) (e : Data) (o : Option Data) → of_json j ≡ o
    → ((d : Data) → of_members ms (put k d found) ≡ Some ds → Kept name ms (put k d found) e)
    → option_and_then (λ d. of_members ms (put k d found)) o ≡ Some ds → Kept name (json.member k j ms) found e
members_from name k j ms found ds e None a rest is = absurd (none-some ds is)
members_from name k j ms found ds e (Some d) a rest is = one_kept name k j ms found d e (bytes_eq k name) refl a (rest d is)

members_hold : (name : List ℕ) (ms : json.Members) (found ds : Members) (e : Data) → of_members ms found ≡ Some ds → get_member name ds ≡ Some e → Kept name ms found e
members_hold name json.no_members found ds e is there = inr (refl, ap (get_member name) (same_Some found ds is) ∙ there)
members_hold name (json.member k j ms) found ds e is there = members_from name k j ms found ds e (of_json j) refl (λ d i. members_hold name ms (put k d found) ds e i there) is

all_new : (name : List ℕ) (ms : json.Members) (e : Data) → Kept name ms no_members e → Holds (member_in name ms) e
all_new name ms e (inl h) = h
all_new name ms e (inr h) = absurd (none-some e h.1)

object_member : (ms : json.Members) (o : Option Members) (d : Data) (name : List ℕ) (e : Data) → of_members ms no_members ≡ o → option_map object o ≡ Some d → get name d ≡ Some e → Holds (member_in name ms) e
object_member ms None d name e a is found = absurd (none-some d is)
object_member ms (Some ds) d name e a is found = all_new name ms e (members_hold name ms no_members ds e a (ap (get name) (same_Some (object ds) d is) ∙ found))

array_lacks : (o : Option Items) (d : Data) (name : List ℕ) (e : Data) → option_map array o ≡ Some d → get name d ≡ Some e → ⊥
array_lacks None d name e is found = none-some d is
array_lacks (Some ds) d name e is found = none-some e (ap (get name) (same_Some (array ds) d is) ∙ found)

member_holds : (j : Json) (d : Data) (name : List ℕ) (e : Data) → of_json j ≡ Some d → get name d ≡ Some e → Holds (member_of name j) e
member_holds json.null d name e is found = absurd (none-some e (ap (get name) (same_Some null d is) ∙ found))
member_holds (json.boolean b) d name e is found = absurd (none-some e (ap (get name) (same_Some (boolean b) d is) ∙ found))
member_holds (json.number s) d name e is found = absurd (number_lacks (number_of s) d e (get name) (λ x. refl) is found)
member_holds (json.string s) d name e is found = absurd (none-some e (ap (get name) (same_Some (string s) d is) ∙ found))
member_holds (json.array js) d name e is found = absurd (array_lacks (of_items js) d name e is found)
member_holds (json.object ms) d name e is found = later 1 (member_in name ms) e (object_member ms (of_members ms no_members) d name e refl is found)

-- ---- paths

stepped : (ss : List Step) (wanted : Found) (o : Option Data) (e : Data) → ((x : Data) → o ≡ Some x → Holds wanted x) → ((i : Json) (x : Data) → of_json i ≡ Some x → data_at ss x ≡ Some e → Holds (value_at ss i) e)
    → option_and_then (data_at ss) o ≡ Some e → Holds (option_and_then (λ p. after p.0 (value_at ss p.1)) wanted) e
stepped ss wanted None e here rest found = absurd (none-some e found)
stepped ss wanted (Some x) e here rest found =
    let h = here x refl in
    let r = rest h.1 x h.3 found in
    (h.0 + r.0, r.1, ap (option_and_then (λ p. after p.0 (value_at ss p.1))) h.2 ∙ ap (after h.0) r.2, r.3)

pub linked : (path : List Step) (j : Json) (d e : Data) → of_json j ≡ Some d → data_at path d ≡ Some e → Holds (value_at path j) e
linked [] j d e is found = (0, j, refl, is ∙ found)
linked (Item n ∷ ss) j d e is found = stepped ss (item_of n j) (at n d) e (λ x h. item_holds j d n x is h) (λ i x h g. linked ss i x e h g) found
linked (Member name ∷ ss) j d e is found = stepped ss (member_of (string_bytes name) j) (get (string_bytes name) d) e (λ x h. member_holds j d (string_bytes name) x is h) (λ i x h g. linked ss i x e h g) found

-- ---- whole texts

no_deeper : (ts : List Token) (j : Json) → value 127 ts ≡ Some (j, []) → value 128 ts ≡ Some (j, [])
no_deeper ts j is =
    let shallow : depth j ≤ 127 = value-depth 127 ts [] j is in
    let all : ts ≡ json_tokens j ++ [] = taken 127 ts j [] is in
    ap (value 128) all ∙ value-json_tokens j 128 [] (omega arith)

whole_of : (ts : List Token) (o : Option (Json × List Token)) (d : Data) → value 127 ts ≡ o → option_and_then of_json (option_and_then (λ p. if_last p.0 p.1) o) ≡ Some d
    → (j : Json) × (option_and_then (λ p. if_last p.0 p.1) (value 128 ts) ≡ Some j) × (of_json j ≡ Some d)
whole_of ts None d is found = absurd (none-some d found)
whole_of ts (Some (j, [])) d is found = (j, ap (option_and_then (λ p. if_last p.0 p.1)) (no_deeper ts j is), found)
whole_of ts (Some (j, t ∷ us)) d is found = absurd (none-some d found)

pub whole : (text : List ℕ) (d : Data) → read text ≡ Some d → (j : Json) × (document text ≡ Some j) × (of_json j ≡ Some d)
whole text d found = whole_of (tokens text) (value 127 (tokens text)) d refl found

-- the value that is found is the one that the path leads to
pub placed : (text : List ℕ) (path : List Step) (root : Json) (e : Data) (found : Option ℕ) → document text ≡ Some root → Holds (value_at path root) e
    → MatchOption found (value_at path root ≡ None) (λ byte. (n : ℕ) × (j : Json) × (value_at path root ≡ Some (n, j)) × BeginsAt text n byte) → IsPlaced text path e found
placed text path root e None doc h given = absurd (none-some _ (sym given ∙ h.2))
placed text path root e (Some byte) doc h given =
    let both : h.1 ≡ given.1 = ap (λ p. p.1) (same_Some (h.0, h.1) (given.0, given.1) (sym h.2 ∙ given.2)) in
    record {
      byte = byte;
      found_there = refl;
      root = root;
      whole = doc;
      token = given.0;
      value = given.1;
      at_path = given.2;
      same = ap of_json (sym both) ∙ h.3;
      begins = given.3;
    }

pub if_ok : {A E : Type 0} {P Q : A → Type 0} → (r : Result A E) → ((a : A) → P a → Q a) → IfOk r P → IfOk r Q
if_ok (Ok a) f h = f a h
if_ok (Err e) f h = h

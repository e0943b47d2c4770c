-- Elements that are held without their paths, and ways to them, as the code goes over a list.
use Rattle.std.proofs.Common.{◌≡◌, ◌∙◌, ℕ, zero, suc, ◌+◌, ◌-◌, ◌<◌, ◌≤◌, List, [], ◌∷◌, ◌++◌, length, map, drop, get_or, reverse, slice_get, Bool, codes, Option, Some, None, Result, Ok, Err, OnOk, refl, sym, ap, arith, append_assoc}
use Rattle.std.proofs.lemmas.List.{append-nil, length-map, map-append, reverse-append}
use Rattle.serde_json.specs.Data.{Data, Items, item}
use Rattle.serde_json.specs.View.{view, items_view}
use Rattle.serde_json.specs.declared.value.Value.{Value}
use Rattle.json_members.specs.Members.{is_text}
use Rattle.jsl_json.proofs.Lists.{next_item, none_left}
use Rattle.json_places.specs.declared.path.Step.{Step}
use Rattle.element_numbers.specs.Numbering.{Key, nth, named, key_of, Numbered, behind, all_in, all_inside}
use Rattle.element_numbers.specs.Ways.{bare, from_item, all_by, way_to, outside}
use Rattle.element_numbers.proofs.Numbers.{all_in-item, all_in-none, inside-is, by_kind, onward, way-append, way-behind}

-- ---- without paths

pub bare-behind : (key : Key) (es : List Numbered) → map bare (map (behind key) es) ≡ map bare es
bare-behind key [] = refl
bare-behind key (e ∷ es) = ap (λ xs. bare e ∷ xs) (bare-behind key es)

bare_from : (in_split : Bool) (i : ℕ) (d : Data) (rest : List Numbered) → map bare (from_item in_split i d ++ rest) ≡ (in_split, d) ∷ map bare (all_inside d) ++ map bare rest
bare_from in_split i d rest = map-append bare (from_item in_split i d) rest ∙ ap (λ xs. ((in_split, d) ∷ xs) ++ map bare rest) (bare-behind (nth i) (all_inside d))

-- one more item of the list was added, with the elements inside it
pub one_added : (in_split : Bool) (vs : List Value) (i : ℕ) (v : Value) (before pushed after total : List (Bool × Data)) → i < length vs → v ≡ get_or vs i v → pushed ≡ before ++ (in_split, view v) ∷ [] → after ≡ pushed ++ map bare (all_inside (view v))
    → before ++ map bare (all_in in_split i (items_view (drop i vs))) ≡ total → after ++ map bare (all_in in_split (i + 1) (items_view (drop (i + 1) vs))) ≡ total
one_added in_split vs i v before pushed after total within is push more so_far =
    let d = view v in
    let rest = all_in in_split (i + 1) (items_view (drop (i + 1) vs)) in
    let inner = map bare (all_inside d) in
    let taken : all_in in_split i (items_view (drop i vs)) ≡ from_item in_split i d ++ rest =
    ap (all_in in_split i) (next_item vs i v within is) ∙ all_in-item in_split i d (items_view (drop (i + 1) vs)) in
    ap (λ xs. xs ++ map bare rest) (more ∙ ap (λ xs. xs ++ inner) push ∙ append_assoc before ((in_split, d) ∷ []) inner)
    ∙ append_assoc before ((in_split, d) ∷ inner) (map bare rest)
    ∙ ap (λ xs. before ++ xs) (sym (ap (map bare) taken ∙ bare_from in_split i d rest))
    ∙ so_far

-- the whole list was added
pub all_added : (in_split : Bool) (vs : List Value) (i : ℕ) (added total : List (Bool × Data)) → length vs ≤ i → added ++ map bare (all_in in_split i (items_view (drop i vs))) ≡ total → added ≡ total
all_added in_split vs i added total past so_far =
    let none : all_in in_split i (items_view (drop i vs)) ≡ [] = ap (all_in in_split i) (none_left vs i past) ∙ all_in-none in_split i in
    sym (ap (λ es. added ++ map bare es) none ∙ append-nil added) ∙ so_far

-- the elements inside an element, by its kind
pub of_kind : (d : Data) (flow split : Bool) → flow ≡ is_text (codes "kind") (codes "flow") d → split ≡ is_text (codes "kind") (codes "split") d → all_inside d ≡ by_kind flow split d
of_kind d flow split f s = inside-is d ∙ ap (λ b. by_kind b (is_text (codes "kind") (codes "split") d) d) (sym f) ∙ ap (λ b. by_kind flow b d) (sym s)

-- what holds if it is Ok holds of it otherwise said
pub on_ok : {A E : Type 0} (r : Result A E) (P Q : Type 0) → (P → Q) → OnOk r P → OnOk r Q
on_ok (Ok a) P Q f h = f h
on_ok (Err e) P Q f h = h

-- ---- ways

-- a step before the others
pub longer : (back pushed : List Step) (step : Step) → pushed ≡ back ++ step ∷ [] → map key_of (reverse pushed) ≡ key_of step ∷ map key_of (reverse back)
longer back pushed step is = ap (λ ss. map key_of (reverse ss)) is ∙ ap (map key_of) (reverse-append back (step ∷ []))

-- the way to an element inside an item
pub through_item : (n : ℕ) (in_split : Bool) (i : ℕ) (d : Data) (inner r : Result (List Key) ℕ) → 0 < n → inner ≡ way_to (n - 1) (all_inside d) → r ≡ outside (nth i) inner → r ≡ way_to n (from_item in_split i d)
through_item zero in_split i d inner r some is out = absurd (omega arith)
through_item (suc n) in_split i d inner r some is out =
    let less : suc n - 1 ≡ n = omega arith in
    out ∙ ap (outside (nth i)) (is ∙ ap (λ m. way_to m (all_inside d)) less) ∙ sym (way-behind n (nth i) (all_inside d))

-- the way to an element inside a list
pub through_list : (n : ℕ) (name : List ℕ) (in_split : Bool) (ds : Items) (inner r : Result (List Key) ℕ) → inner ≡ way_to n (all_in in_split 0 ds) → r ≡ outside (named name) inner → r ≡ way_to n (all_by name in_split (Some ds))
through_list n name in_split ds inner r is out = out ∙ ap (outside (named name)) is ∙ sym (way-behind n (named name) (all_in in_split 0 ds))

-- the way goes on after an item
pub goes_on : (in_split : Bool) (vs : List Value) (i left : ℕ) (v : Value) (r total : Result (List Key) ℕ) → i < length vs → v ≡ get_or vs i v → r ≡ way_to left (from_item in_split i (view v))
    → way_to left (all_in in_split i (items_view (drop i vs))) ≡ total → onward r (all_in in_split (i + 1) (items_view (drop (i + 1) vs))) ≡ total
goes_on in_split vs i left v r total within is here so_far =
    let rest = all_in in_split (i + 1) (items_view (drop (i + 1) vs)) in
    let taken : all_in in_split i (items_view (drop i vs)) ≡ from_item in_split i (view v) ++ rest =
    ap (all_in in_split i) (next_item vs i v within is) ∙ all_in-item in_split i (view v) (items_view (drop (i + 1) vs)) in
    ap (λ x. onward x rest) here ∙ sym (way-append left (from_item in_split i (view v)) rest) ∙ ap (way_to left) (sym taken) ∙ so_far

-- the way goes past the list
pub goes_past : (in_split : Bool) (vs : List Value) (i left : ℕ) (total : Result (List Key) ℕ) → length vs ≤ i → way_to left (all_in in_split i (items_view (drop i vs))) ≡ total → Err left ≡ total
goes_past in_split vs i left total past so_far =
    let none : all_in in_split i (items_view (drop i vs)) ≡ [] = ap (all_in in_split i) (none_left vs i past) ∙ all_in-none in_split i in
    sym (ap (way_to left) none) ∙ so_far

-- ---- the element of a number

pub by_way : (es : List Numbered) (n : ℕ) (path : List Key) (x : Bool × Data) → Ok path ≡ way_to n es → slice_get (map bare es) n ≡ Some x → Some (record { path = path; in_split = x.0; value = x.1 }) ≡ slice_get es n
by_way [] n path x way held = cc
by_way (e ∷ es) zero path x way held =
    let p : path ≡ e.path = cc in
    let b : x ≡ bare e = cc in
    let whole : List Key → Bool × Data → Option Numbered = λ q y. Some (record { path = q; in_split = y.0; value = y.1 }) in
    ap (λ q. whole q x) p ∙ ap (whole e.path) b
by_way (e ∷ es) (suc n) path x way held = by_way es n path x way held

pub no_way : (es : List Numbered) (n k : ℕ) → Err k ≡ way_to n es → None ≡ slice_get es n
no_way [] n k h = refl
no_way (e ∷ es) zero k h = cc
no_way (e ∷ es) (suc n) k h = no_way es n k h

pub past_all : (es : List Numbered) (n : ℕ) → length es ≤ n → None ≡ slice_get es n
past_all [] n h = refl
past_all (e ∷ es) zero h = absurd (omega arith)
past_all (e ∷ es) (suc n) h = past_all es n (omega arith)

-- as many are held as there are
pub as_many : {A : Type 0} (view_of : A → Bool × Data) (xs : List A) (es : List Numbered) → map view_of xs ≡ map bare es → length xs ≡ length es
as_many {A} view_of xs es is = sym (length-map xs view_of) ∙ ap length is ∙ length-map es bare

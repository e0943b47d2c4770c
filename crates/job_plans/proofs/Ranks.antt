-- Where numbers rise along targets, as many elements as a list has are enough: a walk over it never runs out of them.
use Rattle.std.proofs.Common.{◌≡◌, ℕ, zero, suc, ◌+◌, ◌<◌, ◌≤◌, Bool, true, false, cond, Option, None, Some, List, [], ◌∷◌, length, map, find, get_or, refl, sym, ◌∙◌, ap, subst, arith}
use Rattle.std.specs.List.{Contains, filter_map, cons_option, position_from, slice_index, slice_index_or}
use Rattle.std.specs.Str.{bytes_eq}
use Rattle.std.proofs.lemmas.Iterator.Adapters.{position_from-zero}
use Rattle.std.proofs.lemmas.List.{get_or-map, length-map}
use Rattle.batch_ids.specs.declared.status.WorkOutcome.{WorkOutcome}
use Rattle.batch_ids.specs.declared.status.WorkOutcome.TheVariants.{Completed, Failed, Stopped}
use Rattle.jsl_model.specs.declared.element.Element.{Element}
use Rattle.jsl_model.specs.declared.element.Transition.{Transition}
use Rattle.jsl_model.specs.declared.element.Then.{Then}
use Rattle.jsl_model.specs.declared.element.Then.TheVariants.{Next, End, Fail, Stop}
use Rattle.jsl_model.specs.Targets.{Item, named_by, named_in, outline, ids, place_in, graph_of, HasRanks}
use Rattle.transitions.specs.Transitions.{matches_on, matching_transition}
use Rattle.walk_rules.specs.declared.work_key.WorkKey.{WorkKey}
use Rattle.walk_rules.specs.declared.facts.Fact.{Fact}
use Rattle.walk_rules.specs.declared.facts.Value.{Value}
use Rattle.walk_rules.specs.declared.facts.Value.TheVariants.{Done}
use Rattle.walk_rules.specs.declared.element_result.ElementResult.{ElementResult}
use Rattle.walk_rules.specs.declared.element_result.ElementResult.TheVariants.{ListValue, Outcome}
use Rattle.walk_rules.specs.Walk.{WalkedElement, value_by_transition, value_after_outcome, value_by_result, value_at, follow, list_value, walked_element}
use Rattle.job_plans.proofs.Following.{walked_element-parts}

-- ---- Numbers of ids

-- all targets of the element with this id have a greater number
pub record Rises (rank : List ℕ → ℕ) (id : List ℕ) (row : WalkedElement) : Type 0 where
  pub next : (to : List ℕ) → row.next ≡ Some to → rank id < rank to
  pub taken : (exit : List ℕ) (t : Transition) (to : List ℕ) → matching_transition row.transitions exit ≡ Some t → t.then ≡ Next to → rank id < rank to

-- the elements of a list have numbers, below its length, that rise along each target
pub record AreRanked (rank : List ℕ → ℕ) (rows : List WalkedElement) : Type 0 where
  pub below : (id : List ℕ) (row : WalkedElement) → find (λ (r : WalkedElement). bytes_eq r.id id) rows ≡ Some row → rank id < length rows
  pub rise : (id : List ℕ) (row : WalkedElement) → find (λ (r : WalkedElement). bytes_eq r.id id) rows ≡ Some row → Rises rank id row

-- ---- With any number of elements that is enough the value is the same

taken-same : (rank : List ℕ → ℕ) (low : ℕ) (on on2 : List ℕ → Value) → ((to : List ℕ) → low < rank to → on to ≡ on2 to)
    → (then : Then) → ((to : List ℕ) → then ≡ Next to → low < rank to) → value_by_transition on then ≡ value_by_transition on2 then
taken-same rank low on on2 same (Next to) up = same to (up to refl)
taken-same rank low on on2 same (End exit) up = refl
taken-same rank low on on2 same (Fail exit) up = refl
taken-same rank low on on2 same (Stop exit point) up = refl

goes-same : (rank : List ℕ → ℕ) (low : ℕ) (on on2 : List ℕ → Value) → ((to : List ℕ) → low < rank to → on to ≡ on2 to)
    → (next : Option (List ℕ)) (t : Option Transition) (outcome : WorkOutcome) (exit : List ℕ)
    → ((to : List ℕ) → next ≡ Some to → low < rank to)
    → ((u : Transition) (to : List ℕ) → t ≡ Some u → u.then ≡ Next to → low < rank to)
    → value_after_outcome on next t outcome exit ≡ value_after_outcome on2 next t outcome exit
goes-same rank low on on2 same next None Stopped exit up upt = refl
goes-same rank low on on2 same next (Some u) Stopped exit up upt = refl
goes-same rank low on on2 same next (Some u) Completed exit up upt = taken-same rank low on on2 same u.then (λ to e. upt u to refl e)
goes-same rank low on on2 same next (Some u) Failed exit up upt = taken-same rank low on on2 same u.then (λ to e. upt u to refl e)
goes-same rank low on on2 same next None Failed exit up upt = refl
goes-same rank low on on2 same (Some to) None Completed exit up upt = same to (up to refl)
goes-same rank low on on2 same None None Completed exit up upt = refl

result-same : (rank : List ℕ → ℕ) (id : List ℕ) (on on2 : List ℕ → Value) → ((to : List ℕ) → rank id < rank to → on to ≡ on2 to)
    → (row : WalkedElement) → Rises rank id row → (own_result : ElementResult) → value_by_result on row own_result ≡ value_by_result on2 row own_result
result-same rank id on on2 same row up (ListValue value) = refl
result-same rank id on on2 same row up (Outcome outcome exit) =
    goes-same rank (rank id) on on2 same row.next (matching_transition row.transitions exit) outcome exit up.next (λ u to e. up.taken exit u to e)

step-same : (rank : List ℕ → ℕ) (rows : List WalkedElement) → AreRanked rank rows → (id : List ℕ) (m n : ℕ)
    → ((to : List ℕ) → rank id < rank to → follow m rows to ≡ follow n rows to)
    → (found : Option WalkedElement) → find (λ (r : WalkedElement). bytes_eq r.id id) rows ≡ found
    → value_at (follow m rows) found ≡ value_at (follow n rows) found
step-same rank rows ranked id m n same None e = refl
step-same rank rows ranked id m n same (Some row) e =
    result-same rank id (follow m rows) (follow n rows) same row (ranked.rise id row e) row.own_result

none-past : (rank : List ℕ → ℕ) (rows : List WalkedElement) → AreRanked rank rows → (id : List ℕ) → length rows ≤ rank id → (n : ℕ)
    → (found : Option WalkedElement) → find (λ (r : WalkedElement). bytes_eq r.id id) rows ≡ found → value_at (follow n rows) found ≡ Done []
none-past rank rows ranked id past n None e = refl
none-past rank rows ranked id past n (Some row) e = absurd (omega (arith, ranked.below id row e))

-- the value from an element is the same over any number of elements that is enough from there
pub follow-enough : (rank : List ℕ → ℕ) (rows : List WalkedElement) → AreRanked rank rows → (m n : ℕ) (id : List ℕ)
    → length rows ≤ m + rank id → length rows ≤ n + rank id → follow m rows id ≡ follow n rows id
follow-enough rank rows ranked zero zero id em en = refl
follow-enough rank rows ranked zero (suc n) id em en =
    sym (none-past rank rows ranked id (omega arith) n (find (λ (r : WalkedElement). bytes_eq r.id id) rows) refl)
follow-enough rank rows ranked (suc m) zero id em en =
    none-past rank rows ranked id (omega arith) m (find (λ (r : WalkedElement). bytes_eq r.id id) rows) refl
follow-enough rank rows ranked (suc m) (suc n) id em en =
    step-same rank rows ranked id m n (λ to up. follow-enough rank rows ranked m n to (omega arith) (omega arith)) (find (λ (r : WalkedElement). bytes_eq r.id id) rows) refl

on-enough : (rank : List ℕ → ℕ) (rows : List WalkedElement) → AreRanked rank rows → (id : List ℕ) (row : WalkedElement)
    → find (λ (r : WalkedElement). bytes_eq r.id id) rows ≡ Some row → (n : ℕ) → length rows ≡ n
    → follow n rows id ≡ value_by_result (follow n rows) row row.own_result
on-enough rank rows ranked id row found zero is = absurd (omega (arith, ranked.below id row found))
on-enough rank rows ranked id row found (suc n) is =
    ap (value_at (follow n rows)) found
    ∙ result-same rank id (follow n rows) (follow (suc n) rows) (λ to up. follow-enough rank rows ranked n (suc n) to (omega arith) (omega arith)) row (ranked.rise id row found) row.own_result

-- the list's value from an element is what the element comes to by itself, carried on by the list's value
pub list-on : (rank : List ℕ → ℕ) (rows : List WalkedElement) → AreRanked rank rows → (id : List ℕ) (row : WalkedElement)
    → find (λ (r : WalkedElement). bytes_eq r.id id) rows ≡ Some row → list_value rows id ≡ value_by_result (list_value rows) row row.own_result
list-on rank rows ranked id row found = on-enough rank rows ranked id row found (length rows) refl

-- ---- Numbers of places

-- an element's item, whatever it came to
abbrev pub item_in : WalkedElement → Item
item_in row = record { id = row.id; targets = named_in row.next row.transitions }

abbrev pub items_in : List WalkedElement → List Item
items_in rows = map item_in rows

-- the number of a place, or else a greater one than all
abbrev rank_at : List ℕ → ℕ → Option ℕ → ℕ
rank_at ranks n (Some k) = slice_index ranks k
rank_at ranks n None = n

abbrev rank_of : List ℕ → List WalkedElement → List ℕ → ℕ
rank_of ranks rows id = rank_at ranks (length rows) (place_in (ids (items_in rows)) id)

-- the first element with an id stands at the first place that has it
abbrev StandsAt : ℕ → List WalkedElement → List ℕ → WalkedElement → Type 0
StandsAt i rows id row =
    (k : ℕ) × (k < length rows) × (position_from (λ held. bytes_eq held id) i (ids (items_in rows)) ≡ Some (i + k)) × (get_or rows k row ≡ row)

found-case : (i : ℕ) (x : WalkedElement) (xs : List WalkedElement) (id : List ℕ) (row : WalkedElement) (rest : Option WalkedElement) (b : Bool)
    → bytes_eq x.id id ≡ b → cond b (Some x) rest ≡ Some row → (rest ≡ Some row → StandsAt (i + 1) xs id row) → StandsAt i (x ∷ xs) id row
found-case i x xs id row rest true is e more =
    (0, omega arith, ap (λ b. cond b (Some i) (position_from (λ held. bytes_eq held id) (i + 1) (ids (items_in xs)))) is ∙ ap Some (omega arith), cc)
found-case i x xs id row rest false is e more =
    let p : StandsAt (i + 1) xs id row = more e in
    (suc p.0, omega (arith, p.1), ap (λ b. cond b (Some i) (position_from (λ held. bytes_eq held id) (i + 1) (ids (items_in xs)))) is ∙ (p.2 ∙ ap Some (omega arith)), p.3)

found-at : (i : ℕ) (rows : List WalkedElement) (id : List ℕ) (row : WalkedElement) → find (λ (r : WalkedElement). bytes_eq r.id id) rows ≡ Some row → StandsAt i rows id row
found-at i [] id row e = cc
found-at i (x ∷ xs) id row e = found-case i x xs id row (find (λ (r : WalkedElement). bytes_eq r.id id) xs) (bytes_eq x.id id) refl e (found-at (i + 1) xs id row)

found-place : (rows : List WalkedElement) (id : List ℕ) (row : WalkedElement) → find (λ (r : WalkedElement). bytes_eq r.id id) rows ≡ Some row
    → (k : ℕ) × (k < length rows) × (place_in (ids (items_in rows)) id ≡ Some k) × (get_or rows k row ≡ row)
found-place rows id row e =
    let p : StandsAt 0 rows id row = found-at 0 rows id row e in
    (p.0, p.1, position_from-zero (λ held. bytes_eq held id) (ids (items_in rows)) ∙ (p.2 ∙ ap Some (omega arith)), p.3)

-- ---- What is named

Contains-later : {X : Type 0} (x y : X) (xs : List X) → Contains xs x → Contains (y ∷ xs) x
Contains-later x y xs (k, lt, e) = (suc k, omega (arith, lt), e)

Contains-option : {X : Type 0} (o : Option X) (xs : List X) (x : X) → Contains xs x → Contains (cons_option o xs) x
Contains-option None xs x c = c
Contains-option (Some y) xs x c = Contains-later x y xs c

Contains-filtered : (g : List ℕ → Option ℕ) (xs : List (List ℕ)) (x : List ℕ) (w : ℕ) → g x ≡ Some w → Contains xs x → Contains (filter_map g xs) w
Contains-filtered g [] x w is (k, lt, e) = absurd (omega (arith, lt))
Contains-filtered g (y ∷ ys) x w is (zero, lt, e) =
    let here : g y ≡ Some w = ap g e ∙ is in
    subst (λ o. Contains (cons_option o (filter_map g ys)) w) (sym here) (0, omega arith, refl)
Contains-filtered g (y ∷ ys) x w is (suc k, lt, e) =
    Contains-option (g y) (filter_map g ys) w (Contains-filtered g ys x w is (k, omega (arith, lt), e))

named-next : (next : Option (List ℕ)) (transitions : List Transition) (to : List ℕ) → next ≡ Some to → Contains (named_in next transitions) to
named-next next transitions to is =
    subst (λ n. Contains (named_in n transitions) to) (sym is) (0, omega arith, refl)

named-found : (p : Transition → Bool) (ts : List Transition) (t : Transition) (to : List ℕ) → t.then ≡ Next to → find p ts ≡ Some t
    → Contains (filter_map (λ (u : Transition). named_by u.then) ts) to
named-found p [] t to leads e = cc
named-found p (u ∷ ts) t to leads e =
    elim (p u) as (λ b. cond b (Some u) (find p ts) ≡ Some t → Contains (cons_option (named_by u.then) (filter_map (λ (u : Transition). named_by u.then) ts)) to) [
      | true ↦ λ h. let same : u ≡ t = cc in
          subst (λ o. Contains (cons_option o (filter_map (λ (u : Transition). named_by u.then) ts)) to) (sym (ap (λ (v : Transition). named_by v.then) same ∙ ap named_by leads)) (0, omega arith, refl)
      | false ↦ λ h. Contains-option (named_by u.then) _ to (named-found p ts t to leads h)
    ] e

named-taken : (next : Option (List ℕ)) (ts : List Transition) (to : List ℕ) → Contains (filter_map (λ (u : Transition). named_by u.then) ts) to → Contains (named_in next ts) to
named-taken None ts to c = c
named-taken (Some n) ts to c = Contains-later to n _ c

-- ---- Numbers of places are numbers of ids

rank-below : (rows : List WalkedElement) (h : HasRanks (items_in rows)) → (k : ℕ) → k < length rows → slice_index h.0 k < length rows
rank-below rows h k lt =
    let many : length (graph_of (items_in rows)) ≡ length rows =
    length-map (items_in rows) (λ (item : Item). filter_map (place_in (ids (items_in rows))) item.targets) ∙ length-map rows item_in in
    omega (arith, many, h.1.one_each, h.1.below k 0 (omega (arith, many, h.1.one_each, lt)))

rank-rises : (rows : List WalkedElement) (h : HasRanks (items_in rows)) → (k : ℕ) (row : WalkedElement) → k < length rows → get_or rows k row ≡ row
    → (to : List ℕ) → Contains (named_in row.next row.transitions) to → (place : Option ℕ) → place_in (ids (items_in rows)) to ≡ place
    → slice_index h.0 k < rank_at h.0 (length rows) place
rank-rises rows h k row lt is to named None at = rank-below rows h k lt
rank-rises rows h k row lt is to named (Some w) at =
    let held : List (List ℕ) = ids (items_in rows) in
    let targets : slice_index_or (graph_of (items_in rows)) k [] ≡ filter_map (place_in held) (named_in row.next row.transitions) =
    get_or-map (λ (item : Item). filter_map (place_in held) item.targets) (items_in rows) k (item_in row) [] (omega (arith, lt, length-map rows item_in))
    ∙ ap (λ (item : Item). filter_map (place_in held) item.targets) (get_or-map item_in rows k row (item_in row) lt ∙ ap item_in is) in
    h.1.rise k w (subst (λ ws. Contains ws w) (sym targets) (Contains-filtered (place_in held) (named_in row.next row.transitions) to w at named))

rank-place : (ranks : List ℕ) (rows : List WalkedElement) (id : List ℕ) (k : ℕ) → place_in (ids (items_in rows)) id ≡ Some k → rank_of ranks rows id ≡ slice_index ranks k
rank-place ranks rows id k at = ap (rank_at ranks (length rows)) at

row-rises : (rows : List WalkedElement) (h : HasRanks (items_in rows)) → (id : List ℕ) (row : WalkedElement)
    → find (λ (r : WalkedElement). bytes_eq r.id id) rows ≡ Some row → (to : List ℕ) → Contains (named_in row.next row.transitions) to
    → rank_of h.0 rows id < rank_of h.0 rows to
row-rises rows h id row e to named =
    let p = found-place rows id row e in
    subst (λ n. n < rank_of h.0 rows to) (sym (rank-place h.0 rows id p.0 p.2))
    (rank-rises rows h p.0 row p.1 p.3 to named (place_in (ids (items_in rows)) to) refl)

-- where the places of a list have numbers that rise along its targets, so have the ids
pub ranked-ids : (rows : List WalkedElement) (h : HasRanks (items_in rows)) → AreRanked (rank_of h.0 rows) rows
ranked-ids rows h = record {
  below = λ id row e. let p = found-place rows id row e in subst (λ n. n < length rows) (sym (rank-place h.0 rows id p.0 p.2)) (rank-below rows h p.0 p.1);
  rise = λ id row e. record {
    next = λ to is. row-rises rows h id row e to (named-next row.next row.transitions to is);
    taken = λ exit t to found leads. row-rises rows h id row e to (named-taken row.next row.transitions to (named-found (matches_on exit) row.transitions t to leads found));
  };
}

outline-walked : (facts : WorkKey → Fact) (elements : List Element) → items_in (map (walked_element facts) elements) ≡ outline elements
outline-walked facts [] = refl
outline-walked facts (e ∷ es) = cc (ap item_in (walked_element-parts facts e), outline-walked facts es)

-- the same of the elements of a list, whatever is known of them
pub ranked-walked : (facts : WorkKey → Fact) (elements : List Element) → HasRanks (outline elements) → HasRanks (items_in (map (walked_element facts) elements))
ranked-walked facts elements h = subst HasRanks (sym (outline-walked facts elements)) h

-- The steps of elements, as the code goes over a list.
use Rattle.std.proofs.Common.{◌≡◌, ◌∙◌, ℕ, suc, ◌+◌, ◌-◌, ◌<◌, ◌≤◌, List, [], ◌∷◌, ◌++◌, length, map, drop, get_or, Bool, refl, sym, ap, ap₂, arith, append_assoc}
use Rattle.std.proofs.lemmas.List.{append-nil, map-append}
use Rattle.serde_json.specs.Data.{Data}
use Rattle.serde_json.specs.View.{view, items_view}
use Rattle.serde_json.specs.declared.value.Value.{Value}
use Rattle.jsl_json.proofs.Lists.{next_item, none_left}
use Rattle.element_numbers.specs.Numbering.{Key, nth, Numbered, behind, all_in, all_inside}
use Rattle.element_numbers.specs.Ways.{from_item}
use Rattle.element_numbers.proofs.Numbers.{all_in-item, all_in-none}
use Rattle.element_levels.specs.Levels.{steps_left}

-- behind a key each has one step more
one_behind : (most less : ℕ) (key : Key) (e : Numbered) → less ≡ most - 1 → steps_left most (behind key e) ≡ steps_left less e
one_behind most less key e is = omega arith

pub all_behind : (most less : ℕ) (key : Key) (es : List Numbered) → less ≡ most - 1 → map (steps_left most) (map (behind key) es) ≡ map (steps_left less) es
all_behind most less key [] is = refl
all_behind most less key (e ∷ es) is = ap₂ (λ (x : ℕ) (xs : List ℕ). x ∷ xs) (one_behind most less key e is) (all_behind most less key es is)

item_steps : (most less : ℕ) (in_split : Bool) (i : ℕ) (d : Data) (rest : List Numbered) → less ≡ most - 1 → map (steps_left most) (from_item in_split i d ++ rest) ≡ less ∷ map (steps_left less) (all_inside d) ++ map (steps_left most) rest
item_steps most less in_split i d rest is =
    let own : most - 1 ≡ less = sym is in
    map-append (steps_left most) (from_item in_split i d) rest
    ∙ ap₂ (λ (x : ℕ) (xs : List ℕ). (x ∷ xs) ++ map (steps_left most) rest) own (all_behind most less (nth i) (all_inside d) is)

-- one more item of the list was added, with the elements inside it
pub one_added : (most less : ℕ) (in_split : Bool) (vs : List Value) (i : ℕ) (v : Value) (before pushed after total : List ℕ) → less ≡ most - 1 → i < length vs → v ≡ get_or vs i v → pushed ≡ before ++ less ∷ []
    → after ≡ pushed ++ map (steps_left less) (all_inside (view v)) → before ++ map (steps_left most) (all_in in_split i (items_view (drop i vs))) ≡ total
    → after ++ map (steps_left most) (all_in in_split (i + 1) (items_view (drop (i + 1) vs))) ≡ total
one_added most less in_split vs i v before pushed after total step within is push more so_far =
    let d = view v in
    let rest = all_in in_split (i + 1) (items_view (drop (i + 1) vs)) in
    let inner = map (steps_left less) (all_inside d) in
    let taken : all_in in_split i (items_view (drop i vs)) ≡ from_item in_split i d ++ rest =
    ap (all_in in_split i) (next_item vs i v within is) ∙ all_in-item in_split i d (items_view (drop (i + 1) vs)) in
    ap (λ xs. xs ++ map (steps_left most) rest) (more ∙ ap (λ xs. xs ++ inner) push ∙ append_assoc before (less ∷ []) inner)
    ∙ append_assoc before (less ∷ inner) (map (steps_left most) rest)
    ∙ ap (λ xs. before ++ xs) (sym (ap (map (steps_left most)) taken ∙ item_steps most less in_split i d rest step))
    ∙ so_far

-- the whole list was added
pub all_added : (most : ℕ) (in_split : Bool) (vs : List Value) (i : ℕ) (added total : List ℕ) → length vs ≤ i → added ++ map (steps_left most) (all_in in_split i (items_view (drop i vs))) ≡ total → added ≡ total
all_added most in_split vs i added total past so_far =
    let none : all_in in_split i (items_view (drop i vs)) ≡ [] = ap (all_in in_split i) (none_left vs i past) ∙ all_in-none in_split i in
    sym (ap (λ es. added ++ map (steps_left most) es) none ∙ append-nil added) ∙ so_far

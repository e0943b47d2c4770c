-- Lists of values that are read one by one, those that were read ahead of those that are left.
use Rattle.std.proofs.Common.{◌≡◌, ◌∙◌, ℕ, suc, zero, get_or, ◌+◌, ◌<◌, ◌≤◌, List, [], ◌∷◌, ◌++◌, drop, length, Option, option_map, Ok, Err, refl, sym, ap, arith, append_assoc}
use Rattle.std.proofs.lemmas.List.{append-nil}
use Rattle.serde_json.specs.Data.{Data, Items, no_items, item}
use Rattle.serde_json.specs.View.{view, items_view}
use Rattle.serde_json.specs.declared.value.Value.{Value}
use Rattle.jsl_json.specs.declared.fault.ReadFault.{ReadFault}
use Rattle.jsl_json.specs.Elements.{◌>>=◌, Read, followed, element_at, elements_at, flow_at, flows_at}

-- transition elements that were read, ahead of the others
abbrev pub ahead : {A : Type 0} → List A → Option (List A) → Option (List A)
ahead xs rest = option_map (λ ys. xs ++ ys) rest

-- elements that were read, ahead of the others
abbrev pub with_front : {A : Type 0} → List A → Read (List A) → Read (List A)
with_front xs rest = rest >>= λ y. Ok (xs ++ y.0, y.1)

regroup : {A : Type 0} (xs : List A) (x : A) (rest : Read (List A)) → with_front xs (rest >>= λ y. Ok (x ∷ y.0, y.1)) ≡ with_front (xs ++ x ∷ []) rest
regroup {A} xs x (Ok y) = ap (λ (ys : List A). Ok (ys, y.1)) (sym (append_assoc xs (x ∷ []) y.0))
regroup xs x (Err fault) = refl

-- one more is read
pub one_more : {A : Type 0} (xs : List A) (first : Read A) (rest : ℕ → Read (List A)) (x : A) (n : ℕ) (all : Read (List A))
    → with_front xs (followed first rest) ≡ all → first ≡ Ok (x, n) → with_front (xs ++ x ∷ []) (rest n) ≡ all
one_more xs first rest x n all so_far read = sym (ap (λ r. with_front xs (followed r rest)) read ∙ regroup xs x (rest n)) ∙ so_far

-- all are read
pub all_read : {A : Type 0} (xs : List A) (n : ℕ) (all : Read (List A)) → with_front xs (Ok ([], n)) ≡ all → all ≡ Ok (xs, n)
all_read {A} xs n all so_far = sym so_far ∙ ap (λ (ys : List A). Ok (ys, n)) (append-nil xs)

-- one is faulty
pub one_fails : {A : Type 0} (xs : List A) (first : Read A) (rest : ℕ → Read (List A)) (fault : ReadFault) (all : Read (List A))
    → with_front xs (followed first rest) ≡ all → first ≡ Err fault → all ≡ Err fault
one_fails xs first rest fault all so_far read = sym so_far ∙ ap (λ r. with_front xs (followed r rest)) read

-- ---- the values of a list

next_item-suc : (vs : List Value) (i : ℕ) (v : Value) → i < length vs → v ≡ get_or vs i v → items_view (drop i vs) ≡ item (view v) (items_view (drop (suc i) vs))
next_item-suc [] i v lt e = absurd (omega arith)
next_item-suc (x ∷ xs) zero v lt e = ap (λ y. item (view y) (items_view xs)) (sym e)
next_item-suc (x ∷ xs) (suc i) v lt e = next_item-suc xs i v (omega arith) e

pub next_item : (vs : List Value) (i : ℕ) (v : Value) → i < length vs → v ≡ get_or vs i v → items_view (drop i vs) ≡ item (view v) (items_view (drop (i + 1) vs))
next_item vs i v lt e = let k : i + 1 ≡ suc i = omega arith in next_item-suc vs i v lt e ∙ ap (λ n. item (view v) (items_view (drop n vs))) (sym k)

pub none_left : (vs : List Value) (i : ℕ) → length vs ≤ i → items_view (drop i vs) ≡ no_items
none_left [] zero le = refl
none_left [] (suc i) le = refl
none_left (x ∷ xs) zero le = absurd (omega arith)
none_left (x ∷ xs) (suc i) le = none_left xs i (omega arith)

-- ---- a list of values, by what reads one of them and what reads all

-- how a list is read: one value ahead of the others
pub record InTurn {A : Type 0} (one : Data → ℕ → Read A) (all : Items → ℕ → Read (List A)) : Type 0 where
  pub none : (n : ℕ) → all no_items n ≡ Ok ([], n)
  pub more : (d : Data) (ds : Items) (n : ℕ) → all (item d ds) n ≡ followed (one d n) (all ds)

pub elements_in_turn : (job : ℕ) → InTurn (element_at job) (elements_at job)
unfolding element_at
elements_in_turn job = record { none = λ n. refl; more = λ d ds n. refl }

pub flows_in_turn : (job : ℕ) → InTurn (flow_at job) (flows_at job)
unfolding element_at
flows_in_turn job = record { none = λ n. refl; more = λ d ds n. refl }

at_value : {A : Type 0} {one : Data → ℕ → Read A} {all : Items → ℕ → Read (List A)} (turn : InTurn one all) (vs : List Value) (i : ℕ) (v : Value) (n : ℕ) (xs : List A) (total : Read (List A))
    → i < length vs → v ≡ get_or vs i v → with_front xs (all (items_view (drop i vs)) n) ≡ total
    → with_front xs (followed (one (view v) n) (all (items_view (drop (i + 1) vs)))) ≡ total
at_value {all = all} turn vs i v n xs total lt is so_far =
    sym (ap (with_front xs) (ap (λ ds. all ds n) (next_item vs i v lt is) ∙ turn.more (view v) (items_view (drop (i + 1) vs)) n)) ∙ so_far

-- one more value is read
pub next_read : {A : Type 0} {one : Data → ℕ → Read A} {all : Items → ℕ → Read (List A)} (turn : InTurn one all) (vs : List Value) (i : ℕ) (v : Value) (n : ℕ) (xs : List A) (total : Read (List A))
    → i < length vs → v ≡ get_or vs i v → with_front xs (all (items_view (drop i vs)) n) ≡ total
    → (x : A) (m : ℕ) → one (view v) n ≡ Ok (x, m) → with_front (xs ++ x ∷ []) (all (items_view (drop (i + 1) vs)) m) ≡ total
next_read {one = one} {all = all} turn vs i v n xs total lt is so_far x m read =
    one_more xs (one (view v) n) (all (items_view (drop (i + 1) vs))) x m total (at_value turn vs i v n xs total lt is so_far) read

-- the next value is faulty
pub next_fails : {A : Type 0} {one : Data → ℕ → Read A} {all : Items → ℕ → Read (List A)} (turn : InTurn one all) (vs : List Value) (i : ℕ) (v : Value) (n : ℕ) (xs : List A) (total : Read (List A))
    → i < length vs → v ≡ get_or vs i v → with_front xs (all (items_view (drop i vs)) n) ≡ total
    → (fault : ReadFault) → one (view v) n ≡ Err fault → total ≡ Err fault
next_fails {one = one} {all = all} turn vs i v n xs total lt is so_far fault read =
    one_fails xs (one (view v) n) (all (items_view (drop (i + 1) vs))) fault total (at_value turn vs i v n xs total lt is so_far) read

-- no value is left
pub none_unread : {A : Type 0} {one : Data → ℕ → Read A} {all : Items → ℕ → Read (List A)} (turn : InTurn one all) (vs : List Value) (i : ℕ) (n : ℕ) (xs : List A) (total : Read (List A))
    → length vs ≤ i → with_front xs (all (items_view (drop i vs)) n) ≡ total → total ≡ Ok (xs, n)
none_unread {all = all} turn vs i n xs total le so_far =
    all_read xs n total (sym (ap (with_front xs) (ap (λ ds. all ds n) (none_left vs i le) ∙ turn.none n)) ∙ so_far)

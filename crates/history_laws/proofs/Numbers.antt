-- Job executions by number: which of them are done with a partitioned step, and which of its partitions each one keeps.
use Rattle.std.proofs.Common.{◌≡◌, ℕ, ◌==◌, ◌<◌, ◌≤◌, ◌&&◌, ◌||◌, Bool, true, false, not, cond, nat_lt, nat_le, None, Some, List, [], ◌∷◌, ◌++◌, map, filter, reverse, refl, sym, ◌∙◌, ap, subst, arith}
use Rattle.std.specs.List.{list_any, list_all}
use Rattle.std.proofs.lemmas.List.{map-append, reverse-append}
use Rattle.std.proofs.lemmas.Bool.{eqb-true, eqb-false, eq-eqb, ltb-false, ltb-true, lt-ltb, ne_eqb, and_parts, or_parts, leb-true, le-leb}
use Rattle.walk_rules.specs.Keys.{numbers_to}
use Rattle.batch_history.specs.Partitions.{each_once, executions_with, is_completed, is_of_partition, completes_in, newest_of_partition, works_before, is_completed_after, is_kept_after, is_done_after, done_among, done_executions}
use Rattle.batch_history.specs.declared.rows.WorkRow.{WorkRow}
use Rattle.batch_history.proofs.Finished.{on-it}
use Rattle.batch_history.specs.Lists.{Each}
use Rattle.batch_history.proofs.WorkLists.{each-map, each-append}
use Rattle.history_laws.specs.Partitions.{is_kept_in, is_done_in, IsKept}
use Rattle.history_laws.proofs.Rising.{AreRising, each-filter}

-- ---- Falling numbers

abbrev AreDropping : List ℕ → Type 0
AreDropping [] = Unit {0}
AreDropping (x ∷ xs) = Each (λ y. y ≤ x) xs × AreDropping xs

abbrev AreFalling : List ℕ → Type 0
AreFalling [] = Unit {0}
AreFalling (x ∷ xs) = Each (λ y. y < x) xs × AreFalling xs

dropping-append : (xs : List ℕ) (z : ℕ) → AreDropping xs → Each (λ y. z ≤ y) xs → AreDropping (xs ++ z ∷ [])
dropping-append [] z h e = (tt, tt)
dropping-append (x ∷ xs) z h e = (each-append (λ y. y ≤ x) xs z h.0 e.0, dropping-append xs z h.1 e.1)

abbrev numbers_back : List WorkRow → List ℕ
numbers_back rows = map (λ row. row.execution) (reverse rows)

back-more : (r : WorkRow) (rs : List WorkRow) → numbers_back (r ∷ rs) ≡ numbers_back rs ++ r.execution ∷ []
back-more r rs =
    ap (map (λ (row : WorkRow). row.execution)) (reverse-append (r ∷ []) rs) ∙ map-append (λ (row : WorkRow). row.execution) (reverse rs) (r ∷ [])

each-back : (P : ℕ → Type 0) (rows : List WorkRow) → Each (λ s. P s.execution) rows → Each P (numbers_back rows)
each-back P [] h = tt
each-back P (r ∷ rs) h = subst (Each P) (sym (back-more r rs)) (each-append P (numbers_back rs) r.execution (each-back P rs h.1) h.0)

dropping-back : (rows : List WorkRow) → AreRising rows → AreDropping (numbers_back rows)
dropping-back [] h = tt
dropping-back (r ∷ rs) h =
    subst AreDropping (sym (back-more r rs)) (dropping-append (numbers_back rs) r.execution (dropping-back rs h.1) (each-back (λ y. r.execution ≤ y) rs h.0))

each-once : (P : ℕ → Type 0) (xs : List ℕ) → Each P xs → Each P (each_once xs)
each-once P [] h = tt
each-once P (x ∷ xs) h = (h.0, each-filter P P (λ y. not (y == x)) (each_once xs) (λ y _ p. p) (each-once P xs h.1))

falling-filter : (p : ℕ → Bool) (xs : List ℕ) → AreFalling xs → AreFalling (filter p xs)
falling-filter p [] h = tt
falling-filter p (x ∷ xs) h =
    elim (p x) as (λ b. AreFalling (cond b (x ∷ filter p xs) (filter p xs))) [
      | true ↦ (each-filter (λ y. y < x) (λ y. y < x) p xs (λ y _ lt. lt) h.0, falling-filter p xs h.1)
      | false ↦ falling-filter p xs h.1
    ]

below-other : (x y : ℕ) → not (y == x) ≡ true → y ≤ x → y < x
below-other x y other le =
    on-it (y == x)
    (λ on. absurd (let bad : false ≡ true = sym (ap not on) ∙ other in cc))
    (λ off. let differ = eqb-false y x off in omega (arith, le, differ))

falling-once : (xs : List ℕ) → AreDropping xs → AreFalling (each_once xs)
falling-once [] h = tt
falling-once (x ∷ xs) h = (
  each-filter (λ y. y ≤ x) (λ y. y < x) (λ y. not (y == x)) (each_once xs) (λ y other le. below-other x y other le) (each-once (λ y. y ≤ x) xs h.0),
  falling-filter (λ y. not (y == x)) (each_once xs) (falling-once xs h.1),
)

-- the job executions with rising work items, the newest first
pub falling-executions : (works : List WorkRow) → AreRising works → AreFalling (executions_with works)
falling-executions works h = falling-once (numbers_back works) (dropping-back works h)

-- ---- Filters

filter-one : {X : Type 0} (p : X → Bool) (x : X) (xs : List X) (b : Bool) → p x ≡ b → filter p (x ∷ xs) ≡ cond b (x ∷ filter p xs) (filter p xs)
filter-one p x xs b is = ap (λ c. cond c (x ∷ filter p xs) (filter p xs)) is

filter-all : {X : Type 0} (p : X → Bool) (xs : List X) → Each (λ x. p x ≡ true) xs → filter p xs ≡ xs
filter-all p [] h = refl
filter-all p (x ∷ xs) h = filter-one p x xs true h.0 ∙ ap (λ l. x ∷ l) (filter-all p xs h.1)

filter-swap : {X : Type 0} (p q : X → Bool) (xs : List X) → filter p (filter q xs) ≡ filter q (filter p xs)
filter-swap p q [] = refl
filter-swap p q (x ∷ xs) =
    (elim (p x) as (λ b. p x ≡ b → filter p (filter q (x ∷ xs)) ≡ filter q (cond b (x ∷ filter p xs) (filter p xs))) [
      | true ↦ λ on. (elim (q x) as (λ c. filter p (cond c (x ∷ filter q xs) (filter q xs)) ≡ cond c (x ∷ filter q (filter p xs)) (filter q (filter p xs))) [
        | true ↦ filter-one p x (filter q xs) true on ∙ ap (λ l. x ∷ l) (filter-swap p q xs)
        | false ↦ filter-swap p q xs
      ])
      | false ↦ λ off. (elim (q x) as (λ c. filter p (cond c (x ∷ filter q xs) (filter q xs)) ≡ filter q (filter p xs)) [
        | true ↦ filter-one p x (filter q xs) false off ∙ filter-swap p q xs
        | false ↦ filter-swap p q xs
      ])
    ]) refl

-- what is dropped by the stronger test
pub filter-within : {X : Type 0} (p q : X → Bool) (xs : List X) → ((x : X) → q x ≡ true → p x ≡ true) → filter q (filter p xs) ≡ filter q xs
filter-within p q [] h = refl
filter-within p q (x ∷ xs) h =
    on-it (q x)
    (λ on. ap (λ b. filter q (cond b (x ∷ filter p xs) (filter p xs))) (h x on) ∙ (filter-one q x (filter p xs) true on
    ∙ (ap (λ l. x ∷ l) (filter-within p q xs h) ∙ sym (filter-one q x xs true on))))
    (λ off.
    (elim (p x) as (λ b. filter q (cond b (x ∷ filter p xs) (filter p xs)) ≡ filter q xs) [
      | true ↦ filter-one q x (filter p xs) false off ∙ filter-within p q xs h
      | false ↦ filter-within p q xs h
    ]) ∙ sym (filter-one q x xs false off))

pub filter-append : {X : Type 0} (p : X → Bool) (xs : List X) (x : X) → filter p (xs ++ x ∷ []) ≡ filter p xs ++ cond (p x) (x ∷ []) []
filter-append p [] x = refl
filter-append p (y ∷ ys) x =
    elim (p y) as (λ b. cond b (y ∷ filter p (ys ++ x ∷ [])) (filter p (ys ++ x ∷ [])) ≡ cond b (y ∷ filter p ys) (filter p ys) ++ cond (p x) (x ∷ []) []) [
      | true ↦ ap (λ l. y ∷ l) (filter-append p ys x)
      | false ↦ filter-append p ys x
    ]

append-none : (xs : List ℕ) → xs ++ [] ≡ xs
append-none [] = refl
append-none (x ∷ xs) = ap (λ l. x ∷ l) (append-none xs)

-- ---- The job executions before one

abbrev is_below : ℕ → ℕ → Bool
is_below x y = nat_lt y x

back-below : (x : ℕ) (rows : List WorkRow) → filter (is_below x) (numbers_back rows) ≡ numbers_back (works_before x rows)
back-below x [] = refl
back-below x (r ∷ rs) =
    ap (filter (is_below x)) (back-more r rs) ∙ (filter-append (is_below x) (numbers_back rs) r.execution
    ∙ (elim (nat_lt r.execution x) as (λ b. filter (is_below x) (numbers_back rs) ++ cond b (r.execution ∷ []) [] ≡ numbers_back (cond b (r ∷ works_before x rs) (works_before x rs))) [
      | true ↦ ap (λ l. l ++ r.execution ∷ []) (back-below x rs) ∙ sym (back-more r (works_before x rs))
      | false ↦ append-none (filter (is_below x) (numbers_back rs)) ∙ back-below x rs
    ]))

drop-other : (q : ℕ → Bool) (y : ℕ) (xs : List ℕ) → q y ≡ false → filter q (filter (λ z. not (z == y)) xs) ≡ filter q xs
drop-other q y xs off =
    filter-within (λ z. not (z == y)) q xs
    (λ z on. ap not (ne_eqb z y (λ same. let bad : true ≡ false = sym on ∙ (ap q same ∙ off) in cc)))

once-filter : (q : ℕ → Bool) (xs : List ℕ) → filter q (each_once xs) ≡ each_once (filter q xs)
once-filter q [] = refl
once-filter q (x ∷ xs) =
    on-it (q x)
    (λ on. filter-one q x (filter (λ z. not (z == x)) (each_once xs)) true on
    ∙ (ap (λ l. x ∷ l) (filter-swap q (λ z. not (z == x)) (each_once xs) ∙ ap (filter (λ z. not (z == x))) (once-filter q xs))
    ∙ sym (ap each_once (filter-one q x xs true on))))
    (λ off. filter-one q x (filter (λ z. not (z == x)) (each_once xs)) false off
    ∙ (drop-other q x (each_once xs) off ∙ (once-filter q xs ∙ sym (ap each_once (filter-one q x xs false off)))))

-- the job executions with work before x are those with work that are before x
executions-before : (x : ℕ) (works : List WorkRow) → executions_with (works_before x works) ≡ filter (is_below x) (executions_with works)
executions-before x works = sym (once-filter (is_below x) (numbers_back works) ∙ ap each_once (back-below x works))

-- ---- Whether one is done, by the work before a later one

before-both : (x y : ℕ) (works : List WorkRow) → y < x → works_before y (works_before x works) ≡ works_before y works
before-both x y works lt =
    filter-within (λ (row : WorkRow). nat_lt row.execution x) (λ (row : WorkRow). nat_lt row.execution y) works
    (λ row on. lt-ltb row.execution x (let below = ltb-true row.execution y on in omega (arith, below, lt)))

pub any-filter : {X : Type 0} (p q : X → Bool) (xs : List X) → ((x : X) → p x ≡ true → q x ≡ true) → list_any p (filter q xs) ≡ list_any p xs
any-filter p q [] h = refl
any-filter p q (x ∷ xs) h =
    on-it (q x)
    (λ on. ap (list_any p) (filter-one q x xs true on) ∙ ap (λ b. p x || b) (any-filter p q xs h))
    (λ off. ap (list_any p) (filter-one q x xs false off)
    ∙ (any-filter p q xs h ∙ sym (ap (λ b. b || list_any p xs)
    (on-it (p x) (λ on. absurd (let bad : true ≡ false = sym (h x on) ∙ off in cc)) (λ none. none)))))

completes-before : (x y p : ℕ) (works : List WorkRow) → y < x → completes_in (works_before x works) y p ≡ completes_in works y p
completes-before x y p works lt =
    any-filter (λ (row : WorkRow). row.execution == y && (is_of_partition p row && is_completed row)) (λ (row : WorkRow). nat_lt row.execution x) works
    (λ row on. lt-ltb row.execution x
    (let same : row.execution ≡ y = eqb-true row.execution y (and_parts (row.execution == y) _ on).0 in omega (arith, same, lt)))

all-same : {X : Type 0} (p q : X → Bool) (xs : List X) → ((x : X) → p x ≡ q x) → list_all p xs ≡ list_all q xs
all-same p q [] h = refl
all-same p q (x ∷ xs) h = ap (λ b. b && list_all p xs) (h x) ∙ ap (λ b. q x && b) (all-same p q xs h)

done-before : (n x y : ℕ) (done : List ℕ) (works : List WorkRow) → y < x → is_done_after n done (works_before x works) y ≡ is_done_after n done works y
done-before n x y done works lt =
    all-same _ _ (numbers_to n)
    (λ p. ap (λ rows. is_kept_after done rows p || completes_in (works_before x works) y p) (before-both x y works lt)
    ∙ ap (λ b. is_kept_after done (works_before y works) p || b) (completes-before x y p works lt))

among-before : (n x : ℕ) (works : List WorkRow) (executions : List ℕ) → Each (λ y. y < x) executions
    → done_among n (works_before x works) executions ≡ done_among n works executions
among-before n x works [] h = refl
among-before n x works (y ∷ older) h =
    let rest : done_among n (works_before x works) older ≡ done_among n works older = among-before n x works older h.1 in
    ap (λ (done : List ℕ). cond (is_done_after n done (works_before x works) y) (y ∷ done) done) rest
    ∙ ap (λ b. cond b (y ∷ done_among n works older) (done_among n works older)) (done-before n x y (done_among n works older) works h.0)

each-among : (P : ℕ → Type 0) (n : ℕ) (works : List WorkRow) (executions : List ℕ) → Each P executions → Each P (done_among n works executions)
each-among P n works [] h = tt
each-among P n works (y ∷ older) h =
    elim (is_done_after n (done_among n works older) works y) as (λ b. Each P (cond b (y ∷ done_among n works older) (done_among n works older))) [
      | true ↦ (h.0, each-among P n works older h.1)
      | false ↦ each-among P n works older h.1
    ]

all-below : (x y : ℕ) (xs : List ℕ) → y < x → Each (λ z. z < y) xs → Each (λ z. is_below x z ≡ true) xs
all-below x y xs lt h = each-map (λ z. z < y) (λ z. is_below x z ≡ true) xs (λ z below. lt-ltb z x (omega (arith, below, lt))) h

-- the done ones among those before x are the done ones that are before x
among-filter : (n x : ℕ) (works : List WorkRow) (executions : List ℕ) → AreFalling executions
    → done_among n works (filter (is_below x) executions) ≡ filter (is_below x) (done_among n works executions)
among-filter n x works [] h = refl
among-filter n x works (y ∷ older) h =
    let done : List ℕ = done_among n works older in
    on-it (nat_lt y x)
    (λ on.
    let lt : y < x = ltb-true y x on in
    let all : Each (λ z. is_below x z ≡ true) (y ∷ older) = (on, all-below x y older lt h.0) in
    ap (done_among n works) (filter-all (is_below x) (y ∷ older) all)
    ∙ sym (filter-all (is_below x) (done_among n works (y ∷ older)) (each-among (λ z. is_below x z ≡ true) n works (y ∷ older) all)))
    (λ off.
    ap (done_among n works) (filter-one (is_below x) y older false off)
    ∙ (among-filter n x works older h.1
    ∙ sym (elim (is_done_after n done works y) as (λ b. filter (is_below x) (cond b (y ∷ done) done) ≡ filter (is_below x) done) [
      | true ↦ filter-one (is_below x) y done false off
      | false ↦ refl
    ])))

each-below : (x : ℕ) (xs : List ℕ) → Each (λ y. y < x) (filter (is_below x) xs)
each-below x [] = tt
each-below x (y ∷ ys) =
    (elim (nat_lt y x) as (λ b. nat_lt y x ≡ b → Each (λ y. y < x) (cond b (y ∷ filter (is_below x) ys) (filter (is_below x) ys))) [
      | true ↦ λ on. (ltb-true y x on, each-below x ys)
      | false ↦ λ off. each-below x ys
    ]) refl

-- THE DONE ONES by the work before x: those that are done and before x
pub done-executions-before : (n x : ℕ) (works : List WorkRow) → AreRising works
    → done_executions n (works_before x works) ≡ filter (is_below x) (done_executions n works)
done-executions-before n x works rising =
    ap (done_among n (works_before x works)) (executions-before x works)
    ∙ (among-before n x works (filter (is_below x) (executions_with works)) (each-below x (executions_with works))
    ∙ among-filter n x works (executions_with works) (falling-executions works rising))

-- ---- Kept

none-from : (z x : ℕ) (done : List ℕ) → list_any (λ y. nat_le z y) (filter (is_below x) done) ≡ false
    → (y : ℕ) → z ≤ y → y < x → list_any (λ d. d == y) done ≡ false
none-from z x [] h y le lt = refl
none-from z x (d ∷ ds) h y le lt =
    on-it (nat_lt d x)
    (λ on.
    let both = or_parts (nat_le z d) (list_any (λ y. nat_le z y) (filter (is_below x) ds)) (sym (ap (list_any (λ y. nat_le z y)) (filter-one (is_below x) d ds true on)) ∙ h) in
    let off : (d == y) ≡ false = ne_eqb d y (λ same. let bad : true ≡ false = sym (le-leb z d (omega (arith, le, same))) ∙ both.0 in cc) in
    ap (λ b. b || list_any (λ d. d == y) ds) off ∙ none-from z x ds both.1 y le lt)
    (λ off.
    let other : (d == y) ≡ false = ne_eqb d y (λ same. let over = ltb-false d x off in omega (arith, over, same, lt)) in
    ap (λ b. b || list_any (λ d. d == y) ds) other
    ∙ none-from z x ds (sym (ap (list_any (λ y. nat_le z y)) (filter-one (is_below x) d ds false off)) ∙ h) y le lt)

from-none : (z x : ℕ) (done : List ℕ) → ((y : ℕ) → z ≤ y → y < x → list_any (λ d. d == y) done ≡ false)
    → list_any (λ y. nat_le z y) (filter (is_below x) done) ≡ false
from-none z x [] h = refl
from-none z x (d ∷ ds) h =
    let rest : list_any (λ y. nat_le z y) (filter (is_below x) ds) ≡ false =
    from-none z x ds (λ y le lt. (or_parts (d == y) (list_any (λ d. d == y) ds) (h y le lt)).1) in
    on-it (nat_lt d x)
    (λ on. ap (list_any (λ y. nat_le z y)) (filter-one (is_below x) d ds true on)
    ∙ (ap (λ b. b || list_any (λ y. nat_le z y) (filter (is_below x) ds))
    (on-it (nat_le z d)
    (λ le. absurd (let no : (d == d) ≡ false = (or_parts (d == d) (list_any (λ e. e == d) ds) (h d (leb-true z d le) (ltb-true d x on))).0 in
    let bad : true ≡ false = sym (eq-eqb d d refl) ∙ no in cc))
    (λ no. no)) ∙ rest))
    (λ off. ap (list_any (λ y. nat_le z y)) (filter-one (is_below x) d ds false off) ∙ rest)

not-false : (b : Bool) → not b ≡ true → b ≡ false
not-false true h = cc
not-false false h = refl

pub kept-forth : (n : ℕ) (works : List WorkRow) (x p : ℕ) → AreRising works → is_kept_in n works x p ≡ true → IsKept n works x p
kept-forth n works x p rising h =
    let before : done_executions n (works_before x works) ≡ filter (is_below x) (done_executions n works) = done-executions-before n x works rising in
    let is : is_completed_after (filter (is_below x) (done_executions n works)) (newest_of_partition (works_before x works) p) ≡ true =
    sym (ap (λ done. is_completed_after done (newest_of_partition (works_before x works) p)) before) ∙ h in
    (elim (newest_of_partition (works_before x works) p) as (λ o. newest_of_partition (works_before x works) p ≡ o
    → is_completed_after (filter (is_below x) (done_executions n works)) o ≡ true → IsKept n works x p) [
      | None ↦ λ found so. cc
      | Some row ↦ λ found so.
          let both = and_parts (is_completed row) (not (list_any (λ y. nat_le row.execution y) (filter (is_below x) (done_executions n works)))) so in
          record {
            newest = row;
            found = found;
            completed = both.0;
            since = none-from row.execution x (done_executions n works) (not-false _ both.1);
          }
    ]) refl is

pub kept-back : (n : ℕ) (works : List WorkRow) (x p : ℕ) → AreRising works → IsKept n works x p → is_kept_in n works x p ≡ true
kept-back n works x p rising k =
    let before : done_executions n (works_before x works) ≡ filter (is_below x) (done_executions n works) = done-executions-before n x works rising in
    ap (λ done. is_completed_after done (newest_of_partition (works_before x works) p)) before
    ∙ (ap (is_completed_after (filter (is_below x) (done_executions n works))) k.found
    ∙ (ap (λ b. b && not (list_any (λ y. nat_le k.newest.execution y) (filter (is_below x) (done_executions n works)))) k.completed
    ∙ ap not (from-none k.newest.execution x (done_executions n works) k.since)))

-- ---- Done

none-equal : (y : ℕ) (xs : List ℕ) → Each (λ z. z < y) xs → list_any (λ d. d == y) xs ≡ false
none-equal y [] h = refl
none-equal y (x ∷ xs) h =
    let off : (x == y) ≡ false = ne_eqb x y (λ same. let lt : x < y = h.0 in omega (arith, lt, same)) in
    ap (λ b. b || list_any (λ d. d == y) xs) off ∙ none-equal y xs h.1

-- whether one of these job executions is done, by those before it
among-is : (n y : ℕ) (works : List WorkRow) (executions : List ℕ) → AreFalling executions
    → list_any (λ d. d == y) (done_among n works executions)
    ≡ (list_any (λ d. d == y) executions && is_done_after n (done_among n works (filter (is_below y) executions)) works y)
among-is n y works [] h = refl
among-is n y works (x ∷ older) h =
    let done : List ℕ = done_among n works older in
    on-it (x == y)
    (λ on.
    let same : x ≡ y = eqb-true x y on in
    let below : Each (λ z. z < y) older = subst (λ w. Each (λ z. z < w) older) same h.0 in
    let none : list_any (λ d. d == y) done ≡ false = none-equal y done (each-among (λ z. z < y) n works older below) in
    let self : nat_lt x y ≡ false = (on-it (nat_lt x y) (λ bad. absurd (let lt = ltb-true x y bad in omega (arith, lt, same))) (λ no. no)) in
    let rest : filter (is_below y) (x ∷ older) ≡ older =
    filter-one (is_below y) x older false self ∙ filter-all (is_below y) older (each-map (λ z. z < y) (λ z. is_below y z ≡ true) older (λ z lt. lt-ltb z y lt) below) in
    let left : list_any (λ d. d == y) (done_among n works (x ∷ older)) ≡ is_done_after n done works x =
    (elim (is_done_after n done works x) as (λ b. list_any (λ d. d == y) (cond b (x ∷ done) done) ≡ b) [
      | true ↦ ap (λ b. b || list_any (λ d. d == y) done) on
      | false ↦ none
    ]) in
    left ∙ (ap (is_done_after n done works) same
    ∙ sym (ap (λ b. (b || list_any (λ d. d == y) older) && is_done_after n (done_among n works (filter (is_below y) (x ∷ older))) works y) on
    ∙ ap (λ l. is_done_after n (done_among n works l) works y) rest)))
    (λ off.
    let left : list_any (λ d. d == y) (done_among n works (x ∷ older)) ≡ list_any (λ d. d == y) done =
    (elim (is_done_after n done works x) as (λ b. list_any (λ d. d == y) (cond b (x ∷ done) done) ≡ list_any (λ d. d == y) done) [
      | true ↦ ap (λ b. b || list_any (λ d. d == y) done) off
      | false ↦ refl
    ]) in
    let drop : (list_any (λ d. d == y) (x ∷ older) && is_done_after n (done_among n works (filter (is_below y) (x ∷ older))) works y)
    ≡ (list_any (λ d. d == y) older && is_done_after n (done_among n works (filter (is_below y) (x ∷ older))) works y) =
    ap (λ b. (b || list_any (λ d. d == y) older) && is_done_after n (done_among n works (filter (is_below y) (x ∷ older))) works y) off in
    left ∙ (among-is n y works older h.1
    ∙ (sym (on-it (nat_lt x y)
    (λ below.
    let lt : x < y = ltb-true x y below in
    let none : list_any (λ d. d == y) older ≡ false = none-equal y older (each-map (λ z. z < x) (λ z. z < y) older (λ z under. omega (arith, under, lt)) h.0) in
    ap (λ b. b && is_done_after n (done_among n works (filter (is_below y) (x ∷ older))) works y) none
    ∙ sym (ap (λ b. b && is_done_after n (done_among n works (filter (is_below y) older)) works y) none))
    (λ above. ap (λ l. list_any (λ d. d == y) older && is_done_after n (done_among n works l) works y) (filter-one (is_below y) x older false above)))
    ∙ sym drop)))

-- a job execution has work exactly where it is among those with work
any-append : (y : ℕ) (xs : List ℕ) (x : ℕ) → list_any (λ d. d == y) (xs ++ x ∷ []) ≡ (x == y || list_any (λ d. d == y) xs)
any-append y [] x = refl
any-append y (z ∷ zs) x =
    ap (λ b. z == y || b) (any-append y zs x)
    ∙ (elim (z == y) as (λ b. (b || (x == y || list_any (λ d. d == y) zs)) ≡ (x == y || (b || list_any (λ d. d == y) zs))) [
      | true ↦ (elim (x == y) as (λ c. true ≡ (c || true)) [ true ↦ refl | false ↦ refl ])
      | false ↦ refl
    ])

any-back : (y : ℕ) (rows : List WorkRow) → list_any (λ d. d == y) (numbers_back rows) ≡ list_any (λ (row : WorkRow). row.execution == y) rows
any-back y [] = refl
any-back y (r ∷ rs) =
    ap (list_any (λ d. d == y)) (back-more r rs) ∙ (any-append y (numbers_back rs) r.execution ∙ ap (λ b. r.execution == y || b) (any-back y rs))

any-other : (y x : ℕ) (xs : List ℕ) → (x == y) ≡ false → list_any (λ d. d == y) (filter (λ z. not (z == x)) xs) ≡ list_any (λ d. d == y) xs
any-other y x xs off =
    any-filter (λ d. d == y) (λ z. not (z == x)) xs
    (λ z on. ap not (ne_eqb z x (λ same. let bad : true ≡ false = sym on ∙ (ap (λ k. k == y) same ∙ off) in cc)))

any-once : (y : ℕ) (xs : List ℕ) → list_any (λ d. d == y) (each_once xs) ≡ list_any (λ d. d == y) xs
any-once y [] = refl
any-once y (x ∷ xs) =
    on-it (x == y)
    (λ on. ap (λ b. b || list_any (λ d. d == y) (filter (λ z. not (z == x)) (each_once xs))) on ∙ sym (ap (λ b. b || list_any (λ d. d == y) xs) on))
    (λ off. ap (λ b. x == y || b) (any-other y x (each_once xs) off ∙ any-once y xs))

has-work : (y : ℕ) (works : List WorkRow) → list_any (λ d. d == y) (executions_with works) ≡ list_any (λ (row : WorkRow). row.execution == y) works
has-work y works = any-once y (numbers_back works) ∙ any-back y works

-- THE DONE ONES: y has work, and keeps or completes each partition
pub done-is : (n : ℕ) (works : List WorkRow) (y : ℕ) → AreRising works
    → is_done_in n works y
    ≡ (list_any (λ (row : WorkRow). row.execution == y) works && list_all (λ p. is_kept_in n works y p || completes_in works y p) (numbers_to n))
done-is n works y rising =
    among-is n y works (executions_with works) (falling-executions works rising)
    ∙ (ap (λ b. b && is_done_after n (done_among n works (filter (is_below y) (executions_with works))) works y) (has-work y works)
    ∙ ap (λ done. list_any (λ (row : WorkRow). row.execution == y) works && is_done_after n done works y)
    (among-filter n y works (executions_with works) (falling-executions works rising) ∙ sym (done-executions-before n y works rising)))

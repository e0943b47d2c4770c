-- Checkpoints that stand in a list for each job instance, as one list.
use Rattle.std.proofs.Common.{◌≡◌, ◌≢◌, ℕ, ◌==◌, ◌&&◌, Bool, true, false, not, cond, Option, None, Some, length, List, [], ◌∷◌, ◌++◌, find, filter, refl, sym, ◌∙◌, ap, subst, arith}
use Rattle.std.specs.List.{AllByRecursion, flat_map}
use Rattle.std.specs.List.Sorted.{IsStrictlySortedBy}
use Rattle.std.specs.Map.{keys_of, lookup, set_value, remove_entry, values_of}
use Rattle.std.specs.BTreeMap.{is_at, insert_entry}
use Rattle.std.specs.Option.{option_map}
use Rattle.std.specs.Bool.{nat_lt}
use Rattle.std.specs.Ordering.{nat_cmp, is_eq, match_ordering}
use Rattle.std.specs.declared.cmp.Ordering.{Ordering}
use Rattle.std.specs.declared.cmp.Ordering.TheVariants.{Less, Equal, Greater}
use Rattle.std.proofs.lemmas.Bool.{eqb-true, eq-eqb, ne_eqb, ltb-true}
use Rattle.std.proofs.lemmas.List.{append-nil}
use Rattle.std.proofs.lemmas.List.Elements.{filter-append}
use Rattle.batch_history.specs.declared.rows.CheckpointRow.{CheckpointRow}
use Rattle.batch_history.specs.Checkpoints.{InstanceStep, is_same_step}
use Rattle.walk_rules.specs.Keys.{is_same_key}
use Rattle.record_lists.specs.Listed.{AreOf, AreOwn, AreListed, rows_listed}
use Rattle.record_lists.specs.Places.{step_of, is_place, mark_at, checkpoints_there, AreApart}
use Rattle.record_lists.specs.Placed.{marked, with_mark, without_mark, SetsMark}
use Rattle.record_lists.proofs.Marks.{mark_with, mark_without}

-- Keys

-- how a number compares to a key
abbrev compared : Bool → Bool → Ordering
compared lt eq = cond lt Less (cond eq Equal Greater)

is-equal : (eq : Bool) → is_eq (cond eq Equal Greater) ≡ eq
is-equal true = refl
is-equal false = refl

less-only : (lt eq : Bool) → compared lt eq ≡ Less → lt ≡ true
less-only true eq same = refl
less-only false true same = cc
less-only false false same = cc

-- a query for a number passes the keys that are it
pub at_key : (i k : ℕ) → is_at (nat_cmp i) k ≡ (i == k)
at_key i k =
    (elim (nat_lt i k) as (λ b. nat_lt i k ≡ b → is_eq (compared b (i == k)) ≡ (i == k)) [
      | true ↦ λ lt. sym (ne_eqb i k (λ (e : i ≡ k). omega (arith, ltb-true i k lt, e)))
      | false ↦ λ ge. is-equal (i == k)
    ]) refl

-- a number that compares as less is not the key
less-apart : (i k : ℕ) → nat_cmp i k ≡ Less → i ≢ k
less-apart i k less e = omega (arith, ltb-true i k (less-only (nat_lt i k) (i == k) less), e)

turned : (i k : ℕ) → (i == k) ≡ false → (k == i) ≡ false
turned i k off = ne_eqb k i (λ (e : k ≡ i). let on : (i == k) ≡ true = eq-eqb i k (sym e) in cc)

-- Checkpoints of one job instance

-- whether a checkpoint is of this job instance
abbrev is_of : ℕ → CheckpointRow → Bool
is_of i row = row.instance == i

own-kept : (i : ℕ) (rows : List CheckpointRow) → AreOf i rows → filter (is_of i) rows ≡ rows
own-kept i [] own = refl
own-kept i (row ∷ rest) own =
    ap (λ b. cond b (row ∷ filter (is_of i) rest) (filter (is_of i) rest)) (eq-eqb row.instance i own.0)
    ∙ ap (λ l. row ∷ l) (own-kept i rest own.1)

others-dropped : (i k : ℕ) (rows : List CheckpointRow) → AreOf k rows → (k == i) ≡ false → filter (is_of i) rows ≡ []
others-dropped i k [] own off = refl
others-dropped i k (row ∷ rest) own off =
    ap (λ b. cond b (row ∷ filter (is_of i) rest) (filter (is_of i) rest)) (ap (λ n. n == i) own.0 ∙ off)
    ∙ others-dropped i k rest own.1 off

own-dropped : (i : ℕ) (rows : List CheckpointRow) → AreOf i rows → checkpoints_there (λ j. j == i) rows ≡ []
own-dropped i [] own = refl
own-dropped i (row ∷ rest) own =
    ap (λ b. cond (not b) (row ∷ checkpoints_there (λ j. j == i) rest) (checkpoints_there (λ j. j == i) rest)) (eq-eqb row.instance i own.0)
    ∙ own-dropped i rest own.1

others-kept : (i k : ℕ) (rows : List CheckpointRow) → AreOf k rows → (k == i) ≡ false → checkpoints_there (λ j. j == i) rows ≡ rows
others-kept i k [] own off = refl
others-kept i k (row ∷ rest) own off =
    ap (λ b. cond (not b) (row ∷ checkpoints_there (λ j. j == i) rest) (checkpoints_there (λ j. j == i) rest)) (ap (λ n. n == i) own.0 ∙ off)
    ∙ ap (λ l. row ∷ l) (others-kept i k rest own.1 off)

pub of_with : (i : ℕ) (p : InstanceStep) (mark : List ℕ) (rows : List CheckpointRow) → p.instance ≡ i → AreOf i rows → AreOf i (with_mark p mark rows)
of_with i p mark [] same own = (same, tt)
of_with i p mark (row ∷ rest) same own =
    elim (is_place p row) as (λ b. AreOf i (cond b (marked p mark ∷ rest) (row ∷ with_mark p mark rest))) [
      | true ↦ (same, own.1)
      | false ↦ (own.0, of_with i p mark rest same own.1)
    ]

pub of_filtered : (i : ℕ) (stays : CheckpointRow → Bool) (rows : List CheckpointRow) → AreOf i rows → AreOf i (filter stays rows)
of_filtered i stays [] own = tt
of_filtered i stays (row ∷ rest) own =
    elim (stays row) as (λ b. AreOf i (cond b (row ∷ filter stays rest) (filter stays rest))) [
      | true ↦ (own.0, of_filtered i stays rest own.1)
      | false ↦ of_filtered i stays rest own.1
    ]

-- the checkpoint of a step is among those of its job instance
pub mark_among : (p : InstanceStep) (rows : List CheckpointRow) → mark_at (filter (is_of p.instance) rows) p ≡ mark_at rows p
mark_among p [] = refl
mark_among p (row ∷ rest) =
    let own : List CheckpointRow = filter (is_of p.instance) rest in
    let head : (b : Bool) (l : List CheckpointRow) → option_map (λ (r : CheckpointRow). r.mark) (cond b (Some row) (find (is_place p) l)) ≡ cond b (Some row.mark) (mark_at l p) =
    λ b l. elim b as (λ c. option_map (λ (r : CheckpointRow). r.mark) (cond c (Some row) (find (is_place p) l)) ≡ cond c (Some row.mark) (mark_at l p)) [
      | true ↦ refl
      | false ↦ refl
    ] in
    (elim (row.instance == p.instance) as (λ b. (row.instance == p.instance) ≡ b → mark_at (cond b (row ∷ own) own) p ≡ mark_at (row ∷ rest) p) [
      | true ↦ λ is. head (is_place p row) own ∙ (ap (cond (is_place p row) (Some row.mark)) (mark_among p rest) ∙ sym (head (is_place p row) rest))
      | false ↦ λ off. mark_among p rest
          ∙ (ap (λ b. cond (b && is_same_key row.step p.step) (Some row.mark) (mark_at rest p)) (sym off)
          ∙ sym (head (is_place p row) rest))
    ]) refl

-- no checkpoint of a step in one list, and none in another
mark-behind : (p : InstanceStep) (front rest : List CheckpointRow) → mark_at front p ≡ None → mark_at rest p ≡ None → mark_at (front ++ rest) p ≡ None
mark-behind p [] rest none later = later
mark-behind p (row ∷ front) rest none later =
    (elim (is_place p row) as (λ b. option_map (λ (r : CheckpointRow). r.mark) (cond b (Some row) (find (is_place p) front)) ≡ None
    → option_map (λ (r : CheckpointRow). r.mark) (cond b (Some row) (find (is_place p) (front ++ rest))) ≡ None) [
      | true ↦ λ some. cc
      | false ↦ λ n. mark-behind p front rest n later
    ]) none

-- Lists by their job instances

module _ {X : Type 0} (rows : X → List CheckpointRow) where
  -- the checkpoints that a look-up found
  abbrev pub rows_found : Option X → List CheckpointRow
  rows_found None = []
  rows_found (Some x) = rows x

  -- those of a job instance that is below all keys
  none-below : (i : ℕ) (es : List (ℕ × X)) → AllByRecursion (λ k. nat_cmp i k ≡ Less) (keys_of es) → AreOwn rows es → filter (is_of i) (rows_listed rows es) ≡ []
  none-below i [] low own = refl
  none-below i (e ∷ es) low own =
      filter-append (is_of i) (rows e.1) (rows_listed rows es)
      ∙ (ap (λ l. l ++ filter (is_of i) (rows_listed rows es)) (others-dropped i e.0 (rows e.1) own.0 (turned i e.0 (ne_eqb i e.0 (less-apart i e.0 low.0))))
      ∙ none-below i es low.1 own.2)

  all-above : (i : ℕ) (es : List (ℕ × X)) → AllByRecursion (λ k. nat_cmp i k ≡ Less) (keys_of es) → AreOwn rows es → checkpoints_there (λ j. j == i) (rows_listed rows es) ≡ rows_listed rows es
  all-above i [] low own = refl
  all-above i (e ∷ es) low own =
      filter-append (λ row. not (row.instance == i)) (rows e.1) (rows_listed rows es)
      ∙ (ap (λ l. l ++ checkpoints_there (λ j. j == i) (rows_listed rows es)) (others-kept i e.0 (rows e.1) own.0 (turned i e.0 (ne_eqb i e.0 (less-apart i e.0 low.0))))
      ∙ ap (λ l. rows e.1 ++ l) (all-above i es low.1 own.2))

  -- a look-up finds the checkpoints of a job instance
  found-by : (i : ℕ) (es : List (ℕ × X)) → IsStrictlySortedBy nat_cmp (keys_of es) → AreOwn rows es
      → rows_found (lookup (is_at (nat_cmp i)) es) ≡ filter (is_of i) (rows_listed rows es)
  unfolding IsStrictlySortedBy
  found-by i [] up own = refl
  found-by i (e ∷ es) up own =
      let all : filter (is_of i) (rows_listed rows (e ∷ es)) ≡ filter (is_of i) (rows e.1) ++ filter (is_of i) (rows_listed rows es) =
      filter-append (is_of i) (rows e.1) (rows_listed rows es) in
      (elim (is_at (nat_cmp i) e.0) as (λ b. is_at (nat_cmp i) e.0 ≡ b → rows_found (cond b (Some e.1) (lookup (is_at (nat_cmp i)) es)) ≡ filter (is_of i) (rows_listed rows (e ∷ es))) [
        | true ↦ λ here.
            let same : e.0 ≡ i = sym (eqb-true i e.0 (sym (at_key i e.0) ∙ here)) in
            let low : AllByRecursion (λ k. nat_cmp i k ≡ Less) (keys_of es) = subst (λ n. AllByRecursion (λ k. nat_cmp n k ≡ Less) (keys_of es)) same up.0 in
            sym (all
            ∙ (ap (λ l. l ++ filter (is_of i) (rows_listed rows es)) (own-kept i (rows e.1) (subst (λ n. AreOf n (rows e.1)) same own.0))
            ∙ (ap (λ l. rows e.1 ++ l) (none-below i es low own.2) ∙ append-nil (rows e.1))))
        | false ↦ λ off. found-by i es up.1 own.2
            ∙ sym (all ∙ ap (λ l. l ++ filter (is_of i) (rows_listed rows es)) (others-dropped i e.0 (rows e.1) own.0 (turned i e.0 (sym (at_key i e.0) ∙ off))))
      ]) refl

  pub found_of : (i : ℕ) (es : List (ℕ × X)) → AreListed rows es → rows_found (lookup (is_at (nat_cmp i)) es) ≡ filter (is_of i) (rows_listed rows es)
  found_of i es h = found-by i es h.rising h.own

  -- the list of a job instance goes
  without-by : (i : ℕ) (es : List (ℕ × X)) → IsStrictlySortedBy nat_cmp (keys_of es) → AreOwn rows es
      → rows_listed rows (remove_entry (is_at (nat_cmp i)) es) ≡ checkpoints_there (λ j. j == i) (rows_listed rows es)
  unfolding IsStrictlySortedBy
  without-by i [] up own = refl
  without-by i (e ∷ es) up own =
      let there : List CheckpointRow → List CheckpointRow = checkpoints_there (λ j. j == i) in
      let all : there (rows_listed rows (e ∷ es)) ≡ there (rows e.1) ++ there (rows_listed rows es) =
      filter-append (λ row. not (row.instance == i)) (rows e.1) (rows_listed rows es) in
      (elim (is_at (nat_cmp i) e.0) as (λ b. is_at (nat_cmp i) e.0 ≡ b
      → rows_listed rows (cond b es (e ∷ remove_entry (is_at (nat_cmp i)) es)) ≡ there (rows_listed rows (e ∷ es))) [
        | true ↦ λ here.
            let same : e.0 ≡ i = sym (eqb-true i e.0 (sym (at_key i e.0) ∙ here)) in
            let low : AllByRecursion (λ k. nat_cmp i k ≡ Less) (keys_of es) = subst (λ n. AllByRecursion (λ k. nat_cmp n k ≡ Less) (keys_of es)) same up.0 in
            sym (all
            ∙ (ap (λ l. l ++ there (rows_listed rows es)) (own-dropped i (rows e.1) (subst (λ n. AreOf n (rows e.1)) same own.0))
            ∙ all-above i es low own.2))
        | false ↦ λ off.
            ap (λ l. rows e.1 ++ l) (without-by i es up.1 own.2)
            ∙ sym (all ∙ ap (λ l. l ++ there (rows_listed rows es)) (others-kept i e.0 (rows e.1) own.0 (turned i e.0 (sym (at_key i e.0) ∙ off))))
      ]) refl

  pub without_of : (i : ℕ) (es : List (ℕ × X)) → AreListed rows es
      → rows_listed rows (remove_entry (is_at (nat_cmp i)) es) ≡ checkpoints_there (λ j. j == i) (rows_listed rows es)
  without_of i es h = without-by i es h.rising h.own

  -- the list of one job instance is another one
  pub set_of : (i n : ℕ) (w : X) (before after : List (ℕ × X)) → i ≡ n → AreListed rows before → AreListed rows after
      → ((q : ℕ) → lookup (is_at (nat_cmp q)) after ≡ cond (is_at (nat_cmp i) q) (Some w) (lookup (is_at (nat_cmp q)) before))
      → (j : ℕ) → filter (is_of j) (rows_listed rows after) ≡ cond (n == j) (rows w) (filter (is_of j) (rows_listed rows before))
  set_of i n w before after same old new updates j =
      sym (found_of j after new)
      ∙ (ap rows_found (updates j)
      ∙ (ap (λ b. rows_found (cond b (Some w) (lookup (is_at (nat_cmp j)) before))) (at_key i j ∙ ap (λ k. k == j) same)
      ∙ elim (n == j) as (λ b. rows_found (cond b (Some w) (lookup (is_at (nat_cmp j)) before)) ≡ cond b (rows w) (filter (is_of j) (rows_listed rows before))) [
        | true ↦ refl
        | false ↦ found_of j before old
      ]))

  -- Each list is of its own job instance

  own-removed : (i : ℕ) (es : List (ℕ × X)) → AreOwn rows es → AreOwn rows (remove_entry (is_at (nat_cmp i)) es)
  own-removed i [] own = tt
  own-removed i (e ∷ es) own =
      elim (is_at (nat_cmp i) e.0) as (λ b. AreOwn rows (cond b es (e ∷ remove_entry (is_at (nat_cmp i)) es))) [
        | true ↦ own.2
        | false ↦ (own.0, own.1, own-removed i es own.2)
      ]

  pub removed : (i : ℕ) (before after : List (ℕ × X)) → AreListed rows before → after ≡ remove_entry (is_at (nat_cmp i)) before
      → IsStrictlySortedBy nat_cmp (keys_of after) → AreListed rows after
  removed i before after h is up =
      record { rising = up; own = subst (AreOwn rows) (sym is) (own-removed i before h.own) }

  own-set : (i : ℕ) (w : X) (es : List (ℕ × X)) → AreOf i (rows w) → AreApart (rows w) → AreOwn rows es → AreOwn rows (set_value (is_at (nat_cmp i)) es w)
  own-set i w [] its apart own = tt
  own-set i w (e ∷ es) its apart own =
      (elim (is_at (nat_cmp i) e.0) as (λ b. is_at (nat_cmp i) e.0 ≡ b → AreOwn rows (cond b ((e.0, w) ∷ es) (e ∷ set_value (is_at (nat_cmp i)) es w))) [
        | true ↦ λ here. (subst (λ n. AreOf n (rows w)) (eqb-true i e.0 (sym (at_key i e.0) ∙ here)) its, apart, own.2)
        | false ↦ λ off. (own.0, own.1, own-set i w es its apart own.2)
      ]) refl

  pub changed : (i : ℕ) (w : X) (before after : List (ℕ × X)) → AreListed rows before → after ≡ set_value (is_at (nat_cmp i)) before w
      → IsStrictlySortedBy nat_cmp (keys_of after) → AreOf i (rows w) → AreApart (rows w) → AreListed rows after
  changed i w before after h is up its apart =
      record { rising = up; own = subst (AreOwn rows) (sym is) (own-set i w before its apart h.own) }

  own-inserted : (i : ℕ) (w : X) (es : List (ℕ × X)) → AreOf i (rows w) → AreApart (rows w) → AreOwn rows es → AreOwn rows (insert_entry nat_cmp es i w)
  own-inserted i w [] its apart own = (its, apart, tt)
  own-inserted i w (e ∷ es) its apart own =
      (elim (nat_cmp i e.0) as (λ o. nat_cmp i e.0 ≡ o → AreOwn rows (match_ordering o ((i, w) ∷ e ∷ es) ((e.0, w) ∷ es) (e ∷ insert_entry nat_cmp es i w))) [
        | Less ↦ λ less. (its, apart, own)
        | Equal ↦ λ same. (subst (λ n. AreOf n (rows w)) (eqb-true i e.0 (sym (at_key i e.0) ∙ ap is_eq same)) its, apart, own.2)
        | Greater ↦ λ more. (own.0, own.1, own-inserted i w es its apart own.2)
      ]) refl

  pub inserted : (i : ℕ) (w : X) (before after : List (ℕ × X)) → AreListed rows before → after ≡ insert_entry nat_cmp before i w
      → IsStrictlySortedBy nat_cmp (keys_of after) → AreOf i (rows w) → AreApart (rows w) → AreListed rows after
  inserted i w before after h is up its apart =
      record { rising = up; own = subst (AreOwn rows) (sym is) (own-inserted i w before its apart h.own) }

  -- a list that was written back as it was
  pub same_set : (test : ℕ → Bool) (w : X) (es : List (ℕ × X)) → rows w ≡ rows_found (lookup test es) → rows_listed rows (set_value test es w) ≡ rows_listed rows es
  same_set test w [] same = refl
  same_set test w (e ∷ es) same =
      (elim (test e.0) as (λ b. rows w ≡ rows_found (cond b (Some e.1) (lookup test es)) → rows_listed rows (cond b ((e.0, w) ∷ es) (e ∷ set_value test es w)) ≡ rows_listed rows (e ∷ es)) [
        | true ↦ λ s. ap (λ l. l ++ rows_listed rows es) s
        | false ↦ λ s. ap (λ l. rows e.1 ++ l) (same_set test w es s)
      ]) same

  -- the checkpoints that a look-up found are of that job instance, one of a step at most
  found-own : (i : ℕ) (es : List (ℕ × X)) → AreOwn rows es → AreOf i (rows_found (lookup (is_at (nat_cmp i)) es)) × AreApart (rows_found (lookup (is_at (nat_cmp i)) es))
  found-own i [] own = (tt, tt)
  found-own i (e ∷ es) own =
      (elim (is_at (nat_cmp i) e.0) as (λ b. is_at (nat_cmp i) e.0 ≡ b
      → AreOf i (rows_found (cond b (Some e.1) (lookup (is_at (nat_cmp i)) es))) × AreApart (rows_found (cond b (Some e.1) (lookup (is_at (nat_cmp i)) es)))) [
        | true ↦ λ here. (subst (λ n. AreOf n (rows e.1)) (sym (eqb-true i e.0 (sym (at_key i e.0) ∙ here))) own.0, own.1)
        | false ↦ λ off. found-own i es own.2
      ]) refl

  pub own_found : (i : ℕ) (es : List (ℕ × X)) → AreListed rows es
      → AreOf i (rows_found (lookup (is_at (nat_cmp i)) es)) × AreApart (rows_found (lookup (is_at (nat_cmp i)) es))
  own_found i es h = found-own i es h.own

  -- One checkpoint of a step at most

  none-marked : (p : InstanceStep) (rest : List CheckpointRow) → filter (is_of p.instance) rest ≡ [] → mark_at rest p ≡ None
  none-marked p rest none = sym (mark_among p rest) ∙ ap (λ l. mark_at l p) none

  append-apart : (i : ℕ) (front rest : List CheckpointRow) → AreOf i front → AreApart front → filter (is_of i) rest ≡ [] → AreApart rest → AreApart (front ++ rest)
  append-apart i [] rest its apart none later = later
  append-apart i (row ∷ front) rest its apart none later =
      let mine : filter (is_of row.instance) rest ≡ [] = subst (λ n. filter (is_of n) rest ≡ []) (sym its.0) none in
      (mark-behind (step_of row) front rest apart.0 (none-marked (step_of row) rest mine), append-apart i front rest its.1 apart.1 none later)

  apart-by : (es : List (ℕ × X)) → IsStrictlySortedBy nat_cmp (keys_of es) → AreOwn rows es → AreApart (rows_listed rows es)
  unfolding IsStrictlySortedBy
  apart-by [] up own = tt
  apart-by (e ∷ es) up own =
      append-apart e.0 (rows e.1) (rows_listed rows es) own.0 own.1 (none-below e.0 es up.0 own.2) (apart-by es up.1 own.2)

  pub apart_of : (es : List (ℕ × X)) → AreListed rows es → AreApart (rows_listed rows es)
  apart_of es h = apart-by es h.rising h.own

-- What is set

-- the list of one job instance has another checkpoint of a step, or none, and those of all others are what they were
pub marks_changed : (before after : List CheckpointRow) (p : InstanceStep) (mark : Option (List ℕ)) (new : List CheckpointRow)
    → ((j : ℕ) → filter (is_of j) after ≡ cond (p.instance == j) new (filter (is_of j) before))
    → ((q : InstanceStep) → mark_at new q ≡ cond (is_same_step q (Some p)) mark (mark_at (filter (is_of p.instance) before) q))
    → SetsMark before after p mark
marks_changed before after p mark new changes sets q =
    sym (mark_among q after)
    ∙ (ap (λ l. mark_at l q) (changes q.instance)
    ∙ (elim (p.instance == q.instance) as (λ b. (p.instance == q.instance) ≡ b
    → mark_at (cond b new (filter (is_of q.instance) before)) q ≡ cond (b && is_same_key p.step q.step) mark (mark_at before q)) [
      | true ↦ λ here.
          let same : p.instance ≡ q.instance = eqb-true p.instance q.instance here in
          sets q
          ∙ (ap (λ b. cond (b && is_same_key p.step q.step) mark (mark_at (filter (is_of p.instance) before) q)) here
          ∙ ap (cond (is_same_key p.step q.step) mark) (ap (λ n. mark_at (filter (is_of n) before) q) same ∙ mark_among q before))
      | false ↦ λ off. mark_among q before
    ]) refl)

pub marks_put : (before after known new : List CheckpointRow) (p : InstanceStep) (mark : List ℕ)
    → ((j : ℕ) → filter (is_of j) after ≡ cond (p.instance == j) new (filter (is_of j) before))
    → known ≡ filter (is_of p.instance) before → new ≡ with_mark p mark known → SetsMark before after p (Some mark)
marks_put before after known new p mark changes is put =
    marks_changed before after p (Some mark) new changes (λ q.
    ap (λ l. mark_at l q) put
    ∙ (mark_with p mark q known
    ∙ ap (λ l. cond (is_same_step q (Some p)) (Some mark) (mark_at l q)) is))

pub marks_cleared : (before after known new : List CheckpointRow) (p : InstanceStep)
    → ((j : ℕ) → filter (is_of j) after ≡ cond (p.instance == j) new (filter (is_of j) before))
    → known ≡ filter (is_of p.instance) before → new ≡ without_mark p known → SetsMark before after p None
marks_cleared before after known new p changes is left =
    marks_changed before after p None new changes (λ q.
    ap (λ l. mark_at l q) left
    ∙ (mark_without p q known
    ∙ ap (λ l. cond (is_same_step q (Some p)) None (mark_at l q)) is))

-- a step of a job instance without checkpoints has none
pub marks_absent : (rows : List CheckpointRow) (p : InstanceStep) → [] ≡ filter (is_of p.instance) rows → SetsMark rows rows p None
marks_absent rows p none =
    marks_cleared rows rows [] [] p (λ j.
    (elim (p.instance == j) as (λ b. (p.instance == j) ≡ b → filter (is_of j) rows ≡ cond b [] (filter (is_of j) rows)) [
      | true ↦ λ here. ap (λ n. filter (is_of n) rows) (sym (eqb-true p.instance j here)) ∙ sym none
      | false ↦ λ off. refl
    ]) refl) none refl

-- Where a job instance has no checkpoint, none goes with it

pub empty_list : {X : Type 0} (rows : List X) → (length rows == 0) ≡ true → rows ≡ []
empty_list [] none = refl
empty_list (row ∷ rest) none =
    let e : length (row ∷ rest) ≡ 0 = eqb-true (length (row ∷ rest)) 0 none in
    absurd (omega (arith, e))

pub none_gone : (i : ℕ) (rows : List CheckpointRow) → filter (is_of i) rows ≡ [] → checkpoints_there (λ j. j == i) rows ≡ rows
none_gone i [] none = refl
none_gone i (row ∷ rest) none =
    (elim (row.instance == i) as (λ b. cond b (row ∷ filter (is_of i) rest) (filter (is_of i) rest) ≡ []
    → cond (not b) (row ∷ checkpoints_there (λ j. j == i) rest) (checkpoints_there (λ j. j == i) rest) ≡ row ∷ rest) [
      | true ↦ λ some. cc
      | false ↦ λ later. ap (λ l. row ∷ l) (none_gone i rest later)
    ]) none

-- all checkpoints, list by list
pub values_listed : {X : Type 0} (rows : X → List CheckpointRow) (lists : List (ℕ × X)) → flat_map rows (values_of lists) ≡ rows_listed rows lists
values_listed rows [] = refl
values_listed rows (e ∷ rest) = ap (λ (l : List CheckpointRow). rows e.1 ++ l) (values_listed rows rest)

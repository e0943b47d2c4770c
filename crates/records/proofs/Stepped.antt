-- The index of the work items of each step of each job instance, through each change of the rows.
use Rattle.std.proofs.Common.{◌≡◌, ℕ, ◌==◌, ◌&&◌, ◌||◌, Bool, true, false, not, cond, find, Option, None, Some, bytes_eq, List, [], ◌∷◌, ◌++◌, map, filter, unwrap_or, IfSome, slice_get, length, ◌-◌, suc, refl, sym, ◌∙◌, ap, subst, arith, Result, Ok, Err}
use Rattle.std.specs.List.{last_or}
use Rattle.std.specs.Option.{option_map}
use Rattle.std.specs.Result.{OnOk, OnErr}
use Rattle.std.proofs.lemmas.Bool.{and_parts, eqb-true, eq-eqb, ne_eqb}
use Rattle.batch_history.specs.Lists.{change_first, is_at}
use Rattle.batch_history.specs.Replies.{is_execution}
use Rattle.batch_history.specs.Restarts.{newest_work, works_of_step}
use Rattle.batch_history.specs.Rows.{instance_in, is_gone}
use Rattle.batch_history.specs.Works.{is_work}
use Rattle.batch_history.specs.declared.rows.ExecutionRow.{ExecutionRow}
use Rattle.batch_history.specs.declared.rows.WorkRow.{WorkRow}
use Rattle.records.specs.Belonging.{is_work_of_instance, works_of, works_of_instance}
use Rattle.records.specs.Indexes.{AreStepped, AreStepsOf, without_number}
use Rattle.records.specs.Left.{works_numbered}
use Rattle.records.specs.Maps.{Maps, AreAbove, AreBelow, AreRising, MayReplaceExecution, MayReplaceWork, work_numbers}
use Rattle.records.specs.Without.{without_instance}
use Rattle.records.proofs.Indexed.{above_filtered, flipped, found_again}
use Rattle.records.proofs.Lists.{row_added, undone}
use Rattle.records.proofs.Numbered.{below_filtered}

-- whether a work item is of this step of this job instance
abbrev is_of_step : ℕ → List ℕ → List ExecutionRow → WorkRow → Bool
is_of_step i q executions row = is_work_of_instance i executions row && bytes_eq row.element q

-- the numbers of those
abbrev numbers : ℕ → List ℕ → List ExecutionRow → List WorkRow → List ℕ
numbers i q executions works = work_numbers (filter (is_of_step i q executions) works)

module _ {R : Type 0} where
  filtered-twice : (p r : R → Bool) (rows : List R) → filter r (filter p rows) ≡ filter (λ row. p row && r row) rows
  filtered-twice p r [] = refl
  filtered-twice p r (row ∷ rest) =
      elim (p row) as (λ b. filter r (cond b (row ∷ filter p rest) (filter p rest)) ≡ cond (b && r row) (row ∷ filter (λ row. p row && r row) rest) (filter (λ row. p row && r row) rest)) [
        | true ↦ ap (λ (rs : List R). cond (r row) (row ∷ rs) rs) (filtered-twice p r rest)
        | false ↦ filtered-twice p r rest
      ]

as-one : (i : ℕ) (q : List ℕ) (executions : List ExecutionRow) (works : List WorkRow)
    → work_numbers (works_of_step q (works_of_instance i executions works)) ≡ numbers i q executions works
as-one i q executions works =
    ap (λ (rows : List WorkRow). work_numbers rows) (filtered-twice (is_work_of_instance i executions) (λ row. bytes_eq row.element q) works)

-- ---- Reading

module _ {R : Type 0} (num : R → ℕ) where
  abbrev numbered : List R → ℕ → Option R
  numbered rows n = find (λ row. num row == n) rows

  behind : (row : R) (rest : List R) (ns : List ℕ) → AreAbove (num row) ns → map (numbered (row ∷ rest)) ns ≡ map (numbered rest) ns
  behind row rest [] h = refl
  behind row rest (n ∷ ns) h =
      let off : (num row == n) ≡ false = ne_eqb (num row) n (λ e. omega (arith, h.0, e)) in
      ap (λ (b : Bool). cond b (Some row) (numbered rest n) ∷ map (numbered (row ∷ rest)) ns) off
      ∙ ap (λ (os : List (Option R)). numbered rest n ∷ os) (behind row rest ns h.1)

  pub found_each : (p : R → Bool) (rows : List R) → AreRising (map num rows) → map (numbered rows) (map num (filter p rows)) ≡ map (λ row. Some row) (filter p rows)
  found_each p [] h = refl
  found_each p (row ∷ rest) h =
      let more : map (numbered (row ∷ rest)) (map num (filter p rest)) ≡ map (λ row. Some row) (filter p rest) =
      behind row rest (map num (filter p rest)) (above_filtered num num p rest (num row) h.0) ∙ found_each p rest h.1 in
      elim (p row) as (λ b. map (numbered (row ∷ rest)) (map num (cond b (row ∷ filter p rest) (filter p rest))) ≡ map (λ row. Some row) (cond b (row ∷ filter p rest) (filter p rest))) [
        | true ↦ ap (λ (b : Bool). cond b (Some row) (numbered rest (num row)) ∷ map (numbered (row ∷ rest)) (map num (filter p rest))) (eq-eqb (num row) (num row) refl)
            ∙ ap (λ (os : List (Option R)). Some row ∷ os) more
        | false ↦ more
      ]

  last-mapped : (f : ℕ → Option R) (ns : List ℕ) (rows : List R) (o : Option ℕ) (r : Option R) (n : ℕ) → ((m : ℕ) → o ≡ Some m → f m ≡ r)
      → map f ns ≡ map (λ row. Some row) rows → last_or o ns ≡ Some n → f n ≡ last_or r rows
  last-mapped f [] [] o r n start each is = start n is
  last-mapped f [] (row ∷ rows) o r n start each is = cc
  last-mapped f (m ∷ ns) [] o r n start each is = cc
  last-mapped f (m ∷ ns) (row ∷ rows) o r n start each is =
      let here : f m ≡ Some row = cc in
      let rest : map f ns ≡ map (λ row. Some row) rows = cc in
      last-mapped f ns rows (Some m) (Some row) n (λ k same. (let one : m ≡ k = cc in subst (λ (j : ℕ). f j ≡ Some row) one here)) rest is

  -- the last of the rows that pass is found by its number
  last-found : (p : R → Bool) (rows : List R) (n : ℕ) → AreRising (map num rows) → last_or None (map num (filter p rows)) ≡ Some n → numbered rows n ≡ last_or None (filter p rows)
  last-found p rows n h is = last-mapped (numbered rows) (map num (filter p rows)) (filter p rows) None None n (λ m none. cc) (found_each p rows h) is

abbrev of_step : ℕ → List ℕ → List ExecutionRow → List WorkRow → List WorkRow
of_step i q executions works = works_of_step q (works_of_instance i executions works)

of-step : (i : ℕ) (q : List ℕ) (executions : List ExecutionRow) (works : List WorkRow) → of_step i q executions works ≡ filter (is_of_step i q executions) works
of-step i q executions works = filtered-twice (is_work_of_instance i executions) (λ row. bytes_eq row.element q) works

last-at : {X : Type 0} (x : X) (xs : List X) → slice_get (x ∷ xs) (length (x ∷ xs) - 1) ≡ last_or (Some x) xs
last-at x [] = refl
last-at {X = X} x (y ∷ ys) =
    let further : length (x ∷ y ∷ ys) - 1 ≡ suc (length (y ∷ ys) - 1) = omega arith in
    ap (λ (k : ℕ). slice_get (x ∷ y ∷ ys) k) further ∙ last-at y ys

last-there : (ns : List ℕ) (n : ℕ) → slice_get ns (length ns - 1) ≡ Some n → last_or None ns ≡ Some n
last-there [] n is = cc
last-there (m ∷ ns) n is = sym (last-at m ns) ∙ is

pub newest_found : (i : ℕ) (q : List ℕ) (executions : List ExecutionRow) (works : List WorkRow) (n : ℕ) → AreRising (work_numbers works)
    → slice_get (work_numbers (of_step i q executions works)) (length (work_numbers (of_step i q executions works)) - 1) ≡ Some n
    → find (is_work n) works ≡ newest_work (of_step i q executions works)
newest_found i q executions works n h is =
    let same = of-step i q executions works in
    let last : last_or None (work_numbers (of_step i q executions works)) ≡ Some n = last-there (work_numbers (of_step i q executions works)) n is in
    last-found (λ (row : WorkRow). row.work) (is_of_step i q executions) works n h (ap (λ (rows : List WorkRow). last_or None (work_numbers rows)) (sym same) ∙ last)
    ∙ ap newest_work (sym same)

pub works_found : (i : ℕ) (q : List ℕ) (executions : List ExecutionRow) (works : List WorkRow) (ns : List ℕ) → AreRising (work_numbers works)
    → ns ≡ work_numbers (of_step i q executions works) → works_numbered ns works ≡ of_step i q executions works
works_found i q executions works ns h is =
    let same = of-step i q executions works in
    ap (λ (ns : List ℕ). works_numbered ns works) (is ∙ ap (λ (rows : List WorkRow). work_numbers rows) same)
    ∙ (found_again (λ (row : WorkRow). row.work) (λ (row : WorkRow). row.work) (is_of_step i q executions) works h
    ∙ sym same)

-- a number above those of all work items is above those of a step
pub step_below : (maps : Maps) (steps : ℕ → List ℕ → List ℕ) (has : ℕ → Bool) (i : ℕ) (q : List ℕ) (new : ℕ) → AreStepped maps steps has → has i ≡ true
    → AreBelow new (work_numbers maps.works) → AreBelow new (steps i q)
step_below maps steps has i q new h there below =
    subst (AreBelow new) (sym (h i there q ∙ as-one i q maps.executions maps.works))
    (below_filtered (λ (row : WorkRow). row.work) (is_of_step i q maps.executions) maps.works new below)

-- a number put last under a step, and removed again
pub undone_step : (before middle after : ℕ → List ℕ → List ℕ) (has : ℕ → Bool) (owner : ℕ) (name : List ℕ) (number : ℕ) → (has owner ≡ true → AreBelow number (before owner name))
    → ((i : ℕ) (q : List ℕ) → has i ≡ true → middle i q ≡ cond (owner == i && bytes_eq name q) (before i q ++ number ∷ []) (before i q))
    → ((i : ℕ) (q : List ℕ) → after i q ≡ cond (owner == i && bytes_eq name q) (without_number number (middle i q)) (middle i q))
    → (i : ℕ) (q : List ℕ) → has i ≡ true → after i q ≡ before i q
undone_step before middle after has owner name number below more less i q there =
    (elim (owner == i) as (λ b. owner == i ≡ b → after i q ≡ before i q) [
      | true ↦ λ is.
          undone (before i) (middle i) (after i) name number (subst (λ (j : ℕ). AreBelow number (before j name)) (eqb-true owner i is) (below (subst (λ (j : ℕ). has j ≡ true) (sym (eqb-true owner i is)) there)))
          (λ p. more i p there ∙ ap (λ (b : Bool). cond (b && bytes_eq name p) (before i p ++ number ∷ []) (before i p)) is)
          (λ p. less i p ∙ ap (λ (b : Bool). cond (b && bytes_eq name p) (without_number number (middle i p)) (middle i p)) is) q
      | false ↦ λ off.
          less i q
          ∙ (ap (λ (b : Bool). cond (b && bytes_eq name q) (without_number number (middle i q)) (middle i q)) off
          ∙ (more i q there ∙ ap (λ (b : Bool). cond (b && bytes_eq name q) (before i q ++ number ∷ []) (before i q)) off))
    ]) refl

-- ---- Adding

-- a job execution without work items

other-found : (rows : List ExecutionRow) (new : ExecutionRow) (x : ℕ) → (x == new.execution) ≡ false → instance_in (rows ++ new ∷ []) x ≡ instance_in rows x
other-found [] new x off =
    ap (λ (b : Bool). option_map (λ (z : ExecutionRow). z.instance) (cond b (Some new) None)) (flipped new.execution x ∙ off)
other-found (row ∷ rest) new x off =
    elim (row.execution == x) as (λ b. option_map (λ (z : ExecutionRow). z.instance) (cond b (Some row) (find (is_execution x) (rest ++ new ∷ [])))
    ≡ option_map (λ (z : ExecutionRow). z.instance) (cond b (Some row) (find (is_execution x) rest))) [
      | true ↦ refl
      | false ↦ other-found rest new x off
    ]

works-stay : (i : ℕ) (q : List ℕ) (executions : List ExecutionRow) (new : ExecutionRow) (works : List WorkRow) → works_of new.execution works ≡ []
    → numbers i q (executions ++ new ∷ []) works ≡ numbers i q executions works
works-stay i q executions new [] none = refl
works-stay i q executions new (row ∷ rest) none =
    let later : List ExecutionRow = executions ++ new ∷ [] in
    (elim (row.execution == new.execution) as (λ b. row.execution == new.execution ≡ b → cond b (row ∷ works_of new.execution rest) (works_of new.execution rest) ≡ []
    → numbers i q later (row ∷ rest) ≡ numbers i q executions (row ∷ rest)) [
      | true ↦ λ here e. cc
      | false ↦ λ off e.
          let more : numbers i q later rest ≡ numbers i q executions rest = works-stay i q executions new rest e in
          ap (λ (o : Option ℕ). work_numbers (cond (is_at i o && bytes_eq row.element q) (row ∷ filter (is_of_step i q later) rest) (filter (is_of_step i q later) rest)))
          (other-found executions new row.execution off)
          ∙ elim (is_of_step i q executions row) as (λ b. work_numbers (cond b (row ∷ filter (is_of_step i q later) rest) (filter (is_of_step i q later) rest))
          ≡ work_numbers (cond b (row ∷ filter (is_of_step i q executions) rest) (filter (is_of_step i q executions) rest))) [
            | true ↦ ap (λ (ns : List ℕ). row.work ∷ ns) more
            | false ↦ more
          ]
    ]) refl none

pub execution_added : (maps : Maps) (steps after : ℕ → List ℕ → List ℕ) (has later : ℕ → Bool) (none : Bool) (new : ExecutionRow) → AreStepped maps steps has
    → (none ≡ true → works_of new.execution maps.works ≡ []) → ((i : ℕ) → later i ≡ (none && has i)) → (none ≡ true → (i : ℕ) (q : List ℕ) → after i q ≡ steps i q)
    → AreStepped record maps { executions = maps.executions ++ new ∷ [] } after later
execution_added maps steps after has later none new h fresh kept same = λ i there q.
    let is = and_parts none (has i) (sym (kept i) ∙ there) in
    same is.0 i q
    ∙ (h i is.1 q
    ∙ (as-one i q maps.executions maps.works
    ∙ (sym (works-stay i q maps.executions new maps.works (fresh is.0))
    ∙ sym (as-one i q (maps.executions ++ new ∷ []) maps.works))))

-- the lists of a job instance are put
pub steps_put : (maps : Maps) (steps after : ℕ → List ℕ → List ℕ) (has later : ℕ → Bool) (owner : ℕ) (made : List ℕ → List ℕ) → AreStepped maps steps has
    → AreStepsOf owner maps made → ((i : ℕ) → later i ≡ (owner == i || has i)) → ((i : ℕ) (q : List ℕ) → after i q ≡ cond (owner == i) (made q) (steps i q))
    → AreStepped maps after later
steps_put maps steps after has later owner made h own kept same = λ i there q.
    same i q
    ∙ (elim (owner == i) as (λ b. owner == i ≡ b → cond b (made q) (steps i q) ≡ work_numbers (works_of_step q (works_of_instance i maps.executions maps.works))) [
      | true ↦ λ is. subst (λ (j : ℕ). made q ≡ work_numbers (works_of_step q (works_of_instance j maps.executions maps.works))) (eqb-true owner i is) (own q)
      | false ↦ λ off. h i (ap (λ b. b || has i) (sym off) ∙ (sym (kept i) ∙ there)) q
    ]) refl

-- a work item
pub work_added : (maps : Maps) (steps after : ℕ → List ℕ → List ℕ) (has later : ℕ → Bool) (owner : Option ℕ) (new : WorkRow) → AreStepped maps steps has
    → owner ≡ instance_in maps.executions new.execution → ((i : ℕ) → later i ≡ has i)
    → ((i : ℕ) (q : List ℕ) → has i ≡ true → after i q ≡ cond (is_at i owner && bytes_eq new.element q) (steps i q ++ new.work ∷ []) (steps i q))
    → AreStepped record maps { works = maps.works ++ new ∷ [] } after later
work_added maps steps after has later owner new h owned kept more = λ i there q.
    let is : has i ≡ true = sym (kept i) ∙ there in
    more i q is
    ∙ (ap (λ (ns : List ℕ). cond (is_at i owner && bytes_eq new.element q) (ns ++ new.work ∷ []) ns) (h i is q ∙ as-one i q maps.executions maps.works)
    ∙ (ap (λ (o : Option ℕ). cond (is_at i o && bytes_eq new.element q) (numbers i q maps.executions maps.works ++ new.work ∷ []) (numbers i q maps.executions maps.works)) owned
    ∙ (sym (row_added (λ (row : WorkRow). row.work) (is_of_step i q maps.executions) new maps.works)
    ∙ sym (as-one i q maps.executions (maps.works ++ new ∷ [])))))

-- its number is above those of its step
pub owner_below : (maps : Maps) (steps : ℕ → List ℕ → List ℕ) (has : ℕ → Bool) (owner : Option ℕ) (new : WorkRow) → AreStepped maps steps has
    → AreBelow new.work (work_numbers maps.works) → IfSome owner (λ i. has i ≡ true → AreBelow new.work (steps i new.element))
owner_below maps steps has None new h below = tt
owner_below maps steps has (Some i) new h below = λ there. step_below maps steps has i new.element new.work h there below

-- ---- Changing

instance-kept : (x : ℕ) (new before : ExecutionRow) (rows : List ExecutionRow) → find (is_execution x) rows ≡ Some before → new.execution ≡ before.execution
    → new.instance ≡ before.instance → (y : ℕ) → instance_in (change_first (is_execution x) (λ old. new) rows) y ≡ instance_in rows y
instance-kept x new before [] there same kept y = refl
instance-kept x new before (row ∷ rest) there same kept y =
    let changed : List ExecutionRow = change_first (is_execution x) (λ old. new) rest in
    (elim (row.execution == x) as (λ b. cond b (Some row) (find (is_execution x) rest) ≡ Some before → instance_in (cond b (new ∷ rest) (row ∷ changed)) y ≡ instance_in (row ∷ rest) y) [
      | true ↦ λ here. (
          let one : row ≡ before = ap (λ (r : Option ExecutionRow). unwrap_or r row) here in
          ap (λ (n : ℕ). option_map (λ (z : ExecutionRow). z.instance) (cond (n == y) (Some new) (find (is_execution y) rest))) (same ∙ ap (λ (r : ExecutionRow). r.execution) (sym one))
          ∙ elim (row.execution == y) as (λ b. option_map (λ (z : ExecutionRow). z.instance) (cond b (Some new) (find (is_execution y) rest))
          ≡ option_map (λ (z : ExecutionRow). z.instance) (cond b (Some row) (find (is_execution y) rest))) [
            | true ↦ ap (λ (n : ℕ). Some n) (kept ∙ ap (λ (r : ExecutionRow). r.instance) (sym one))
            | false ↦ refl
          ]
          )
      | false ↦ λ later.
          elim (row.execution == y) as (λ b. option_map (λ (z : ExecutionRow). z.instance) (cond b (Some row) (find (is_execution y) changed))
          ≡ option_map (λ (z : ExecutionRow). z.instance) (cond b (Some row) (find (is_execution y) rest))) [
            | true ↦ refl
            | false ↦ instance-kept x new before rest later same kept y
          ]
    ]) there

pub execution_changed : (maps : Maps) (steps : ℕ → List ℕ → List ℕ) (has : ℕ → Bool) (x : ℕ) (new : ExecutionRow) → AreStepped maps steps has
    → MayReplaceExecution maps.executions x new → AreStepped record maps { executions = change_first (is_execution x) (λ old. new) maps.executions } steps has
execution_changed maps steps has x new h may = λ i is q.
    h i is q
    ∙ ap (λ (rows : List WorkRow). work_numbers (works_of_step q rows))
    (λ k. filter (λ row. is_at i (sym (instance-kept x new may.0 maps.executions may.1 may.2.execution may.2.instance row.execution) k)) maps.works)

row-changed : {R : Type 0} (num : R → ℕ) (here passes : R → Bool) (new before : R) (rows : List R) → find here rows ≡ Some before → num new ≡ num before
    → passes new ≡ passes before → map num (filter passes (change_first here (λ old. new) rows)) ≡ map num (filter passes rows)
row-changed {R = R} num here passes new before [] there same kept = refl
row-changed {R = R} num here passes new before (row ∷ rest) there same kept =
    let others : List R = filter passes (change_first here (λ old. new) rest) in
    (elim (here row) as (λ b. cond b (Some row) (find here rest) ≡ Some before
    → map num (filter passes (cond b (new ∷ rest) (row ∷ change_first here (λ old. new) rest))) ≡ map num (filter passes (row ∷ rest))) [
      | true ↦ λ found. (
          let one : row ≡ before = ap (λ (r : Option R). unwrap_or r row) found in
          ap (λ (b : Bool). map num (cond b (new ∷ filter passes rest) (filter passes rest))) (kept ∙ ap passes (sym one))
          ∙ elim (passes row) as (λ b. map num (cond b (new ∷ filter passes rest) (filter passes rest)) ≡ map num (cond b (row ∷ filter passes rest) (filter passes rest))) [
            | true ↦ ap (λ (n : ℕ). n ∷ map num (filter passes rest)) (same ∙ ap num (sym one))
            | false ↦ refl
          ]
          )
      | false ↦ λ later.
          let more : map num others ≡ map num (filter passes rest) = row-changed num here passes new before rest later same kept in
          elim (passes row) as (λ b. map num (cond b (row ∷ others) others) ≡ map num (cond b (row ∷ filter passes rest) (filter passes rest))) [
            | true ↦ ap (λ (ns : List ℕ). num row ∷ ns) more
            | false ↦ more
          ]
    ]) there

pub work_changed : (maps : Maps) (steps : ℕ → List ℕ → List ℕ) (has : ℕ → Bool) (w : ℕ) (new : WorkRow) → AreStepped maps steps has
    → MayReplaceWork maps.works w new → AreStepped record maps { works = change_first (is_work w) (λ old. new) maps.works } steps has
work_changed maps steps has w new h may = λ i is q.
    h i is q
    ∙ (as-one i q maps.executions maps.works
    ∙ (sym (row-changed (λ (row : WorkRow). row.work) (is_work w) (is_of_step i q maps.executions) new may.0 maps.works may.1 may.2.work
    (ap (λ (x : ℕ). is_at i (instance_in maps.executions x) && bytes_eq new.element q) may.2.execution
    ∙ ap (λ (e : List ℕ). is_at i (instance_in maps.executions may.0.execution) && bytes_eq e q) may.2.element))
    ∙ sym (as-one i q maps.executions (change_first (is_work w) (λ old. new) maps.works))))

-- ---- Removing

left-found : (gone : ℕ → Bool) (x : ℕ) (rows : List ExecutionRow) → is_gone gone (instance_in rows x) ≡ false
    → instance_in (filter (λ row. not (gone row.instance)) rows) x ≡ instance_in rows x
left-found gone x [] stays = refl
left-found gone x (row ∷ rest) stays =
    let others : List ExecutionRow = filter (λ row. not (gone row.instance)) rest in
    (elim (row.execution == x) as (λ b. row.execution == x ≡ b → is_gone gone (option_map (λ (z : ExecutionRow). z.instance) (cond b (Some row) (find (is_execution x) rest))) ≡ false
    → instance_in (cond (not (gone row.instance)) (row ∷ others) others) x ≡ option_map (λ (z : ExecutionRow). z.instance) (cond b (Some row) (find (is_execution x) rest))) [
      | true ↦ λ here s.
          ap (λ (b : Bool). instance_in (cond (not b) (row ∷ others) others) x) s
          ∙ ap (λ (b : Bool). option_map (λ (z : ExecutionRow). z.instance) (cond b (Some row) (find (is_execution x) others))) here
      | false ↦ λ off s.
          elim (gone row.instance) as (λ b. instance_in (cond (not b) (row ∷ others) others) x ≡ instance_in rest x) [
            | true ↦ left-found gone x rest s
            | false ↦ ap (λ (b : Bool). option_map (λ (z : ExecutionRow). z.instance) (cond b (Some row) (find (is_execution x) others))) off ∙ left-found gone x rest s
          ]
    ]) refl stays

-- a job execution of the job instance that is gone is of no other, and one that stays is not of it
not-at : (i owner : ℕ) (o : Option ℕ) → is_gone (λ j. j == owner) o ≡ true → (owner == i) ≡ false → is_at i o ≡ false
not-at i owner None on off = refl
not-at i owner (Some j) on off = ap (λ (n : ℕ). n == i) (eqb-true j owner on) ∙ off

not-own : (i owner : ℕ) (o : Option ℕ) → is_gone (λ j. j == owner) o ≡ false → (owner == i) ≡ true → is_at i o ≡ false
not-own i owner None off same = refl
not-own i owner (Some j) off same = ap (λ (n : ℕ). j == n) (sym (eqb-true owner i same)) ∙ off

works-left : (owner i : ℕ) (q : List ℕ) (executions : List ExecutionRow) (works : List WorkRow)
    → numbers i q (filter (λ row. not (row.instance == owner)) executions)
    (filter (λ row. not (is_gone (λ j. j == owner) (instance_in executions row.execution))) works)
    ≡ cond (owner == i) [] (numbers i q executions works)
works-left owner i q executions [] = (let none : List ℕ = [] in elim (owner == i) as (λ b. none ≡ cond b none none) [ true ↦ refl | false ↦ refl ])
works-left owner i q executions (row ∷ rest) =
    let o : Option ℕ = instance_in executions row.execution in
    let left : List ExecutionRow = filter (λ row. not (row.instance == owner)) executions in
    let others : List WorkRow = filter (λ row. not (is_gone (λ j. j == owner) (instance_in executions row.execution))) rest in
    let mine : List WorkRow = filter (is_of_step i q left) others in
    let before : List WorkRow = filter (is_of_step i q executions) rest in
    let more : numbers i q left others ≡ cond (owner == i) [] (numbers i q executions rest) = works-left owner i q executions rest in
    (elim (is_gone (λ j. j == owner) o) as (λ b. is_gone (λ j. j == owner) o ≡ b
    → numbers i q left (cond (not b) (row ∷ others) others) ≡ cond (owner == i) [] (work_numbers (cond (is_at i o && bytes_eq row.element q) (row ∷ before) before))) [
      | true ↦ λ on. more
          ∙ (elim (owner == i) as (λ t. owner == i ≡ t → cond t [] (work_numbers before) ≡ cond t [] (work_numbers (cond (is_at i o && bytes_eq row.element q) (row ∷ before) before))) [
            | true ↦ λ same. refl
            | false ↦ λ off. ap (λ (b : Bool). work_numbers (cond (b && bytes_eq row.element q) (row ∷ before) before)) (sym (not-at i owner o on off))
          ]) refl
      | false ↦ λ stays.
          ap (λ (p : Option ℕ). work_numbers (cond (is_at i p && bytes_eq row.element q) (row ∷ mine) mine)) (left-found (λ j. j == owner) row.execution executions stays)
          ∙ (elim (owner == i) as (λ t. owner == i ≡ t → work_numbers mine ≡ cond t [] (work_numbers before)
          → work_numbers (cond (is_at i o && bytes_eq row.element q) (row ∷ mine) mine) ≡ cond t [] (work_numbers (cond (is_at i o && bytes_eq row.element q) (row ∷ before) before))) [
            | true ↦ λ same none. ap (λ (b : Bool). work_numbers (cond (b && bytes_eq row.element q) (row ∷ mine) mine)) (not-own i owner o stays same) ∙ none
            | false ↦ λ off rests.
                elim (is_at i o && bytes_eq row.element q) as (λ b. work_numbers (cond b (row ∷ mine) mine) ≡ work_numbers (cond b (row ∷ before) before)) [
                  | true ↦ ap (λ (ns : List ℕ). row.work ∷ ns) rests
                  | false ↦ rests
                ]
          ]) refl more
    ]) refl

pub instance_removed : (maps : Maps) (steps after : ℕ → List ℕ → List ℕ) (has later : ℕ → Bool) (owner : ℕ) → AreStepped maps steps has
    → ((i : ℕ) → later i ≡ cond (owner == i) false (has i)) → ((i : ℕ) (q : List ℕ) → after i q ≡ cond (owner == i) [] (steps i q)) → AreStepped (without_instance owner maps) after later
instance_removed maps steps after has later owner h kept less = λ i there q.
    let is : has i ≡ true = still (owner == i) (has i) (sym (kept i) ∙ there) in
    less i q
    ∙ (ap (λ (ns : List ℕ). cond (owner == i) [] ns) (h i is q ∙ as-one i q maps.executions maps.works)
    ∙ (sym (works-left owner i q maps.executions maps.works)
    ∙ sym (as-one i q (without_instance owner maps).executions (without_instance owner maps).works)))
  where
    still : (b had : Bool) → cond b false had ≡ true → had ≡ true
    still true had is = cc
    still false had is = is

-- ---- Gathering

-- one more work item in the lists that are made
pub one_more : (before after : List ℕ → List ℕ) (row : WorkRow) (rows : List WorkRow) → ((q : List ℕ) → before q ≡ work_numbers (works_of_step q rows))
    → ((q : List ℕ) → after q ≡ cond (bytes_eq row.element q) (before q ++ row.work ∷ []) (before q)) → (q : List ℕ) → after q ≡ work_numbers (works_of_step q (rows ++ row ∷ []))
one_more before after row rows h more q =
    more q
    ∙ (ap (λ (ns : List ℕ). cond (bytes_eq row.element q) (ns ++ row.work ∷ []) ns) (h q)
    ∙ sym (row_added (λ (row : WorkRow). row.work) (λ row. bytes_eq row.element q) row rows))

-- ---- Looking up the steps of one more job instance

pub looked_up : {E : Type 0} (maps : Maps) (before after : ℕ → List ℕ → List ℕ) (had has : ℕ → Bool) (i : ℕ) (own : List ℕ → List ℕ) (r : Result (Unit {0}) E) → AreStepped maps before had
    → AreStepsOf i maps own → OnOk r ((j : ℕ) → has j ≡ ((i == j) || had j)) → OnOk r ((j : ℕ) (q : List ℕ) → after j q ≡ cond (i == j) (own q) (before j q))
    → OnErr r ((j : ℕ) → has j ≡ had j) → OnErr r ((j : ℕ) (q : List ℕ) → after j q ≡ before j q) → AreStepped maps after has
looked_up maps before after had has i own (Ok done) h is more put same kept = λ j there q.
    (elim (i == j) as (λ b. i == j ≡ b → after j q ≡ work_numbers (works_of_step q (works_of_instance j maps.executions maps.works))) [
      | true ↦ λ here.
          put j q
          ∙ (ap (λ b. cond b (own q) (before j q)) here
          ∙ (is q ∙ ap (λ (n : ℕ). work_numbers (works_of_step q (works_of_instance n maps.executions maps.works))) (eqb-true i j here)))
      | false ↦ λ off.
          put j q ∙ (ap (λ b. cond b (own q) (before j q)) off ∙ h j (sym (more j ∙ ap (λ b. b || had j) off) ∙ there) q)
    ]) refl
looked_up maps before after had has i own (Err refused) h is more put same kept = λ j there q. kept j q ∙ h j (sym (same j) ∙ there) q

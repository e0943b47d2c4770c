-- An agenda that is made of rows, one job execution after another, each of which shows what its walk comes to.
use Rattle.std.proofs.Common.{◌≡◌, ℕ, ◌==◌, ◌<◌, ◌&&◌, ◌↔◌, IsTrue, is_some, Bool, true, false, cond, Option, None, Some, IfSome, IsSome, List, [], ◌∷◌, ◌++◌, filter, find, append_assoc, refl, sym, ◌∙◌, ap, subst, arith}
use Rattle.std.specs.BTreeMap.{BTreeMap, get, is_at}
use Rattle.std.specs.BTreeSet.{insert_key}
use Rattle.std.specs.Map.{lookup}
use Rattle.std.specs.Option.{option_and_then}
use Rattle.std.specs.Ordering.{nat_cmp}
use Rattle.std.proofs.lemmas.Bool.{and_from, and_parts, eq-eqb, ne_eqb}
use Rattle.std.proofs.lemmas.List.{append-nil}
use Rattle.batch_history.specs.Lists.{Each}
use Rattle.batch_history.specs.Rows.{is_execution}
use Rattle.batch_history.specs.Statuses.{batch_status, exit_status, is_finished}
use Rattle.batch_history.specs.declared.rows.ExecutionRow.{ExecutionRow}
use Rattle.batch_history.specs.declared.rows.WorkRow.{WorkRow}
use Rattle.jsl_model.specs.Jobs.{JobTree}
use Rattle.walk_rules.specs.declared.facts.Value.{Value}
use Rattle.records.specs.Maps.{AreAbove, AreBelow, AreRising, execution_numbers}
use Rattle.restart_rules.specs.Placed.{ArePlaced, is_placed}
use Rattle.seq_repository.specs.Agendas.{agenda_of}
use Rattle.seq_repository.specs.Following.{AreFollowed, AreOfUnfinished, IsFollowed, kept_at}
use Rattle.seq_repository.specs.Searches.{has_ready}
use Rattle.row_repository.specs.Settled.{AreSettled, IsSettled, Shows}
use Rattle.seq_repository.specs.declared.cursors.Slot.{Slot}
use Rattle.seq_repository.proofs.Numbers.{put_pushed}

-- the agenda has the numbers of those job executions before the ones that are left, and each of these is settled
pub record IsGathered (catalogue : List JobTree) (works : List WorkRow) (all left : List ExecutionRow) (keys : List ℕ) : Type 0 where
  pub front : List ExecutionRow
  pub split : front ++ left ≡ all
  pub keys_are : keys ≡ agenda_of catalogue works front
  pub settled : Each (IsSettled catalogue works) front

pub gathered_none : (catalogue : List JobTree) (works : List WorkRow) (all left : List ExecutionRow) (keys : List ℕ) → left ≡ all → keys ≡ [] → IsGathered catalogue works all left keys
gathered_none catalogue works all left keys whole none = record { front = []; split = whole; keys_are = none; settled = tt }

-- ---- The next one

whole : (catalogue : List JobTree) (works : List WorkRow) (all left rest : List ExecutionRow) (keys : List ℕ) (row : ExecutionRow) → (g : IsGathered catalogue works all left keys)
    → left ≡ row ∷ rest → g.front ++ row ∷ rest ≡ all
whole catalogue works all left rest keys row g is = ap (λ (l : List ExecutionRow). g.front ++ l) (sym is) ∙ g.split

-- it is placed
placed-at : (catalogue : List JobTree) (front : List ExecutionRow) (row : ExecutionRow) (rest : List ExecutionRow) → ArePlaced catalogue (front ++ row ∷ rest) → is_placed catalogue row ≡ true
placed-at catalogue [] row rest h = h.0
placed-at catalogue (one ∷ front) row rest h = placed-at catalogue front row rest h.1

pub placed_next : (catalogue : List JobTree) (works : List WorkRow) (all left rest : List ExecutionRow) (keys : List ℕ) (row : ExecutionRow) → IsGathered catalogue works all left keys
    → left ≡ row ∷ rest → ArePlaced catalogue all → is_placed catalogue row ≡ true
placed_next catalogue works all left rest keys row g is h =
    placed-at catalogue g.front row rest (subst (ArePlaced catalogue) (sym (whole catalogue works all left rest keys row g is)) h)

-- the numbers before it are below its own
above-at : (n : ℕ) (front : List ExecutionRow) (row : ExecutionRow) (rest : List ExecutionRow) → AreAbove n (execution_numbers (front ++ row ∷ rest)) → n < row.execution
above-at n [] row rest h = h.0
above-at n (one ∷ front) row rest h = above-at n front row rest h.1

below-at : (front : List ExecutionRow) (row : ExecutionRow) (rest : List ExecutionRow) → AreRising (execution_numbers (front ++ row ∷ rest)) → AreBelow row.execution (execution_numbers front)
below-at [] row rest h = tt
below-at (one ∷ front) row rest h = (above-at one.execution front row rest h.0, below-at front row rest h.1)

-- so it is found by its number
found-at : (front : List ExecutionRow) (row : ExecutionRow) (rest : List ExecutionRow) → AreBelow row.execution (execution_numbers front)
    → find (is_execution row.execution) (front ++ row ∷ rest) ≡ Some row
found-at [] row rest h = ap (λ b. cond b (Some row) (find (is_execution row.execution) rest)) (eq-eqb row.execution row.execution refl)
found-at (one ∷ front) row rest h =
    ap (λ b. cond b (Some one) (find (is_execution row.execution) (front ++ row ∷ rest))) (ne_eqb one.execution row.execution (λ e. omega (arith, h.0, e)))
    ∙ found-at front row rest h.1

pub settled_next : (catalogue : List JobTree) (works : List WorkRow) (all left rest : List ExecutionRow) (keys : List ℕ) (row : ExecutionRow) → IsGathered catalogue works all left keys
    → left ≡ row ∷ rest → AreRising (execution_numbers all) → AreSettled catalogue works all → IsSettled catalogue works row
settled_next catalogue works all left rest keys row g is rising settled =
    let split = whole catalogue works all left rest keys row g is in
    let below = below-at g.front row rest (subst (λ (l : List ExecutionRow). AreRising (execution_numbers l)) (sym split) rising) in
    subst (λ o. IfSome o (IsSettled catalogue works)) (ap (find (is_execution row.execution)) (sym split) ∙ found-at g.front row rest below) (settled row.execution)

-- one that has nothing to do adds none
idle-pushed : (p : ExecutionRow → Bool) (rows : List ExecutionRow) (row : ExecutionRow) → p row ≡ false → filter p (rows ++ row ∷ []) ≡ filter p rows
idle-pushed p [] row off = ap (λ b. cond b (row ∷ []) []) off
idle-pushed p (one ∷ rest) row off = ap (λ (l : List ExecutionRow). cond (p one) (one ∷ l) l) (idle-pushed p rest row off)

put-next : (catalogue : List JobTree) (works : List WorkRow) (front : List ExecutionRow) (row : ExecutionRow) (ready : Bool) → AreBelow row.execution (execution_numbers front)
    → has_ready catalogue works row ≡ ready
    → cond ready (insert_key nat_cmp (agenda_of catalogue works front) row.execution) (agenda_of catalogue works front) ≡ agenda_of catalogue works (front ++ row ∷ [])
put-next catalogue works front row true below is = put_pushed (λ (r : ExecutionRow). r.execution) row.execution (has_ready catalogue works) front row below refl is
put-next catalogue works front row false below is = ap execution_numbers (sym (idle-pushed (has_ready catalogue works) front row is))

each-pushed : {X : Type 0} (P : X → Type 0) (xs : List X) (x : X) → P x → Each P xs → Each P (xs ++ x ∷ [])
each-pushed P [] x mine h = (mine, tt)
each-pushed P (y ∷ ys) x mine h = (h.0, each-pushed P ys x mine h.1)

pub gathered_on : (catalogue : List JobTree) (works : List WorkRow) (all left rest : List ExecutionRow) (keys now : List ℕ) (row : ExecutionRow) (ready : Bool)
    → IsGathered catalogue works all left keys → left ≡ row ∷ rest → AreRising (execution_numbers all) → ready ≡ has_ready catalogue works row → IsSettled catalogue works row
    → now ≡ cond ready (insert_key nat_cmp keys row.execution) keys → IsGathered catalogue works all rest now
gathered_on catalogue works all left rest keys now row ready g is rising says settled put =
    let split : g.front ++ row ∷ rest ≡ all = whole catalogue works all left rest keys row g is in
    let below = below-at g.front row rest (subst (λ (l : List ExecutionRow). AreRising (execution_numbers l)) (sym split) rising) in
    record {
      front = g.front ++ row ∷ [];
      split = append_assoc g.front (row ∷ []) rest ∙ split;
      keys_are =
          put
          ∙ (ap (λ (l : List ℕ). cond ready (insert_key nat_cmp l row.execution) l) g.keys_are
          ∙ put-next catalogue works g.front row ready below (sym says));
      settled = each-pushed (IsSettled catalogue works) g.front row settled g.settled;
    }

-- ---- All

gathered-front : (catalogue : List JobTree) (works : List WorkRow) (all left : List ExecutionRow) (keys : List ℕ) → (g : IsGathered catalogue works all left keys) → left ≡ [] → g.front ≡ all
gathered-front catalogue works all left keys g none = sym (append-nil g.front) ∙ (ap (λ (l : List ExecutionRow). g.front ++ l) (sym none) ∙ g.split)

pub gathered_all : (catalogue : List JobTree) (works : List WorkRow) (all left : List ExecutionRow) (keys : List ℕ) → IsGathered catalogue works all left keys → left ≡ []
    → keys ≡ agenda_of catalogue works all
gathered_all catalogue works all left keys g none = g.keys_are ∙ ap (agenda_of catalogue works) (gathered-front catalogue works all left keys g none)

settled-each : (catalogue : List JobTree) (works : List WorkRow) (rows : List ExecutionRow) → Each (IsSettled catalogue works) rows → AreSettled catalogue works rows
settled-each catalogue works [] h = λ x. tt
settled-each catalogue works (row ∷ rest) h = λ x.
    elim (row.execution == x) as (λ b. IfSome (cond b (Some row) (find (is_execution x) rest)) (IsSettled catalogue works)) [
      | true ↦ h.0
      | false ↦ settled-each catalogue works rest h.1 x
    ]

pub gathered_settled : (catalogue : List JobTree) (works : List WorkRow) (all left : List ExecutionRow) (keys : List ℕ) → IsGathered catalogue works all left keys → left ≡ []
    → AreSettled catalogue works all
gathered_settled catalogue works all left keys g none =
    subst (AreSettled catalogue works) (gathered-front catalogue works all left keys g none) (settled-each catalogue works g.front g.settled)

-- ---- What a row shows

pub shows_all : (exit bare end : Bool) (value : Value) (row : ExecutionRow) → IsTrue exit ↔ (row.exit ≡ exit_status row.stop row.start value)
    → IsTrue bare ↔ (row.bare ≡ batch_status row.stop row.start value) → IsTrue end ↔ (is_finished row.bare ≡ true → is_some row.end ≡ true)
    → IsTrue (exit && bare && end) ↔ Shows value row
shows_all exit bare end value row e b d = (
  (λ h.
      let both = and_parts (exit && bare) end h in
      let first = and_parts exit bare both.0 in
      record { bare = b.0 first.1; exit = e.0 first.0; end = d.0 both.1 }),
  (λ s. and_from (exit && bare) end (and_from exit bare (e.1 s.exit) (b.1 s.bare)) (d.1 s.end)),
)

-- ---- No cursor

-- an empty map has nothing at any number
nothing-at : (cursors : BTreeMap ℕ Slot) (x : ℕ) → cursors.entries ≡ [] → get nat_cmp cursors x ≡ None
nothing-at cursors x empty = ap (lookup (is_at (nat_cmp x))) empty

pub none_followed : (catalogue : List JobTree) (works : List WorkRow) (rows : List ExecutionRow) (cursors : BTreeMap ℕ Slot) → cursors.entries ≡ []
    → AreFollowed catalogue works rows (kept_at cursors)
none_followed catalogue works rows cursors empty = λ x.
    subst (λ o. IfSome (option_and_then (λ (s : Slot). s.cursor) o) (IsFollowed catalogue works rows x)) (sym (nothing-at cursors x empty)) tt

pub no_slots : (rows : List ExecutionRow) (cursors : BTreeMap ℕ Slot) → cursors.entries ≡ [] → AreOfUnfinished rows cursors
no_slots rows cursors empty = λ x there. let no : IsSome {T = Slot} None = subst IsSome (nothing-at cursors x empty) there in cc

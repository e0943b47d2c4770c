-- Slots for the cursors of job executions: there are some of unfinished ones alone.
use Rattle.std.proofs.Common.{◌≡◌, ℕ, ◌==◌, true, false, Option, None, Some, IfSome, IsSome, List, [], ◌∷◌, ◌++◌, find, sym, ◌∙◌, ap, subst}
use Rattle.std.specs.BTreeMap.{BTreeMap, get, is_at, keys}
use Rattle.std.specs.List.{list_any}
use Rattle.std.specs.Option.{option_and_then}
use Rattle.std.specs.Ordering.{nat_cmp, is_eq}
use Rattle.std.proofs.lemmas.Map.Made.{IsSome-lookup_same_keys}
use Rattle.batch_history.proofs.WorkLists.{found-before}
use Rattle.batch_history.specs.Replies.{is_running_in}
use Rattle.batch_history.specs.Rows.{executions_there, is_execution}
use Rattle.batch_history.specs.declared.rows.ExecutionRow.{ExecutionRow}
use Rattle.job_plans.specs.Cursors.{CursorState}
use Rattle.reply_rules.specs.Standings.{is_open}
use Rattle.seq_repository.specs.Changes.{put_row, ReplacesExecution}
use Rattle.seq_repository.specs.Following.{AreOfUnfinished, IsKeptOf, IsSlotOf}
use Rattle.seq_repository.specs.declared.cursors.Slot.{Slot}
use Rattle.seq_repository.proofs.Followed.{cmp-own, found-beside, found_put, found-there, open-elsewhere}

-- the cursor in the slot that is left of a job execution
pub cursor_left : (row : Option ExecutionRow) (cursor : Option CursorState) (slot : Option Slot) → IfSome slot (IsSlotOf row cursor)
    → IfSome (option_and_then (λ (s : Slot). s.cursor) slot) (IsKeptOf row cursor)
cursor_left row cursor None own = tt
cursor_left row cursor (Some slot) own =
    (elim slot.cursor as (λ o. o ≡ cursor → IfSome o (IsKeptOf row cursor)) [
      | None ↦ λ same. tt
      | Some kept ↦ λ same. (sym same, own.1)
    ]) own.0

own-there : (rows : List ExecutionRow) (x : ℕ) (new : Option ExecutionRow) (cursor : Option CursorState) (slot : Option Slot) → IfSome new (λ row. ReplacesExecution rows x row)
    → IfSome slot (IsSlotOf new cursor) → IsSome slot → (row : ExecutionRow) × (find (is_execution x) (put_row x new rows) ≡ Some row) × (is_open row ≡ true)
own-there rows x new cursor None may own there = cc
own-there rows x new cursor (Some slot) may own there =
    let row : ExecutionRow = own.1.0 in
    let mine : ReplacesExecution rows x row = subst (λ o. IfSome o (λ r. ReplacesExecution rows x r)) own.1.1 may in
    (row, ap (λ o. find (is_execution x) (put_row x o rows)) own.1.1 ∙ found_put x row rows mine, own.1.2)

-- after an operation on job execution x
pub slots_put : (x : ℕ) (new : Option ExecutionRow) (cursor : Option CursorState) (rows : List ExecutionRow) (old left : BTreeMap ℕ Slot) → IfSome new (λ row. ReplacesExecution rows x row)
    → ((q : ℕ) → is_eq (nat_cmp x q) ≡ false → get nat_cmp left q ≡ get nat_cmp old q) → IfSome (get nat_cmp left x) (IsSlotOf new cursor) → AreOfUnfinished rows old
    → AreOfUnfinished (put_row x new rows) left
slots_put x new cursor rows old left may beside here slots = λ q there.
    cmp-own x q
    (λ same. subst (λ n. (row : ExecutionRow) × (find (is_execution n) (put_row x new rows) ≡ Some row) × (is_open row ≡ true)) (sym same)
    (own-there rows x new cursor (get nat_cmp left x) may here (subst (λ n. IsSome (get nat_cmp left n)) same there)))
    (λ off differ.
    let was = slots q (subst IsSome (beside q off) there) in
    (was.0, found-beside x q new rows differ may ∙ was.1, was.2))

-- a job execution more
pub slots_pushed : (rows : List ExecutionRow) (new : ExecutionRow) (cursors : BTreeMap ℕ Slot) → AreOfUnfinished rows cursors → AreOfUnfinished (rows ++ new ∷ []) cursors
slots_pushed rows new cursors slots = λ q there.
    let was = slots q there in
    (was.0, found-before (is_execution q) rows (new ∷ []) was.0 was.1, was.2)

-- a job instance, none of whose job executions is unfinished, is gone
pub slots_without : (i : ℕ) (rows : List ExecutionRow) (cursors : BTreeMap ℕ Slot) → list_any (is_running_in i) rows ≡ false → AreOfUnfinished rows cursors
    → AreOfUnfinished (executions_there (λ j. j == i) rows) cursors
slots_without i rows cursors finished slots = λ q there.
    let was = slots q there in
    let off : (was.0.instance == i) ≡ false = open-elsewhere i (is_execution q) rows was.0 was.1 was.2 finished in
    (was.0, found-there q i rows was.0 was.1 off, was.2)

-- the same slots, whatever is in them
pub slots_same : (rows : List ExecutionRow) (old left : BTreeMap ℕ Slot) → keys left ≡ keys old → AreOfUnfinished rows old → AreOfUnfinished rows left
slots_same rows old left same slots = λ q there. slots q ((IsSome-lookup_same_keys (is_at (nat_cmp q)) left.entries old.entries same).0 there)

-- The agenda, once a job execution changes, is made or is gone.
use Rattle.std.proofs.Common.{◌≡◌, ℕ, ◌==◌, ◌&&◌, ◌||◌, ◌<◌, Bool, true, false, cond, not, Option, None, Some, IfSome, List, [], ◌∷◌, ◌++◌, find, filter, slice_get, refl, sym, ◌∙◌, ap, arith}
use Rattle.std.specs.BTreeSet.{insert_key}
use Rattle.std.specs.List.{list_any}
use Rattle.std.specs.Option.{option_map}
use Rattle.std.specs.Ordering.{nat_cmp}
use Rattle.std.proofs.lemmas.Bool.{eqb-true, eq-eqb, ne_eqb}
use Rattle.batch_history.proofs.Finding.{found-passes}
use Rattle.batch_history.proofs.Knowing.{facts-same}
use Rattle.batch_history.specs.Lists.{change_first}
use Rattle.batch_history.specs.Replies.{has_something_by, is_running_in, row_status}
use Rattle.batch_history.specs.Rows.{is_execution, instance_in, is_gone, executions_there, works_there}
use Rattle.batch_history.specs.Walks.{fact_of_state, job_named, walk_of, walk_value, known_elements}
use Rattle.batch_history.specs.Works.{work_key}
use Rattle.batch_history.specs.declared.rows.ExecutionRow.{ExecutionRow}
use Rattle.batch_history.specs.declared.rows.WorkRow.{WorkRow}
use Rattle.batch_ids.specs.Statuses.{is_unfinished}
use Rattle.batch_ids.specs.declared.status.BatchStatus.{BatchStatus}
use Rattle.batch_ids.specs.declared.status.BatchStatus.TheVariants.{Starting, Started, Stopping, Stopped, Failed, Completed, Abandoned}
use Rattle.walk_rules.specs.declared.facts.Known.{Known}
use Rattle.walk_rules.specs.declared.facts.Value.{Value}
use Rattle.jsl_model.specs.Jobs.{JobTree}
use Rattle.records.specs.Maps.{AreAbove, AreBelow, AreRising, execution_numbers}
use Rattle.seq_repository.specs.Agendas.{agenda_of, is_ready_row, put_number, without_number}
use Rattle.seq_repository.specs.Changes.{put_row, ReplacesExecution}
use Rattle.seq_repository.specs.Searches.{has_ready}
use Rattle.seq_repository.proofs.Numbers.{put_changed, put_absent, put_pushed, least_found, none_found, gone_absent, first_passes}

-- the number of a job execution
abbrev number : ExecutionRow → ℕ
number row = row.execution

-- What is known of other job executions

-- a work item more
known-beside : (y : ℕ) (works : List WorkRow) (new : WorkRow) → (new.execution == y) ≡ false → known_elements y (works ++ new ∷ []) ≡ known_elements y works
known-beside y [] new off = rw off refl
known-beside y (work ∷ rest) new off =
    ap (λ (ks : List Known). cond (work.execution == y) (record { key = work_key work; fact = fact_of_state work.state } ∷ ks) ks) (known-beside y rest new off)

-- a work item in place of another of its job execution
known-apart : (y : ℕ) (p : WorkRow → Bool) (works : List WorkRow) (old new : WorkRow) → find p works ≡ Some old → (old.execution == y) ≡ false → new.execution ≡ old.execution
    → known_elements y (change_first p (λ gone. new) works) ≡ known_elements y works
known-apart y p [] old new found off same = refl
known-apart y p (work ∷ rest) old new found off same =
    let known : WorkRow → List Known → List Known = λ w ks. cond (w.execution == y) (record { key = work_key w; fact = fact_of_state w.state } ∷ ks) ks in
    (elim (p work) as (λ b. cond b (Some work) (find p rest) ≡ Some old
    → known_elements y (cond b (new ∷ rest) (work ∷ change_first p (λ gone. new) rest)) ≡ known_elements y (work ∷ rest)) [
      | true ↦ λ s.
          let is : work ≡ old = cc in
          let here : (work.execution == y) ≡ false = ap (λ (w : WorkRow). w.execution == y) is ∙ off in
          let there : (new.execution == y) ≡ false = ap (λ x. x == y) same ∙ off in
          rw here (rw there refl)
      | false ↦ λ s. ap (known work) (known-apart y p rest old new s off same)
    ]) found

-- a job execution of which the same is known has as much to do
ready-same : (catalogue : List JobTree) (before after : List WorkRow) (row : ExecutionRow) → known_elements row.execution after ≡ known_elements row.execution before
    → has_ready catalogue after row ≡ has_ready catalogue before row
ready-same catalogue before after row same =
    ap (λ f. has_something_by (row_status row) (walk_of row.plan f (job_named catalogue row.job))) (facts-same row.execution after before same)

-- what is known of all job executions but x is the same
abbrev pub KeepsOthers : ℕ → List WorkRow → List WorkRow → Type 0
KeepsOthers x before after = (y : ℕ) → (y == x) ≡ false → known_elements y after ≡ known_elements y before

apart-turned : (x y : ℕ) → (y == x) ≡ false → (x == y) ≡ false
apart-turned x y off = ne_eqb x y (λ (e : x ≡ y). let on : (y == x) ≡ true = eq-eqb y x (sym e) in cc)

pub others_beside : (x : ℕ) (works : List WorkRow) (new : WorkRow) → new.execution ≡ x → KeepsOthers x works (works ++ new ∷ [])
others_beside x works new is = λ y off. known-beside y works new (ap (λ z. z == y) is ∙ apart-turned x y off)

pub others_apart : (x : ℕ) (p : WorkRow → Bool) (works : List WorkRow) (old new : WorkRow) → find p works ≡ Some old → old.execution ≡ x → new.execution ≡ old.execution
    → KeepsOthers x works (change_first p (λ gone. new) works)
others_apart x p works old new found is same = λ y off. known-apart y p works old new found (ap (λ z. z == y) is ∙ apart-turned x y off) same

pub others_same : (x : ℕ) (works : List WorkRow) → KeepsOthers x works works
others_same x works = λ y off. refl

-- A job execution that changes

agenda-put : (catalogue : List JobTree) (before after : List WorkRow) (rows : List ExecutionRow) (x : ℕ) (new : Option ExecutionRow)
    → AreRising (execution_numbers rows) → KeepsOthers x before after → IfSome new (λ row. ReplacesExecution rows x row)
    → (new ≡ None → find (is_execution x) rows ≡ None)
    → put_number (is_ready_row catalogue after new) x (agenda_of catalogue before rows) ≡ agenda_of catalogue after (put_row x new rows)
agenda-put catalogue before after rows x None rising others own absent =
    let none : find (is_execution x) rows ≡ None = absent refl in
    let same : filter (has_ready catalogue after) rows ≡ filter (has_ready catalogue before) rows =
    put_absent number x (has_ready catalogue before) (has_ready catalogue after) rows none (λ row off. ready-same catalogue before after row (others row.execution off)) in
    gone_absent number x (has_ready catalogue before) rows none ∙ ap execution_numbers (sym same)
agenda-put catalogue before after rows x (Some row) rising others own absent =
    let is : row.execution ≡ x = own.2.execution ∙ eqb-true own.0.execution x (found-passes (is_execution x) rows own.0 own.1) in
    put_changed number x (has_ready catalogue before) (has_ready catalogue after) rows own.0 row rising own.1 is
    (λ other off. ready-same catalogue before after other (others other.execution off))

put-steps : (ready : Bool) (x : ℕ) (numbers : List ℕ)
    → cond (not ready) (without_number x (cond ready (insert_key nat_cmp numbers x) numbers)) (cond ready (insert_key nat_cmp numbers x) numbers) ≡ put_number ready x numbers
put-steps true x numbers = refl
put-steps false x numbers = refl

-- the agenda after an operation on a job execution: its number is put, where there is something to do, or goes
pub agenda_changed : (catalogue : List JobTree) (before after : List WorkRow) (rows : List ExecutionRow) (x : ℕ) (f : ExecutionRow → ExecutionRow) (new : Option ExecutionRow) (ready goes : Bool)
    (old put done : List ℕ) → AreRising (execution_numbers rows) → old ≡ agenda_of catalogue before rows → KeepsOthers x before after
    → IfSome new (λ row. ReplacesExecution rows x row) → new ≡ option_map f (find (is_execution x) rows) → ready ≡ is_ready_row catalogue after new → goes ≡ not ready
    → put ≡ cond ready (insert_key nat_cmp old x) old → done ≡ cond goes (without_number x put) put
    → done ≡ agenda_of catalogue after (put_row x new rows)
agenda_changed catalogue before after rows x f new ready goes old put done rising is others own made is_ready is_goes is_put is_done =
    let absent : new ≡ None → find (is_execution x) rows ≡ None =
    λ none. (elim (find (is_execution x) rows) as (λ o. new ≡ option_map f o → o ≡ None) [
      | None ↦ λ e. refl
      | Some row ↦ λ e. cc
    ]) made in
    is_done
    ∙ (ap (λ b. cond b (without_number x put) put) is_goes
    ∙ (ap (λ (l : List ℕ). cond (not ready) (without_number x l) l) is_put
    ∙ (put-steps ready x old
    ∙ (ap (λ (l : List ℕ). put_number ready x l) is
    ∙ (ap (λ b. put_number b x (agenda_of catalogue before rows)) is_ready
    ∙ agenda-put catalogue before after rows x new rising others own absent)))))

-- A job execution that is made

-- it is STARTING, and goes on the agenda behind all others
pub agenda_pushed : (catalogue : List JobTree) (works : List WorkRow) (rows : List ExecutionRow) (new : ExecutionRow) (old put : List ℕ) → row_status new ≡ Starting
    → AreBelow new.execution (execution_numbers rows) → old ≡ agenda_of catalogue works rows → put ≡ insert_key nat_cmp old new.execution
    → put ≡ agenda_of catalogue works (rows ++ new ∷ [])
agenda_pushed catalogue works rows new old put status below is is_put =
    let on : has_ready catalogue works new ≡ true =
    ap (λ s. has_something_by s (walk_value catalogue works new.execution new.job new.plan)) status in
    is_put ∙ (ap (λ (l : List ℕ). insert_key nat_cmp l new.execution) is ∙ put_pushed number new.execution (has_ready catalogue works) rows new below refl on)

-- Job executions that are gone

open-ready : (status : BatchStatus) (value : Value) → is_unfinished status ≡ false → has_something_by status value ≡ false
open-ready Starting value e = cc
open-ready Started value e = cc
open-ready Stopping value e = refl
open-ready Stopped value e = refl
open-ready Failed value e = refl
open-ready Completed value e = refl
open-ready Abandoned value e = refl

-- the job instance of each of these job executions is found among all
abbrev AreFound : List ExecutionRow → List ExecutionRow → Type 0
AreFound all [] = Unit {0}
AreFound all (row ∷ rest) = (instance_in all row.execution ≡ Some row.instance) × AreFound all rest

found-behind : (lower : ExecutionRow) (all rows : List ExecutionRow) → AreAbove lower.execution (execution_numbers rows) → AreFound all rows → AreFound (lower ∷ all) rows
found-behind lower all [] above found = tt
found-behind lower all (row ∷ rest) above found =
    let off : (lower.execution == row.execution) ≡ false = ne_eqb lower.execution row.execution (λ e. omega (arith, above.0, e)) in (
      ap (λ b. option_map (λ (r : ExecutionRow). r.instance) (cond b (Some lower) (find (is_execution row.execution) all))) off ∙ found.0,
      found-behind lower all rest above.1 found.1,
    )

found-all : (rows : List ExecutionRow) → AreRising (execution_numbers rows) → AreFound rows rows
found-all [] rising = tt
found-all (row ∷ rest) rising = (
  ap (λ b. option_map (λ (r : ExecutionRow). r.instance) (cond b (Some row) (find (is_execution row.execution) rest))) (eq-eqb row.execution row.execution refl),
  found-behind row rest rest rising.0 (found-all rest rising.1),
)

-- what is known of a job execution that is not gone
pub known-there : (y : ℕ) (gone : ℕ → Bool) (all : List ExecutionRow) (works : List WorkRow) → is_gone gone (instance_in all y) ≡ false
    → known_elements y (works_there gone all works) ≡ known_elements y works
known-there y gone all [] there = refl
known-there y gone all (work ∷ rest) there =
    let k : Known = record { key = work_key work; fact = fact_of_state work.state } in
    let more = known-there y gone all rest there in
    let left : List WorkRow = works_there gone all rest in
    (elim (work.execution == y) as (λ b. (work.execution == y) ≡ b
    → known_elements y (cond (not (is_gone gone (instance_in all work.execution))) (work ∷ left) left) ≡ cond b (k ∷ known_elements y rest) (known_elements y rest)) [
      | true ↦ λ at.
          let stays : is_gone gone (instance_in all work.execution) ≡ false = ap (λ x. is_gone gone (instance_in all x)) (eqb-true work.execution y at) ∙ there in
          ap (λ b. known_elements y (cond (not b) (work ∷ left) left)) stays
          ∙ (ap (λ b. cond b (k ∷ known_elements y left) (known_elements y left)) at ∙ ap (λ (ks : List Known). k ∷ ks) more)
      | false ↦ λ off.
          (elim (is_gone gone (instance_in all work.execution)) as (λ b. known_elements y (cond (not b) (work ∷ left) left) ≡ known_elements y left) [
            | true ↦ refl
            | false ↦ ap (λ b. cond b (k ∷ known_elements y left) (known_elements y left)) off
          ]) ∙ more
    ]) refl

pub either-false : (a b : Bool) → (a || b) ≡ false → (a ≡ false) × (b ≡ false)
either-false true b e = cc
either-false false b e = (refl, e)

-- what is finished has nothing to do
idle : (catalogue : List JobTree) (works : List WorkRow) (i : ℕ) (row : ExecutionRow) → (row.instance == i) ≡ true → is_running_in i row ≡ false → has_ready catalogue works row ≡ false
idle catalogue works i row here finished =
    open-ready (row_status row) (walk_value catalogue works row.execution row.job row.plan) (sym (ap (λ b. b && is_unfinished (row_status row)) here) ∙ finished)

agenda-there : (catalogue : List JobTree) (i : ℕ) (all : List ExecutionRow) (works : List WorkRow) (rows : List ExecutionRow) → AreFound all rows
    → list_any (is_running_in i) rows ≡ false
    → agenda_of catalogue (works_there (λ j. j == i) all works) (executions_there (λ j. j == i) rows) ≡ agenda_of catalogue works rows
agenda-there catalogue i all works [] found finished = refl
agenda-there catalogue i all works (row ∷ rest) found finished =
    let left : List WorkRow = works_there (λ j. j == i) all works in
    let stay : List ExecutionRow = executions_there (λ j. j == i) rest in
    let parts = either-false (is_running_in i row) (list_any (is_running_in i) rest) finished in
    let more = agenda-there catalogue i all works rest found.1 parts.1 in
    (elim (row.instance == i) as (λ b. (row.instance == i) ≡ b
    → agenda_of catalogue left (cond (not b) (row ∷ stay) stay) ≡ agenda_of catalogue works (row ∷ rest)) [
      | true ↦ λ here.
          more ∙ sym (ap (λ b. execution_numbers (cond b (row ∷ filter (has_ready catalogue works) rest) (filter (has_ready catalogue works) rest))) (idle catalogue works i row here parts.0))
      | false ↦ λ other.
          let there : is_gone (λ j. j == i) (instance_in all row.execution) ≡ false = ap (is_gone (λ j. j == i)) found.0 ∙ other in
          let same : has_ready catalogue left row ≡ has_ready catalogue works row = ready-same catalogue works left row (known-there row.execution (λ j. j == i) all works there) in
          ap (λ b. execution_numbers (cond b (row ∷ filter (has_ready catalogue left) stay) (filter (has_ready catalogue left) stay))) same
          ∙ elim (has_ready catalogue works row) as (λ b. execution_numbers (cond b (row ∷ filter (has_ready catalogue left) stay) (filter (has_ready catalogue left) stay)) ≡ execution_numbers (cond b (row ∷ filter (has_ready catalogue works) rest) (filter (has_ready catalogue works) rest))) [
            | true ↦ ap (λ (l : List ℕ). row.execution ∷ l) more
            | false ↦ more
          ]
    ]) refl

-- a purged job instance has none on the agenda
pub agenda_without : (catalogue : List JobTree) (i : ℕ) (works : List WorkRow) (rows : List ExecutionRow) → AreRising (execution_numbers rows) → list_any (is_running_in i) rows ≡ false
    → agenda_of catalogue (works_there (λ j. j == i) rows works) (executions_there (λ j. j == i) rows) ≡ agenda_of catalogue works rows
agenda_without catalogue i works rows rising finished = agenda-there catalogue i rows works rows (found-all rows rising) finished

pub above-passed : (n : ℕ) (p : ExecutionRow → Bool) (rows : List ExecutionRow) (row : ExecutionRow) → AreAbove n (execution_numbers rows) → find p rows ≡ Some row → n < row.execution
above-passed n p [] row h found = cc
above-passed n p (r ∷ rest) row h found =
    (elim (p r) as (λ b. cond b (Some r) (find p rest) ≡ Some row → n < row.execution) [
      | true ↦ λ s. let is : r.execution ≡ row.execution = cc in omega (arith, h.0, is)
      | false ↦ λ s. above-passed n p rest row h.1 s
    ]) found

-- The least on the agenda

pub least_there : (catalogue : List JobTree) (works : List WorkRow) (rows : List ExecutionRow) (k : ℕ) (numbers : List ℕ)
    → AreRising (execution_numbers rows) → numbers ≡ agenda_of catalogue works rows → slice_get numbers 0 ≡ Some k → find (is_execution k) rows ≡ None → ⊥
least_there catalogue works rows k numbers rising is first none =
    let at : slice_get (agenda_of catalogue works rows) 0 ≡ Some k = ap (λ (l : List ℕ). slice_get l 0) (sym is) ∙ first in
    first_passes number (has_ready catalogue works) rows k at (sym (least_found number (has_ready catalogue works) rows k rising at) ∙ none)

pub least_first : (catalogue : List JobTree) (works : List WorkRow) (rows : List ExecutionRow) (k : ℕ) (numbers : List ℕ)
    → AreRising (execution_numbers rows) → numbers ≡ agenda_of catalogue works rows → slice_get numbers 0 ≡ Some k
    → find (is_execution k) rows ≡ find (has_ready catalogue works) rows
least_first catalogue works rows k numbers rising is first =
    least_found number (has_ready catalogue works) rows k rising (ap (λ (l : List ℕ). slice_get l 0) (sym is) ∙ first)

pub none_due : (catalogue : List JobTree) (works : List WorkRow) (rows : List ExecutionRow) (numbers : List ℕ)
    → numbers ≡ agenda_of catalogue works rows → numbers ≡ [] → find (has_ready catalogue works) rows ≡ None
none_due catalogue works rows numbers is none = none_found number (has_ready catalogue works) rows (sym is ∙ none)

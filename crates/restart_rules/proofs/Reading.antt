-- What is read by an index of the rows is what is read from all of them.
use Rattle.std.proofs.Common.{◌≡◌, ℕ, ◌==◌, ◌&&◌, ◌||◌, Bool, true, false, cond, nat_lt, List, [], ◌∷◌, map, refl, ap}
use Rattle.std.specs.List.{list_any}
use Rattle.jsl_model.specs.Jobs.{JobTree}
use Rattle.walk_rules.specs.declared.facts.Known.{Known}
use Rattle.batch_history.specs.Replies.{is_later_than}
use Rattle.batch_history.specs.Rows.{existing}
use Rattle.batch_history.specs.Walks.{fact_of_state, known_elements}
use Rattle.batch_history.specs.Works.{work_key}
use Rattle.batch_history.specs.declared.rows.ExecutionRow.{ExecutionRow}
use Rattle.batch_history.specs.declared.rows.LastNumbers.{LastNumbers}
use Rattle.batch_history.specs.declared.rows.WorkRow.{WorkRow}
use Rattle.records.specs.Left.{executions_of, works_of}
use Rattle.records.specs.Maps.{Maps}
use Rattle.records.specs.Without.{without_instance}
use Rattle.record_lists.proofs.Marks.{marks_there}
use Rattle.restart_rules.specs.Restarting.{rows_over}

-- what a work item tells of its work key
abbrev pub known_by : WorkRow → Known
known_by row = record { key = work_key row; fact = fact_of_state row.state }

pub known_read : (x : ℕ) (works : List WorkRow) → map known_by (works_of x works) ≡ known_elements x works
known_read x [] = refl
known_read x (row ∷ rest) =
    elim (row.execution == x) as (λ b. map known_by (cond b (row ∷ works_of x rest) (works_of x rest)) ≡ cond b (known_by row ∷ known_elements x rest) (known_elements x rest)) [
      | true ↦ ap (λ (ks : List Known). known_by row ∷ ks) (known_read x rest)
      | false ↦ known_read x rest
    ]

-- whether a job execution has a number above this one
abbrev pub is_above : ℕ → ExecutionRow → Bool
is_above x row = nat_lt x row.execution

pub later_read : (row : ExecutionRow) (rows : List ExecutionRow) → list_any (is_above row.execution) (executions_of row.instance rows) ≡ list_any (is_later_than row) rows
later_read row [] = refl
later_read row (other ∷ rest) =
    elim (other.instance == row.instance) as (λ b. list_any (is_above row.execution) (cond b (other ∷ executions_of row.instance rest) (executions_of row.instance rest))
    ≡ ((b && is_above row.execution other) || list_any (is_later_than row) rest)) [
      | true ↦ ap (λ b. is_above row.execution other || b) (later_read row rest)
      | false ↦ later_read row rest
    ]

-- the rows that say what is left once a job instance is gone
pub rows_without : (catalogue : List JobTree) (count : ℕ) (last : LastNumbers) (maps : Maps) (i : ℕ)
    → rows_over catalogue count last (without_instance i maps) ≡ existing (λ j. j == i) (rows_over catalogue count last maps)
rows_without catalogue count last maps i k =
    record (existing (λ j. j == i) (rows_over catalogue count last maps)) {
      checkpoint = λ p. marks_there (λ j. j == i) maps.checkpoints p k;
    }

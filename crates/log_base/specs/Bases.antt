-- The rows of a base.
use Rattle.std.specs.Prelude.{ℕ, zero, suc, ◌≡◌, ◌<◌, ◌⊎◌, ◌++◌, Bool, true, false, Option, Some, None, is_some, not, List, [], ◌∷◌, length}
use Rattle.jsl_model.specs.Jobs.{JobTree}
use Rattle.batch_history.specs.Rows.{Rows, history, rows}
use Rattle.row_repository.specs.Restoring.{AreCounted, checkpoint_fault, execution_fault, with_checkpoint, with_execution, with_work, without_rows, work_fault}
use Rattle.row_repository.specs.Settled.{AreSettled}
use Rattle.base_text.specs.Lines.{base_line_of}
use Rattle.base_text.specs.declared.head.BaseHead.{BaseHead}
use Rattle.base_text.specs.declared.line.BaseLine.{BaseLine}
use Rattle.base_text.specs.declared.line.BaseLine.TheVariants.{Head, Execution, Work, Checkpoint}
use Rattle.log_base.specs.declared.fault.BaseFault.{BaseFault}
use Rattle.log_base.specs.declared.fault.BaseFault.TheVariants.{BadLine, OutOfMemory}

-- ---- One line

-- the head in a line, if that is one
abbrev pub head_in : Option BaseLine → Option BaseHead
head_in None = None
head_in (Some (Head head)) = Some head
head_in (Some (Execution row)) = None
head_in (Some (Work row)) = None
head_in (Some (Checkpoint row)) = None

-- whether a line has a row that may be the next one behind these
abbrev pub is_next_row : Rows → Option BaseLine → Bool
is_next_row r None = false
is_next_row r (Some (Head head)) = false
is_next_row r (Some (Execution row)) = not (is_some (execution_fault r row))
is_next_row r (Some (Work row)) = not (is_some (work_fault r row))
is_next_row r (Some (Checkpoint row)) = not (is_some (checkpoint_fault r row))

abbrev pub is_next_line : Rows → List ℕ → Bool
is_next_line r line = is_next_row r (base_line_of line)

-- the rows with that of a line
abbrev pub with_row : Rows → Option BaseLine → Rows
with_row r None = r
with_row r (Some (Head head)) = r
with_row r (Some (Execution row)) = with_execution r row
with_row r (Some (Work row)) = with_work r row
with_row r (Some (Checkpoint row)) = with_checkpoint r row

abbrev pub with_line : Rows → List ℕ → Rows
with_line r line = with_row r (base_line_of line)

-- ---- All lines

-- the rows with those of lines, one after another
abbrev pub with_rows_of : Rows → List (List ℕ) → Rows
with_rows_of r [] = r
with_rows_of r (line ∷ lines) = with_rows_of (with_line r line) lines

-- each line has a row that may be the next one
abbrev pub AreNextLines : Rows → List (List ℕ) → Type 0
AreNextLines r [] = Unit {0}
AreNextLines r (line ∷ lines) = (is_next_line r line ≡ true) × AreNextLines (with_line r line) lines

-- the rows behind a head: none yet, after the operations that it counts
abbrev pub rows_at_head : List JobTree → Option BaseHead → Rows
rows_at_head jobs None = rows (history jobs [])
rows_at_head jobs (Some head) = without_rows jobs head.count head.last

-- THE ROWS OF A BASE over a catalogue with these jobs: those of its lines behind the first one. Without lines they are those of
-- a repository without operations
abbrev pub rows_of_base : List JobTree → List (List ℕ) → Rows
rows_of_base jobs [] = rows (history jobs [])
rows_of_base jobs (line ∷ lines) = with_rows_of (rows_at_head jobs (head_in (base_line_of line))) lines

-- ---- What a base is

-- a line is a head, which counts so many rows, and its last numbers are those of at most `limit` operations
pub record IsHead (limit : ℕ) (line : List ℕ) (count : ℕ) : Type 0 where
  pub head : BaseHead
  pub is_head : head_in (base_line_of line) ≡ Some head
  pub whole : head.rows ≡ count
  pub counted : AreCounted limit head.count head.last

-- each job execution shows what its walk comes to
abbrev pub ShowWalks : Rows → Type 0
ShowWalks r = AreSettled r.catalogue r.works r.executions

module _ (limit : ℕ) (jobs : List JobTree) where
  -- A BASE has no lines; or a head, behind it rows that may each be the next one, and these show what their walks come to
  pub record HasHeadAndRows (line : List ℕ) (lines : List (List ℕ)) : Type 0 where
    pub head : IsHead limit line (length lines)
    pub next : AreNextLines (rows_at_head jobs (head_in (base_line_of line))) lines
    pub settled : ShowWalks (rows_of_base jobs (line ∷ lines))

  abbrev pub IsBase : List (List ℕ) → Type 0
  IsBase [] = Unit {0}
  IsBase (line ∷ lines) = HasHeadAndRows line lines

  -- all rows may be there, but one doesn't show what its walk comes to
  pub record HasUnsettled (line : List ℕ) (lines : List (List ℕ)) : Type 0 where
    pub head : IsHead limit line (length lines)
    pub next : AreNextLines (rows_at_head jobs (head_in (base_line_of line))) lines
    pub unsettled : ShowWalks (rows_of_base jobs (line ∷ lines)) → ⊥

-- the line at this place, counted from 0, is the first that has no row which may be the next one
pub record IsFirstBad (r : Rows) (lines : List (List ℕ)) (place : ℕ) : Type 0 where
  pub before : List (List ℕ)
  pub line : List ℕ
  pub others : List (List ℕ)
  pub split : before ++ line ∷ others ≡ lines
  pub place_is : place ≡ length before
  pub next : AreNextLines r before
  pub bad : is_next_line (with_rows_of r before) line ≡ false

module _ (limit : ℕ) (jobs : List JobTree) where
  -- THE FIRST BAD LINE of what is no base. The first line is bad if it is no head of so many rows, and if the rows don't show
  -- what their walks come to
  abbrev pub IsBadBase : List (List ℕ) → ℕ → Type 0
  IsBadBase [] place = ⊥
  IsBadBase (line ∷ lines) zero = (IsHead limit line (length lines) → ⊥) ⊎ HasUnsettled limit jobs line lines
  IsBadBase (line ∷ lines) (suc place) = IsHead limit line (length lines) × IsFirstBad (rows_at_head jobs (head_in (base_line_of line))) lines place

-- the place that a fault names is below this number
abbrev pub IsPlacedBelow : ℕ → BaseFault → Type 0
IsPlacedBelow n (BadLine place) = place < n
IsPlacedBelow n OutOfMemory = Unit {0}

-- the fault of what is no base
abbrev pub IsBaseFault : ℕ → List JobTree → List (List ℕ) → BaseFault → Type 0
IsBaseFault limit jobs lines (BadLine place) = IsBadBase limit jobs lines place
IsBaseFault limit jobs lines OutOfMemory = Unit {0}

-- the fault of lines that are to be added to these rows
abbrev pub IsFirstBadFault : Rows → List (List ℕ) → BaseFault → Type 0
IsFirstBadFault r lines (BadLine place) = IsFirstBad r lines place
IsFirstBadFault r lines OutOfMemory = Unit {0}

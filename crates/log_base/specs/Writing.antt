-- The base of a repository.
use Rattle.std.specs.Prelude.{ℕ, ◌≡◌, ◌+◌, ◌++◌, Option, Some, None, List, [], ◌∷◌, length, map, filter_map}
use Rattle.jsl_model.specs.Jobs.{JobTree}
use Rattle.batch_history.specs.Rows.{Rows}
use Rattle.batch_history.specs.declared.rows.CheckpointRow.{CheckpointRow}
use Rattle.batch_history.specs.declared.rows.ExecutionRow.{ExecutionRow}
use Rattle.batch_history.specs.declared.rows.WorkRow.{WorkRow}
use Rattle.row_repository.specs.Restoring.{AreCounted, without_rows}
use Rattle.row_repository.specs.Shown.{Shown, mark_in}
use Rattle.base_text.specs.Lines.{base_line_of}
use Rattle.base_text.specs.declared.line.BaseLine.{BaseLine}
use Rattle.base_text.specs.declared.line.BaseLine.TheVariants.{Head, Execution, Work, Checkpoint}
use Rattle.durable_log.specs.Format.{LogRecord}
use Rattle.durable_log.specs.Files.{StandsFor}
use Rattle.script_log.specs.Runs.{base_record, catalogue_record}
use Rattle.log_base.specs.Bases.{AreNextLines, IsBase, head_in, rows_at_head, rows_of_base, with_rows_of}

-- the row of a job execution in a line, if it has one
abbrev pub execution_in : Option BaseLine → Option ExecutionRow
execution_in None = None
execution_in (Some (Head head)) = None
execution_in (Some (Execution row)) = Some row
execution_in (Some (Work row)) = None
execution_in (Some (Checkpoint row)) = None

-- that of a work item
abbrev pub work_in : Option BaseLine → Option WorkRow
work_in None = None
work_in (Some (Head head)) = None
work_in (Some (Execution row)) = None
work_in (Some (Work row)) = Some row
work_in (Some (Checkpoint row)) = None

-- that of a checkpoint
abbrev pub checkpoint_in : Option BaseLine → Option CheckpointRow
checkpoint_in None = None
checkpoint_in (Some (Head head)) = None
checkpoint_in (Some (Execution row)) = None
checkpoint_in (Some (Work row)) = None
checkpoint_in (Some (Checkpoint row)) = Some row

-- the rows in lines
abbrev pub shown_in : List (List ℕ) → Shown
shown_in lines =
    record {
      executions = filter_map (λ line. execution_in (base_line_of line)) lines;
      works = filter_map (λ line. work_in (base_line_of line)) lines;
      checkpoints = filter_map (λ line. checkpoint_in (base_line_of line)) lines;
    }

-- the records of a log that has this catalogue and this base alone
abbrev pub records_of_base : List ℕ → List (List ℕ) → List LogRecord
records_of_base catalogue lines = catalogue_record catalogue ∷ map base_record lines

-- these rows were taken since an earlier state: a line each was added to the records, and they are the next ones behind the rows
pub record IsWritten (earlier : List LogRecord) (before : Rows) (n : ℕ) (s : Shown) (now : List LogRecord) (after : Rows) (m : ℕ) : Type 0 where
  pub lines : List (List ℕ)
  pub added : now ≡ earlier ++ map base_record lines
  pub next : AreNextLines before lines
  pub rows_are : after ≡ with_rows_of before lines
  pub counted : m ≡ n + length lines
  pub shown : shown_in lines ≡ s

module _ (limit : ℕ) (jobs : List JobTree) (r : Rows) (catalogue : List ℕ) where
  -- the base of these rows has begun: a head with their numbers, which counts so many lines
  pub record HasBegun (count : ℕ) (records : List LogRecord) (begun : Rows) (taken : ℕ) : Type 0 where
    pub head : List ℕ
    pub is_head : head_in (base_line_of head) ≡ Some record { count = r.count; last = r.last; rows = count }
    pub counted : AreCounted limit r.count r.last
    pub records_are : records ≡ records_of_base catalogue (head ∷ [])
    pub begun_are : begun ≡ without_rows jobs r.count r.last
    pub none : taken ≡ 0

  -- the base of these rows was written: a head with their numbers, and a line for each, of which `made` has what was read back
  pub record IsWrittenBase (file : List ℕ) (made : Rows) : Type 0 where
    pub head : List ℕ
    pub lines : List (List ℕ)
    pub marks : List CheckpointRow
    pub stands : StandsFor (records_of_base catalogue (head ∷ lines)) file
    pub is_head : head_in (base_line_of head) ≡ Some record { count = r.count; last = r.last; rows = length lines }
    pub counted : AreCounted limit r.count r.last
    pub next : AreNextLines (rows_at_head jobs (head_in (base_line_of head))) lines
    pub made_are : made ≡ rows_of_base jobs (head ∷ lines)
    pub shown : shown_in lines ≡ record { executions = r.executions; works = r.works; checkpoints = marks }
    pub marks_are : r.checkpoint ≡ mark_in marks

  -- THE LOG OF ROWS over a catalogue with these jobs: its line, and a base with the same rows
  pub record IsLogOfRows (file : List ℕ) : Type 0 where
    pub lines : List (List ℕ)
    pub stands : StandsFor (records_of_base catalogue lines) file
    pub is_base : IsBase limit jobs lines
    pub rows_are : rows_of_base jobs lines ≡ record r { catalogue = jobs }

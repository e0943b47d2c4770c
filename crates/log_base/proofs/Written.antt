-- The base of a repository, which is written line by line.
use Rattle.std.proofs.Common.{◌≡◌, ◌∙◌, ℕ, ◌+◌, true, List, [], ◌∷◌, ◌++◌, map, length, Option, Some, Result, Ok, Err, refl, sym, ap, subst, append_assoc, length-append, arith}
use Rattle.std.specs.Prelude.{IfOk, IsOkAnd, OnErr, OnOk, filter_map}
use Rattle.std.specs.declared.alloc.AllocError.{AllocError}
use Rattle.std.specs.List.{cons_option}
use Rattle.std.proofs.lemmas.List.{append-nil, map-append}
use Rattle.std.proofs.lemmas.List.Elements.{filter_map-append}
use Rattle.jsl_model.specs.Jobs.{JobTree}
use Rattle.batch_history.specs.Rows.{Rows}
use Rattle.batch_history.specs.declared.rows.CheckpointRow.{CheckpointRow}
use Rattle.batch_history.specs.declared.rows.ExecutionRow.{ExecutionRow}
use Rattle.batch_history.specs.declared.rows.WorkRow.{WorkRow}
use Rattle.row_repository.specs.declared.sink.NotTaken.{NotTaken}
use Rattle.row_repository.specs.Settled.{AreSettled}
use Rattle.row_repository.specs.Shown.{Shown, mark_in, with_shown_checkpoint, with_shown_execution, with_shown_rows, with_shown_work}
use Rattle.base_text.specs.Lines.{base_line_of}
use Rattle.base_text.specs.declared.fault.BaseTextFault.{BaseTextFault}
use Rattle.base_text.specs.declared.line.BaseLine.{BaseLine}
use Rattle.base_text.specs.declared.line.BaseLine.TheVariants.{Execution, Work, Checkpoint}
use Rattle.base_text.specs.declared.texts.WrittenLine.{WrittenLine}
use Rattle.durable_log.specs.Format.{LogRecord}
use Rattle.durable_log.specs.Files.{StandsFor}
use Rattle.durable_log.specs.Logs.{records_of}
use Rattle.script_log.specs.Runs.{base_record}
use Rattle.log_base.proofs.Added.{next_push, with_push}
use Rattle.log_base.proofs.Rebuilt.{rebuilt}
use Rattle.log_base.specs.Bases.{AreNextLines, head_in, is_next_row, rows_at_head, rows_of_base, with_line, with_row, with_rows_of}
use Rattle.log_base.specs.Writing.{HasBegun, IsLogOfRows, IsWritten, IsWrittenBase, checkpoint_in, execution_in, shown_in, work_in}

-- ---- One line more

-- a log to which a record was added, or not, stands for its records
pub stands_still : (result : Result Unit AllocError) (old new : List ℕ) (added : LogRecord) → StandsFor (records_of old) old → OnOk result (records_of new ≡ records_of old ++ added ∷ [])
    → OnOk result ((records : List LogRecord) → StandsFor records old → StandsFor (records ++ added ∷ []) new) → OnErr result (new ≡ old) → StandsFor (records_of new) new
stands_still (Ok done) old new added stands are more same = subst (λ (rs : List LogRecord). StandsFor rs new) (sym are) (more (records_of old) stands)
stands_still (Err refused) old new added stands are more same = subst (λ (f : List ℕ). StandsFor (records_of f) f) (sym same) stands

pub weaker : (result : Result Unit NotTaken) {P Q : Type 0} → (P → Q) → OnOk result P → OnOk result Q
weaker (Ok done) f p = f p
weaker (Err refused) f p = tt

rows-added : {R : Type 0} (h : Option BaseLine → Option R) (lines : List (List ℕ)) (line : List ℕ) (found : BaseLine) → base_line_of line ≡ Some found
    → filter_map (λ l. h (base_line_of l)) (lines ++ line ∷ []) ≡ filter_map (λ l. h (base_line_of l)) lines ++ cons_option (h (Some found)) []
rows-added h lines line found is =
    filter_map-append (λ l. h (base_line_of l)) lines (line ∷ [])
    ∙ ap (λ (o : Option BaseLine). filter_map (λ l. h (base_line_of l)) lines ++ cons_option (h o) []) is

-- the rows of lines with one more
abbrev with-found : Shown → BaseLine → Shown
with-found s found =
    record {
      executions = s.executions ++ cons_option (execution_in (Some found)) [];
      works = s.works ++ cons_option (work_in (Some found)) [];
      checkpoints = s.checkpoints ++ cons_option (checkpoint_in (Some found)) [];
    }

shown-added : (lines : List (List ℕ)) (line : List ℕ) (found : BaseLine) → base_line_of line ≡ Some found → shown_in (lines ++ line ∷ []) ≡ with-found (shown_in lines) found
shown-added lines line found is = λ i. record {
  executions = rows-added execution_in lines line found is i;
  works = rows-added work_in lines line found is i;
  checkpoints = rows-added checkpoint_in lines line found is i;
}

-- a line was added to the records, and its row to the rows
record IsAdded (old : List LogRecord) (before : Rows) (n : ℕ) (line : List ℕ) (found : BaseLine) (new : List LogRecord) (after : Rows) (m : ℕ) : Type 0 where
  pub found_is : base_line_of line ≡ Some found
  pub added : new ≡ old ++ base_record line ∷ []
  pub next : is_next_row before (Some found) ≡ true
  pub rows_are : after ≡ with_row before (Some found)
  pub counted : m ≡ n + 1

written-more : (earlier : List LogRecord) (first : Rows) (k : ℕ) (s : Shown) (old : List LogRecord) (before : Rows) (n : ℕ) (line : List ℕ) (found : BaseLine) (new : List LogRecord) (after : Rows) (m : ℕ)
    → IsAdded old before n line found new after m → IsWritten earlier first k s old before n → IsWritten earlier first k (with-found s found) new after m
written-more earlier first k s old before n line found new after m A W = record {
  lines = W.lines ++ line ∷ [];
  added =
      A.added
      ∙ (ap (λ (rs : List LogRecord). rs ++ base_record line ∷ []) W.added
      ∙ (append_assoc earlier (map base_record W.lines) (base_record line ∷ [])
      ∙ ap (λ (rs : List LogRecord). earlier ++ rs) (sym (map-append base_record W.lines (line ∷ [])))));
  next = next_push first W.lines line W.next (subst (λ (r : Rows). is_next_row r (base_line_of line) ≡ true) W.rows_are (ap (is_next_row before) A.found_is ∙ A.next));
  rows_are =
      A.rows_are
      ∙ (ap (with_row before) (sym A.found_is)
      ∙ (ap (λ (r : Rows). with_line r line) W.rows_are ∙ sym (with_push first W.lines line)));
  counted = omega (arith, A.counted, W.counted, length-append W.lines (line ∷ []));
  shown = shown-added W.lines line found A.found_is ∙ ap (λ (t : Shown). with-found t found) W.shown;
}

execution-found : (s : Shown) (row : ExecutionRow) → with-found s (Execution row) ≡ with_shown_execution s row
execution-found s row = λ i. record { executions = s.executions ++ row ∷ []; works = append-nil s.works i; checkpoints = append-nil s.checkpoints i }

work-found : (s : Shown) (row : WorkRow) → with-found s (Work row) ≡ with_shown_work s row
work-found s row = λ i. record { executions = append-nil s.executions i; works = s.works ++ row ∷ []; checkpoints = append-nil s.checkpoints i }

checkpoint-found : (s : Shown) (row : CheckpointRow) → with-found s (Checkpoint row) ≡ with_shown_checkpoint s row
checkpoint-found s row = λ i. record { executions = append-nil s.executions i; works = append-nil s.works i; checkpoints = s.checkpoints ++ row ∷ [] }

-- what was written since an earlier state goes on with a row
abbrev Goes : List LogRecord → Rows → ℕ → (Shown → Shown) → List LogRecord → Rows → ℕ → Type 0
Goes old before n more new after m =
    (earlier : List LogRecord) (first : Rows) (k : ℕ) (s : Shown) → IsWritten earlier first k s old before n → IsWritten earlier first k (more s) new after m

module _ (old : List LogRecord) (before : Rows) (n : ℕ) (new : List LogRecord) (after : Rows) (m : ℕ) where
  goes-by : (found : BaseLine) (more : Shown → Shown) → ((s : Shown) → with-found s found ≡ more s) → (line : List ℕ) → IsAdded old before n line found new after m
      → Goes old before n more new after m
  goes-by found more is line A earlier first k s W =
      subst (λ (t : Shown). IsWritten earlier first k t new after m) (is s) (written-more earlier first k s old before n line found new after m A W)

  -- a row whose line was written was taken
  pub took : (result : Result Unit NotTaken) (line : Result WrittenLine BaseTextFault) (found : BaseLine) (more : Shown → Shown) → ((s : Shown) → with-found s found ≡ more s)
      → OnOk result (IsOkAnd line (λ l. new ≡ old ++ base_record l.text.items ∷ []))
      → OnOk result (IsOkAnd line (λ l. is_next_row before (Some l.row) ≡ true))
      → OnOk result (IsOkAnd line (λ l. after ≡ with_row before (Some l.row)))
      → OnOk result (m ≡ n + 1)
      → IfOk line (λ l. base_line_of l.text.items ≡ Some l.row)
      → IfOk line (λ l. l.row ≡ found)
      → OnOk result (Goes old before n more new after m)
  took (Ok done) (Ok l) found more is added next rows_are counted read same =
      goes-by found more is l.text.items record {
        found_is = read ∙ ap (λ (b : BaseLine). Some b) same;
        added = added;
        next = ap (λ (b : BaseLine). is_next_row before (Some b)) (sym same) ∙ next;
        rows_are = rows_are ∙ ap (λ (b : BaseLine). with_row before (Some b)) same;
        counted = counted;
      }
  took (Ok done) (Err fault) found more is added next rows_are counted read same = absurd added
  took (Err refused) line found more is added next rows_are counted read same = tt

pub execution_more : (row : ExecutionRow) (s : Shown) → with-found s (Execution row) ≡ with_shown_execution s row
execution_more row s = execution-found s row

pub work_more : (row : WorkRow) (s : Shown) → with-found s (Work row) ≡ with_shown_work s row
work_more row s = work-found s row

pub checkpoint_more : (row : CheckpointRow) (s : Shown) → with-found s (Checkpoint row) ≡ with_shown_checkpoint s row
checkpoint_more row s = checkpoint-found s row

-- ---- The whole base

abbrev pub no_rows : Shown
no_rows = record { executions = []; works = []; checkpoints = [] }

pub nothing_written : (records : List LogRecord) (r : Rows) (n : ℕ) → IsWritten records r n no_rows records r n
nothing_written records r n = record { lines = []; added = sym (append-nil records); next = tt; rows_are = refl; counted = omega (arith); shown = refl }

-- a base that took all rows behind its head
pub written_base : (limit : ℕ) (jobs : List JobTree) (r : Rows) (catalogue file : List ℕ) (count taken all : ℕ) (begun whole : List LogRecord) (first made : Rows) (marks : List CheckpointRow)
    → HasBegun limit jobs r catalogue count begun first taken → r.checkpoint ≡ mark_in marks
    → IsWritten begun first taken (with_shown_rows no_rows r marks) whole made all
    → all ≡ count → StandsFor whole file → IsWrittenBase limit jobs r catalogue file made
written_base limit jobs r catalogue file count taken all begun whole first made marks B are W same stands =
    let counts : count ≡ length W.lines = omega (arith, same, W.counted, B.none) in
    let at_head : first ≡ rows_at_head jobs (head_in (base_line_of B.head)) = B.begun_are ∙ ap (rows_at_head jobs) (sym B.is_head) in
    record {
      head = B.head;
      lines = W.lines;
      marks = marks;
      stands = subst (λ (rs : List LogRecord). StandsFor rs file) (W.added ∙ ap (λ (rs : List LogRecord). rs ++ map base_record W.lines) B.records_are) stands;
      is_head = B.is_head ∙ ap (λ (c : ℕ). Some record { count = r.count; last = r.last; rows = c }) counts;
      counted = B.counted;
      next = subst (λ (o : Rows). AreNextLines o W.lines) at_head W.next;
      made_are = W.rows_are ∙ ap (λ (o : Rows). with_rows_of o W.lines) at_head;
      shown = W.shown;
      marks_are = are;
    }

-- a base that was written, and whose rows are settled, has the rows of the repository if the job instances are the same
pub log_of_rows : (limit : ℕ) (jobs : List JobTree) (r : Rows) (catalogue file : List ℕ) (made : Rows) → IsWrittenBase limit jobs r catalogue file made
    → AreSettled made.catalogue made.works made.executions → made.instances ≡ r.instances
    → IsLogOfRows limit jobs r catalogue file × (made ≡ record r { catalogue = jobs })
log_of_rows limit jobs r catalogue file made W settled same =
    let are : rows_of_base jobs (W.head ∷ W.lines) ≡ record r { catalogue = jobs } =
    rebuilt jobs r W.head W.lines W.marks (length W.lines) W.is_head W.shown W.marks_are W.next (ap (λ (o : Rows). o.instances) (sym W.made_are) ∙ same) in (
      record {
        lines = W.head ∷ W.lines;
        stands = W.stands;
        is_base = record {
          head = record {
            head = record { count = r.count; last = r.last; rows = length W.lines };
            is_head = W.is_head;
            whole = refl;
            counted = W.counted;
          };
          next = W.next;
          settled = subst (λ (o : Rows). AreSettled o.catalogue o.works o.executions) W.made_are settled;
        };
        rows_are = are;
      },
      W.made_are ∙ are,
    )

-- The base of a log, over a catalogue that has grown.
use Rattle.std.specs.Prelude.{if◌then◌else◌}
use Rattle.std.proofs.Common.{◌≡◌, ◌∙◌, ℕ, Bool, true, false, Option, None, Some, is_some, Ok, List, [], ◌∷◌, ◌++◌, refl, sym, ap, ap₂, subst}
use Rattle.jsl_model.specs.Jobs.{JobTree}
use Rattle.batch_history.specs.Legal.{most_numbered}
use Rattle.batch_history.specs.Legal.{IsLegal}
use Rattle.batch_history.specs.Rows.{History, Rows, history, rows}
use Rattle.batch_history.specs.Walks.{job_named}
use Rattle.catalogue_growth.specs.Growth.{IsGrown}
use Rattle.catalogue_laws.specs.Leaving.{AreNamed, AreShort, over_hidden, with_hidden}
use Rattle.catalogue_laws.proofs.Leavers.{found-front}
use Rattle.catalogue_laws.proofs.OtherNames.{IsNamed, each-of}
use Rattle.catalogue_laws.proofs.SameNames.{legal_grown, rows_grown}
use Rattle.std.specs.Str.{bytes_eq}
use Rattle.batch_history.specs.declared.rows.ExecutionRow.{ExecutionRow}
use Rattle.row_repository.specs.Restoring.{has_instance, with_again, with_execution, with_first}
use Rattle.base_text.specs.Lines.{base_line_of}
use Rattle.base_text.specs.declared.head.BaseHead.{BaseHead}
use Rattle.base_text.specs.declared.line.BaseLine.{BaseLine}
use Rattle.base_text.specs.declared.line.BaseLine.TheVariants.{Head, Execution, Work, Checkpoint}
use Rattle.durable_log.specs.Format.{LogRecord}
use Rattle.log_base.specs.Bases.{head_in, rows_at_head, rows_of_base, with_line, with_row, with_rows_of}
use Rattle.script_engine.specs.Script.{catalogue_at}
use Rattle.script_log.proofs.Lines.{history-catalogue}
use Rattle.script_log.specs.Runs.{History as LogHistory, base_lines, history_of}
use Rattle.logged_script.specs.Faults.{GoesOnFrom}
use Rattle.logged_script.specs.Histories.{IsOfBase, jobs_at, jobs_read, rows_begun}
use Rattle.logged_script.specs.Openings.{KeepsBase, records_begun}
use Rattle.logged_script.proofs.Widening.{is-grown, same-jobs}
use Rattle.logged_script.proofs.ShortIds.{short_jobs}

-- ---- The rows of a base, whose lines know nothing of the catalogue

abbrev over : List JobTree → Rows → Rows
over jobs r = record r { catalogue = jobs }

execution-over : (jobs : List JobTree) (r : Rows) (row : ExecutionRow) → with_execution (over jobs r) row ≡ over jobs (with_execution r row)
execution-over jobs r row =
    elim (has_instance r row.instance) as (λ b. (if b then with_again (over jobs r) row else with_first (over jobs r) row) ≡ over jobs (if b then with_again r row else with_first r row)) [
      | true ↦ refl
      | false ↦ refl
    ]

row-over : (jobs : List JobTree) (r : Rows) (line : Option BaseLine) → with_row (over jobs r) line ≡ over jobs (with_row r line)
row-over jobs r None = refl
row-over jobs r (Some (Head head)) = refl
row-over jobs r (Some (Execution row)) = execution-over jobs r row
row-over jobs r (Some (Work row)) = refl
row-over jobs r (Some (Checkpoint row)) = refl

rows-over : (jobs : List JobTree) (r : Rows) (lines : List (List ℕ)) → with_rows_of (over jobs r) lines ≡ over jobs (with_rows_of r lines)
rows-over jobs r [] = refl
rows-over jobs r (line ∷ lines) = ap (λ (o : Rows). with_rows_of o lines) (row-over jobs r (base_line_of line)) ∙ rows-over jobs (with_line r line) lines

head-over : (kept given : List JobTree) (head : Option BaseHead) → rows_at_head given head ≡ over given (rows_at_head kept head)
head-over kept given None = refl
head-over kept given (Some head) = refl

base-over : (kept given : List JobTree) (base : List (List ℕ)) → rows_of_base given base ≡ over given (rows_of_base kept base)
base-over kept given [] = refl
base-over kept given (line ∷ lines) =
    ap (λ (o : Rows). with_rows_of o lines) (head-over kept given (head_in (base_line_of line)))
    ∙ rows-over given (rows_at_head kept (head_in (base_line_of line))) lines

-- the rows of a base have its catalogue
base-catalogue : (jobs : List JobTree) (base : List (List ℕ)) → (rows_of_base jobs base).catalogue ≡ jobs
base-catalogue jobs base = ap (λ (r : Rows). r.catalogue) (base-over jobs jobs base)

-- ---- The log that goes on

-- each job execution is of a job of the catalogue, also if that has more jobs
named-grown : (kept more given : List JobTree) (r : Rows) → given ≡ kept ++ more → r.catalogue ≡ kept → AreNamed r → AreNamed (over given r)
named-grown kept more given r is begun named =
    each-of (IsNamed r.catalogue) (IsNamed given) r.executions
    (λ row some. subst (λ (jobs : List JobTree). is_some (job_named jobs row.job) ≡ true) (ap (λ (jobs : List JobTree). jobs ++ more) begun ∙ sym is)
    (ap is_some (found-front (λ (job : JobTree). bytes_eq job.id row.job) r.catalogue more some) ∙ some)) named

-- its catalogue has the given jobs, and its base is as it was
jobs-now : (records now : List LogRecord) (line : List ℕ) (grown : Bool) → (G : GoesOnFrom records line grown) → now ≡ records_begun records line grown
    → (jobs_at (history_of now) ≡ G.given) × ((history_of now).base ≡ base_lines records)
jobs-now records now line true G is =
    let h = ap history_of is ∙ history-catalogue records line in
    (ap jobs_at h ∙ ap jobs_read G.is_given, ap (λ (h : LogHistory). h.base) h)
jobs-now records now line false G is =
    (ap (λ (rs : List LogRecord). jobs_at (history_of rs)) is ∙ (ap jobs_read G.has.read ∙ sym G.has_grown), ap base_lines is)

pub jobs_given : (records now : List LogRecord) (line : List ℕ) (grown : Bool) (given : List JobTree) → GoesOnFrom records line grown → catalogue_at line ≡ Ok given → now ≡ records_begun records line grown
    → jobs_at (history_of now) ≡ given
jobs_given records now line grown given G is begun = (jobs-now records now line grown G begun).0 ∙ same-jobs (catalogue_at line) G.given given G.is_given is

kept-base : (kept more given : List JobTree) (old new : LogHistory) → AreShort given → given ≡ kept ++ more → jobs_at old ≡ kept → jobs_at new ≡ given → new.base ≡ old.base → KeepsBase given old new
kept-base kept more given old new short is was now same g from =
    let hidden = from.hidden in
    let s = from.stands in
    let old_rows : rows_begun old ≡ rows_of_base kept old.base = ap (λ (jobs : List JobTree). rows_of_base jobs old.base) was in
    let new_rows : rows_begun new ≡ over given (rows_begun old) = ap₂ rows_of_base now same ∙ (base-over kept given old.base ∙ ap (over given) (sym old_rows)) in
    let begun : (rows_begun old).catalogue ≡ kept = ap (λ (r : Rows). r.catalogue) old_rows ∙ base-catalogue kept old.base in
    let catalogue : g.catalogue ≡ with_hidden kept hidden = ap (λ (r : Rows). r.catalogue) s.rows_are ∙ ap (λ (jobs : List JobTree). with_hidden jobs hidden) begun in
    let whole : history (with_hidden kept hidden) g.log ≡ g = λ i. history (sym catalogue i) g.log in
    let short_now : AreShort (kept ++ more) = subst AreShort is short in
    let legal : IsLegal most_numbered (history (with_hidden kept hidden) g.log) = subst (IsLegal most_numbered) (sym whole) s.legal in
    let legal_now : IsLegal most_numbered (history (with_hidden given hidden) g.log)
    = subst (λ (jobs : List JobTree). IsLegal most_numbered (history (with_hidden jobs hidden) g.log)) (sym is) (legal_grown most_numbered kept more hidden g.log short_now legal) in
    let rows_now : rows (history (with_hidden given hidden) g.log) ≡ over (with_hidden given hidden) (rows g)
    = subst (λ (jobs : List JobTree). rows (history (with_hidden jobs hidden) g.log) ≡ over (with_hidden jobs hidden) (rows g)) (sym is)
    (rows_grown most_numbered kept more hidden g.log short_now legal ∙ ap (λ (h : History). over (with_hidden (kept ++ more) hidden) (rows h)) whole) in
    record {
      hidden = hidden;
      stands = record {
        legal = legal_now;
        rows_are = rows_now ∙ (ap (over (with_hidden given hidden)) s.rows_are ∙ ap (over_hidden hidden) (sym new_rows));
        named = subst AreNamed (sym new_rows) (named-grown kept more given (rows_begun old) is begun s.named);
      };
    }

pub base_kept : (records now : List LogRecord) (line : List ℕ) (grown : Bool) (given : List JobTree) → GoesOnFrom records line grown → catalogue_at line ≡ Ok given
    → now ≡ records_begun records line grown → KeepsBase given (history_of records) (history_of now)
base_kept records now line grown given G is begun =
    let behind = jobs-now records now line grown G begun in
    let same : G.given ≡ given = same-jobs (catalogue_at line) G.given given G.is_given is in
    let from : IsGrown G.kept given = subst (IsGrown G.kept) same (is-grown G.kept G.given grown G.has_grown) in
    kept-base G.kept from.0 given (history_of records) (history_of now) (short_jobs line given is) from.1 (ap jobs_read G.has.read) (behind.0 ∙ same) behind.1

-- A log that is made anew from the rows of another one.
use Rattle.std.proofs.Common.{◌≡◌, ◌∙◌, ℕ, ◌==◌, Bool, true, false, cond, Option, None, Some, List, [], ◌∷◌, map, length, Result, Ok, Err, refl, sym, ap, subst}
use Rattle.std.specs.Prelude.{box_value}
use Rattle.jsl_json.specs.declared.fault.ReadFault.{ReadFault}
use Rattle.jsl_model.specs.Jobs.{JobTree}
use Rattle.batch_ids.specs.declared.refusal.Refusal.{Refusal}
use Rattle.batch_history.specs.Legal.{most_numbered}
use Rattle.batch_history.specs.Lists.{Each}
use Rattle.batch_history.specs.NextRows.{rows_after, rows_with, without}
use Rattle.batch_history.specs.Operations.{purged_by}
use Rattle.batch_history.specs.Replies.{is_nothing, reply_by}
use Rattle.batch_history.specs.Rows.{Rows}
use Rattle.batch_history.specs.Walks.{job_named}
use Rattle.batch_history.specs.declared.rows.ExecutionRow.{ExecutionRow}
use Rattle.batch_history.specs.declared.call.Call.{Call}
use Rattle.batch_history.specs.declared.call.Entry.{Entry}
use Rattle.batch_history.specs.declared.call.Reply.{Reply}
use Rattle.row_repository.specs.Calls.{rows_after_call}
use Rattle.script_text.specs.declared.command.Command.{Command}
use Rattle.script_text.specs.declared.command.Command.TheVariants.{BadLine, TextTooLong, Act, Ask}
use Rattle.script_engine.specs.ByRows.{command_at, line_rows_by, rows_by, rows_past}
use Rattle.script_engine.specs.Script.{catalogue_at}
use Rattle.durable_log.specs.Logs.{records_of}
use Rattle.durable_log.proofs.Fronts.{records-stand}
use Rattle.script_log.specs.Runs.{History as LogHistory, base_lines, base_record, history_of, kept_lines, last_catalogue}
use Rattle.log_base.proofs.Rebuilt.{numbers_all}
use Rattle.log_base.specs.Bases.{head_in, rows_at_head, rows_of_base}
use Rattle.log_base.specs.Writing.{IsLogOfRows, records_of_base}
use Rattle.base_text.specs.Lines.{base_line_of}
use Rattle.base_text.specs.declared.head.BaseHead.{BaseHead}
use Rattle.catalogue_laws.specs.Leaving.{KeepsJobs}
use Rattle.logged_script.specs.Compactions.{IsCompacted, IsCompactedOver}
use Rattle.logged_script.specs.Histories.{Answers, jobs_at, jobs_read, rows_at, rows_begun}
use Rattle.logged_script.specs.Tags.{commands_in}
use Rattle.logged_script.specs.declared.engine.ScriptEngine.{ScriptEngine}
use Rattle.logged_script.proofs.Keeping.{no-commands}

-- ---- The catalogue of rows

catalogue-without : (purged : Option ℕ) (r : Rows) → (without purged r).catalogue ≡ r.catalogue
catalogue-without None r = refl
catalogue-without (Some i) r = refl

catalogue-reply : (r : Rows) (e : Entry) (nothing : Bool) → (cond nothing r (rows_after r e)).catalogue ≡ r.catalogue
catalogue-reply r e true = refl
catalogue-reply r e false = catalogue-without (purged_by e.call) (rows_with r e)

catalogue-call : (r : Rows) (who : ℕ) (call : Call) (at : ℕ) (result : Result Reply Refusal) → (rows_after_call r who call at result).catalogue ≡ r.catalogue
catalogue-call r who call at (Ok given) = catalogue-reply r record { who = who; call = call; at = at; reply = given } (is_nothing given)
catalogue-call r who call at (Err refusal) = refl

catalogue-command : (r : Rows) (command : Command) → (rows_by most_numbered r command).catalogue ≡ r.catalogue
catalogue-command r BadLine = refl
catalogue-command r TextTooLong = refl
catalogue-command r (Act by at call) = catalogue-call r by call at (reply_by most_numbered r by call)
catalogue-command r (Ask query) = refl

catalogue-by : (r : Rows) (line : List ℕ) (empty : Bool) → (cond empty r (rows_by most_numbered r (command_at line))).catalogue ≡ r.catalogue
catalogue-by r line true = refl
catalogue-by r line false = catalogue-command r (command_at line)

catalogue-line : (r : Rows) (line : List ℕ) → (line_rows_by most_numbered r line).catalogue ≡ r.catalogue
unfolding line_rows_by
catalogue-line r line = catalogue-by r line (length line == 0)

catalogue-past : (r : Rows) (lines : List (List ℕ)) → (rows_past most_numbered r lines).catalogue ≡ r.catalogue
catalogue-past r [] = refl
catalogue-past r (line ∷ lines) = catalogue-past (line_rows_by most_numbered r line) lines ∙ catalogue-line r line

catalogue-head : (jobs : List JobTree) (head : Option BaseHead) → (rows_at_head jobs head).catalogue ≡ jobs
catalogue-head jobs None = refl
catalogue-head jobs (Some head) = refl

catalogue-base : (jobs : List JobTree) (base : List (List ℕ)) → (rows_of_base jobs base).catalogue ≡ jobs
catalogue-base jobs [] = refl
catalogue-base jobs (line ∷ lines) =
    (numbers_all (rows_at_head jobs (head_in (base_line_of line))) lines).2 ∙ catalogue-head jobs (head_in (base_line_of line))

pub catalogue-of : (tags : Bool) (h : LogHistory) → (rows_at tags h).catalogue ≡ jobs_at h
catalogue-of tags h = catalogue-past (rows_begun h) (commands_in tags h.lines) ∙ catalogue-base (jobs_at h) h.base

-- ---- The log that was made

lines-base : (lines : List (List ℕ)) (text : List ℕ) → (base_lines (map base_record lines) ≡ lines) × (kept_lines (map base_record lines) ≡ []) × (last_catalogue text (map base_record lines) ≡ text)
lines-base [] text = (refl, refl, refl)
lines-base (line ∷ lines) text =
    let rest = lines-base lines text in
    (ap (λ (l : List (List ℕ)). line ∷ l) rest.0, rest.1, rest.2)

history-base : (line : List ℕ) (lines : List (List ℕ)) → history_of (records_of_base line lines) ≡ record { catalogue = line; base = lines; lines = [] }
history-base line lines =
    let parts = lines-base lines line in
    λ i. record { catalogue = parts.2 i; base = parts.0 i; lines = parts.1 i }

-- the log of rows has them, and no line
module _ (tags : Bool) (limit : ℕ) (r : Rows) (line file : List ℕ) (jobs : List JobTree)
    (read : catalogue_at line ≡ Ok jobs) (L : IsLogOfRows limit jobs r line file) where
  history-is : history_of (records_of file) ≡ record { catalogue = line; base = L.lines; lines = [] }
  history-is = ap history_of (records-stand (records_of_base line L.lines) file L.stands) ∙ history-base line L.lines

  rows-are : rows_at tags (history_of (records_of file)) ≡ record r { catalogue = jobs }
  rows-are =
      ap (rows_at tags) history-is
      ∙ (ap (rows_past most_numbered (rows_of_base (jobs_read (catalogue_at line)) L.lines)) (no-commands tags)
      ∙ (ap (λ (o : Result (List JobTree) ReadFault). rows_of_base (jobs_read o) L.lines) read ∙ L.rows_are))

  -- the repository that was restored answers for it
  pub answers_anew : {J : Type 0} {n : ℕ} (rows_in : J → Rows) (anew : ScriptEngine J n) (repository : J) → limit ≡ most_numbered → box_value anew.repository ≡ repository → rows_in repository ≡ record r { catalogue = jobs }
      → Answers tags limit rows_in anew (history_of (records_of file))
  answers_anew rows_in anew repository most holds are = record { limit_is = most; rows_are = ap rows_in holds ∙ (are ∙ sym rows-are) }

  -- it stands for the history of an engine that has these rows
  pub compacted_of : {J : Type 0} {n : ℕ} (rows_in : J → Rows) (engine : ScriptEngine J n) (h : LogHistory) → r ≡ rows_in (box_value engine.repository) → Answers tags limit rows_in engine h → jobs_at h ≡ jobs_read (catalogue_at line)
      → IsCompacted tags h line (history_of (records_of file))
  compacted_of rows_in engine h are answers of_jobs =
      let is : r ≡ rows_at tags h = are ∙ answers.rows_are in
      let given : jobs ≡ r.catalogue = sym (ap (λ (o : Rows). o.catalogue) is ∙ (catalogue-of tags h ∙ (of_jobs ∙ ap jobs_read read))) in
      record {
        catalogue = ap (λ (o : LogHistory). o.catalogue) history-is;
        lines = ap (λ (o : LogHistory). o.lines) history-is;
        rows = rows-are ∙ (ap (λ (c : List JobTree). record r { catalogue = c }) given ∙ is);
      }

  -- also over other jobs, if these keep those of the rows
  pub compacted_over : {J : Type 0} {n : ℕ} (rows_in : J → Rows) (engine : ScriptEngine J n) (h : LogHistory) → r ≡ rows_in (box_value engine.repository) → Answers tags limit rows_in engine h → KeepsJobs (rows_at tags h) (jobs_read (catalogue_at line))
      → IsCompactedOver tags h line (history_of (records_of file))
  compacted_over rows_in engine h are answers keeps =
      let is : r ≡ rows_at tags h = are ∙ answers.rows_are in
      let catalogue : (history_of (records_of file)).catalogue ≡ line = ap (λ (o : LogHistory). o.catalogue) history-is in
      let given : jobs_at (history_of (records_of file)) ≡ jobs_read (catalogue_at line) = ap (λ (l : List ℕ). jobs_read (catalogue_at l)) catalogue in
      record {
        catalogue = catalogue;
        lines = ap (λ (o : LogHistory). o.lines) history-is;
        keeps = subst (KeepsJobs (rows_at tags h)) (sym given) keeps;
        rows = rows-are ∙ (λ i. record (is i) { catalogue = (sym (ap jobs_read read) ∙ sym given) i });
      }

-- ---- What was compacted over the same jobs

keeps-own : (jobs : List JobTree) (rows : List ExecutionRow) → Each (λ (row : ExecutionRow). job_named jobs row.job ≡ job_named jobs row.job) rows
keeps-own jobs [] = tt
keeps-own jobs (row ∷ rows) = (refl, keeps-own jobs rows)

pub compacted_over_same : (tags : Bool) (earlier now : LogHistory) (line : List ℕ) → jobs_at earlier ≡ jobs_read (catalogue_at line) → IsCompacted tags earlier line now → IsCompactedOver tags earlier line now
compacted_over_same tags earlier now line same is =
    let r : Rows = rows_at tags earlier in
    let jobs : r.catalogue ≡ jobs_at now = catalogue-of tags earlier ∙ (same ∙ ap (λ (l : List ℕ). jobs_read (catalogue_at l)) (sym is.catalogue)) in
    record {
      catalogue = is.catalogue;
      lines = is.lines;
      keeps = subst (KeepsJobs r) jobs (keeps-own r.catalogue r.executions);
      rows = is.rows ∙ (λ i. record r { catalogue = jobs i });
    }

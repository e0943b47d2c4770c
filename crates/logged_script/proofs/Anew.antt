-- A log that is made anew over another catalogue, or can't be.
use Rattle.std.proofs.Common.{◌≡◌, ◌∙◌, inl, inr, ℕ, ◌<◌, Bool, true, false, Option, Some, None, List, [], length, Ok, refl, sym, ap, subst, arith}
use Rattle.std.specs.Prelude.{box_value}
use Rattle.batch_history.specs.Legal.{most_numbered}
use Rattle.batch_history.specs.Rows.{Rows}
use Rattle.catalogue_laws.specs.Leaving.{AreNamed, KeepsJobs}
use Rattle.durable_log.specs.Files.{StandsFor}
use Rattle.durable_log.specs.Format.{LogRecord}
use Rattle.durable_log.specs.Logs.{records_of}
use Rattle.jsl_model.specs.Jobs.{JobTree}
use Rattle.log_base.specs.Bases.{IsBase}
use Rattle.script_engine.specs.Script.{catalogue_at}
use Rattle.script_log.specs.Replays.{AreAlike, begun, replayed}
use Rattle.script_log.specs.Runs.{History as LogHistory, base_lines, history_of, last_catalogue}
use Rattle.logged_script.specs.Compactions.{HasJobLeft, IsCompactedOver, IsCompactingFault, IsCompactingFaultBy, IsFirstLeft, fault_of_compaction, fault_over_own, other_job}
use Rattle.logged_script.specs.Faults.{GoesOnFrom, HasBase, HasOtherCatalogue, IsOpeningFault}
use Rattle.logged_script.specs.Histories.{Answers, is_kept, jobs_at, jobs_read, reply_at, rows_at}
use Rattle.logged_script.specs.Openings.{IsBegun, records_begun}
use Rattle.logged_script.specs.declared.compaction.CompactionFault.{CompactionFault}
use Rattle.logged_script.specs.declared.compaction.CompactionFault.TheVariants as compactions
use Rattle.logged_script.specs.declared.engine.ScriptEngine.{ScriptEngine}
use Rattle.logged_script.specs.declared.fault.LogFault.TheVariants.{InUse, Foreign, Later, Damaged, OtherCatalogue, BadBase, OtherReply}
use Rattle.logged_script.specs.declared.opening.OpeningFault.{OpeningFault}
use Rattle.logged_script.specs.declared.opening.OpeningFault.TheVariants.{Refused, OutOfMemory}
use Rattle.logged_script.proofs.Based.{jobs_given}
use Rattle.logged_script.proofs.Compacting.{catalogue-of}
use Rattle.logged_script.proofs.Naming.{named_log}
use Rattle.logged_script.proofs.Opened.{answers-begun}
use Rattle.logged_script.proofs.Widening.{same-jobs}

-- ---- A log that goes on

pub begun_by : (tags : Bool) (file line : List ℕ) (jobs : List JobTree) (grown : Bool) (now : List LogRecord) → catalogue_at line ≡ Ok jobs → StandsFor (records_of file) file
    → GoesOnFrom (records_of file) line grown → HasBase (records_of file) jobs → AreAlike (is_kept tags) (reply_at tags) (begun line (records_of file)) (records_of file)
    → now ≡ records_begun (records_of file) line grown → IsBegun tags file line now
begun_by tags file line jobs grown now read whole goes_on base alike is = record {
  whole = whole;
  grown = grown;
  goes_on = goes_on;
  base = subst (HasBase (records_of file)) (sym (same-jobs (catalogue_at line) goes_on.given jobs goes_on.is_given read)) base;
  alike = alike;
  records = is;
}

-- ---- A log over its own last catalogue

own-grown : (records : List LogRecord) (line : List ℕ) (grown : Bool) → GoesOnFrom records line grown → last_catalogue [] records ≡ line → grown ≡ false
own-grown records line false G is = refl
own-grown records line true G is =
    let same : G.kept ≡ G.given = same-jobs (catalogue_at line) G.kept G.given (ap catalogue_at (sym is) ∙ G.has.read) G.is_given in
    let less : length G.kept < length G.given = G.has_grown.1 in
    let sizes : length G.kept ≡ length G.given = ap length same in
    absurd (omega (arith, less, sizes))

-- it has its own records
own-records : (records : List LogRecord) (line : List ℕ) (grown : Bool) → GoesOnFrom records line grown → last_catalogue [] records ≡ line → records ≡ records_begun records line grown
own-records records line grown G is = ap (records_begun records line) (sym (own-grown records line grown G is))

pub own_begun : (tags : Bool) (file line : List ℕ) (jobs : List JobTree) (grown : Bool) → last_catalogue [] (records_of file) ≡ line → catalogue_at line ≡ Ok jobs → StandsFor (records_of file) file
    → GoesOnFrom (records_of file) line grown → HasBase (records_of file) jobs → AreAlike (is_kept tags) (reply_at tags) (begun line (records_of file)) (records_of file)
    → IsBegun tags file line (records_of file)
own_begun tags file line jobs grown is read whole goes_on base alike =
    begun_by tags file line jobs grown (records_of file) read whole goes_on base alike (own-records (records_of file) line grown goes_on is)

pub own_jobs : (records : List LogRecord) (line : List ℕ) (jobs : List JobTree) → last_catalogue [] records ≡ line → catalogue_at line ≡ Ok jobs → jobs_at (history_of records) ≡ jobs
own_jobs records line jobs is read = ap jobs_read (ap catalogue_at is ∙ read)

pub own_answers : {J : Type 0} {n : ℕ} (tags : Bool) (limit : ℕ) (rows_in : J → Rows) (engine : ScriptEngine J n) (records : List LogRecord) (line : List ℕ) (grown : Bool) → GoesOnFrom records line grown
    → last_catalogue [] records ≡ line → Answers tags limit rows_in engine (replayed line records) → Answers tags limit rows_in engine (history_of records)
own_answers tags limit rows_in engine records line grown G is answers = answers-begun tags limit rows_in engine records records line grown G (own-records records line grown G is) answers

-- each of its job executions is of a job of its catalogue
named-begun : (tags : Bool) (file kept : List ℕ) → IsBegun tags file kept (records_of file) → AreNamed (rows_at tags (history_of (records_of file)))
named-begun tags file kept B =
    let records : List LogRecord = records_of file in
    let jobs : jobs_at (history_of records) ≡ B.goes_on.given = jobs_given records records kept B.grown B.goes_on.given B.goes_on B.goes_on.is_given B.records in
    named_log tags (history_of records) (subst (λ (o : List JobTree). IsBase most_numbered o (base_lines records)) (sym jobs) B.base.is_base)

module _ {J : Type 0} {n : ℕ} (tags : Bool) (limit : ℕ) (rows_in : J → Rows) (engine : ScriptEngine J n) (file : List ℕ) (A : Answers tags limit rows_in engine (history_of (records_of file))) where
  pub engine_named : (kept : List ℕ) → IsBegun tags file kept (records_of file) → AreNamed (rows_in (box_value engine.repository))
  engine_named kept B = subst AreNamed (sym A.rows_are) (named-begun tags file kept B)

  pub engine_catalogue : (jobs : List JobTree) → jobs_at (history_of (records_of file)) ≡ jobs → (rows_in (box_value engine.repository)).catalogue ≡ jobs
  engine_catalogue jobs is = ap (λ (r : Rows). r.catalogue) A.rows_are ∙ (catalogue-of tags (history_of (records_of file)) ∙ is)

  pub engine_keeps : (given : List JobTree) → KeepsJobs (rows_in (box_value engine.repository)) given → KeepsJobs (rows_at tags (history_of (records_of file))) given
  engine_keeps given = subst (λ (r : Rows). KeepsJobs r given) A.rows_are

  -- a job that may not leave
  pub engine_left : (line : List ℕ) (kept : List ℕ) (jobs : List JobTree) (job number : ℕ) → IsBegun tags file kept (records_of file) → jobs_at (history_of (records_of file)) ≡ jobs → HasOtherCatalogue file line job
      → IsFirstLeft (rows_in (box_value engine.repository)) jobs (jobs_read (catalogue_at line)) number → HasJobLeft tags file line number
  engine_left line kept jobs job number B is other first = record {
    job = job;
    other = other;
    kept = kept;
    begun = B;
    first = subst (λ (o : List JobTree). IsFirstLeft (rows_at tags (history_of (records_of file))) o (jobs_read (catalogue_at line)) number) (sym is)
        (subst (λ (r : Rows). IsFirstLeft r jobs (jobs_read (catalogue_at line)) number) A.rows_are first);
  }

-- ---- A log that was made anew

pub anew_jobs : (tags : Bool) (earlier now : LogHistory) (line : List ℕ) (jobs : List JobTree) → IsCompactedOver tags earlier line now → catalogue_at line ≡ Ok jobs → jobs_at now ≡ jobs
anew_jobs tags earlier now line jobs compacted read = ap (λ (l : List ℕ). jobs_read (catalogue_at l)) compacted.catalogue ∙ ap jobs_read read

-- ---- Faults

other-some : (job n : ℕ) → Some n ≡ Some job → n ≡ job
other-some job n is = cc

-- the fault of another catalogue, by its number
pub other_is : (tags : Bool) (file line : List ℕ) (job : ℕ) (fault : OpeningFault) → other_job fault ≡ Some job → IsOpeningFault tags file line fault → HasOtherCatalogue file line job
other_is tags file line job (Refused InUse) is why = absurd why
other_is tags file line job (Refused Foreign) is why = cc
other_is tags file line job (Refused Later) is why = cc
other_is tags file line job (Refused (Damaged number byte)) is why = cc
other_is tags file line job (Refused (OtherCatalogue number)) is why = subst (HasOtherCatalogue file line) (other-some job number is) why
other_is tags file line job (Refused (BadBase number)) is why = cc
other_is tags file line job (Refused (OtherReply number)) is why = cc
other_is tags file line job OutOfMemory is why = cc

-- any other fault is that of any log
pub other_none : (tags : Bool) (file line : List ℕ) (fault : OpeningFault) → other_job fault ≡ None → IsOpeningFault tags file line fault → IsCompactingFault tags file line fault
other_none tags file line fault is why = subst (λ (o : Option ℕ). IsCompactingFaultBy tags file line o fault) (sym is) why

-- a log that isn't restored over its own catalogue either
pub refused_over_own : (tags : Bool) (file line : List ℕ) (job : ℕ) (fault : OpeningFault) → HasOtherCatalogue file line job → IsOpeningFault tags file (last_catalogue [] (records_of file)) fault
    → IsCompactingFault tags file line (fault_over_own job fault)
refused_over_own tags file line job (Refused fault) other why = inr (other, inl (fault, why))
refused_over_own tags file line job OutOfMemory other why = tt

-- one that isn't compacted
pub not_compacted : (tags : Bool) (file line : List ℕ) (job : ℕ) (fault : CompactionFault) → HasOtherCatalogue file line job → KeepsJobs (rows_at tags (history_of (records_of file))) (jobs_read (catalogue_at line))
    → IsCompactingFault tags file line (fault_of_compaction job fault)
not_compacted tags file line job compactions.NotAlike other keeps = inr (other, inr keeps)
not_compacted tags file line job compactions.OutOfMemory other keeps = tt

-- A log that is restored, or refused.
use Rattle.std.proofs.Common.{◌≡◌, ◌∙◌, inl, inr, ℕ, drop, Bool, true, false, List, [], Ok, refl, sym, ap, subst}
use Rattle.std.specs.Prelude.{◌||◌, IsTrue, if◌then◌else◌}
use Rattle.jsl_model.specs.Jobs.{JobTree}
use Rattle.batch_history.specs.Legal.{most_numbered}
use Rattle.batch_history.specs.Rows.{Rows}
use Rattle.durable_log.specs.Format.{LogRecord}
use Rattle.durable_log.specs.Files.{StandsFor}
use Rattle.durable_log.specs.Logs.{records_of, EndsAt, IsAtRest, IsSealed}
use Rattle.durable_log.specs.Shown.{HasFault}
use Rattle.durable_log.specs.declared.reading.ReadFault.{ReadFault}
use Rattle.durable_log.specs.declared.reading.ReadFault.TheVariants as reads
use Rattle.script_engine.specs.ByRows.{rows_past}
use Rattle.script_engine.specs.Script.{catalogue_at}
use Rattle.log_base.specs.Bases.{rows_of_base}
use Rattle.script_log.specs.Runs.{History as LogHistory, base_lines, last_catalogue, kept_lines, history_of}
use Rattle.script_log.specs.Replays.{IsReplayFault, replayed}
use Rattle.script_log.specs.declared.replays.ReplayFault.{ReplayFault}
use Rattle.script_log.specs.declared.replays.ReplayFault.TheVariants as replays
use Rattle.script_log.proofs.Lines.{history-catalogue}
use Rattle.logged_script.specs.Histories.{Answers, is_kept, reply_at, jobs_read}
use Rattle.logged_script.specs.Tags.{commands_in}
use Rattle.logged_script.specs.Faults.{HasBase, IsGrowthFault, IsNoBase, IsOpeningFault, GoesOnFrom}
use Rattle.logged_script.specs.Openings.{records_begun, fault_of_read, fault_of_replay, IsCutOff}
use Rattle.logged_script.specs.declared.engine.ScriptEngine.{ScriptEngine}
use Rattle.logged_script.specs.declared.fault.LogFault.TheVariants.{InUse, Foreign, Later, Damaged, OtherCatalogue, BadBase, OtherReply}
use Rattle.logged_script.specs.declared.opening.OpeningFault.{OpeningFault}
use Rattle.logged_script.specs.declared.opening.OpeningFault.TheVariants.{Refused, OutOfMemory}

-- an engine with the rows of the lines over the given catalogue has those of the records, whose catalogue has the same jobs
stands-same : {J : Type 0} {n : ℕ} (tags : Bool) (limit : ℕ) (rows_in : J → Rows) (engine : ScriptEngine J n) (records : List LogRecord) (line : List ℕ) → GoesOnFrom records line false
    → Answers tags limit rows_in engine (replayed line records) → Answers tags limit rows_in engine (history_of records)
stands-same tags limit rows_in engine records line G answers =
    let jobs : jobs_read (catalogue_at line) ≡ jobs_read (catalogue_at (last_catalogue [] records)) = ap jobs_read G.is_given ∙ G.has_grown ∙ sym (ap jobs_read G.has.read) in
    record {
      limit_is = answers.limit_is;
      rows_are = answers.rows_are ∙ ap (λ (jobs : List JobTree). rows_past most_numbered (rows_of_base jobs (base_lines records)) (commands_in tags (kept_lines records))) jobs;
    }

-- an engine that was brought to the lines of the records answers over the records with which the run begins
pub answers-begun : {J : Type 0} {n : ℕ} (tags : Bool) (limit : ℕ) (rows_in : J → Rows) (engine : ScriptEngine J n) (records now : List LogRecord) (line : List ℕ) (grown : Bool) → GoesOnFrom records line grown
    → now ≡ records_begun records line grown → Answers tags limit rows_in engine (replayed line records) → Answers tags limit rows_in engine (history_of now)
answers-begun tags limit rows_in engine records now line true G is answers = subst (λ (h : LogHistory). Answers tags limit rows_in engine h) (sym (ap history_of is ∙ history-catalogue records line)) answers
answers-begun tags limit rows_in engine records now line false G is answers = subst (λ (rs : List LogRecord). Answers tags limit rows_in engine (history_of rs)) (sym is) (stands-same tags limit rows_in engine records line G answers)

-- the file is no log
pub not-read : (tags : Bool) (file line : List ℕ) (fault : ReadFault) → HasFault file fault → IsOpeningFault tags file line (fault_of_read fault)
not-read tags file line reads.Foreign is = inl is
not-read tags file line reads.Later is = is
not-read tags file line (reads.Damaged number byte) is = is
not-read tags file line reads.OutOfMemory is = tt

-- its catalogue is another one
pub not-grown : (tags : Bool) (file line : List ℕ) (given : List JobTree) (fault : OpeningFault) → StandsFor (records_of file) file → catalogue_at line ≡ Ok given
    → IsGrowthFault (records_of file) given fault → IsOpeningFault tags file line fault
not-grown tags file line given (Refused InUse) whole catalogue why = absurd why
not-grown tags file line given (Refused Foreign) whole catalogue why = inr (whole, why)
not-grown tags file line given (Refused Later) whole catalogue why = absurd why
not-grown tags file line given (Refused (Damaged number byte)) whole catalogue why = absurd why
not-grown tags file line given (Refused (OtherCatalogue job)) whole catalogue why = record { whole = whole; given = given; is_given = catalogue; other = why }
not-grown tags file line given (Refused (BadBase number)) whole catalogue why = absurd why
not-grown tags file line given (Refused (OtherReply number)) whole catalogue why = absurd why
not-grown tags file line given OutOfMemory whole catalogue why = tt

-- its base is none
pub not-based : (tags : Bool) (file line : List ℕ) (grown : Bool) (fault : OpeningFault) → StandsFor (records_of file) file → (G : GoesOnFrom (records_of file) line grown)
    → IsNoBase (records_of file) G.given fault → IsOpeningFault tags file line fault
not-based tags file line grown (Refused InUse) whole goes_on why = absurd why
not-based tags file line grown (Refused Foreign) whole goes_on why = absurd why
not-based tags file line grown (Refused Later) whole goes_on why = absurd why
not-based tags file line grown (Refused (Damaged number byte)) whole goes_on why = absurd why
not-based tags file line grown (Refused (OtherCatalogue job)) whole goes_on why = absurd why
not-based tags file line grown (Refused (BadBase number)) whole goes_on why = record { whole = whole; grown = grown; goes_on = goes_on; bad = why }
not-based tags file line grown (Refused (OtherReply number)) whole goes_on why = absurd why
not-based tags file line grown OutOfMemory whole goes_on why = tt

-- its lines are not kept again
pub not-replayed : (tags : Bool) (file line : List ℕ) (grown : Bool) (fault : ReplayFault) → StandsFor (records_of file) file → (G : GoesOnFrom (records_of file) line grown)
    → HasBase (records_of file) G.given
    → IsReplayFault (is_kept tags) (reply_at tags) line (records_of file) fault → IsOpeningFault tags file line (fault_of_replay fault)
not-replayed tags file line grown (replays.OtherReply number) whole goes_on base why = record { whole = whole; grown = grown; goes_on = goes_on; base = base; other = why }
not-replayed tags file line grown replays.OutOfMemory whole goes_on base why = tt

-- the bytes that are cut off
pub cut-by : (file cut : List ℕ) (at : ℕ) (clean sealed : Bool) → EndsAt file at → (IsTrue clean → IsAtRest file at) → (IsTrue sealed → IsSealed file at) → cut ≡ (if clean || sealed then [] else drop at file) → IsCutOff file cut
cut-by file cut at true sealed ends rest seals is = record { at = at; ends = ends; bytes = inl (inl (rest refl), is) }
cut-by file cut at false true ends rest seals is = record { at = at; ends = ends; bytes = inl (inr (seals refl), is) }
cut-by file cut at false false ends rest seals is = record { at = at; ends = ends; bytes = inr is }

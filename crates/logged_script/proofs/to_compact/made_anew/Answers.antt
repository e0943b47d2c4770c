use Rattle.std.proofs.Common.{◌≡◌, inl, [], List, ℕ, not, eqb, subst, sym, rules}
use Rattle.std.specs.Prelude.{MatchOption, Option, box_value}
use Rattle.catalogue_laws.specs.Leaving.{KeepsJobs}
use Rattle.durable_log.specs.Logs.{records_of}
use Rattle.durable_log.specs.Shown.{IsEnd}
use Rattle.script_engine.specs.Script.{catalogue_at}
use Rattle.script_log.specs.Runs.{history_of, last_catalogue}
use Rattle.logged_script.specs.Compactions.{IsCompactingFault, IsFirstLeft}
use Rattle.logged_script.specs.Faults.{IsOpeningFault}
use Rattle.logged_script.specs.Histories.{Answers, jobs_at, jobs_read}
use Rattle.logged_script.specs.Openings.{IsBegun}
use Rattle.logged_script.proofs.Anew.{engine_catalogue, engine_keeps, engine_left, engine_named, not_compacted, refused_over_own}
use Rattle.logged_script.proofs.to_compact.made_anew.Goals as goal

pub returns-in-Err-clause-fault : goal.returns-in-Err-clause-fault
returns-in-Err-clause-fault g c =
    let tags = not (eqb g.row.TAGS 0) in
    let file = c.args.file.items in
    let line = c.args.line.now in
    let fault = c.in-Err.fault in
    subst (IsCompactingFault tags file line) (sym c.fault_over_own.ensures)
    (refused_over_own tags file line c.args.job fault c.requires.other
    (subst (λ (f : List ℕ). IsOpeningFault tags f (last_catalogue [] (records_of f)) fault) c.deref.ensures.value c.in-Err.ensures.fault))

pub returns-in-Some-clause-fault : goal.returns-in-Some-clause-fault
returns-in-Some-clause-fault g c =
    let tags = not (eqb g.row.TAGS 0) in
    let rows = g.J.RowRepository.rows in
    let line = c.args.line.now in
    let own = c.in-Ok.own in
    let r = rows (box_value own.engine.repository) in
    let given = jobs_read (catalogue_at line) in
    let is = c.deref.ensures.value in
    let answers = subst (λ (f : List ℕ). Answers tags g.J.RowRepository.limit rows own.engine (history_of (records_of f))) is c.in-Ok.ensures.answers in
    inl (engine_left tags g.J.RowRepository.limit rows own.engine c.args.file.items answers line c.in-Ok.ensures.begun.0 own.kept c.args.job c.in-Some.left
    (subst (λ (f : List ℕ). IsBegun tags f c.in-Ok.ensures.begun.0 (records_of f)) is c.in-Ok.ensures.begun.1)
    (subst (λ (f : List ℕ). jobs_at (history_of (records_of f)) ≡ own.kept) is c.in-Ok.ensures.jobs) c.requires.other
    (subst (λ (o : Option ℕ). MatchOption o (KeepsJobs r given) (IsFirstLeft r own.kept given)) c.in-Some.is c.in-Ok-job_left.ensures))

pub returns-in-Ok-compacted_own-clause-anew : goal.returns-in-Ok-compacted_own-clause-anew
returns-in-Ok-compacted_own-clause-anew g c =
    record {
      kept = c.in-Ok.ensures.begun.0;
      earlier = records_of c.args.file.items;
      begun = subst (λ (f : List ℕ). IsBegun (not (eqb g.row.TAGS 0)) f c.in-Ok.ensures.begun.0 (records_of f)) c.deref.ensures.value c.in-Ok.ensures.begun.1;
      compacted = c.in-Ok-compacted_own.ensures.compacted;
    }

pub returns-in-Err-compacted_own-clause-fault : goal.returns-in-Err-compacted_own-clause-fault
returns-in-Err-compacted_own-clause-fault g c =
    let tags = not (eqb g.row.TAGS 0) in
    let rows = g.J.RowRepository.rows in
    let file = c.args.file.items in
    let line = c.args.line.now in
    let own = c.in-Ok.own in
    let r = rows (box_value own.engine.repository) in
    let given = jobs_read (catalogue_at line) in
    let answers = subst (λ (f : List ℕ). Answers tags g.J.RowRepository.limit rows own.engine (history_of (records_of f))) c.deref.ensures.value c.in-Ok.ensures.answers in
    let keeps = subst (λ (o : Option ℕ). MatchOption o (KeepsJobs r given) (IsFirstLeft r own.kept given)) c.in-None.is c.in-Ok-job_left.ensures in
    subst (IsCompactingFault tags file line) (sym c.fault_of_compaction.ensures)
    (not_compacted tags file line c.args.job c.in-Err-compacted_own.fault c.requires.other (engine_keeps tags g.J.RowRepository.limit rows own.engine file answers given keeps))

pub job_left-requires : goal.job_left-requires
job_left-requires g c = (search rules, (c.requires.catalogue, (engine_catalogue (not (eqb g.row.TAGS 0)) g.J.RowRepository.limit g.J.RowRepository.rows c.in-Ok.own.engine c.deref.result.now c.in-Ok.ensures.answers c.in-Ok.own.kept c.in-Ok.ensures.jobs, engine_named (not (eqb g.row.TAGS 0)) g.J.RowRepository.limit g.J.RowRepository.rows c.in-Ok.own.engine c.deref.result.now c.in-Ok.ensures.answers c.in-Ok.ensures.begun.0 c.in-Ok.ensures.begun.1)))

pub compacted_own-requires : goal.compacted_own-requires
compacted_own-requires g c =
    let rows = g.J.RowRepository.rows in
    let r = rows (box_value c.in-Ok.own.engine.repository) in
    let given = jobs_read (catalogue_at c.args.line.now) in
    let is = c.deref.ensures.value in
    (search rules, (search rules, (c.requires.limit, (c.requires.catalogue, (subst (λ (f : List ℕ). IsEnd f c.in-Ok.own.end) is c.in-Ok.ensures.end, (subst (λ (f : List ℕ). Answers (not (eqb g.row.TAGS 0)) g.J.RowRepository.limit rows c.in-Ok.own.engine (history_of (records_of f))) is c.in-Ok.ensures.answers, subst (λ (o : Option ℕ). MatchOption o (KeepsJobs r given) (IsFirstLeft r c.in-Ok.own.kept given)) c.in-None.is c.in-Ok-job_left.ensures))))))

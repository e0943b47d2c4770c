use Rattle.std.proofs.Common.{List, ℕ, not, eqb, subst, rules}
use Rattle.durable_log.specs.Files.{StandsFor}
use Rattle.durable_log.specs.Logs.{records_of}
use Rattle.durable_log.specs.Shown.{IsEnd}
use Rattle.script_log.specs.Replays.{AreAlike, begun, replayed}
use Rattle.script_log.specs.Runs.{history_of}
use Rattle.logged_script.specs.Faults.{GoesOnFrom, HasBase, IsOpeningFault}
use Rattle.logged_script.specs.Histories.{Answers, is_kept, reply_at}
use Rattle.logged_script.proofs.Anew.{anew_jobs, begun_by}
use Rattle.logged_script.proofs.Growing.{catalogue_is_short}
use Rattle.logged_script.proofs.Based.{jobs_given}
use Rattle.logged_script.proofs.to_compact.restore_to_compact.Goals as goal

pub returns-in-Ok-gone_on-clause-begun : goal.returns-in-Ok-gone_on-clause-begun
returns-in-Ok-gone_on-clause-begun g c = λ _.
    let tags = not (eqb g.row.TAGS 0) in
    let line = c.args.line.now in
    let ran = c.in-Ok.ran in
    let is = c.deref.ensures.value in
    begun_by tags c.args.file.items line c.args.catalogue ran.grown (records_of c.in-Ok-gone_on.log.file.bytes.items) c.requires.catalogue
    (subst (λ (f : List ℕ). StandsFor (records_of f) f) is c.in-Ok.ensures.whole)
    (subst (λ (f : List ℕ). GoesOnFrom (records_of f) line ran.grown) is c.in-Ok.ensures.goes_on)
    (subst (λ (f : List ℕ). HasBase (records_of f) c.args.catalogue) is c.in-Ok.ensures.base)
    (subst (λ (f : List ℕ). AreAlike (is_kept tags) (reply_at tags) (begun line (records_of f)) (records_of f)) is c.in-Ok.ensures.alike)
    c.in-Ok-gone_on.ensures.records

pub returns-in-Ok-gone_on-clause-jobs : goal.returns-in-Ok-gone_on-clause-jobs
returns-in-Ok-gone_on-clause-jobs g c =
    let line = c.args.line.now in
    let ran = c.in-Ok.ran in
    jobs_given (records_of c.args.file.items) (records_of c.in-Ok-gone_on.log.file.bytes.items) line ran.grown c.args.catalogue
    (subst (λ (file : List ℕ). GoesOnFrom (records_of file) line ran.grown) c.deref.ensures.value c.in-Ok.ensures.goes_on) c.requires.catalogue
    c.in-Ok-gone_on.ensures.records

pub returns-in-Ok-anew_unless_refused-clause-jobs : goal.returns-in-Ok-anew_unless_refused-clause-jobs
returns-in-Ok-anew_unless_refused-clause-jobs g c =
    let anew = c.in-Ok-anew_unless_refused.ensures.anew in
    anew_jobs (not (eqb g.row.TAGS 0)) (history_of anew.earlier) (history_of (records_of c.in-Ok-anew_unless_refused.log.file.bytes.items)) c.args.line.now c.args.catalogue anew.compacted c.requires.catalogue

pub gone_on-requires : goal.gone_on-requires
gone_on-requires g c =
    let is = c.deref.ensures.value in
    let line = c.args.line.now in
    let ran = c.in-Ok.ran in
    (search rules, (search rules, (subst (λ (file : List ℕ). IsEnd file ran.end) is c.in-Ok.ensures.end, (catalogue_is_short line c.args.catalogue c.requires.catalogue, (subst (λ (file : List ℕ). GoesOnFrom (records_of file) line ran.grown) is c.in-Ok.ensures.goes_on, subst (λ (file : List ℕ). Answers (not (eqb g.row.TAGS 0)) g.J.RowRepository.limit g.J.RowRepository.rows ran.engine (replayed line (records_of file))) is c.in-Ok.ensures.answers)))))

pub anew_unless_refused-requires : goal.anew_unless_refused-requires
anew_unless_refused-requires g c = (search rules, (c.requires.limit, ((c.args.catalogue, c.requires.catalogue), subst (λ (file : List ℕ). IsOpeningFault (not (eqb g.row.TAGS 0)) file c.args.line.now c.in-Err.fault) c.deref.ensures.value c.in-Err.ensures.fault)))

use Rattle.std.proofs.Common.{◌≡◌, List, Ok, ℕ, not, eqb, subst, sym}
use Rattle.durable_log.specs.Logs.{records_of}
use Rattle.jsl_model.specs.Jobs.{JobTree}
use Rattle.script_engine.specs.Script.{catalogue_at}
use Rattle.logged_script.specs.Faults.{IsOpeningFault}
use Rattle.logged_script.proofs.Anew.{own_answers, own_begun, own_jobs}
use Rattle.logged_script.proofs.to_compact.over_own.Goals as goal

pub returns-in-Ok-replay_file-clause-begun : goal.returns-in-Ok-replay_file-clause-begun
returns-in-Ok-replay_file-clause-begun g c =
    let line = c.in-Some.line.now in
    let all = c.in-Ok-replay_file.ensures in
    let read = subst (λ (o : List JobTree). catalogue_at line ≡ Ok o) (sym c.in_ok-catalogue.ensures) c.in-Ok.ensures.read in
    (line, own_begun (not (eqb g.row.TAGS 0)) c.args.file.now line c.in_ok-catalogue.catalogue c.in-Ok-replay_file.ran.grown c.in-Some.ensures read all.whole all.goes_on all.base all.alike)

pub returns-in-Ok-replay_file-clause-jobs : goal.returns-in-Ok-replay_file-clause-jobs
returns-in-Ok-replay_file-clause-jobs g c = own_jobs (records_of c.args.file.now) c.in-Some.line.now c.in-Ok.kept c.in-Some.ensures c.in-Ok.ensures.read

pub returns-in-Ok-replay_file-clause-answers : goal.returns-in-Ok-replay_file-clause-answers
returns-in-Ok-replay_file-clause-answers g c =
    let all = c.in-Ok-replay_file.ensures in
    own_answers (not (eqb g.row.TAGS 0)) g.J.RowRepository.limit g.J.RowRepository.rows c.in-Ok-replay_file.ran.engine (records_of c.args.file.now) c.in-Some.line.now c.in-Ok-replay_file.ran.grown
    all.goes_on c.in-Some.ensures all.answers

pub returns-in-Err-replay_file-clause-fault : goal.returns-in-Err-replay_file-clause-fault
returns-in-Err-replay_file-clause-fault g c =
    subst (λ (l : List ℕ). IsOpeningFault (not (eqb g.row.TAGS 0)) c.args.file.now l c.in-Err-replay_file.fault) (sym c.in-Some.ensures) c.in-Err-replay_file.ensures.fault

use Rattle.std.proofs.Common.{◌≡◌, List, ℕ, not, eqb, sym, subst, rules}
use Rattle.durable_log.specs.Files.{StandsFor}
use Rattle.jsl_model.specs.Jobs.{JobTree}
use Rattle.durable_log.specs.Logs.{records_of}
use Rattle.durable_log.specs.Shown.{IsEnd}
use Rattle.script_log.specs.Replays.{AreAlike, begun, replayed}
use Rattle.script_engine.specs.Script.{catalogue_at}
use Rattle.logged_script.specs.Histories.{Answers, is_kept, reply_at}
use Rattle.logged_script.specs.Faults.{GoesOnFrom, HasBase}
use Rattle.logged_script.proofs.Growing.{catalogue_is_short}
use Rattle.logged_script.proofs.Based.{base_kept, jobs_given}
use Rattle.logged_script.proofs.Widening.{goes-on-keeps, same-jobs}
use Rattle.logged_script.proofs.opening.restore.Goals as goal

pub returns-in-Ok-gone_on-clause-begun : goal.returns-in-Ok-gone_on-clause-begun
returns-in-Ok-gone_on-clause-begun g c =
    let tags = not (eqb g.row.TAGS 0) in
    let line = c.args.line.now in
    let ran = c.in-Ok.ran in
    let is = c.deref.ensures.value in
    let file = c.args.file.items in
    let goes_on = subst (λ (f : List ℕ). GoesOnFrom (records_of f) line ran.grown) is c.in-Ok.ensures.goes_on in
    let given : goes_on.given ≡ c.args.catalogue = same-jobs (catalogue_at line) goes_on.given c.args.catalogue goes_on.is_given c.requires.catalogue in
    record {
      whole = subst (λ (f : List ℕ). StandsFor (records_of f) f) is c.in-Ok.ensures.whole;
      grown = ran.grown;
      goes_on = goes_on;
      base = subst (λ (jobs : List JobTree). HasBase (records_of file) jobs) (sym given) (subst (λ (f : List ℕ). HasBase (records_of f) c.args.catalogue) is c.in-Ok.ensures.base);
      alike = subst (λ (f : List ℕ). AreAlike (is_kept tags) (reply_at tags) (begun line (records_of f)) (records_of f)) is c.in-Ok.ensures.alike;
      records = c.in-Ok-gone_on.ensures.records;
    }

pub returns-in-Ok-gone_on-clause-jobs : goal.returns-in-Ok-gone_on-clause-jobs
returns-in-Ok-gone_on-clause-jobs g c =
    let line = c.args.line.now in
    let ran = c.in-Ok.ran in
    jobs_given (records_of c.args.file.items) (records_of c.in-Ok-gone_on.log.file.bytes.items) line ran.grown c.args.catalogue
    (subst (λ (file : List ℕ). GoesOnFrom (records_of file) line ran.grown) c.deref.ensures.value c.in-Ok.ensures.goes_on) c.requires.catalogue
    c.in-Ok-gone_on.ensures.records

pub returns-in-Ok-gone_on-clause-base : goal.returns-in-Ok-gone_on-clause-base
returns-in-Ok-gone_on-clause-base g c =
    let line = c.args.line.now in
    let ran = c.in-Ok.ran in
    base_kept (records_of c.args.file.items) (records_of c.in-Ok-gone_on.log.file.bytes.items) line ran.grown c.args.catalogue
    (subst (λ (file : List ℕ). GoesOnFrom (records_of file) line ran.grown) c.deref.ensures.value c.in-Ok.ensures.goes_on) c.requires.catalogue
    c.in-Ok-gone_on.ensures.records

pub returns-in-Ok-gone_on-clause-histories : goal.returns-in-Ok-gone_on-clause-histories
returns-in-Ok-gone_on-clause-histories g c kept has =
    let line = c.args.line.now in
    let ran = c.in-Ok.ran in
    goes-on-keeps (records_of c.args.file.items) line ran.grown c.args.catalogue kept
    (subst (λ (file : List ℕ). GoesOnFrom (records_of file) line ran.grown) c.deref.ensures.value c.in-Ok.ensures.goes_on) c.requires.catalogue has

pub gone_on-requires : goal.gone_on-requires
gone_on-requires g c =
    let is = c.deref.ensures.value in
    let line = c.args.line.now in
    let ran = c.in-Ok.ran in
    (search rules, (search rules, (subst (λ (file : List ℕ). IsEnd file ran.end) is c.in-Ok.ensures.end, (catalogue_is_short line c.args.catalogue c.requires.catalogue, (subst (λ (file : List ℕ). GoesOnFrom (records_of file) line ran.grown) is c.in-Ok.ensures.goes_on, subst (λ (file : List ℕ). Answers (not (eqb g.row.TAGS 0)) g.J.RowRepository.limit g.J.RowRepository.rows ran.engine (replayed line (records_of file))) is c.in-Ok.ensures.answers)))))

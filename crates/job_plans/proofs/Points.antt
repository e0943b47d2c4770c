-- Restart points: each with which the walk of a job ends is one that a stop element of the job names.
use Rattle.std.proofs.Common.{◌≡◌, ℕ, Bool, true, false, cond, Option, None, Some, List, [], ◌∷◌, refl, sym, ◌∙◌, subst}
use Rattle.std.specs.Str.{bytes_eq}
use Rattle.batch_ids.specs.declared.status.BatchStatus.{BatchStatus}
use Rattle.jsl_model.specs.declared.job.JobFault.{JobFault}
use Rattle.jsl_model.specs.declared.job.JobFault.TheVariants.{TextTooLong, Empty, TooDeep, TooMany, DuplicateId, NoSuchTarget, Loop, RestartNotJobLevel}
use Rattle.jsl_model.specs.declared.element.Element.{Element}
use Rattle.jsl_model.specs.Names.{is_among}
use Rattle.jsl_model.specs.Targets.{outline, ids, lacks_some_target, has_some_loop}
use Rattle.jsl_model.specs.Jobs.{JobTree}
use Rattle.jsl_model.specs.Faults.{has_restarts, has_long_text, has_empty, is_too_deep, has_too_many, has_duplicate, tree_fault, IsChecked}
use Rattle.jsl_model.proofs.Among.{bytes_eq-sym}
use Rattle.walk_rules.specs.declared.work_key.WorkKey.{WorkKey}
use Rattle.job_plans.specs.Lists.{has_element}
use Rattle.job_plans.proofs.Passing.{Passes, walk-passes, all-true}
use Rattle.job_plans.specs.Runnables.{all_leaves, all_keys}
use Rattle.walk_rules.specs.declared.facts.Fact.{Fact}
use Rattle.walk_rules.specs.declared.facts.Value.TheVariants.{Ended}
use Rattle.walk_rules.specs.Walk.{value_of}

pub among-own : (elements : List Element) (id : List ℕ) → is_among (ids (outline elements)) id ≡ has_element elements id
among-own [] id = refl
among-own (e ∷ es) id =
    let first : bytes_eq id e.id ≡ bytes_eq e.id id = bytes_eq-sym id e.id in
    let rest : is_among (ids (outline es)) id ≡ has_element es id = among-own es id in
    cc

-- where each restart that is written in a job begins at an element of the job's own list, so does that of its walk
pub own-point : (job : JobTree) → has_restarts job ≡ true → (facts : WorkKey → Fact) (from : List ℕ) (status : BatchStatus) (exit point : List ℕ)
    → value_of facts job.elements from ≡ Ended status exit (Some point) → has_element job.elements point ≡ true
own-point job own facts from status exit point is =
    sym (among-own job.elements point)
    ∙ subst (Passes record { shown = λ id. true; point = is_among (ids (outline job.elements)) }) is
    (walk-passes record { shown = λ id. true; point = is_among (ids (outline job.elements)) } facts job.elements from own (all-true (all_keys (all_leaves job.elements))))

pub no-fault : (b : Bool) (fault : JobFault) (rest : Option JobFault) → cond b (Some fault) rest ≡ None → rest ≡ None
no-fault true fault rest h = cc
no-fault false fault rest h = h

no-last : (b : Bool) (fault : JobFault) → cond b None (Some fault) ≡ None → b ≡ true
no-last true fault h = refl
no-last false fault h = cc

-- in a checked job each restart begins at an element of the job's own list
pub checked-restarts : (job : JobTree) → IsChecked job → has_restarts job ≡ true
checked-restarts job checked =
    let e = job.elements in
    no-last (has_restarts job) RestartNotJobLevel
    (no-fault (has_some_loop e) Loop _
    (no-fault (lacks_some_target e) NoSuchTarget _
    (no-fault (has_duplicate job) DuplicateId _
    (no-fault (has_too_many job) TooMany _
    (no-fault (is_too_deep job) TooDeep _
    (no-fault (has_empty job) Empty _
    (no-fault (has_long_text job) TextTooLong (tree_fault job) checked.faultless)))))))

-- a restart of a checked job begins at an element of the job's own list
pub checked-point : (job : JobTree) → IsChecked job → (facts : WorkKey → Fact) (from : List ℕ) (status : BatchStatus) (exit point : List ℕ)
    → value_of facts job.elements from ≡ Ended status exit (Some point) → has_element job.elements point ≡ true
checked-point job checked = own-point job (checked-restarts job checked)

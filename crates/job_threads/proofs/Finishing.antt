-- A work item that ran to its end has one finish.
use Rattle.std.proofs.Common.{◌≡◌, ℕ, ◌+◌, ◌++◌, List, [], ◌∷◌, refl, ap, ◌∙◌, arith, Option, None, Some, Ok, true, cond, inl, inr}
use Rattle.std.proofs.lemmas.List.Sums.{sum_by-append, sum_by-cons}
use Rattle.batch_history.specs.declared.call.WorkItem.{WorkItem}
use Rattle.batch_history.specs.declared.call.WorkTask.{WorkTask}
use Rattle.batch_history.specs.declared.call.WorkTask.TheVariants.{Batchlet, Chunk, Decision}
use Rattle.batch_ids.specs.declared.status.WorkOutcome.{WorkOutcome}
use Rattle.job_threads.specs.declared.chunk.Ending.{Ending}
use Rattle.job_threads.specs.declared.kit.Roles.{Roles}
use Rattle.job_threads.specs.declared.report.Report.{Report}
use Rattle.job_threads.specs.Endings.{finish_of}
use Rattle.job_threads.specs.Groups.{Done, report_of, reports_of}
use Rattle.job_threads.specs.Items.{RunsChunk, RunsItem, RunsOnce, roles_of}
use Rattle.job_threads.specs.Kits.{begun_roles, work_of}
use Rattle.job_threads.specs.Meaning.{Known, place_of}
use Rattle.job_threads.specs.Ports.{Stops, finishes, is_finish}

finishes-append : (xs ys : List Report) → finishes (xs ++ ys) ≡ finishes xs + finishes ys
finishes-append xs ys = sum_by-append (λ y. cond (is_finish y) 1 0) xs ys

groups-none : (gives : List ℕ → Option (List ℕ)) (work at : ℕ) (ds : List Done) → finishes (reports_of gives work at ds) ≡ 0
groups-none gives work at [] = refl
groups-none gives work at (d ∷ ds) =
    sum_by-cons (λ y. cond (is_finish y) 1 0) (report_of gives work at d) (reports_of gives work at ds) ∙ omega (arith, groups-none gives work at ds)

one-more : (before after : List Report) (report : Report) → is_finish report ≡ true → after ≡ before ++ report ∷ [] → finishes after ≡ finishes before + 1
one-more before after report is grew =
    let one : finishes (report ∷ []) ≡ 1 = ap (λ b. 0 + cond b 1 0) is in
    omega (arith, ap finishes grew, finishes-append before (report ∷ []), one)

chunk-none : (p : Option ℕ) (roles : Option Roles) (n work execution at : ℕ) (checkpoint : Option (List ℕ)) (e : Ending) (a b : List Known) (r0 r1 : List Report) (stops : Stops)
    → RunsChunk p roles n work execution at checkpoint (Ok e) a b r0 r1 stops → finishes r1 ≡ finishes r0
chunk-none p None n work execution at checkpoint e a b r0 r1 stops h = ap finishes h.2
chunk-none p (Some roles) n work execution at checkpoint e a b r0 r1 stops h =
    omega (arith, ap finishes h.3, finishes-append r0 (reports_of (work_of roles.processor (begun_roles p roles a)) work at h.0), groups-none (work_of roles.processor (begun_roles p roles a)) work at h.0)

once-one : (p place : Option ℕ) (work at : ℕ) (outcome : WorkOutcome) (a b : List Known) (r0 r1 : List Report) → RunsOnce p place work at (Ok outcome) a b r0 r1 → finishes r1 ≡ finishes r0 + 1
once-one p None work at outcome a b r0 r1 h = one-more r0 r1 _ refl h.1
once-one p (Some i) work at outcome a b r0 r1 (inl h) = one-more r0 r1 _ refl h.1
once-one p (Some i) work at outcome a b r0 r1 (inr h) = one-more r0 r1 _ refl h.1

pub item_finishes : (item : WorkItem) (at : ℕ) (task : WorkTask) (outcome : WorkOutcome) (a b : List Known) (r0 r1 : List Report) (stops : Stops)
    → RunsItem item at task (Ok outcome) a b r0 r1 stops → finishes r1 ≡ finishes r0 + 1
item_finishes item at (Batchlet artifact) outcome a b r0 r1 stops h = once-one item.partition (place_of artifact a) item.work at outcome a b r0 r1 h
item_finishes item at (Decision artifact) outcome a b r0 r1 stops h = once-one item.partition (place_of artifact a) item.work at outcome a b r0 r1 h
item_finishes item at (Chunk reader processor writer item_count checkpoint) outcome a b r0 r1 stops h =
    let last : finishes r1 ≡ finishes h.1 + 1 = one-more h.1 r1 (finish_of item.work at h.0) refl h.4 in
    last ∙ ap (λ n. n + 1) (chunk-none item.partition (roles_of reader processor writer a) _ item.work item.execution at checkpoint h.0 a b r0 h.1 stops h.3)

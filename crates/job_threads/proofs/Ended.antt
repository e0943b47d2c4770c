-- A work item is finished.
use Rattle.std.proofs.Common.{◌≡◌, ℕ, ◌++◌, ◌⊎◌, List, [], ◌∷◌, append-nil, refl, sym, ap, ◌∙◌, subst, Option, Some, None, Result, Ok, Err, inl, inr}
use Rattle.batch_ids.specs.Metrics.{zero_step}
use Rattle.batch_ids.specs.declared.refusal.Refusal.{Refusal}
use Rattle.batch_ids.specs.declared.status.WorkOutcome.{WorkOutcome}
use Rattle.batch_ids.specs.declared.status.WorkOutcome.TheVariants.{Completed as Complete, Failed as Fail}
use Rattle.batch_ids.specs.declared.metric_step.MetricStep.{MetricStep}
use Rattle.job_threads.specs.declared.report.Report.{Report}
use Rattle.job_threads.specs.declared.report.Report.TheVariants.{Finish}
use Rattle.job_threads.specs.declared.artifact.ArtifactFault.{ArtifactFault}
use Rattle.job_threads.specs.declared.kit.Roles.{Roles}
use Rattle.job_threads.specs.declared.chunk.Ending.{Ending}
use Rattle.job_threads.specs.declared.chunk.Ending.TheVariants.{Completed, Stopped, Failed, Unopened}
use Rattle.job_threads.specs.Meaning.{Coming, Known}
use Rattle.job_threads.specs.Groups.{Done}
use Rattle.job_threads.specs.Kits.{begun_roles, to_read}
use Rattle.job_threads.specs.Ports.{Stops, HasNotLooked}
use Rattle.job_threads.specs.Chunks.{RunsGroups, EndsBy, LastIsStop, IsSeen}
use Rattle.job_threads.specs.Endings.{outcome_of, counts_of, finish_of}
use Rattle.job_threads.specs.Items.{RunsBegun, RunsChunk, RunsOnce}

stopped-later : (execution : ℕ) (ds : List Done) (s t : Stops) → HasNotLooked s t → LastIsStop ds ⊎ IsSeen execution ds s → LastIsStop ds ⊎ IsSeen execution ds t
stopped-later execution ds s t keep (inl x) = inl x
stopped-later execution ds s t keep (inr x) = inr (keep.0 execution x.0, keep.1 ∙ x.1, x.2)

by-later : (roles : Roles) (n execution : ℕ) (result : Result Ending Refusal) (ds : List Done) (to : List Coming) (a b : List Known) (s t : Stops) → HasNotLooked s t → EndsBy roles n execution result ds to a b s → EndsBy roles n execution result ds to a b t
by-later roles n execution (Ok Completed) ds to a b s t keep h = (h.0, h.1, keep.1 ∙ h.2, h.3, h.4)
by-later roles n execution (Ok Stopped) ds to a b s t keep h = (stopped-later execution ds s t keep h.0, h.1, h.2, h.3)
by-later roles n execution (Ok Failed) ds to a b s t keep h = (h.0, keep.1 ∙ h.1, h.2)
by-later roles n execution (Ok Unopened) ds to a b s t keep h = h
by-later roles n execution (Err e) ds to a b s t keep h = h

later : (p : Option ℕ) (roles : Option Roles) (n work execution at : ℕ) (checkpoint : Option (List ℕ)) (result : Result Ending Refusal) (a b : List Known) (r0 r1 : List Report) (s t : Stops) → HasNotLooked s t → RunsChunk p roles n work execution at checkpoint result a b r0 r1 s → RunsChunk p roles n work execution at checkpoint result a b r0 r1 t
later p None n work execution at checkpoint result a b r0 r1 s t keep h = h
later p (Some roles) n work execution at checkpoint result a b r0 r1 s t keep h = (h.0, h.1, h.2, h.3, by-later roles n execution result h.0 h.1 (begun_roles p roles a) b s t keep h.4)

pub chunk-some : (p : Option ℕ) (found : Option Roles) (roles : Roles) (n work execution at : ℕ) (checkpoint : Option (List ℕ)) (result : Result Ending Refusal) (a b : List Known) (r0 r1 : List Report) (s : Stops) → found ≡ Some roles → RunsGroups roles n work execution at (to_read checkpoint roles (begun_roles p roles a)) result (begun_roles p roles a) b r0 r1 s → RunsChunk p found n work execution at checkpoint result a b r0 r1 s
chunk-some p found roles n work execution at checkpoint result a b r0 r1 s is h =
    let P : Option Roles → Type 0 = λ o. RunsChunk p o n work execution at checkpoint result a b r0 r1 s in
    subst P (sym is) h

pub chunk-begun : (p : Option ℕ) (roles : Roles) (n work execution at : ℕ) (checkpoint : Option (List ℕ)) (result : Result Ending Refusal) (a b c : List Known) (r0 r1 : List Report) (s : Stops) → b ≡ begun_roles p roles a
    → RunsGroups roles n work execution at (to_read checkpoint roles b) result b c r0 r1 s
    → RunsGroups roles n work execution at (to_read checkpoint roles (begun_roles p roles a)) result (begun_roles p roles a) c r0 r1 s
chunk-begun p roles n work execution at checkpoint result a b c r0 r1 s is h =
    subst (λ (ks : List Known). RunsGroups roles n work execution at (to_read checkpoint roles ks) result ks c r0 r1 s) is h

pub end-refused : (p : Option ℕ) (roles : Option Roles) (n work execution at : ℕ) (checkpoint : Option (List ℕ)) (e : Ending) (a b : List Known) (r0 r1 r2 : List Report) (s t : Stops) → RunsChunk p roles n work execution at checkpoint (Ok e) a b r0 r1 s → r2 ≡ r1 ++ [] → HasNotLooked s t
    → (result : Result Ending Refusal) × RunsChunk p roles n work execution at checkpoint result a b r0 r2 t
end-refused p roles n work execution at checkpoint e a b r0 r1 r2 s t h same keep =
    let P : List Report → Type 0 = λ r. RunsChunk p roles n work execution at checkpoint (Ok e) a b r0 r t in
    (Ok e, subst P (sym (same ∙ append-nil r1)) (later p roles n work execution at checkpoint (Ok e) a b r0 r1 s t keep h))

pub end-done : (q : Option ℕ) (roles : Option Roles) (n work execution at : ℕ) (checkpoint : Option (List ℕ)) (e : Ending) (o p : WorkOutcome) (cs : MetricStep) (a b : List Known) (r0 r1 r2 : List Report) (s t : Stops) → RunsChunk q roles n work execution at checkpoint (Ok e) a b r0 r1 s → o ≡ outcome_of e → p ≡ outcome_of e → cs ≡ counts_of e → r2 ≡ r1 ++ Finish work p None cs at ∷ [] → HasNotLooked s t
    → (f : Ending) × (between : List Report) × (o ≡ outcome_of f) × RunsChunk q roles n work execution at checkpoint (Ok f) a b r0 between t × (r2 ≡ between ++ finish_of work at f ∷ [])
end-done q roles n work execution at checkpoint e o p cs a b r0 r1 r2 s t h is named counted grew keeps =
    (e, r1, is, later q roles n work execution at checkpoint (Ok e) a b r0 r1 s t keeps h, grew ∙ (ap (λ (x : WorkOutcome). r1 ++ Finish work x None cs at ∷ []) named ∙ ap (λ (x : MetricStep). r1 ++ Finish work (outcome_of e) None x at ∷ []) counted))

pub once-failed : (p : Option ℕ) (place : Option ℕ) (i work at : ℕ) (e : ArtifactFault) (step : MetricStep) (a b : List Known) (r0 r1 : List Report) → place ≡ Some i → RunsBegun p i (Err e) a b → step ≡ zero_step → r1 ≡ r0 ++ Finish work Fail None step at ∷ [] → RunsOnce p place work at (Ok Fail) a b r0 r1
once-failed p place i work at e step a b r0 r1 is fault none grew =
    let P : Option ℕ → Type 0 = λ o. RunsOnce p o work at (Ok Fail) a b r0 r1 in
    subst P (sym is) (inr (refl, grew ∙ ap (λ (m : MetricStep). r0 ++ Finish work Fail None m at ∷ []) none, fault))

pub once-done : (p : Option ℕ) (place : Option ℕ) (i work at : ℕ) (exit : Option (List ℕ)) (step : MetricStep) (a b : List Known) (r0 r1 : List Report) → place ≡ Some i → RunsBegun p i (Ok exit) a b → step ≡ zero_step → r1 ≡ r0 ++ Finish work Complete exit step at ∷ [] → RunsOnce p place work at (Ok Complete) a b r0 r1
once-done p place i work at exit step a b r0 r1 is ran none grew =
    let P : Option ℕ → Type 0 = λ o. RunsOnce p o work at (Ok Complete) a b r0 r1 in
    subst P (sym is) (inl (refl, grew ∙ (ap (λ (m : MetricStep). r0 ++ Finish work Complete exit m at ∷ []) none ∙ ap (λ (x : Option (List ℕ)). r0 ++ Finish work Complete x zero_step at ∷ []) ran.0), ran.1, ran.2))

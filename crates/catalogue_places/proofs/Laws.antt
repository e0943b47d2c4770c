-- Each object has a flaw exactly if the catalogue's reading of it gives nothing.
use Rattle.std.proofs.Common.{ℕ, ◌+◌, [], ◌∷◌, Bool, true, false, cond, codes, Option, Some, None, option_and_then}
use Rattle.std.specs.Option.{option_or}
use Rattle.serde_json.specs.Data.{Data, Items, no_items, item}
use Rattle.json_members.specs.Members.{has_only, is_text, text_at, optional_text, list_at, optional_list, object_at, optional_object}
use Rattle.jsl_model.specs.declared.element.Then.TheVariants.{Next as NextThen, End, Fail}
use Rattle.jsl_json.specs.Tasks.{truth_or, count_or, item_count_at, partitions_at, artifact_of, artifact_at, artifact_if, optional_artifact, chunk_names, chunk_of, one_task, task_at}
use Rattle.jsl_json.specs.Transitions.{next_names, end_names, stop_names, exit_status_of, then_stop, then_of_data, transition_of_data, transitions_of, transitions_if, transitions_at}
use Rattle.jsl_json.specs.Members.{step_names, flow_names, split_names, decision_names, split_flow_names, job_names, step_of_data, flow_of_data, split_of_data, decision_of_data, element_kind, own_of, own_flow_of, own_job_of}
use Rattle.jsl_json.specs.Catalogues.{jobs_of}
use Rattle.jsl_model.specs.declared.element.Task.TheVariants.{Batchlet as BatchletTask, Chunk as ChunkTask}
use Rattle.catalogue_places.specs.declared.flaws.Flaw.{Flaw}
use Rattle.catalogue_places.specs.declared.flaws.Spot.{Spot}
use Rattle.catalogue_places.specs.declared.flaws.Inside.{Inside}
use Rattle.catalogue_places.specs.declared.flaws.Inside.TheVariants.{Own, In, InChunk, Transition}
use Rattle.catalogue_places.specs.declared.member.Member.{Member}
use Rattle.catalogue_places.specs.declared.member.Member.TheVariants.{Chunk, Batchlet, Reader, Processor, Writer}
use Rattle.catalogue_places.specs.Flaws.{Agrees, within, catalogue_flaw, job_flaw, split_flow_flaw, artifact_flaw, then_flaw, transition_flaw, transitions_spot_in, transitions_spot_if, transitions_spot, artifact_spot_in, artifact_spot_if, chunk_spot, one_task_spot, task_spot_of, task_spot, step_spot, flow_spot, split_spot, decision_spot, kind_spot, element_spot}
use Rattle.catalogue_places.proofs.Agreeing.{both, swapped, alone, under, under_both, branch, reads, kept, kept_then, three, inside}

pub catalogue_agrees : (d : Data) → Agrees (catalogue_flaw d) (jobs_of d)
unfolding catalogue_flaw jobs_of
catalogue_agrees d = under (has_only (codes "jobs" ∷ []) d) _ _ _ (alone _ _ (reads (list_at (codes "jobs") d) _))

pub job_agrees : (d : Data) → Agrees (job_flaw d) (own_job_of d)
unfolding job_flaw own_job_of
job_agrees d =
    under (has_only job_names d) _ _ _
    (both _ _ (text_at (codes "id") d) _ (reads (text_at (codes "id") d) _)
    (λ id. both _ _ (truth_or (codes "restartable") true d) _ (reads (truth_or (codes "restartable") true d) _)
    (λ restartable. both _ _ (list_at (codes "elements") d) _ (reads (list_at (codes "elements") d) _) (λ elements. tt))))

pub split_flow_agrees : (d : Data) → Agrees (split_flow_flaw d) (own_flow_of d)
unfolding split_flow_flaw own_flow_of
split_flow_agrees d =
    under_both (has_only split_flow_names d) (is_text (codes "kind") (codes "flow") d) _ _ _ _
    (both _ _ (text_at (codes "id") d) _ (reads (text_at (codes "id") d) _)
    (λ id. both _ _ (list_at (codes "elements") d) _ (reads (list_at (codes "elements") d) _) (λ elements. tt)))

artifact_agrees : (d : Data) → Agrees (artifact_flaw d) (artifact_of d)
unfolding artifact_flaw artifact_of
artifact_agrees d = under (has_only (codes "ref" ∷ []) d) _ _ _ (alone _ _ (reads (text_at (codes "ref") d) _))

-- ---- transition elements

then_agrees : (d : Data) → Agrees (then_flaw d) (then_of_data d)
unfolding then_flaw then_of_data then_stop
then_agrees d =
    branch (is_text (codes "kind") (codes "next") d) _ _ _ _
    (under (has_only next_names d) _ _ _ (alone _ _ (kept _ (text_at (codes "to") d) NextThen (reads (text_at (codes "to") d) _))))
    (branch (is_text (codes "kind") (codes "end") d) _ _ _ _
    (kept _ (exit_status_of d) End (under (has_only end_names d) _ _ _ (alone _ _ (reads (optional_text (codes "exit-status") d) _))))
    (branch (is_text (codes "kind") (codes "fail") d) _ _ _ _
    (kept _ (exit_status_of d) Fail (under (has_only end_names d) _ _ _ (alone _ _ (reads (optional_text (codes "exit-status") d) _))))
    (branch (is_text (codes "kind") (codes "stop") d) _ _ _ _
    (under (has_only stop_names d) _ _ _
    (both _ _ (optional_text (codes "exit-status") d) _ (reads (optional_text (codes "exit-status") d) _)
    (λ exit_status. both _ _ (optional_text (codes "restart") d) _ (reads (optional_text (codes "restart") d) _) (λ restart. tt))))
    tt)))

transition_agrees : (d : Data) → Agrees (transition_flaw d) (transition_of_data d)
unfolding transition_flaw transition_of_data
transition_agrees d =
    swapped (then_flaw d) _ (text_at (codes "on") d) (then_of_data d) (λ on target. record { on = on; then = target }) (then_agrees d) (alone _ _ (reads (text_at (codes "on") d) _))

all_agree : (n : ℕ) (ds : Items) → Agrees (transitions_spot_in n ds) (transitions_of ds)
all_agree n no_items = tt
all_agree n (item d ds) =
    both _ _ (transition_of_data d) _ (inside (Transition n) _ _ (transition_agrees d)) (λ first. kept_then _ (transitions_of ds) (λ rest. first ∷ rest) (all_agree (n + 1) ds))

if_there_agree : (o : Option (Option Items)) (d : Data) → Agrees (transitions_spot_if o d) (option_and_then transitions_if o)
if_there_agree None d = tt
if_there_agree (Some None) d = tt
if_there_agree (Some (Some ds)) d = all_agree 0 ds

transitions_agree : (d : Data) → Agrees (transitions_spot d) (transitions_at d)
unfolding transitions_spot transitions_at
transitions_agree d = if_there_agree (optional_list (codes "transitions") d) d

-- ---- tasks

in_agrees : (m : Member) (o : Option Data) (d : Data) → Agrees (artifact_spot_in m o d) (option_and_then artifact_of o)
in_agrees m None d = tt
in_agrees m (Some found) d = inside (InChunk m) _ _ (artifact_agrees found)

if_agrees : (m : Member) (o : Option (Option Data)) (d : Data) → Agrees (artifact_spot_if m o d) (option_and_then artifact_if o)
if_agrees m None d = tt
if_agrees m (Some None) d = tt
if_agrees m (Some (Some found)) d = kept _ (artifact_of found) Some (inside (InChunk m) _ _ (artifact_agrees found))

-- a flaw of the object that is not listed comes before all others
under_within : {A : Type 0} (i : Inside) (b : Bool) (x : Flaw) (g : Option Spot) (rest : Option A) → Agrees g rest → Agrees (option_or (within i (cond b None (Some x))) g) (cond b rest None)
under_within i true x g rest h = h
under_within i false x g rest h = tt

chunk_agrees : (d : Data) → Agrees (chunk_spot d) (chunk_of d)
unfolding chunk_spot chunk_of artifact_at optional_artifact
chunk_agrees d =
    let reader = object_at (codes "reader") d in
    let processor = optional_object (codes "processor") d in
    let writer = object_at (codes "writer") d in
    under_within (In Chunk) (has_only chunk_names d) _ _ _
    (both _ _ (item_count_at d) _ (inside (In Chunk) _ _ (reads (item_count_at d) _))
    (λ item_count. three (artifact_spot_in Reader reader d) (artifact_spot_if Processor processor d) (artifact_spot_in Writer writer d)
    (option_and_then artifact_of reader) (option_and_then artifact_if processor) (option_and_then artifact_of writer)
    (λ r p w. ChunkTask r p w item_count) (in_agrees Reader reader d) (if_agrees Processor processor d) (in_agrees Writer writer d)))

one_agrees : (batchlet chunk : Option Data) → Agrees (one_task_spot batchlet chunk) (one_task batchlet chunk)
one_agrees None None = tt
one_agrees (Some batchlet) None = kept _ (artifact_of batchlet) BatchletTask (inside (In Batchlet) _ _ (artifact_agrees batchlet))
one_agrees None (Some chunk) = chunk_agrees chunk
one_agrees (Some batchlet) (Some chunk) = tt

two_agree : (batchlet chunk : Option (Option Data)) (d : Data) → Agrees (task_spot_of batchlet chunk d) (option_and_then (λ b. option_and_then (λ c. one_task b c) chunk) batchlet)
two_agree None chunk d = tt
two_agree (Some batchlet) None d = tt
two_agree (Some batchlet) (Some chunk) d = one_agrees batchlet chunk

task_agrees : (d : Data) → Agrees (task_spot d) (task_at d)
unfolding task_spot task_at
task_agrees d = two_agree (optional_object (codes "batchlet") d) (optional_object (codes "chunk") d) d

-- ---- elements

step_agrees : (d : Data) → Agrees (step_spot d) (step_of_data d)
unfolding step_spot step_of_data
step_agrees d =
    under_within Own (has_only step_names d) _ _ _
    (both _ _ (optional_text (codes "next") d) _ (inside Own _ _ (reads (optional_text (codes "next") d) _))
    (λ next. both _ _ (transitions_at d) _ (transitions_agree d)
    (λ transitions. both _ _ (count_or (codes "start-limit") 0 d) _ (inside Own _ _ (reads (count_or (codes "start-limit") 0 d) _))
    (λ limit. both _ _ (truth_or (codes "allow-start-if-complete") false d) _ (inside Own _ _ (reads (truth_or (codes "allow-start-if-complete") false d) _))
    (λ again. both _ _ (partitions_at d) _ (inside Own _ _ (reads (partitions_at d) _))
    (λ partitions. both _ _ (task_at d) _ (task_agrees d) (λ task. tt)))))))

flow_agrees : (d : Data) → Agrees (flow_spot d) (flow_of_data d)
unfolding flow_spot flow_of_data
flow_agrees d =
    under_within Own (has_only flow_names d) _ _ _
    (both _ _ (optional_text (codes "next") d) _ (inside Own _ _ (reads (optional_text (codes "next") d) _))
    (λ next. both _ _ (transitions_at d) _ (transitions_agree d)
    (λ transitions. both _ _ (list_at (codes "elements") d) _ (inside Own _ _ (reads (list_at (codes "elements") d) _)) (λ elements. tt))))

split_agrees : (d : Data) → Agrees (split_spot d) (split_of_data d)
unfolding split_spot split_of_data
split_agrees d =
    under_within Own (has_only split_names d) _ _ _
    (both _ _ (optional_text (codes "next") d) _ (inside Own _ _ (reads (optional_text (codes "next") d) _))
    (λ next. both _ _ (list_at (codes "flows") d) _ (inside Own _ _ (reads (list_at (codes "flows") d) _)) (λ flows. tt)))

decision_agrees : (d : Data) → Agrees (decision_spot d) (decision_of_data d)
unfolding decision_spot decision_of_data
decision_agrees d =
    under_within Own (has_only decision_names d) _ _ _
    (both _ _ (transitions_at d) _ (transitions_agree d)
    (λ transitions. both _ _ (text_at (codes "ref") d) _ (inside Own _ _ (reads (text_at (codes "ref") d) _)) (λ artifact. tt)))

kind_agrees : (d : Data) → Agrees (kind_spot d) (element_kind d)
unfolding kind_spot element_kind
kind_agrees d =
    branch (is_text (codes "kind") (codes "step") d) _ _ _ _ (step_agrees d)
    (branch (is_text (codes "kind") (codes "flow") d) _ _ _ _ (flow_agrees d)
    (branch (is_text (codes "kind") (codes "split") d) _ _ _ _ (split_agrees d)
    (branch (is_text (codes "kind") (codes "decision") d) _ _ _ _ (decision_agrees d) tt)))

pub element_agrees : (d : Data) → Agrees (element_spot d) (own_of d)
unfolding element_spot own_of
element_agrees d =
    both _ _ (element_kind d) _ (kind_agrees d)
    (λ kind. both _ _ (text_at (codes "id") d) _ (inside Own _ _ (reads (text_at (codes "id") d) _)) (λ id. tt))

-- The own members of a value, from those that the code has read.
use Rattle.std.specs.Prelude.{map, string_bytes}
use Rattle.serde_json.specs.View.{items_view}
use Rattle.jsl_model.specs.Parts.{bytes_of_option, step_of, transition_of}
use Rattle.jsl_json.specs.declared.members.ElementKind.{ElementKind}
use Rattle.jsl_json.specs.declared.members.ElementKind.TheVariants.{Step, Flow, Split, Decision}
use Rattle.jsl_json.specs.declared.members.ElementMembers.{ElementMembers}
use Rattle.jsl_json.specs.declared.members.FlowMembers.{FlowMembers}
use Rattle.jsl_json.specs.declared.members.JobMembers.{JobMembers}
use Rattle.jsl_json.specs.Members.{Kind, step, flow, split, decision, OwnMembers, OwnFlowMembers, OwnJobMembers}

-- an element's kind
abbrev pub kind_in : ElementKind → Kind
kind_in (Step parts) = step (bytes_of_option parts.next) (map transition_of parts.transitions) (step_of parts)
kind_in (Flow next transitions list) = flow (bytes_of_option next) (map transition_of transitions) (items_view list.now)
kind_in (Split next list) = split (bytes_of_option next) (items_view list.now)
kind_in (Decision transitions artifact) = decision (map transition_of transitions) (string_bytes artifact)

-- an element's own members
abbrev pub own_in : ElementMembers → OwnMembers
own_in own = record { id = string_bytes own.id; kind = kind_in own.kind }

-- the own members of a flow of a split
abbrev pub own_flow_in : FlowMembers → OwnFlowMembers
own_flow_in own = record { id = own.id.now; elements = items_view own.elements.now }

-- the own members of a job
abbrev pub own_job_in : JobMembers → OwnJobMembers
own_job_in own = record { id = own.id.now; restartable = own.restartable; elements = items_view own.elements.now }

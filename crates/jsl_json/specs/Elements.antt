-- The elements of a job as a tree, each one's own members before those inside it. They are counted from 0 in
-- each job, in written order, and flows of splits are counted too.
use Rattle.std.specs.Prelude.{ℕ, ◌+◌, ◌-◌, ◌^◌, min, List, [], ◌∷◌, bytes_eq, codes, Option, Some, None, Result, Ok, Err, if◌then◌else◌}
use Rattle.serde_json.specs.Data.{Data, array, object, Items, no_items, item, Members, no_members, member}
use Rattle.jsl_model.specs.declared.element.Element.{Element}
use Rattle.jsl_model.specs.declared.element.SplitFlow.{SplitFlow, roll-SplitFlow}
use Rattle.jsl_model.specs.declared.element.Body.TheVariants.{Step, Flow, Split, Decision}
use Rattle.jsl_model.specs.Parts.{Content}
use Rattle.jsl_json.specs.declared.fault.ReadFault.{ReadFault}
use Rattle.jsl_json.specs.declared.fault.ReadFault.TheVariants.{BadElement}
use Rattle.jsl_json.specs.Members.{Kind, step, flow, split, decision, OwnMembers, OwnFlowMembers, own_of, own_flow_of}

infixl 10 ◌>>=◌
-- the next reading after this one, or the fault
abbrev pub ◌>>=◌ : {A B : Type 0} → Result A ReadFault → (A → Result B ReadFault) → Result B ReadFault
(Ok found) >>= f = f found
(Err fault) >>= f = Err fault

-- the number after this one: numbers end at 2^64 - 1, and no line has so many elements
abbrev pub next_number : ℕ → ℕ
next_number n = min (n + 1) (2 ^ 64 - 1)

-- a result of reading, and the number of the next element
abbrev pub Read : Type 0 → Type 0
Read A = Result (A × ℕ) ReadFault

-- the fault of the element of this number
abbrev pub bad : {A : Type 0} → ℕ → ℕ → Read A
bad job n = Err (BadElement job (Some n))

-- an element's content besides its id, after the values inside it are read: a split has no transition
-- elements, and a decision no `next`
abbrev pub content_with : Kind → ℕ → Read (List Element) → Read (List SplitFlow) → Read Content
content_with (step next transitions s) n elements flows = Ok (record { next = next; transitions = transitions; body = Step s }, n)
content_with (flow next transitions ds) n elements flows =
    elements >>= λ x. Ok (record { next = next; transitions = transitions; body = Flow x.0 }, x.1)
content_with (split next ds) n elements flows = flows >>= λ x. Ok (record { next = next; transitions = []; body = Split x.0 }, x.1)
content_with (decision transitions artifact) n elements flows =
    Ok (record { next = None; transitions = transitions; body = Decision artifact }, n)

-- an element with its own members, if they are right
abbrev pub element_with : ℕ → ℕ → Option OwnMembers → Read (List Element) → Read (List SplitFlow) → Read Element
element_with job n None elements flows = bad job n
element_with job n (Some own) elements flows =
    content_with own.kind (next_number n) elements flows
    >>= λ x. Ok (record { id = own.id; next = x.0.next; transitions = x.0.transitions; body = x.0.body }, x.1)

-- a flow of a split with its own members, if they are right
abbrev pub flow_with : ℕ → ℕ → Option OwnFlowMembers → Read (List Element) → Read SplitFlow
flow_with job n None elements = bad job n
flow_with job n (Some own) elements = elements >>= λ x. Ok (roll-SplitFlow record { id = own.id; elements = x.0 }, x.1)

-- the first result before the rest of the list
abbrev pub followed : {A : Type 0} → Read A → (ℕ → Read (List A)) → Read (List A)
followed first rest = first >>= λ x. rest x.1 >>= λ y. Ok (x.0 ∷ y.0, y.1)

-- By recursion on the value, with the job's number and the number of the first element. The values inside an
-- object are looked up among its members.
unfoldable mutual
  -- the element in a value
  pub element_at : ℕ → Data → ℕ → Read Element
  element_at job (object ms) n = element_with job n (own_of (object ms)) (elements_in job ms (next_number n)) (flows_in job ms (next_number n))
  element_at job d n = bad job n

  -- the elements in the list named `elements`
  pub elements_in : ℕ → Members → ℕ → Read (List Element)
  elements_in job no_members n = Ok ([], n)
  elements_in job (member name (array ds) ms) n = if bytes_eq (codes "elements") name then elements_at job ds n else elements_in job ms n
  elements_in job (member name d ms) n = elements_in job ms n

  -- the elements of a list
  pub elements_at : ℕ → Items → ℕ → Read (List Element)
  elements_at job no_items n = Ok ([], n)
  elements_at job (item d ds) n = followed (element_at job d n) (λ k. elements_at job ds k)

  -- the flow of a split in a value
  pub flow_at : ℕ → Data → ℕ → Read SplitFlow
  flow_at job (object ms) n = flow_with job n (own_flow_of (object ms)) (elements_in job ms (next_number n))
  flow_at job d n = bad job n

  -- the flows in the list named `flows`
  pub flows_in : ℕ → Members → ℕ → Read (List SplitFlow)
  flows_in job no_members n = Ok ([], n)
  flows_in job (member name (array ds) ms) n = if bytes_eq (codes "flows") name then flows_at job ds n else flows_in job ms n
  flows_in job (member name d ms) n = flows_in job ms n

  -- the flows of a list
  pub flows_at : ℕ → Items → ℕ → Read (List SplitFlow)
  flows_at job no_items n = Ok ([], n)
  flows_at job (item d ds) n = followed (flow_at job d n) (λ k. flows_at job ds k)

-- the content, besides its id, of an element of this kind, with the values inside it counted from n on
abbrev pub content_at : ℕ → Kind → ℕ → Read Content
content_at job (step next transitions s) n = Ok (record { next = next; transitions = transitions; body = Step s }, n)
content_at job (flow next transitions ds) n =
    elements_at job ds n >>= λ x. Ok (record { next = next; transitions = transitions; body = Flow x.0 }, x.1)
content_at job (split next ds) n = flows_at job ds n >>= λ x. Ok (record { next = next; transitions = []; body = Split x.0 }, x.1)
content_at job (decision transitions artifact) n = Ok (record { next = None; transitions = transitions; body = Decision artifact }, n)

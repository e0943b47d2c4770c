-- A walk before and after something is learnt of one work key: what it shows as busy stays busy.
use Rattle.std.proofs.Common.{◌≡◌, ◌≢◌, ℕ, zero, suc, Bool, true, false, cond, ◌||◌, ◌&&◌, Option, None, Some, List, [], ◌∷◌, length, map, find, filter, not, refl, sym, ◌∙◌, ap, subst, ◌⊎◌, inl, inr}
use Rattle.std.proofs.lemmas.Bool.{or_parts, and_parts}
use Rattle.batch_ids.specs.Statuses.{status_name}
use Rattle.std.proofs.lemmas.List.{length-map}
use Rattle.std.proofs.lemmas.Simd.{map-map}
use Rattle.std.proofs.lemmas.List.Folds.{list_any-append}
use Rattle.std.specs.Str.{bytes_eq}
use Rattle.batch_ids.specs.declared.status.BatchStatus.TheVariants.{Failed as StatusFailed, Stopped as StatusStopped, Completed as StatusCompleted}
use Rattle.batch_ids.specs.declared.status.WorkOutcome.{WorkOutcome}
use Rattle.batch_ids.specs.declared.status.WorkOutcome.TheVariants.{Completed, Failed, Stopped}
use Rattle.jsl_model.specs.declared.element.Then.{Then}
use Rattle.jsl_model.specs.declared.element.Then.TheVariants.{Next, End, Fail, Stop}
use Rattle.jsl_model.specs.declared.element.Transition.{Transition}
use Rattle.jsl_model.specs.declared.element.Element.{Element, ind-Element, map-Element, fold-roll-Element}
use Rattle.jsl_model.specs.declared.element.SplitFlow.{SplitFlow, fold-roll-SplitFlow}
use Rattle.jsl_model.specs.declared.element.Body.{Body, Body-F, map-Body, fold-roll-Body}
use Rattle.jsl_model.specs.declared.element.Body.TheOpen.{Step, Flow, Split, Decision}
use Rattle.transitions.specs.Transitions.{matching_transition}
use Rattle.walk_rules.specs.declared.work_key.WorkKey.{WorkKey}
use Rattle.walk_rules.specs.declared.facts.Fact.{Fact}
use Rattle.walk_rules.specs.declared.facts.Fact.TheVariants.{Nothing, Carried, Busy, Over, Barred}
use Rattle.walk_rules.specs.declared.facts.Value.{Value}
use Rattle.walk_rules.specs.declared.facts.Value.TheVariants.{Open, Done, Ended}
use Rattle.walk_rules.specs.declared.element_result.ElementResult.{ElementResult}
use Rattle.walk_rules.specs.declared.element_result.ElementResult.TheVariants.{ListValue, Outcome}
use Rattle.walk_rules.proofs.SameKeys.{same-one, same-self, differing-keys}
use Rattle.walk_rules.specs.Keys.{is_same_key, has_key, key_of, numbers_to}
use Rattle.walk_rules.specs.declared.facts.Known.{Known}
use Rattle.walk_rules.specs.Walk.{WalkedElement, BodyResult, IsStep, IsDecision, HasResult, runnable_result, ready_result, busy_result, step_result, partitioned_result, open_or_over, named_outcome, strongest_outcome, known_of, has_fact, keys_with, is_left, is_busy, is_barred, value_by_transition, value_after_outcome, value_by_result, value_at, follow, list_value, first_id, whole_value, flow_result, all_ready, all_busy, is_open, any_open, ended_as, strongest_end, split_result, body_result, element_with_result, flow_value, walked_element, walked_body, element_result, value_of_flow, value_of}

-- ---- Values

-- whether a work key stands among others
abbrev is_in : WorkKey → List WorkKey → Bool
is_in key keys = has_key keys key

-- what is looked for: what is ready, what is busy
pub record Sight : Type 0 where
  pub of_ready : Bool
  pub of_busy : Bool

abbrev pub ready_sight : Sight
ready_sight = record { of_ready = true; of_busy = false }

abbrev pub busy_sight : Sight
busy_sight = record { of_ready = false; of_busy = true }

abbrev pub no_sight : Sight
no_sight = record { of_ready = false; of_busy = false }

-- whether a walk shows a work key so
abbrev pub seen : Sight → WorkKey → Value → Bool
seen s key (Open ready busy) = (s.of_ready && is_in key ready) || (s.of_busy && is_in key busy)
seen s key (Done exit) = false
seen s key (Ended status exit point) = false

-- a walk before and after: what the first shows one way, the second shows the other way, and an end stays
pub record GoesOn (s t : Sight) (key : WorkKey) (before after : Value) : Type 0 where
  pub same : is_open before ≡ false → after ≡ before
  pub kept : seen s key before ≡ true → seen t key after ≡ true

abbrev own_open : ElementResult → Bool
own_open (ListValue value) = is_open value
own_open (Outcome outcome exit) = false

abbrev own_seen : Sight → WorkKey → ElementResult → Bool
own_seen s key (ListValue value) = seen s key value
own_seen s key (Outcome outcome exit) = false

-- the same of what an element comes to by itself
pub record OwnGoesOn (s t : Sight) (key : WorkKey) (before after : ElementResult) : Type 0 where
  pub same : own_open before ≡ false → after ≡ before
  pub kept : own_seen s key before ≡ true → own_seen t key after ≡ true

pub record RowGoesOn (s t : Sight) (key : WorkKey) (before after : WalkedElement) : Type 0 where
  pub id_same : after.id ≡ before.id
  pub next_same : after.next ≡ before.next
  pub transitions_same : after.transitions ≡ before.transitions
  pub own_result : OwnGoesOn s t key before.own_result after.own_result

-- what has ended shows nothing
closed-unseen : (s : Sight) (key : WorkKey) (v : Value) → is_open v ≡ false → seen s key v ≡ false
closed-unseen s key (Open ready busy) h = cc
closed-unseen s key (Done exit) h = refl
closed-unseen s key (Ended status exit point) h = refl

-- what has ended goes on as it is
closed-goes : (s t : Sight) (key : WorkKey) (v : Value) → is_open v ≡ false → GoesOn s t key v v
closed-goes s t key v h = record { same = λ _. refl; kept = λ h2. let unseen = closed-unseen s key v h in cc }

-- ---- Lists

taken-goes : (s t : Sight) (key : WorkKey) (on on2 : List ℕ → Value) → ((to : List ℕ) → GoesOn s t key (on to) (on2 to)) → (then : Then)
    → GoesOn s t key (value_by_transition on then) (value_by_transition on2 then)
taken-goes s t key on on2 h (Next to) = h to
taken-goes s t key on on2 h (End exit) = closed-goes s t key _ refl
taken-goes s t key on on2 h (Fail exit) = closed-goes s t key _ refl
taken-goes s t key on on2 h (Stop exit point) = closed-goes s t key _ refl

goes-goes : (s t : Sight) (key : WorkKey) (on on2 : List ℕ → Value) → ((to : List ℕ) → GoesOn s t key (on to) (on2 to))
    → (next : Option (List ℕ)) (transition : Option Transition) (outcome : WorkOutcome) (exit : List ℕ)
    → GoesOn s t key (value_after_outcome on next transition outcome exit) (value_after_outcome on2 next transition outcome exit)
goes-goes s t key on on2 h next None Stopped exit = closed-goes s t key _ refl
goes-goes s t key on on2 h next (Some transition) Stopped exit = closed-goes s t key _ refl
goes-goes s t key on on2 h next (Some transition) Completed exit = taken-goes s t key on on2 h transition.then
goes-goes s t key on on2 h next (Some transition) Failed exit = taken-goes s t key on on2 h transition.then
goes-goes s t key on on2 h next None Failed exit = closed-goes s t key _ refl
goes-goes s t key on on2 h (Some to) None Completed exit = h to
goes-goes s t key on on2 h None None Completed exit = closed-goes s t key _ refl

-- what an element shows, its list shows
arrives-seen : (t : Sight) (key : WorkKey) (on : List ℕ → Value) (row : WalkedElement) (own_result : ElementResult) → own_seen t key own_result ≡ true → seen t key (value_by_result on row own_result) ≡ true
arrives-seen t key on row (ListValue value) h = h
arrives-seen t key on row (Outcome outcome exit) h = cc

arrives-goes : (s t : Sight) (key : WorkKey) (on on2 : List ℕ → Value) → ((to : List ℕ) → GoesOn s t key (on to) (on2 to))
    → (row row2 : WalkedElement) → row2.next ≡ row.next → row2.transitions ≡ row.transitions → (own_result own2 : ElementResult) → OwnGoesOn s t key own_result own2
    → GoesOn s t key (value_by_result on row own_result) (value_by_result on2 row2 own2)
arrives-goes s t key on on2 h row row2 next transitions (ListValue (Open ready busy)) own2 g =
    record { same = λ closed. cc; kept = λ h2. arrives-seen t key on2 row2 own2 (g.kept h2) }
arrives-goes s t key on on2 h row row2 next transitions (ListValue (Done exit)) own2 g =
    rw (g.same refl) (closed-goes s t key _ refl)
arrives-goes s t key on on2 h row row2 next transitions (ListValue (Ended status exit point)) own2 g =
    rw (g.same refl) (closed-goes s t key _ refl)
arrives-goes s t key on on2 h row row2 next transitions (Outcome outcome exit) own2 g =
    rw (g.same refl) (rw next (rw transitions (goes-goes s t key on on2 h row.next (matching_transition row.transitions exit) outcome exit)))

at-goes : {X : Type 0} (s t : Sight) (key : WorkKey) (f g : X → WalkedElement) → ((x : X) → RowGoesOn s t key (f x) (g x))
    → (on on2 : List ℕ → Value) → ((to : List ℕ) → GoesOn s t key (on to) (on2 to)) → (from : List ℕ) (xs : List X)
    → GoesOn s t key (value_at on (find (λ row. bytes_eq row.id from) (map f xs))) (value_at on2 (find (λ row. bytes_eq row.id from) (map g xs)))
at-goes s t key f g rel on on2 h from [] = closed-goes s t key _ refl
at-goes s t key f g rel on on2 h from (x ∷ xs) =
    let p : WalkedElement → Bool = λ row. bytes_eq row.id from in
    subst (λ i. GoesOn s t key (value_at on (cond (bytes_eq (f x).id from) (Some (f x)) (find p (map f xs)))) (value_at on2 (cond (bytes_eq i from) (Some (g x)) (find p (map g xs)))))
    (sym (rel x).id_same)
    (elim (bytes_eq (f x).id from) as (λ b. GoesOn s t key (value_at on (cond b (Some (f x)) (find p (map f xs)))) (value_at on2 (cond b (Some (g x)) (find p (map g xs))))) [
      | true ↦ arrives-goes s t key on on2 h (f x) (g x) (rel x).next_same (rel x).transitions_same (f x).own_result (g x).own_result (rel x).own_result
      | false ↦ at-goes s t key f g rel on on2 h from xs
    ])

follow-goes : {X : Type 0} (s t : Sight) (key : WorkKey) (f g : X → WalkedElement) → ((x : X) → RowGoesOn s t key (f x) (g x)) → (xs : List X) (n : ℕ) (from : List ℕ)
    → GoesOn s t key (follow n (map f xs) from) (follow n (map g xs) from)
follow-goes s t key f g rel xs zero from = closed-goes s t key _ refl
follow-goes s t key f g rel xs (suc n) from =
    at-goes s t key f g rel (follow n (map f xs)) (follow n (map g xs)) (λ to. follow-goes s t key f g rel xs n to) from xs

list-goes : {X : Type 0} (s t : Sight) (key : WorkKey) (f g : X → WalkedElement) → ((x : X) → RowGoesOn s t key (f x) (g x)) → (xs : List X) (from : List ℕ)
    → GoesOn s t key (list_value (map f xs) from) (list_value (map g xs) from)
list-goes s t key f g rel xs from =
    rw (length-map xs f) (rw (length-map xs g) (follow-goes s t key f g rel xs (length xs) from))

first-same : {X : Type 0} (s t : Sight) (key : WorkKey) (f g : X → WalkedElement) → ((x : X) → RowGoesOn s t key (f x) (g x)) → (xs : List X)
    → first_id (map g xs) ≡ first_id (map f xs)
first-same s t key f g rel [] = refl
first-same s t key f g rel (x ∷ xs) = (rel x).id_same

whole-goes : {X : Type 0} (s t : Sight) (key : WorkKey) (f g : X → WalkedElement) → ((x : X) → RowGoesOn s t key (f x) (g x)) → (xs : List X)
    → GoesOn s t key (whole_value (map f xs)) (whole_value (map g xs))
whole-goes s t key f g rel xs = rw (first-same s t key f g rel xs) (list-goes s t key f g rel xs (first_id (map f xs)))

-- ---- Flows and splits

flow-seen : (t : Sight) (key : WorkKey) (w : Value) → seen t key w ≡ true → own_seen t key (flow_result w) ≡ true
flow-seen t key (Open ready busy) h = h
flow-seen t key (Done exit) h = cc
flow-seen t key (Ended status exit point) h = cc

flow-goes : (s t : Sight) (key : WorkKey) (v w : Value) → GoesOn s t key v w → OwnGoesOn s t key (flow_result v) (flow_result w)
flow-goes s t key (Open ready busy) w g = record { same = λ closed. cc; kept = λ h. flow-seen t key w (g.kept h) }
flow-goes s t key (Done exit) w g = record { same = λ _. ap flow_result (g.same refl); kept = λ h. cc }
flow-goes s t key (Ended status exit point) w g = record { same = λ _. ap flow_result (g.same refl); kept = λ h. cc }

-- whether flows show an element
abbrev all_seen : Sight → WorkKey → List Value → Bool
all_seen s key flows = (s.of_ready && is_in key (all_ready flows)) || (s.of_busy && is_in key (all_busy flows))

-- what two lists show together, one of them shows
sorted-out : (r b a1 a2 b1 b2 : Bool) → ((r && (a1 || a2)) || (b && (b1 || b2))) ≡ true
    → (((r && a1) || (b && b1)) ≡ true) ⊎ (((r && a2) || (b && b2)) ≡ true)
sorted-out true b true a2 b1 b2 h = inl refl
sorted-out true b false true b1 b2 h = inr refl
sorted-out true true false false true b2 h = inl refl
sorted-out true true false false false b2 h = inr h
sorted-out true false false false b1 b2 h = cc
sorted-out false true a1 a2 true b2 h = inl refl
sorted-out false true a1 a2 false b2 h = inr h
sorted-out false false a1 a2 b1 b2 h = cc

put-first : (r b a1 a2 b1 b2 : Bool) → ((r && a1) || (b && b1)) ≡ true → ((r && (a1 || a2)) || (b && (b1 || b2))) ≡ true
put-first true b true a2 b1 b2 h = refl
put-first true true false true true b2 h = refl
put-first true true false false true b2 h = refl
put-first true true false a2 false b2 h = cc
put-first true false false a2 b1 b2 h = cc
put-first false true a1 a2 true b2 h = refl
put-first false true a1 a2 false b2 h = cc
put-first false false a1 a2 b1 b2 h = cc

put-second : (r b a1 a2 b1 b2 : Bool) → ((r && a2) || (b && b2)) ≡ true → ((r && (a1 || a2)) || (b && (b1 || b2))) ≡ true
put-second true b true a2 b1 b2 h = refl
put-second true b false true b1 b2 h = refl
put-second true true false false true b2 h = refl
put-second true true false false false b2 h = h
put-second true false false false b1 b2 h = cc
put-second false true a1 a2 true b2 h = refl
put-second false true a1 a2 false b2 h = h
put-second false false a1 a2 b1 b2 h = cc

-- one flow and the others, together
together : (s : Sight) (key : WorkKey) (ready busy : List WorkKey) (rest : List Value)
    → all_seen s key (Open ready busy ∷ rest)
    ≡ ((s.of_ready && (is_in key ready || is_in key (all_ready rest))) || (s.of_busy && (is_in key busy || is_in key (all_busy rest))))
together s key ready busy rest =
    rw (list_any-append (is_same_key key) ready (all_ready rest)) (rw (list_any-append (is_same_key key) busy (all_busy rest)) refl)

-- a flow shows an element, or the others do
seen-either : (s : Sight) (key : WorkKey) (v : Value) (rest : List Value) → all_seen s key (v ∷ rest) ≡ true → (seen s key v ≡ true) ⊎ (all_seen s key rest ≡ true)
seen-either s key (Open ready busy) rest h = sorted-out s.of_ready s.of_busy _ _ _ _ (sym (together s key ready busy rest) ∙ h)
seen-either s key (Done exit) rest h = inr h
seen-either s key (Ended status exit point) rest h = inr h

seen-here : (s : Sight) (key : WorkKey) (v : Value) (rest : List Value) → seen s key v ≡ true → all_seen s key (v ∷ rest) ≡ true
seen-here s key (Open ready busy) rest h =
    together s key ready busy rest
    ∙ put-first s.of_ready s.of_busy (is_in key ready) (is_in key (all_ready rest)) (is_in key busy) (is_in key (all_busy rest)) h
seen-here s key (Done exit) rest h = cc
seen-here s key (Ended status exit point) rest h = cc

seen-later : (s : Sight) (key : WorkKey) (v : Value) (rest : List Value) → all_seen s key rest ≡ true → all_seen s key (v ∷ rest) ≡ true
seen-later s key (Open ready busy) rest h =
    together s key ready busy rest
    ∙ put-second s.of_ready s.of_busy (is_in key ready) (is_in key (all_ready rest)) (is_in key busy) (is_in key (all_busy rest)) h
seen-later s key (Done exit) rest h = h
seen-later s key (Ended status exit point) rest h = h

nothing-seen : (r b : Bool) → ((r && false) || (b && false)) ≡ false
nothing-seen true true = refl
nothing-seen true false = refl
nothing-seen false true = refl
nothing-seen false false = refl

flows-seen : {X : Type 0} (s t : Sight) (key : WorkKey) (f g : X → Value) → ((x : X) → GoesOn s t key (f x) (g x)) → (xs : List X)
    → all_seen s key (map f xs) ≡ true → all_seen t key (map g xs) ≡ true
flows-seen s t key f g rel [] h = let none = nothing-seen s.of_ready s.of_busy in cc
flows-seen s t key f g rel (x ∷ xs) h =
    elim (seen-either s key (f x) (map f xs) h) [
      | inl here ↦ seen-here t key (g x) (map g xs) ((rel x).kept here)
      | inr later ↦ seen-later t key (g x) (map g xs) (flows-seen s t key f g rel xs later)
    ]

-- flows that show something are under way
seen-open : (s : Sight) (key : WorkKey) (flows : List Value) → all_seen s key flows ≡ true → any_open flows ≡ true
seen-open s key [] h = let none = nothing-seen s.of_ready s.of_busy in cc
seen-open s key (Open ready busy ∷ rest) h = refl
seen-open s key (Done exit ∷ rest) h = seen-open s key rest h
seen-open s key (Ended status exit point ∷ rest) h = seen-open s key rest h

flows-same : {X : Type 0} (s t : Sight) (key : WorkKey) (f g : X → Value) → ((x : X) → GoesOn s t key (f x) (g x)) → (xs : List X)
    → any_open (map f xs) ≡ false → map g xs ≡ map f xs
flows-same s t key f g rel [] h = refl
flows-same s t key f g rel (x ∷ xs) h =
    let none = or_parts (is_open (f x)) (any_open (map f xs)) h in
    ap (λ v. v ∷ map g xs) ((rel x).same none.0) ∙ ap (λ vs. f x ∷ vs) (flows-same s t key f g rel xs none.1)

abbrev IsClosed : Option Value → Type 0
IsClosed None = Unit {0}
IsClosed (Some v) = is_open v ≡ false

find-closed : (p : Value → Bool) (flows : List Value) → any_open flows ≡ false → IsClosed (find p flows)
find-closed p [] h = tt
find-closed p (v ∷ rest) h =
    let none = or_parts (is_open v) (any_open rest) h in
    elim (p v) as (λ b. IsClosed (cond b (Some v) (find p rest))) [
      | true ↦ none.0
      | false ↦ find-closed p rest none.1
    ]

strongest-unseen : (s : Sight) (key : WorkKey) (failed stopped completed : Option Value) → IsClosed failed → IsClosed stopped → IsClosed completed
    → own_seen s key (strongest_end failed stopped completed) ≡ false
strongest-unseen s key (Some v) stopped completed h1 h2 h3 = closed-unseen s key v h1
strongest-unseen s key None (Some v) completed h1 h2 h3 = closed-unseen s key v h2
strongest-unseen s key None None (Some v) h1 h2 h3 = closed-unseen s key v h3
strongest-unseen s key None None None h1 h2 h3 = refl

abbrev split_ended : List Value → ElementResult
split_ended flows = strongest_end (find (ended_as StatusFailed) flows) (find (ended_as StatusStopped) flows) (find (ended_as StatusCompleted) flows)

split-goes : {X : Type 0} (s t : Sight) (key : WorkKey) (f g : X → Value) → ((x : X) → GoesOn s t key (f x) (g x)) → (xs : List X)
    → OwnGoesOn s t key (split_result (map f xs)) (split_result (map g xs))
split-goes s t key f g rel xs =
    (elim (any_open (map f xs)) as (λ b. any_open (map f xs) ≡ b
    → OwnGoesOn s t key (cond b (ListValue (Open (all_ready (map f xs)) (all_busy (map f xs)))) (split_ended (map f xs))) (split_result (map g xs))) [
      | true ↦ λ e. record {
        same = λ closed. cc;
        kept = λ h. let shown = flows-seen s t key f g rel xs h in rw (seen-open t key (map g xs) shown) shown;
      }
      | false ↦ λ e.
          let alike : map g xs ≡ map f xs = flows-same s t key f g rel xs e in
          let unseen = strongest-unseen s key _ _ _ (find-closed (ended_as StatusFailed) (map f xs) e) (find-closed (ended_as StatusStopped) (map f xs) e)
          (find-closed (ended_as StatusCompleted) (map f xs) e) in
          record { same = λ _. ap split_result alike ∙ rw e refl; kept = λ h. cc }
    ]) refl

-- ---- Elements

-- what the body of an element comes to, before and after
abbrev PartGoesOn : Sight → Sight → WorkKey → BodyResult → BodyResult → Type 0
PartGoesOn s t key (IsStep step) after = after ≡ IsStep step
PartGoesOn s t key IsDecision after = after ≡ IsDecision
PartGoesOn s t key (HasResult before) after = (own_result : ElementResult) × (after ≡ HasResult own_result) × OwnGoesOn s t key before own_result

-- what is learnt of steps and decisions alone
pub record Learns (s t : Sight) (key : WorkKey) (facts later : WorkKey → Fact) : Type 0 where
  pub steps : (id : List ℕ) (partitions : Option ℕ) → OwnGoesOn s t key (step_result facts id partitions) (step_result later id partitions)
  pub decisions : (id : List ℕ) → OwnGoesOn s t key (runnable_result (key_of id 0) (facts (key_of id 0))) (runnable_result (key_of id 0) (later (key_of id 0)))

part-goes : (s t : Sight) (key : WorkKey) (facts later : WorkKey → Fact) → Learns s t key facts later → (i : List ℕ) (part part2 : BodyResult) → PartGoesOn s t key part part2
    → OwnGoesOn s t key (element_result facts i part) (element_result later i part2)
part-goes s t key facts later learns i (IsStep step) part2 g = rw g (learns.steps i step.partitions)
part-goes s t key facts later learns i IsDecision part2 g = rw g (learns.decisions i)
part-goes s t key facts later learns i (HasResult own_result) part2 g = rw g.1 g.2

abbrev BodyGoes : Sight → Sight → WorkKey → (WorkKey → Fact) → (WorkKey → Fact) → Body → Type 0
BodyGoes s t key facts later body = PartGoesOn s t key (walked_body facts body) (walked_body later body)

abbrev ElementGoes : Sight → Sight → WorkKey → (WorkKey → Fact) → (WorkKey → Fact) → Element → Type 0
ElementGoes s t key facts later e = RowGoesOn s t key (walked_element facts e) (walked_element later e)

abbrev FlowGoes : Sight → Sight → WorkKey → (WorkKey → Fact) → (WorkKey → Fact) → SplitFlow → Type 0
FlowGoes s t key facts later flow = GoesOn s t key (value_of_flow facts flow) (value_of_flow later flow)

abbrev part_at : (WorkKey → Fact) → Body-F Body Element SplitFlow → BodyResult
part_at facts x = body_result (map-Body Body Element SplitFlow BodyResult WalkedElement Value (walked_body facts) (walked_element facts) (value_of_flow facts) x)

body-inside : (s t : Sight) (key : WorkKey) (facts later : WorkKey → Fact)
    → (y : Body-F ((b : Body) × BodyGoes s t key facts later b) ((e : Element) × ElementGoes s t key facts later e) ((f : SplitFlow) × FlowGoes s t key facts later f))
    → PartGoesOn s t key (part_at facts (map-Body _ _ _ Body Element SplitFlow (λ e. e.0) (λ e. e.0) (λ e. e.0) y))
    (part_at later (map-Body _ _ _ Body Element SplitFlow (λ e. e.0) (λ e. e.0) (λ e. e.0) y))
body-inside s t key facts later (Step step) = refl
body-inside s t key facts later (Decision artifact) = refl
body-inside s t key facts later (Flow es) =
    rw (map-map (walked_element facts) (λ (e : (x : Element) × ElementGoes s t key facts later x). e.0) es)
    (rw (map-map (walked_element later) (λ (e : (x : Element) × ElementGoes s t key facts later x). e.0) es)
    (_, refl, flow-goes s t key _ _ (whole-goes s t key (λ e. walked_element facts e.0) (λ e. walked_element later e.0) (λ e. e.1) es)))
body-inside s t key facts later (Split flows) =
    rw (map-map (value_of_flow facts) (λ (e : (x : SplitFlow) × FlowGoes s t key facts later x). e.0) flows)
    (rw (map-map (value_of_flow later) (λ (e : (x : SplitFlow) × FlowGoes s t key facts later x). e.0) flows)
    (_, refl, split-goes s t key (λ e. value_of_flow facts e.0) (λ e. value_of_flow later e.0) (λ e. e.1) flows))

-- every element goes on as what is learnt of steps and decisions does
pub element-goes : (s t : Sight) (key : WorkKey) (facts later : WorkKey → Fact) → Learns s t key facts later → (e : Element) → RowGoesOn s t key (walked_element facts e) (walked_element later e)
element-goes s t key facts later learns =
    ind-Element (BodyGoes s t key facts later) (ElementGoes s t key facts later) (FlowGoes s t key facts later)
    (λ x y is.
    rw (fold-roll-Body BodyResult WalkedElement Value body_result (element_with_result facts) flow_value x)
    (rw (fold-roll-Body BodyResult WalkedElement Value body_result (element_with_result later) flow_value x)
    (subst (λ z. PartGoesOn s t key (part_at facts z) (part_at later z)) is (body-inside s t key facts later y))))
    (λ x y is.
    rw (fold-roll-Element BodyResult WalkedElement Value body_result (element_with_result facts) flow_value x)
    (rw (fold-roll-Element BodyResult WalkedElement Value body_result (element_with_result later) flow_value x)
    (subst (λ z. RowGoesOn s t key (element_with_result facts (map-Element Body Element SplitFlow BodyResult WalkedElement Value (walked_body facts) (walked_element facts) (value_of_flow facts) z))
    (element_with_result later (map-Element Body Element SplitFlow BodyResult WalkedElement Value (walked_body later) (walked_element later) (value_of_flow later) z))) is
    record { id_same = refl; next_same = refl; transitions_same = refl; own_result = part-goes s t key facts later learns y.id _ _ y.body.1 })))
    (λ x y is.
    rw (fold-roll-SplitFlow BodyResult WalkedElement Value body_result (element_with_result facts) flow_value x)
    (rw (fold-roll-SplitFlow BodyResult WalkedElement Value body_result (element_with_result later) flow_value x)
    (subst (λ z. GoesOn s t key (whole_value (map (walked_element facts) z.elements)) (whole_value (map (walked_element later) z.elements))) is
    (rw (map-map (walked_element facts) (λ (e : (x : Element) × ElementGoes s t key facts later x). e.0) y.elements)
    (rw (map-map (walked_element later) (λ (e : (x : Element) × ElementGoes s t key facts later x). e.0) y.elements)
    (whole-goes s t key (λ e. walked_element facts e.0) (λ e. walked_element later e.0) (λ e. e.1) y.elements))))))

-- THE WALK GOES ON: so does a list of elements
pub walk-goes : (s t : Sight) (key : WorkKey) (facts later : WorkKey → Fact) → Learns s t key facts later → (elements : List Element) (from : List ℕ)
    → GoesOn s t key (value_of facts elements from) (value_of later elements from)
walk-goes s t key facts later learns elements from =
    list-goes s t key (walked_element facts) (walked_element later) (element-goes s t key facts later learns) elements from

-- ---- What is learnt

same-own : (s : Sight) (key : WorkKey) (own_result : ElementResult) → OwnGoesOn s s key own_result own_result
same-own s key own_result = record { same = λ _. refl; kept = λ h. h }

-- at a work key, or away from it
pub at-or-not : {P : Type 0} (i key : WorkKey) → (i ≡ key → P) → (i ≢ key → P) → P
at-or-not {P = P} i key here away =
    (elim (is_same_key i key) as (λ b. is_same_key i key ≡ b → P) [
      | true ↦ λ e. here (same-one i key e)
      | false ↦ λ e. away (λ s. let yes : is_same_key i key ≡ true = same-self i key s in cc)
    ]) refl

-- a work key that is not the one looked for shows nothing of it
away-own : (s t : Sight) (key i : WorkKey) → i ≢ key → (fact : Fact) → OwnGoesOn s t key (runnable_result i fact) (runnable_result i fact)
away-own s t key i other (Carried exit) = record { same = λ _. refl; kept = λ h. cc }
away-own s t key i other (Over outcome exit) = record { same = λ _. refl; kept = λ h. cc }
away-own s t key i other Barred = record { same = λ _. refl; kept = λ h. cc }
away-own s t key i other Busy =
    let off : is_same_key key i ≡ false = differing-keys key i (λ e. other (sym e)) in
    let none = nothing-seen s.of_ready s.of_busy in
    record { same = λ _. refl; kept = rw off (λ h. cc) }
away-own s t key i other Nothing =
    let off : is_same_key key i ≡ false = differing-keys key i (λ e. other (sym e)) in
    let none = nothing-seen s.of_ready s.of_busy in
    record { same = λ _. refl; kept = rw off (λ h. cc) }

-- facts that differ at one work key alone
abbrev pub DifferAt : WorkKey → (WorkKey → Fact) → (WorkKey → Fact) → Type 0
DifferAt key facts later = (i : WorkKey) → i ≢ key → later i ≡ facts i

-- ---- Partitions

-- a test that one of these work keys passes
some-fact : (test : Fact → Bool) (facts : WorkKey → Fact) (keys : List WorkKey) (key : WorkKey) → has_key keys key ≡ true → test (facts key) ≡ true
    → has_fact test (known_of facts keys) ≡ true
some-fact test facts [] key among h = cc
some-fact test facts (one ∷ keys) key among h =
    (elim (is_same_key key one) as (λ b. is_same_key key one ≡ b → (b || has_key keys key) ≡ true → (test (facts one) || has_fact test (known_of facts keys)) ≡ true) [
      | true ↦ λ e _. let here : test (facts one) ≡ true = ap (λ k. test (facts k)) (sym (same-one key one e)) ∙ h in rw here refl
      | false ↦ λ e rest. let later = some-fact test facts keys key rest h in
          elim (test (facts one)) as (λ b. (b || has_fact test (known_of facts keys)) ≡ true) [
            | true ↦ refl
            | false ↦ later
          ]
    ]) refl among

and-not : (b : Bool) → (b && false) ≡ false
and-not true = refl
and-not false = refl

-- the work keys that pass a test
shown-key : (test : Fact → Bool) (facts : WorkKey → Fact) (keys : List WorkKey) (key : WorkKey)
    → has_key (keys_with test (known_of facts keys)) key ≡ (has_key keys key && test (facts key))
shown-key test facts [] key = refl
shown-key test facts (one ∷ keys) key =
    let rest = shown-key test facts keys key in
    (elim (is_same_key key one) as (λ b. is_same_key key one ≡ b
    → has_key (keys_with test (known_of facts (one ∷ keys))) key ≡ ((b || has_key keys key) && test (facts key))) [
      | true ↦ λ e.
          let same : test (facts one) ≡ test (facts key) = ap (λ k. test (facts k)) (sym (same-one key one e)) in
          (elim (test (facts one)) as (λ c. test (facts one) ≡ c
          → has_key (map (λ (k : Known). k.key) (cond c (record { key = one; fact = facts one } ∷ filter (λ (k : Known). test k.fact) (known_of facts keys)) (filter (λ (k : Known). test k.fact) (known_of facts keys)))) key
          ≡ test (facts key)) [
            | true ↦ λ passes. rw e (sym passes ∙ same)
            | false ↦ λ fails. rest ∙ (ap (λ b. has_key keys key && b) (sym same ∙ fails) ∙ (and-not (has_key keys key) ∙ (sym fails ∙ same)))
          ]) refl
      | false ↦ λ e.
          (elim (test (facts one)) as (λ c. has_key (map (λ (k : Known). k.key) (cond c (record { key = one; fact = facts one } ∷ filter (λ (k : Known). test k.fact) (known_of facts keys)) (filter (λ (k : Known). test k.fact) (known_of facts keys)))) key
          ≡ (has_key keys key && test (facts key))) [
            | true ↦ rw e rest
            | false ↦ rest
          ])
    ]) refl

-- facts that differ at a work key that is none of these
same-known : (key : WorkKey) (facts later : WorkKey → Fact) (keys : List WorkKey) → DifferAt key facts later → has_key keys key ≡ false
    → known_of later keys ≡ known_of facts keys
same-known key facts later [] differ off = refl
same-known key facts later (one ∷ keys) differ off =
    let none = or_parts (is_same_key key one) (has_key keys key) off in
    let here : later one ≡ facts one = differ one (λ same. let yes : is_same_key key one ≡ true = same-self key one (sym same) in cc) in
    ap (λ f. record { key = one; fact = f } ∷ known_of later keys) here
    ∙ ap (λ ks. record { key = one; fact = facts one } ∷ ks) (same-known key facts later keys differ none.1)

-- the partitions of a step are its own
pub own-key : (id : List ℕ) (numbers : List ℕ) (key : WorkKey) → has_key (map (key_of id) numbers) key ≡ true → key.element ≡ id
own-key id [] key h = cc
own-key id (p ∷ numbers) key h =
    (elim (is_same_key key (key_of id p)) as (λ b. is_same_key key (key_of id p) ≡ b → (b || has_key (map (key_of id) numbers) key) ≡ true → key.element ≡ id) [
      | true ↦ λ e _. ap (λ (k : WorkKey). k.element) (same-one key (key_of id p) e)
      | false ↦ λ e rest. own-key id numbers key rest
    ]) refl h

-- ---- Where no partition is barred

-- what is open
abbrev open_of : List Known → ElementResult
open_of partitions = ListValue (Open (keys_with is_left partitions) (keys_with is_busy partitions))

-- what a step comes to at its start limit
abbrev limit_reached : ElementResult
limit_reached = ListValue (Ended StatusFailed (status_name StatusFailed) None)

or-true : (b : Bool) → (b || true) ≡ true
or-true true = refl
or-true false = refl

-- a partition that is left keeps the step open
left-open : (facts : WorkKey → Fact) (keys : List WorkKey) (key : WorkKey) → has_key keys key ≡ true → is_left (facts key) ≡ true
    → open_or_over (known_of facts keys) ≡ open_of (known_of facts keys)
left-open facts keys key among left = let some : has_fact is_left (known_of facts keys) ≡ true = some-fact is_left facts keys key among left in rw some refl

-- so does one that is busy
busy-open : (facts : WorkKey → Fact) (keys : List WorkKey) (key : WorkKey) → has_key keys key ≡ true → is_busy (facts key) ≡ true
    → open_or_over (known_of facts keys) ≡ open_of (known_of facts keys)
busy-open facts keys key among busy =
    let some : has_fact is_busy (known_of facts keys) ≡ true = some-fact is_busy facts keys key among busy in
    rw some (rw (or-true (has_fact is_left (known_of facts keys))) refl)

-- what does not pass a test is not shown by it
unshown : (test : Fact → Bool) (facts : WorkKey → Fact) (keys : List WorkKey) (key : WorkKey) → test (facts key) ≡ false
    → has_key (keys_with test (known_of facts keys)) key ≡ false
unshown test facts keys key off = shown-key test facts keys key ∙ (ap (λ b. has_key keys key && b) off ∙ and-not (has_key keys key))

-- a step shows what it shows as open, and nothing else
none-shown : (s : Sight) (key : WorkKey) (ks : List Known) → own_seen s key (open_of ks) ≡ false → own_seen s key (partitioned_result ks) ≡ false
none-shown s key ks none =
    elim (has_fact is_barred ks) as (λ b. own_seen s key (cond b limit_reached (open_or_over ks)) ≡ false) [
      | true ↦ refl
      | false ↦ elim (has_fact is_left ks || has_fact is_busy ks) as (λ b. own_seen s key (cond b (open_of ks) (named_outcome (strongest_outcome ks))) ≡ false) [
        | true ↦ none
        | false ↦ refl
      ]
    ]

-- what is none of its work keys, a step does not show
others-unseen : (s : Sight) (facts : WorkKey → Fact) (keys : List WorkKey) (key : WorkKey) → has_key keys key ≡ false
    → own_seen s key (partitioned_result (known_of facts keys)) ≡ false
others-unseen s facts keys key off =
    let ready : has_key (keys_with is_left (known_of facts keys)) key ≡ false = shown-key is_left facts keys key ∙ ap (λ b. b && is_left (facts key)) off in
    let busy : has_key (keys_with is_busy (known_of facts keys)) key ≡ false = shown-key is_busy facts keys key ∙ ap (λ b. b && is_busy (facts key)) off in
    none-shown s key (known_of facts keys) (rw ready (rw busy (nothing-seen s.of_ready s.of_busy)))

-- a work key of the step, or none of it
among-or-not : {P : Type 0} (keys : List WorkKey) (key : WorkKey) → (has_key keys key ≡ true → P) → (has_key keys key ≡ false → P) → P
among-or-not {P = P} keys key here off =
    (elim (has_key keys key) as (λ b. has_key keys key ≡ b → P) [
      | true ↦ here
      | false ↦ off
    ]) refl

-- ---- What is learnt of one partition

-- facts that differ at a work key which is barred in neither
pub record IsLearnt (learnt : WorkKey) (facts later : WorkKey → Fact) : Type 0 where
  pub differ : DifferAt learnt facts later
  pub before : is_barred (facts learnt) ≡ false
  pub after : is_barred (later learnt) ≡ false

barred-same : (learnt : WorkKey) (facts later : WorkKey → Fact) (keys : List WorkKey) → IsLearnt learnt facts later
    → has_fact is_barred (known_of later keys) ≡ has_fact is_barred (known_of facts keys)
barred-same learnt facts later [] l = refl
barred-same learnt facts later (one ∷ keys) l =
    let here : is_barred (later one) ≡ is_barred (facts one) =
    at-or-not one learnt (λ e. ap (λ k. is_barred (later k)) e ∙ (l.after ∙ sym (ap (λ k. is_barred (facts k)) e ∙ l.before))) (λ off. ap is_barred (l.differ one off)) in
    ap (λ b. b || has_fact is_barred (known_of later keys)) here ∙ ap (λ b. is_barred (facts one) || b) (barred-same learnt facts later keys l)

-- a step goes on as it does where no partition is barred
partitions-go : (s t : Sight) (key learnt : WorkKey) (facts later : WorkKey → Fact) (keys : List WorkKey) → IsLearnt learnt facts later
    → OwnGoesOn s t key (open_or_over (known_of facts keys)) (open_or_over (known_of later keys))
    → OwnGoesOn s t key (partitioned_result (known_of facts keys)) (partitioned_result (known_of later keys))
partitions-go s t key learnt facts later keys l free =
    rw (barred-same learnt facts later keys l)
    (elim (has_fact is_barred (known_of facts keys)) as (λ b. OwnGoesOn s t key (cond b limit_reached (open_or_over (known_of facts keys))) (cond b limit_reached (open_or_over (known_of later keys)))) [
      | true ↦ record { same = λ _. refl; kept = λ seen. cc }
      | false ↦ free
    ])

-- a step of which the learnt work key is none goes on as it is
others-go : (s t : Sight) (key learnt : WorkKey) (facts later : WorkKey → Fact) (keys : List WorkKey) → DifferAt learnt facts later → has_key keys learnt ≡ false
    → (own_seen s key (partitioned_result (known_of facts keys)) ≡ true → own_seen t key (partitioned_result (known_of facts keys)) ≡ true)
    → OwnGoesOn s t key (partitioned_result (known_of facts keys)) (partitioned_result (known_of later keys))
others-go s t key learnt facts later keys differ off kept =
    let same : known_of later keys ≡ known_of facts keys = same-known learnt facts later keys differ off in
    rw same record { same = λ _. refl; kept = kept }

-- a busy partition stays busy and keeps its open step open, whatever is learnt of another
busy-stays : (key learnt : WorkKey) (facts later : WorkKey → Fact) (keys : List WorkKey) → DifferAt learnt facts later → (is_busy (facts key) ≡ true → key ≢ learnt)
    → open_or_over (known_of facts keys) ≡ open_of (known_of facts keys)
    → OwnGoesOn busy_sight busy_sight key (open_or_over (known_of facts keys)) (open_or_over (known_of later keys))
busy-stays key learnt facts later keys differ other open_before =
    rw open_before record {
      same = λ closed. cc;
      kept = λ seen.
          let both = and_parts (has_key keys key) (is_busy (facts key)) (sym (shown-key is_busy facts keys key) ∙ seen) in
          let busy : is_busy (later key) ≡ true = ap is_busy (differ key (other both.1)) ∙ both.1 in
          let shown : has_key (keys_with is_busy (known_of later keys)) key ≡ true =
          shown-key is_busy later keys key ∙ (ap (λ b. b && is_busy (later key)) both.0 ∙ busy) in
          rw (busy-open later keys key both.0 busy) shown;
    }

-- ---- A claim

claim-partition : (key : WorkKey) (facts later : WorkKey → Fact) → DifferAt key facts later → facts key ≡ Nothing → later key ≡ Busy → (keys : List WorkKey)
    → OwnGoesOn ready_sight busy_sight key (partitioned_result (known_of facts keys)) (partitioned_result (known_of later keys))
claim-partition key facts later differ was is keys =
    among-or-not keys key
    (λ among.
    let busy : is_busy (later key) ≡ true = ap is_busy is in
    let shown : has_key (keys_with is_busy (known_of later keys)) key ≡ true = shown-key is_busy later keys key ∙ (ap (λ b. b && is_busy (later key)) among ∙ busy) in
    partitions-go ready_sight busy_sight key key facts later keys record { differ = differ; before = ap is_barred was; after = ap is_barred is }
    (rw (left-open facts keys key among (ap is_left was)) (rw (busy-open later keys key among busy) record { same = λ closed. cc; kept = λ _. shown })))
    (λ off. others-go ready_sight busy_sight key key facts later keys differ off
    (λ seen. let none = others-unseen ready_sight facts keys key off in cc))

-- what was ready is busy
ready-busy : (key : WorkKey) → OwnGoesOn ready_sight busy_sight key (ready_result key) (busy_result key)
ready-busy key =
    let here : is_same_key key key ≡ true = same-self key key refl in
    record { same = λ closed. cc; kept = λ h. rw here refl }

claim-alone : (key : WorkKey) (facts later : WorkKey → Fact) → DifferAt key facts later → facts key ≡ Nothing → later key ≡ Busy
    → (i : WorkKey) → OwnGoesOn ready_sight busy_sight key (runnable_result i (facts i)) (runnable_result i (later i))
claim-alone key facts later differ was is i =
    at-or-not i key (λ e. rw e (rw was (rw is (ready-busy key)))) (λ off. rw (differ i off) (away-own ready_sight busy_sight key i off (facts i)))

-- what is learnt of each work key alone, and of the work keys of a step together
learns-both : (s t : Sight) (key : WorkKey) (facts later : WorkKey → Fact)
    → ((i : WorkKey) → OwnGoesOn s t key (runnable_result i (facts i)) (runnable_result i (later i)))
    → ((keys : List WorkKey) → OwnGoesOn s t key (partitioned_result (known_of facts keys)) (partitioned_result (known_of later keys)))
    → Learns s t key facts later
learns-both s t key facts later alone together =
    record {
      steps = λ id partitions. (elim partitions as (λ n. OwnGoesOn s t key (step_result facts id n) (step_result later id n)) [
        | None ↦ alone (key_of id 0)
        | Some n ↦ together (map (key_of id) (numbers_to n))
      ]);
      decisions = λ id. alone (key_of id 0);
    }

-- a claim of a work key that nothing is known of: it was ready, and is busy
pub claim-here : (key : WorkKey) (facts later : WorkKey → Fact) → DifferAt key facts later → facts key ≡ Nothing → later key ≡ Busy
    → Learns ready_sight busy_sight key facts later
claim-here key facts later differ was is =
    learns-both ready_sight busy_sight key facts later (claim-alone key facts later differ was is) (claim-partition key facts later differ was is)

-- what was ready shows nothing as busy
ready-unseen : (key i : WorkKey) (after : ElementResult) → OwnGoesOn busy_sight busy_sight key (ready_result i) after
ready-unseen key i after = record { same = λ closed. cc; kept = λ h. cc }

away-alone : (key claimed : WorkKey) (facts later : WorkKey → Fact) → DifferAt claimed facts later → facts claimed ≡ Nothing
    → (i : WorkKey) → OwnGoesOn busy_sight busy_sight key (runnable_result i (facts i)) (runnable_result i (later i))
away-alone key claimed facts later differ was i =
    at-or-not i claimed (λ e. rw e (rw was (ready-unseen key claimed _))) (λ off. rw (differ i off) (same-own busy_sight key (runnable_result i (facts i))))

away-partition : (key claimed : WorkKey) (facts later : WorkKey → Fact) → DifferAt claimed facts later → facts claimed ≡ Nothing → later claimed ≡ Busy → (keys : List WorkKey)
    → OwnGoesOn busy_sight busy_sight key (partitioned_result (known_of facts keys)) (partitioned_result (known_of later keys))
away-partition key claimed facts later differ was is keys =
    let other : is_busy (facts key) ≡ true → key ≢ claimed = λ busy same. let idle : is_busy (facts key) ≡ false = ap (λ k. is_busy (facts k)) same ∙ ap is_busy was in cc in
    among-or-not keys claimed
    (λ among. partitions-go busy_sight busy_sight key claimed facts later keys record { differ = differ; before = ap is_barred was; after = ap is_barred is }
    (busy-stays key claimed facts later keys differ other (left-open facts keys claimed among (ap is_left was))))
    (λ off. others-go busy_sight busy_sight key claimed facts later keys differ off (λ seen. seen))

-- the same claim, seen at a busy work key
pub claim-away : (key claimed : WorkKey) (facts later : WorkKey → Fact) → DifferAt claimed facts later → facts claimed ≡ Nothing → later claimed ≡ Busy
    → Learns busy_sight busy_sight key facts later
claim-away key claimed facts later differ was is =
    learns-both busy_sight busy_sight key facts later (away-alone key claimed facts later differ was) (away-partition key claimed facts later differ was is)

-- ---- A report

-- what was busy comes to something: no other work key sees it
busy-over : (key i : WorkKey) (after : ElementResult) → key ≢ i → OwnGoesOn busy_sight busy_sight key (busy_result i) after
busy-over key i after other =
    let off : is_same_key key i ≡ false = differing-keys key i other in
    record { same = λ closed. cc; kept = rw off (λ h. cc) }

report-alone : (key reported : WorkKey) (facts later : WorkKey → Fact) → DifferAt reported facts later → facts reported ≡ Busy → key ≢ reported
    → (i : WorkKey) → OwnGoesOn busy_sight busy_sight key (runnable_result i (facts i)) (runnable_result i (later i))
report-alone key reported facts later differ was other i =
    at-or-not i reported (λ e. rw e (rw was (busy-over key reported _ other))) (λ off. rw (differ i off) (same-own busy_sight key (runnable_result i (facts i))))

report-partition : (key reported : WorkKey) (facts later : WorkKey → Fact) → DifferAt reported facts later → facts reported ≡ Busy → is_barred (later reported) ≡ false → key ≢ reported
    → (keys : List WorkKey) → OwnGoesOn busy_sight busy_sight key (partitioned_result (known_of facts keys)) (partitioned_result (known_of later keys))
report-partition key reported facts later differ was after other keys =
    among-or-not keys reported
    (λ among. partitions-go busy_sight busy_sight key reported facts later keys record { differ = differ; before = ap is_barred was; after = after }
    (busy-stays key reported facts later keys differ (λ _. other) (busy-open facts keys reported among (ap is_busy was))))
    (λ off. others-go busy_sight busy_sight key reported facts later keys differ off (λ seen. seen))

-- a report of a busy work key, seen at another
pub report-away : (key reported : WorkKey) (facts later : WorkKey → Fact) → DifferAt reported facts later → facts reported ≡ Busy → is_barred (later reported) ≡ false → key ≢ reported
    → Learns busy_sight busy_sight key facts later
report-away key reported facts later differ was after other =
    learns-both busy_sight busy_sight key facts later (report-alone key reported facts later differ was other) (report-partition key reported facts later differ was after other)

-- ---- What is known is not ready

-- what is not shown goes on as it is
unseen-own : (s t : Sight) (key : WorkKey) (own_result : ElementResult) → own_seen s key own_result ≡ false → OwnGoesOn s t key own_result own_result
unseen-own s t key own_result none = record { same = λ _. refl; kept = λ seen. cc }

-- whether something is known of a work key
abbrev pub is_known : Fact → Bool
is_known Busy = true
is_known (Over outcome exit) = true
is_known (Carried exit) = true
is_known Barred = true
is_known Nothing = false

known-runnable : (key : WorkKey) (fact : Fact) → is_known fact ≡ true → OwnGoesOn ready_sight no_sight key (runnable_result key fact) (runnable_result key fact)
known-runnable key Busy h = record { same = λ _. refl; kept = λ e. cc }
known-runnable key (Over outcome exit) h = record { same = λ _. refl; kept = λ e. cc }
known-runnable key (Carried exit) h = record { same = λ _. refl; kept = λ e. cc }
known-runnable key Barred h = record { same = λ _. refl; kept = λ e. cc }
known-runnable key Nothing h = cc

known-alone : (key : WorkKey) (facts : WorkKey → Fact) → is_known (facts key) ≡ true → (i : WorkKey)
    → OwnGoesOn ready_sight no_sight key (runnable_result i (facts i)) (runnable_result i (facts i))
known-alone key facts known i =
    at-or-not i key (λ e. rw e (known-runnable key (facts key) known)) (λ off. away-own ready_sight no_sight key i off (facts i))

known-left : (fact : Fact) → is_known fact ≡ true → is_left fact ≡ false
known-left Busy h = refl
known-left (Over outcome exit) h = refl
known-left (Carried exit) h = refl
known-left Barred h = refl
known-left Nothing h = cc

known-partition : (key : WorkKey) (facts : WorkKey → Fact) → is_known (facts key) ≡ true → (keys : List WorkKey)
    → OwnGoesOn ready_sight no_sight key (partitioned_result (known_of facts keys)) (partitioned_result (known_of facts keys))
known-partition key facts known keys =
    let ready : has_key (keys_with is_left (known_of facts keys)) key ≡ false = unshown is_left facts keys key (known-left (facts key) known) in
    unseen-own ready_sight no_sight key _ (none-shown ready_sight key (known_of facts keys) (rw ready refl))

-- a work key of which something is known is not ready
pub known-unready : (key : WorkKey) (facts : WorkKey → Fact) → is_known (facts key) ≡ true → Learns ready_sight no_sight key facts facts
known-unready key facts known = learns-both ready_sight no_sight key facts facts (known-alone key facts known) (known-partition key facts known)

-- ---- What is not busy is not shown as busy

idle-runnable : (key : WorkKey) (fact : Fact) → is_busy fact ≡ false → OwnGoesOn busy_sight no_sight key (runnable_result key fact) (runnable_result key fact)
idle-runnable key Busy h = cc
idle-runnable key (Over outcome exit) h = record { same = λ _. refl; kept = λ e. cc }
idle-runnable key (Carried exit) h = record { same = λ _. refl; kept = λ e. cc }
idle-runnable key Barred h = record { same = λ _. refl; kept = λ e. cc }
idle-runnable key Nothing h = record { same = λ _. refl; kept = λ e. cc }

idle-alone : (key : WorkKey) (facts : WorkKey → Fact) → is_busy (facts key) ≡ false → (i : WorkKey)
    → OwnGoesOn busy_sight no_sight key (runnable_result i (facts i)) (runnable_result i (facts i))
idle-alone key facts idle i =
    at-or-not i key (λ e. rw e (idle-runnable key (facts key) idle)) (λ off. away-own busy_sight no_sight key i off (facts i))

idle-partition : (key : WorkKey) (facts : WorkKey → Fact) → is_busy (facts key) ≡ false → (keys : List WorkKey)
    → OwnGoesOn busy_sight no_sight key (partitioned_result (known_of facts keys)) (partitioned_result (known_of facts keys))
idle-partition key facts idle keys =
    let busy : has_key (keys_with is_busy (known_of facts keys)) key ≡ false = unshown is_busy facts keys key idle in
    unseen-own busy_sight no_sight key _ (none-shown busy_sight key (known_of facts keys) (rw busy refl))

-- a work key without a busy work item is not busy
pub idle-unseen : (key : WorkKey) (facts : WorkKey → Fact) → is_busy (facts key) ≡ false → Learns busy_sight no_sight key facts facts
idle-unseen key facts idle = learns-both busy_sight no_sight key facts facts (idle-alone key facts idle) (idle-partition key facts idle)

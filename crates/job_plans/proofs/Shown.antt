-- What a walk shows as ready or busy: work keys of its job.
use Rattle.std.proofs.Common.{◌≡◌, ℕ, Bool, true, false, ◌||◌, List, [], ◌∷◌, refl, ◌∙◌, ap}
use Rattle.std.specs.List.{list_all}
use Rattle.jsl_model.specs.declared.element.Element.{Element}
use Rattle.walk_rules.specs.Keys.{is_same_key, has_key}
use Rattle.walk_rules.specs.declared.work_key.WorkKey.{WorkKey}
use Rattle.walk_rules.specs.declared.facts.Fact.{Fact}
use Rattle.walk_rules.specs.declared.facts.Value.{Value}
use Rattle.walk_rules.specs.declared.facts.Value.TheVariants.{Open, Done, Ended}
use Rattle.walk_rules.specs.Walk.{fact_of, value_of}
use Rattle.job_plans.specs.Cursors.{CursorState, IsCursor, known_keys, value_in}
use Rattle.job_plans.specs.Runnables.{all_leaves, all_keys}
use Rattle.walk_rules.specs.Shown.{ready_of, busy_of, is_shown}
use Rattle.walk_rules.proofs.SameKeys.{same-one, same-self}
use Rattle.job_plans.proofs.Passing.{Tests, Passes, both-true, walk-passes, all-true}
use Rattle.jsl_model.specs.Trees.{nodes}
use Rattle.jsl_model.specs.Faults.{restarts}

any-pass : (test : WorkKey → Bool) (keys : List WorkKey) (key : WorkKey) → list_all test keys ≡ true → has_key keys key ≡ true → test key ≡ true
any-pass test [] key h k = cc
any-pass test (x ∷ xs) key h k =
    let parts = both-true (test x) (list_all test xs) h in
    (elim (is_same_key key x) as (λ b. is_same_key key x ≡ b → test key ≡ true) [
      | true ↦ λ e. ap test (same-one key x e) ∙ parts.0
      | false ↦ λ e. any-pass test xs key parts.1 (let rest : has_key xs key ≡ true = cc in rest)
    ]) refl

more-among : (held : List WorkKey) (x : WorkKey) (keys : List WorkKey) → list_all (has_key held) keys ≡ true → list_all (has_key (x ∷ held)) keys ≡ true
more-among held x [] h = refl
more-among held x (y ∷ ys) h =
    let parts = both-true (has_key held y) (list_all (has_key held) ys) h in
    let here : has_key (x ∷ held) y ≡ true = elim (is_same_key y x) as (λ b. (b || has_key held y) ≡ true) [ true ↦ refl | false ↦ parts.0 ] in
    let rest : list_all (has_key (x ∷ held)) ys ≡ true = more-among held x ys parts.1 in
    cc

all-among : (keys : List WorkKey) → list_all (has_key keys) keys ≡ true
all-among [] = refl
all-among (x ∷ xs) =
    let here : is_same_key x x ≡ true = same-self x x refl in
    let rest : list_all (has_key (x ∷ xs)) xs ≡ true = more-among xs x xs (all-among xs) in
    cc

-- tests of what is shown alone
abbrev of_leaves : List Element → Tests
of_leaves elements = record { shown = has_key (all_keys (all_leaves elements)); point = λ id. true }

-- all that a walk shows is a work key of a step or a decision
pub shown-leaves : (facts : WorkKey → Fact) (elements : List Element) (from : List ℕ) → Passes (of_leaves elements) (value_of facts elements from)
shown-leaves facts elements from =
    walk-passes (of_leaves elements) facts elements from (all-true (restarts (nodes elements))) (all-among (all_keys (all_leaves elements)))

pub ready-passes : (tests : Tests) (value : Value) (key : WorkKey) → Passes tests value → has_key (ready_of value) key ≡ true → tests.shown key ≡ true
ready-passes tests (Open ready busy) key h k = any-pass tests.shown ready key h.0 k
ready-passes tests (Done exit) key h k = cc
ready-passes tests (Ended status exit point) key h k = cc

pub busy-passes : (tests : Tests) (value : Value) (key : WorkKey) → Passes tests value → has_key (busy_of value) key ≡ true → tests.shown key ≡ true
busy-passes tests (Open ready busy) key h k = any-pass tests.shown busy key h.1 k
busy-passes tests (Done exit) key h k = cc
busy-passes tests (Ended status exit point) key h k = cc

-- what is ready is a work key of a step or a decision
pub ready-leaf : (facts : WorkKey → Fact) (elements : List Element) (from : List ℕ) (key : WorkKey) → has_key (ready_of (value_of facts elements from)) key ≡ true
    → has_key (all_keys (all_leaves elements)) key ≡ true
ready-leaf facts elements from key h = ready-passes (of_leaves elements) (value_of facts elements from) key (shown-leaves facts elements from) h

-- what is busy is a work key of a step or a decision
pub busy-leaf : (facts : WorkKey → Fact) (elements : List Element) (from : List ℕ) (key : WorkKey) → has_key (busy_of (value_of facts elements from)) key ≡ true
    → has_key (all_keys (all_leaves elements)) key ≡ true
busy-leaf facts elements from key h = busy-passes (of_leaves elements) (value_of facts elements from) key (shown-leaves facts elements from) h

either : (a b c : Bool) → (a ≡ true → c ≡ true) → (b ≡ true → c ≡ true) → (a || b) ≡ true → c ≡ true
either true b c f g h = f refl
either false b c f g h = g h

-- something is known of all that is shown
pub shown-known : (cursor : CursorState) → IsCursor cursor → (key : WorkKey) → is_shown (value_in cursor) key ≡ true
    → has_key (known_keys cursor.facts) key ≡ true
shown-known cursor walked key shown =
    ap (λ keys. has_key keys key) walked.each
    ∙ either (has_key (ready_of (value_in cursor)) key) (has_key (busy_of (value_in cursor)) key) _
    (ready-leaf (fact_of cursor.facts) cursor.job.elements cursor.from key) (busy-leaf (fact_of cursor.facts) cursor.job.elements cursor.from key) shown

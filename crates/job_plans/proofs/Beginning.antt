-- What is known at first, element by element.
use Rattle.std.proofs.Common.{◌≡◌, ℕ, zero, suc, ◌+◌, ◌-◌, ◌<◌, ◌≤◌, ◌||◌, true, false, cond, List, [], ◌∷◌, ◌++◌, length, map, drop, get_or, refl, sym, ◌∙◌, ap, arith}
use Rattle.std.specs.List.{All, flat_map, range_with_len}
use Rattle.std.proofs.lemmas.Grind.{flat_map-append}
use Rattle.std.proofs.lemmas.List.{append_assoc, at_drop_more, drop_all, map-append}
use Rattle.std.proofs.lemmas.List.Elements.{All-head}
use Rattle.std.proofs.lemmas.List.Folds.{list_any-append}
use Rattle.jsl_model.specs.Jobs.{JobTree}
use Rattle.jsl_model.specs.declared.element.Element.{Element, fold_out-Element}
use Rattle.jsl_model.specs.declared.element.Step.{Step as ItsStep}
use Rattle.jsl_model.specs.declared.element.Body.{fold-roll-Body}
use Rattle.jsl_model.specs.declared.element.Body.TheVariants.{Step, Decision, rolls-Step, rolls-Decision}
use Rattle.jsl_model.specs.declared.element.Body.TheOpen.{Step as OpenStep, Decision as OpenDecision}
use Rattle.jsl_model.specs.Trees.{joined}
use Rattle.walk_rules.specs.declared.facts.Fact.{Fact}
use Rattle.walk_rules.specs.declared.facts.Known.{Known}
use Rattle.walk_rules.specs.declared.work_key.WorkKey.{WorkKey}
use Rattle.job_plans.specs.declared.plan.Plan.{Plan}
use Rattle.job_plans.specs.Cursors.{known_keys, known_at_first, fact_at_first, step_at_first, resumed, value_in}
use Rattle.walk_rules.specs.Keys.{key_of, keys_of_step, numbers_to, is_same_key, has_key}
use Rattle.job_plans.specs.Runnables.{Leaf, Inside, body_leaves, element_leaves, flow_leaves, leaves, leaves_at, leaves_in_body, all_leaves, keys_of, all_keys}
use Rattle.walk_rules.specs.Walk.{fact_of, known_of, value_of}
use Rattle.job_plans.proofs.Agreeing.{value-same}
use Rattle.job_plans.proofs.Alls.{All-tail}
use Rattle.walk_rules.proofs.SameKeys.{same-one, same-self, same-sym}
use Rattle.walk_rules.proofs.Pushing.{known-more}

-- ---- One fact for each work key

pub keys-known : (facts : WorkKey → Fact) (keys : List WorkKey) → known_keys (known_of facts keys) ≡ keys
keys-known facts [] = refl
keys-known facts (key ∷ keys) = ap (λ others. key ∷ others) (keys-known facts keys)

pub first-keys : (plan : Plan) (known : List Known) (all : List Leaf) → known_keys (flat_map (known_at_first plan known) all) ≡ all_keys all
first-keys plan known [] = refl
first-keys plan known (leaf ∷ rest) =
    map-append (λ (one : Known). one.key) (known_at_first plan known leaf) (flat_map (known_at_first plan known) rest)
    ∙ (ap (λ keys. keys ++ known_keys (flat_map (known_at_first plan known) rest)) (keys-known (λ key. fact_at_first plan known leaf.partitions key leaf.runs) (keys_of leaf))
    ∙ ap (λ keys. keys_of leaf ++ keys) (first-keys plan known rest))

-- ---- One more

no-more : (xs : List Known) → xs ++ [] ≡ xs
no-more [] = refl
no-more (x ∷ xs) = ap (λ (ys : List Known). x ∷ ys) (no-more xs)

-- what this one has is added, and less is left
pub added-next : {X : Type 0} (at_first : Leaf → List Known) (held : X → List Leaf) (xs : List X) (i : ℕ) (x : X) (before after whole : List Known)
    → i < length xs → x ≡ get_or xs i x → after ≡ before ++ flat_map at_first (held x)
    → before ++ flat_map at_first (joined (map held (drop i xs))) ≡ whole → after ++ flat_map at_first (joined (map held (drop (i + 1) xs))) ≡ whole
added-next at_first held xs i x before after whole lt is added left =
    let rest : List Leaf = joined (map held (drop (i + 1) xs)) in
    ap (λ (ks : List Known). ks ++ flat_map at_first rest) added
    ∙ (append_assoc before (flat_map at_first (held x)) (flat_map at_first rest)
    ∙ (ap (λ (ks : List Known). before ++ ks) (sym (flat_map-append at_first (held x) rest))
    ∙ (ap (λ y. before ++ flat_map at_first (held y ++ rest)) is
    ∙ (sym (at_drop_more (λ ys. before ++ flat_map at_first (joined (map held ys))) xs i x lt) ∙ left))))

-- nothing is left
pub added-all : {X : Type 0} (at_first : Leaf → List Known) (held : X → List Leaf) (xs : List X) (i : ℕ) (before whole : List Known)
    → length xs ≤ i → before ++ flat_map at_first (joined (map held (drop i xs))) ≡ whole → before ≡ whole
added-all at_first held xs i before whole past left =
    sym (no-more before) ∙ (ap (λ ys. before ++ flat_map at_first (joined (map held ys))) (sym (drop_all i xs past)) ∙ left)

-- the partition is added to those before it
pub partition-next : (facts : WorkKey → Fact) (id : List ℕ) (n : ℕ) (first before after : List Known)
    → before ≡ first ++ known_of facts (map (key_of id) (numbers_to n)) → after ≡ before ++ known_of facts (key_of id n ∷ [])
    → after ≡ first ++ known_of facts (map (key_of id) (numbers_to (n + 1)))
partition-next facts id n first before after was added =
    added
    ∙ (ap (λ (ks : List Known). ks ++ known_of facts (key_of id n ∷ [])) was
    ∙ (append_assoc first (known_of facts (map (key_of id) (numbers_to n))) (known_of facts (key_of id n ∷ []))
    ∙ ap (λ (ks : List Known). first ++ ks) (sym (known-more facts id n))))

-- the numbers from one on that is below the end begin with it
pub numbers_ahead : (p n : ℕ) → p < n → range_with_len p (n - p) ≡ p ∷ range_with_len (p + 1) (n - (p + 1))
numbers_ahead p n lt =
    let one : n - p ≡ suc (n - (p + 1)) = omega (arith, lt) in
    ap (range_with_len p) one

-- a step's own
pub step-known : (plan : Plan) (known : List Known) (e : Element) (step : ItsStep) → e.body ≡ Step step
    → known_of (step_at_first plan known step.partitions) (keys_of_step e.id step.partitions) ≡ flat_map (known_at_first plan known) (leaves e)
step-known plan known e step is =
    sym (ap (flat_map (known_at_first plan known))
    (fold_out-Element Inside (List Leaf) (List Leaf) body_leaves element_leaves flow_leaves e
    ∙ ap (leaves_at e.id)
    (ap leaves_in_body is ∙ (ap leaves_in_body (sym (rolls-Step step)) ∙ fold-roll-Body Inside (List Leaf) (List Leaf) body_leaves element_leaves flow_leaves (OpenStep step))))
    ∙ no-more (known_of (step_at_first plan known step.partitions) (keys_of_step e.id step.partitions)))

-- a decision's own
pub decision-known : (plan : Plan) (known : List Known) (e : Element) (artifact : List ℕ) → e.body ≡ Decision artifact
    → known_of (fact_of known) (key_of e.id 0 ∷ []) ≡ flat_map (known_at_first plan known) (leaves e)
decision-known plan known e artifact is =
    sym (ap (flat_map (known_at_first plan known))
    (fold_out-Element Inside (List Leaf) (List Leaf) body_leaves element_leaves flow_leaves e
    ∙ ap (leaves_at e.id)
    (ap leaves_in_body is ∙ (ap leaves_in_body (sym (rolls-Decision artifact)) ∙ fold-roll-Body Inside (List Leaf) (List Leaf) body_leaves element_leaves flow_leaves (OpenDecision artifact))))
    ∙ no-more (known_of (fact_of known) (key_of e.id 0 ∷ [])))

-- ---- What facts say of it

-- of a work key that is among these, or else is said of others, facts say what is known of it
found-key : (at_first facts : WorkKey → Fact) (keys : List WorkKey) (rest : List Known) (key : WorkKey) → All (λ one. facts one ≡ at_first one) keys
    → (has_key keys key ≡ false → fact_of rest key ≡ facts key) → fact_of (known_of at_first keys ++ rest) key ≡ facts key
found-key at_first facts [] rest key h others = others refl
found-key at_first facts (one ∷ keys) rest key h others =
    (elim (is_same_key one key) as (λ b. is_same_key one key ≡ b → cond b (at_first one) (fact_of (known_of at_first keys ++ rest) key) ≡ facts key) [
      | true ↦ λ e. sym (All-head (λ k. facts k ≡ at_first k) one keys h) ∙ ap facts (same-one one key e)
      | false ↦ λ e. found-key at_first facts keys rest key (All-tail (λ k. facts k ≡ at_first k) one keys h)
          (λ none. others (ap (λ b. b || has_key keys key) (same-sym key one ∙ e) ∙ none))
    ]) refl

-- facts that say what is known at first of each work key of these
abbrev SayAtFirst : Plan → List Known → (WorkKey → Fact) → Leaf → Type 0
SayAtFirst plan known facts leaf = All (λ key. facts key ≡ fact_at_first plan known leaf.partitions key leaf.runs) (keys_of leaf)

-- of a work key that is among these, facts that say what is known at first of each say what is known of it
found-first : (plan : Plan) (known : List Known) (facts : WorkKey → Fact) (all : List Leaf) → All (SayAtFirst plan known facts) all
    → (key : WorkKey) → has_key (all_keys all) key ≡ true → fact_of (flat_map (known_at_first plan known) all) key ≡ facts key
found-first plan known facts [] h key among = cc
found-first plan known facts (leaf ∷ rest) h key among =
    found-key (λ key. fact_at_first plan known leaf.partitions key leaf.runs) facts (keys_of leaf) (flat_map (known_at_first plan known) rest) key (All-head (SayAtFirst plan known facts) leaf rest h)
    (λ none. found-first plan known facts rest (All-tail (SayAtFirst plan known facts) leaf rest h) key
    (ap (λ b. b || has_key (all_keys rest) key) (sym none) ∙ (sym (list_any-append (is_same_key key) (keys_of leaf) (all_keys rest)) ∙ among)))

among-itself : (keys : List WorkKey) (k : ℕ) (d : WorkKey) → k < length keys → has_key keys (get_or keys k d) ≡ true
among-itself [] k d lt = absurd (omega arith)
among-itself (key ∷ rest) zero d lt =
    let here : is_same_key key key ≡ true = same-self key key refl in rw here refl
among-itself (key ∷ rest) (suc k) d lt =
    let later = among-itself rest k d (omega arith) in
    elim (is_same_key (get_or rest k d) key) as (λ b. (b || has_key rest (get_or rest k d)) ≡ true) [
      | true ↦ refl
      | false ↦ later
    ]

-- where facts say of each work key what is known of it at first, the walk comes to what the job comes to by these facts
pub resumed-value : (job : JobTree) (plan : Plan) (known : List Known) (facts : WorkKey → Fact)
    → All (λ leaf. All (λ key. facts key ≡ fact_at_first plan known leaf.partitions key leaf.runs) (keys_of leaf)) (all_leaves job.elements)
    → value_in (resumed job plan known) ≡ value_of facts job.elements plan.from
resumed-value job plan known facts h =
    let all : List Leaf = all_leaves job.elements in
    value-same (fact_of (flat_map (known_at_first plan known) all)) facts job.elements
    (λ k d lt. found-first plan known facts all h (get_or (all_keys all) k d) (among-itself (all_keys all) k d lt)) plan.from

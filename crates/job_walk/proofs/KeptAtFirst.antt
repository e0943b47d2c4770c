-- What is kept of one element more, and of a whole list.
use Rattle.std.proofs.Common.{◌≡◌, ℕ, ◌+◌, ◌-◌, ◌<◌, List, [], ◌∷◌, ◌++◌, length, map, take, get_or, set, refl, sym, ◌∙◌, ap, arith, length-append, Result, Ok, Err, OnOk}
use Rattle.std.proofs.lemmas.List.{take_more, append_assoc, map-append, length-map}
use Rattle.jsl_model.specs.Trees.{joined}
use Rattle.jsl_model.specs.declared.element.Element.{Element, fold_out-Element}
use Rattle.jsl_model.specs.declared.element.SplitFlow.{SplitFlow, out-SplitFlow, fold_out-SplitFlow}
use Rattle.jsl_model.specs.declared.element.Body.{fold-roll-Body}
use Rattle.jsl_model.specs.declared.element.Step.{Step as ItsStep}
use Rattle.jsl_model.specs.declared.element.Body.TheVariants.{Step, Decision, Split, rolls-Step, rolls-Decision, rolls-Split}
use Rattle.jsl_model.specs.declared.element.Body.TheOpen.{Step as OpenStep, Decision as OpenDecision, Split as OpenSplit}
use Rattle.walk_rules.specs.declared.facts.Fact.{Fact}
use Rattle.walk_rules.specs.declared.element_result.ElementResult.{ElementResult}
use Rattle.job_walk.specs.declared.kept_list.KeptList.{KeptList}
use Rattle.walk_rules.specs.declared.progress.Progress.{Progress}
use Rattle.walk_rules.specs.declared.work_key.WorkKey.{WorkKey}
use Rattle.walk_rules.specs.Keys.{key_of}
use Rattle.walk_rules.specs.Walk.{runnable_result, step_result, split_result, element_result}
use Rattle.job_walk.specs.KeptLists.{KeptElement, KeptBody, KeptTree, rows_in, insides, starts_from, head_of, tree_first, kept_of, value_kept, lists_in, body_kept, element_kept, flow_kept, kept_element, kept_body, kept_flow}
use Rattle.walk_rules.specs.Standing.{rows_by, progress}
use Rattle.job_walk.proofs.Reporting.{states, owns_in, rows-self}

pub one-more : {X Y : Type 0} (f : X → Y) (xs : List X) (i : ℕ) (x : X) → i < length xs → x ≡ get_or xs i x → map f (take (i + 1) xs) ≡ map f (take i xs) ++ f x ∷ []
one-more f xs i x lt is =
    ap (map f) (take_more xs i x lt) ∙ (map-append f (take i xs) (get_or xs i x ∷ []) ∙ ap (λ y. map f (take i xs) ++ f y ∷ []) (sym is))

pub joined-append : {X : Type 0} (xs ys : List (List X)) → joined (xs ++ ys) ≡ joined xs ++ joined ys
joined-append [] ys = refl
joined-append (x ∷ xs) ys = ap (λ r. x ++ r) (joined-append xs ys) ∙ sym (append_assoc x (joined xs) (joined ys))

pub no-more : {X : Type 0} (xs : List X) → xs ++ [] ≡ xs
no-more [] = refl
no-more (x ∷ xs) = ap (λ ys. x ∷ ys) (no-more xs)

pub joined-last : {X : Type 0} (xs : List (List X)) (y : List X) → joined (xs ++ y ∷ []) ≡ joined xs ++ y
joined-last xs y = joined-append xs (y ∷ []) ∙ ap (λ r. joined xs ++ r) (no-more y)

-- lists added for one thing more
pub lists-more : {X Y : Type 0} (g : X → List Y) (xs : List X) (i : ℕ) (x : X) (first now more : List Y) → i < length xs → x ≡ get_or xs i x
    → now ≡ first ++ joined (map g (take i xs)) → more ≡ now ++ g x → more ≡ first ++ joined (map g (take (i + 1) xs))
lists-more g xs i x first now more lt is so_far adds =
    adds ∙ (ap (λ r. r ++ g x) so_far ∙ (append_assoc first (joined (map g (take i xs))) (g x)
    ∙ ap (λ r. first ++ r) (sym (ap joined (one-more g xs i x lt is) ∙ joined-last (map g (take i xs)) (g x)))))

pub values-more : {X Y : Type 0} (g : X → Y) (xs : List X) (i : ℕ) (x : X) (now more : List Y) (y : Y) → i < length xs → x ≡ get_or xs i x
    → now ≡ map g (take i xs) → more ≡ now ++ y ∷ [] → y ≡ g x → more ≡ map g (take (i + 1) xs)
values-more g xs i x now more y lt is so_far adds same =
    adds ∙ (ap (λ r. r ++ y ∷ []) so_far ∙ (ap (λ z. map g (take i xs) ++ z ∷ []) same ∙ sym (one-more g xs i x lt is)))

starts-last : (n : ℕ) (xs : List (List KeptList)) (y : List KeptList) → starts_from n (xs ++ y ∷ []) ≡ starts_from n xs ++ (n + length (joined xs)) ∷ []
starts-last n [] y = let e : n + 0 ≡ n = omega arith in rw e refl
starts-last n (x ∷ xs) y =
    let l = length-append x (joined xs) in
    let e : (n + length x) + length (joined xs) ≡ n + length (x ++ joined xs) = omega (arith, l) in
    ap (λ r. n ∷ r) (starts-last (n + length x) xs y ∙ ap (λ m. starts_from (n + length x) xs ++ m ∷ []) e)

pub starts-more : (g : Element → List KeptList) (es : List Element) (i : ℕ) (e : Element) (now more : List ℕ) (start : ℕ) → i < length es → e ≡ get_or es i e
    → now ≡ starts_from 0 (map g (take i es)) → more ≡ now ++ start ∷ [] → start ≡ length (joined (map g (take i es))) → more ≡ starts_from 0 (map g (take (i + 1) es))
starts-more g es i e now more start lt is so_far adds same =
    let z : 0 + length (joined (map g (take i es))) ≡ length (joined (map g (take i es))) = omega arith in
    adds ∙ (ap (λ r. r ++ start ∷ []) so_far ∙ (ap (λ m. starts_from 0 (map g (take i es)) ++ m ∷ []) (same ∙ sym z)
    ∙ (sym (starts-last 0 (map g (take i es)) (g e)) ∙ ap (starts_from 0) (sym (one-more g es i e lt is)))))

-- how many lists were added
pub added-count : (first now inner : List KeptList) → now ≡ first ++ inner → length now - length first ≡ length inner
added-count first now inner is =
    let a : length now ≡ length (first ++ inner) = ap length is in
    let b = length-append first inner in
    omega (arith, a, b)

pub added-length : (first now inner : List KeptList) → now ≡ first ++ inner → length now ≡ length first + length inner
added-length first now inner is = ap length is ∙ length-append first inner

set-middle : (xs : List KeptList) (y v : KeptList) (zs : List KeptList) → set ((xs ++ y ∷ []) ++ zs) (length xs) v ≡ xs ++ v ∷ zs
set-middle [] y v zs = refl
set-middle (x ∷ xs) y v zs = ap (λ r. x ∷ r) (set-middle xs y v zs)

get-middle : (xs : List KeptList) (y d : KeptList) (zs : List KeptList) → get_or (xs ++ y ∷ zs) (length xs) d ≡ y
get-middle [] y d zs = refl
get-middle (x ∷ xs) y d zs = get-middle xs y d zs

-- what stands where a list was added is what is kept of it
pub list-there : (before now : List KeptList) (w : KeptTree) (base : ℕ) (kept : KeptList) → base ≡ length before → now ≡ before ++ lists_in w
    → kept ≡ get_or now base kept → kept ≡ w.head
list-there before now w base kept at added is =
    is ∙ (ap (λ ls. get_or ls base kept) added ∙ (ap (λ n. get_or (before ++ lists_in w) n kept) at ∙ get-middle before w.head kept w.inside))

-- a flow of a split
pub whole-parts : (facts : WorkKey → Fact) (f : SplitFlow) → kept_flow facts f ≡ tree_first (states facts (out-SplitFlow f).elements)
whole-parts facts f = fold_out-SplitFlow KeptBody KeptElement KeptTree body_kept (element_kept facts) flow_kept f

-- a step, which has no list inside it
pub kept-step : (facts : WorkKey → Fact) (e : Element) (step : ItsStep) → e.body ≡ Step step
    → ((kept_element facts e).row.own_result ≡ step_result facts e.id step.partitions) × ((kept_element facts e).inside ≡ [])
kept-step facts e step is =
    let parts = fold_out-Element KeptBody KeptElement KeptTree body_kept (element_kept facts) flow_kept e in
    let body : kept_body facts e.body ≡ body_kept (OpenStep step) =
    ap (kept_body facts) (is ∙ sym (rolls-Step step)) ∙ fold-roll-Body KeptBody KeptElement KeptTree body_kept (element_kept facts) flow_kept (OpenStep step) in (
      ap (λ (s : KeptElement). s.row.own_result) parts ∙ ap (λ (h : KeptBody). element_result facts e.id h.part) body,
      ap (λ (s : KeptElement). s.inside) parts ∙ ap (λ (h : KeptBody). h.inside) body,
    )

-- a decision
pub kept-decision : (facts : WorkKey → Fact) (e : Element) (artifact : List ℕ) → e.body ≡ Decision artifact
    → ((kept_element facts e).row.own_result ≡ runnable_result (key_of e.id 0) (facts (key_of e.id 0))) × ((kept_element facts e).inside ≡ [])
kept-decision facts e artifact is =
    let parts = fold_out-Element KeptBody KeptElement KeptTree body_kept (element_kept facts) flow_kept e in
    let body : kept_body facts e.body ≡ body_kept (OpenDecision artifact) =
    ap (kept_body facts) (is ∙ sym (rolls-Decision artifact)) ∙ fold-roll-Body KeptBody KeptElement KeptTree body_kept (element_kept facts) flow_kept (OpenDecision artifact) in (
      ap (λ (s : KeptElement). s.row.own_result) parts ∙ ap (λ (h : KeptBody). element_result facts e.id h.part) body,
      ap (λ (s : KeptElement). s.inside) parts ∙ ap (λ (h : KeptBody). h.inside) body,
    )

-- a split
body-split : (facts : WorkKey → Fact) (flows : List SplitFlow) → kept_body facts (Split flows) ≡ body_kept (OpenSplit (map (kept_flow facts) flows))
body-split facts flows = ap (kept_body facts) (sym (rolls-Split flows)) ∙ fold-roll-Body KeptBody KeptElement KeptTree body_kept (element_kept facts) flow_kept (OpenSplit flows)

pub kept-split : (facts : WorkKey → Fact) (e : Element) (flows : List SplitFlow) → e.body ≡ Split flows
    → ((kept_element facts e).row.own_result ≡ split_result (map (λ f. value_kept (kept_flow facts f)) flows)) × ((kept_element facts e).inside ≡ joined (map (λ f. lists_in (kept_flow facts f)) flows))
kept-split facts e flows is =
    let parts = fold_out-Element KeptBody KeptElement KeptTree body_kept (element_kept facts) flow_kept e in
    let body : kept_body facts e.body ≡ body_kept (OpenSplit (map (kept_flow facts) flows)) = ap (kept_body facts) is ∙ body-split facts flows in (
      ap (λ (s : KeptElement). s.row.own_result) parts ∙ (ap (λ (h : KeptBody). element_result facts e.id h.part) body ∙ ap split_result (map-two value_kept flows)),
      ap (λ (s : KeptElement). s.inside) parts ∙ (ap (λ (h : KeptBody). h.inside) body ∙ ap joined (map-two lists_in flows)),
    )
  where
    map-two : {Y : Type 0} (g : KeptTree → Y) (xs : List SplitFlow) → map g (map (kept_flow facts) xs) ≡ map (λ f. g (kept_flow facts f)) xs
    map-two g [] = refl
    map-two g (x ∷ xs) = ap (λ r. g (kept_flow facts x) ∷ r) (map-two g xs)

insides-by : (facts : WorkKey → Fact) (es : List Element) → map (λ e. (kept_element facts e).inside) es ≡ insides (states facts es)
insides-by facts [] = refl
insides-by facts (e ∷ es) = ap (λ r. (kept_element facts e).inside ∷ r) (insides-by facts es)

owns-by : (facts : WorkKey → Fact) (es : List Element) → map (λ e. (kept_element facts e).row.own_result) es ≡ owns_in (states facts es)
owns-by facts [] = refl
owns-by facts (e ∷ es) = ap (λ r. (kept_element facts e).row.own_result ∷ r) (owns-by facts es)

abbrev kept_by : Progress → List ElementResult → List ℕ → ℕ → KeptList
kept_by s o t n = record { progress = s; results = o; starts = t; size = n }

-- a whole list
pub list-kept : (facts : WorkKey → Fact) (es : List Element) (from : List ℕ) (first now : List KeptList) (h : KeptList) (base len : ℕ) (s : Progress) (owns owns2 : List ElementResult) (starts : List ℕ)
    → base ≡ length first → len ≡ length now
    → now ≡ (first ++ h ∷ []) ++ joined (map (λ e. (kept_element facts e).inside) es)
    → owns ≡ map (λ e. (kept_element facts e).row.own_result) es → starts ≡ starts_from 0 (map (λ e. (kept_element facts e).inside) es)
    → owns2 ≡ owns → s ≡ progress (length es) (rows_by es owns2) from
    → set now base (kept_by s owns starts (len - base)) ≡ first ++ kept_of facts es from
list-kept facts es from first now h base len s owns owns2 starts at count lists o t shared w =
    let inner : joined (map (λ e. (kept_element facts e).inside) es) ≡ joined (insides (states facts es)) = ap joined (insides-by facts es) in
    let now2 : now ≡ (first ++ h ∷ []) ++ joined (insides (states facts es)) = lists ∙ ap (λ r. (first ++ h ∷ []) ++ r) inner in
    let o2 : owns ≡ owns_in (states facts es) = o ∙ owns-by facts es in
    let t2 : starts ≡ starts_from 0 (insides (states facts es)) = t ∙ ap (starts_from 0) (insides-by facts es) in
    let n : length (rows_in (states facts es)) ≡ length es = length-map (states facts es) (λ (x : KeptElement). x.row) ∙ length-map es (kept_element facts) in
    let rows : rows_by es owns2 ≡ rows_in (states facts es) = ap (rows_by es) (shared ∙ o2) ∙ sym (rows-self facts es) in
    let s2 : s ≡ progress (length (rows_in (states facts es))) (rows_in (states facts es)) from =
    w ∙ (ap (λ r. progress (length es) r from) rows ∙ ap (λ k. progress k (rows_in (states facts es)) from) (sym n)) in
    let a : length now ≡ length ((first ++ h ∷ []) ++ joined (insides (states facts es))) = ap length now2 in
    let b = length-append (first ++ h ∷ []) (joined (insides (states facts es))) in
    let c = length-append first (h ∷ []) in
    let d : length (h ∷ []) ≡ 1 = omega arith in
    let size : len - base ≡ length (joined (insides (states facts es))) + 1 = omega (arith, at, count, a, b, c, d) in
    let head : kept_by s owns starts (len - base) ≡ head_of (rows_in (states facts es)) (insides (states facts es)) from =
    ap (λ x. kept_by x owns starts (len - base)) s2
    ∙ (ap (λ x. kept_by (progress (length (rows_in (states facts es))) (rows_in (states facts es)) from) x starts (len - base)) o2
    ∙ (ap (λ x. kept_by (progress (length (rows_in (states facts es))) (rows_in (states facts es)) from) (owns_in (states facts es)) x (len - base)) t2
    ∙ ap (λ x. kept_by (progress (length (rows_in (states facts es))) (rows_in (states facts es)) from) (owns_in (states facts es)) (starts_from 0 (insides (states facts es))) x) size)) in
    ap (λ x. set x base (kept_by s owns starts (len - base))) now2
    ∙ (ap (λ k. set ((first ++ h ∷ []) ++ joined (insides (states facts es))) k (kept_by s owns starts (len - base))) at
    ∙ (set-middle first h (kept_by s owns starts (len - base)) (joined (insides (states facts es)))
    ∙ ap (λ k. first ++ k ∷ joined (insides (states facts es))) head))

pub on-ok : {T E : Type 0} (r : Result T E) (P : Type 0) → P → OnOk r P
on-ok (Ok x) P p = p
on-ok (Err e) P p = tt

-- Work items in a list: what holds of each, and what is known of work keys by them.
use Rattle.std.proofs.Common.{◌≡◌, ◌≢◌, ℕ, ◌==◌, Bool, true, false, cond, Option, Some, List, [], ◌∷◌, ◌++◌, find, refl, sym, ◌∙◌, ap, subst}
use Rattle.std.proofs.lemmas.Bool.{eqb-true, eqb-false, eq-eqb}
use Rattle.batch_ids.specs.declared.metric_step.MetricStep.{MetricStep}
use Rattle.batch_ids.specs.declared.status.WorkOutcome.{WorkOutcome}
use Rattle.walk_rules.specs.declared.facts.Fact.TheVariants.{Nothing, Busy as FactBusy}
use Rattle.walk_rules.specs.declared.facts.Known.{Known}
use Rattle.walk_rules.proofs.SameKeys.{same-self, differing-keys}
use Rattle.walk_rules.specs.Keys.{is_same_key}
use Rattle.walk_rules.specs.declared.work_key.WorkKey.{WorkKey}
use Rattle.batch_history.specs.Works.{Apart, AllApart, work_key}
use Rattle.walk_rules.specs.Walk.{fact_of}
use Rattle.batch_history.specs.declared.rows.WorkRow.{WorkRow}
use Rattle.batch_history.specs.declared.rows.WorkState.{WorkState}
use Rattle.batch_history.specs.declared.rows.WorkState.TheVariants.{Busy, Over}
use Rattle.batch_history.specs.NextRows.{over}
use Rattle.batch_history.specs.Lists.{Each, change_first}
use Rattle.batch_history.specs.Walks.{fact_of_state, facts_by_work, known_elements}
use Rattle.batch_history.proofs.Knowing.{known-fact}
use Rattle.batch_history.proofs.Planned.{is_over}
use Rattle.batch_history.proofs.Sights.{DifferAt}

-- ---- Each of a list

pub each-map : {X : Type 0} (P Q : X → Type 0) (xs : List X) → ((x : X) → P x → Q x) → Each P xs → Each Q xs
each-map P Q [] f h = tt
each-map P Q (x ∷ xs) f h = (f x h.0, each-map P Q xs f h.1)

pub each-both : {X : Type 0} (P Q R : X → Type 0) (xs : List X) → ((x : X) → P x → Q x → R x) → Each P xs → Each Q xs → Each R xs
each-both P Q R [] f h g = tt
each-both P Q R (x ∷ xs) f h g = (f x h.0 g.0, each-both P Q R xs f h.1 g.1)

pub each-append : {X : Type 0} (P : X → Type 0) (xs : List X) (x : X) → Each P xs → P x → Each P (xs ++ x ∷ [])
each-append P [] x h p = (p, tt)
each-append P (y ∷ ys) x h p = (h.0, each-append P ys x h.1 p)

pub each-found : {X : Type 0} (P : X → Type 0) (p : X → Bool) (xs : List X) (x : X) → Each P xs → find p xs ≡ Some x → P x
each-found P p [] x h e = cc
each-found P p (y ∷ ys) x h e =
    (elim (p y) as (λ b. cond b (Some y) (find p ys) ≡ Some x → P x) [
      | true ↦ λ s. let same : y ≡ x = cc in subst P same h.0
      | false ↦ λ s. each-found P p ys x h.1 s
    ]) e

-- what is found is found still with more behind it
pub found-before : {X : Type 0} (p : X → Bool) (xs ys : List X) (x : X) → find p xs ≡ Some x → find p (xs ++ ys) ≡ Some x
found-before p [] ys x e = cc
found-before p (z ∷ xs) ys x e =
    (elim (p z) as (λ b. cond b (Some z) (find p xs) ≡ Some x → cond b (Some z) (find p (xs ++ ys)) ≡ Some x) [
      | true ↦ λ s. s
      | false ↦ λ s. found-before p xs ys x s
    ]) e

-- the same of all, but for the first that passes a test, which is changed
pub each-change : {X : Type 0} (P : X → Type 0) (p : X → Bool) (f : X → X) (xs : List X) → ((x : X) → P x → P (f x)) → Each P xs → Each P (change_first p f xs)
each-change P p f [] g h = tt
each-change P p f (x ∷ xs) g h =
    elim (p x) as (λ b. Each P (cond b (f x ∷ xs) (x ∷ change_first p f xs))) [
      | true ↦ (g x h.0, h.1)
      | false ↦ (h.0, each-change P p f xs g h.1)
    ]

-- ---- No work key of a job execution has two work items

pub apart-append : (rows : List WorkRow) (new : WorkRow) → AllApart rows → Each (λ r. Apart r new) rows → AllApart (rows ++ new ∷ [])
apart-append [] new h e = (tt, tt)
apart-append (r ∷ rs) new h e = (each-append (Apart r) rs new h.0 e.0, apart-append rs new h.1 e.1)

-- a change that leaves job execution and element alone
pub apart-change : (p : WorkRow → Bool) (f : WorkRow → WorkRow) → ((r : WorkRow) → (f r).execution ≡ r.execution) → ((r : WorkRow) → work_key (f r) ≡ work_key r)
    → (rows : List WorkRow) → AllApart rows → AllApart (change_first p f rows)
apart-change p f ex el [] h = tt
apart-change p f ex el (r ∷ rs) h =
    elim (p r) as (λ b. AllApart (cond b (f r ∷ rs) (r ∷ change_first p f rs))) [
      | true ↦ (each-map (Apart r) (Apart (f r)) rs (λ s a e same. a (e ∙ ex r) (same ∙ el r)) h.0, h.1)
      | false ↦ (each-change (Apart r) p f rs (λ s a e same. a (sym (ex s) ∙ e) (sym (el s) ∙ same)) h.0, apart-change p f ex el rs h.1)
    ]

-- all but the changed one differ from it
pub each-report : (P Q : WorkRow → Type 0) (p : WorkRow → Bool) (f : WorkRow → WorkRow) (rows : List WorkRow) (c : WorkRow) → find p rows ≡ Some c
    → AllApart rows → Each P rows → Q (f c)
    → ((r : WorkRow) → P r → (r.execution ≡ c.execution → work_key r ≢ work_key c) → Q r) → Each Q (change_first p f rows)
each-report P Q p f [] c e apart h new others = tt
each-report P Q p f (r ∷ rs) c e apart h new others =
    (elim (p r) as (λ b. cond b (Some r) (find p rs) ≡ Some c → Each Q (cond b (f r ∷ rs) (r ∷ change_first p f rs))) [
      | true ↦ λ s.
          let same : r ≡ c = cc in (
            subst (λ z. Q (f z)) (sym same) new,
            each-both P (Apart r) Q rs (λ x px a. others x px (λ e2 same2. a (e2 ∙ ap (λ (z : WorkRow). z.execution) (sym same)) (same2 ∙ ap work_key (sym same)))) h.1 apart.0,
          )
      | false ↦ λ s.
          let from : Apart r c = each-found (Apart r) p rs c apart.0 s in
          (others r h.0 (λ e2 same2. from (sym e2) (sym same2)), each-report P Q p f rs c s apart.1 h.1 new others)
    ]) e

-- ---- What is known of an element by the work items of its job execution

not-nothing : (state : WorkState) → fact_of_state state ≢ Nothing
not-nothing Busy h = cc
not-nothing (Over outcome exit) h = cc

-- where nothing is known of an element, no work item is of it
unknown-away-listed : (x : ℕ) (works : List WorkRow) (key : WorkKey) → fact_of (known_elements x works) key ≡ Nothing → Each (λ r. r.execution ≡ x → work_key r ≢ key) works
unknown-away-listed x [] key h = tt
unknown-away-listed x (r ∷ rs) key h =
    let k : Known = record { key = work_key r; fact = fact_of_state r.state } in
    (elim (r.execution == x) as (λ b. (r.execution == x) ≡ b → fact_of (cond b (k ∷ known_elements x rs) (known_elements x rs)) key ≡ Nothing → Each (λ r. r.execution ≡ x → work_key r ≢ key) (r ∷ rs)) [
      | true ↦ λ on. (elim (is_same_key (work_key r) key) as (λ b. is_same_key (work_key r) key ≡ b → cond b (fact_of_state r.state) (fact_of (known_elements x rs) key) ≡ Nothing
          → Each (λ r. r.execution ≡ x → work_key r ≢ key) (r ∷ rs)) [
            | true ↦ λ is s. absurd (not-nothing r.state s)
            | false ↦ λ is s. ((λ _ same. let yes : is_same_key (work_key r) key ≡ true = same-self (work_key r) key same in cc), unknown-away-listed x rs key s)
          ]) refl
      | false ↦ λ off s. ((λ on _. eqb-false r.execution x off on), unknown-away-listed x rs key s)
    ]) refl h

-- ---- One work item more

abbrev known_as : WorkRow → Known
known_as r = record { key = work_key r; fact = fact_of_state r.state }

pub known-new : (x : ℕ) (works : List WorkRow) (new : WorkRow) → (new.execution == x) ≡ true → known_elements x (works ++ new ∷ []) ≡ known_elements x works ++ known_as new ∷ []
known-new x [] new on = rw on refl
known-new x (r ∷ rs) new on =
    elim (r.execution == x) as (λ b. cond b (known_as r ∷ known_elements x (rs ++ new ∷ [])) (known_elements x (rs ++ new ∷ []))
    ≡ cond b (known_as r ∷ known_elements x rs) (known_elements x rs) ++ known_as new ∷ []) [
      | true ↦ ap (λ ks. known_as r ∷ ks) (known-new x rs new on)
      | false ↦ known-new x rs new on
    ]

fact-other : (known : List Known) (new : Known) (key : WorkKey) → is_same_key new.key key ≡ false → fact_of (known ++ new ∷ []) key ≡ fact_of known key
fact-other [] new key off = rw off refl
fact-other (k ∷ ks) new key off = ap (λ f. cond (is_same_key k.key key) k.fact f) (fact-other ks new key off)

fact-new : (x : ℕ) (works : List WorkRow) (new : Known) → Each (λ r. r.execution ≡ x → work_key r ≢ new.key) works
    → fact_of (known_elements x works ++ new ∷ []) new.key ≡ new.fact
fact-new x [] new away = let here : is_same_key new.key new.key ≡ true = same-self new.key new.key refl in rw here refl
fact-new x (r ∷ rs) new away =
    (elim (r.execution == x) as (λ b. (r.execution == x) ≡ b → fact_of (cond b (known_as r ∷ known_elements x rs) (known_elements x rs) ++ new ∷ []) new.key ≡ new.fact) [
      | true ↦ λ on. let off : is_same_key (work_key r) new.key ≡ false = differing-keys (work_key r) new.key (away.0 (eqb-true r.execution x on)) in rw off (fact-new x rs new away.1)
      | false ↦ λ off. fact-new x rs new away.1
    ]) refl

-- the facts with one work item more, of an element that nothing was known of
new-differs-listed : (x : ℕ) (works : List WorkRow) (new : WorkRow) → (new.execution == x) ≡ true
    → DifferAt (work_key new) (fact_of (known_elements x works)) (fact_of (known_elements x (works ++ new ∷ [])))
new-differs-listed x works new on i other =
    ap (λ ks. fact_of ks i) (known-new x works new on) ∙ fact-other (known_elements x works) (known_as new) i (differing-keys (work_key new) i (λ e. other (sym e)))

new-fact-listed : (x : ℕ) (works : List WorkRow) (new : WorkRow) → (new.execution == x) ≡ true → fact_of (known_elements x works) (work_key new) ≡ Nothing
    → fact_of (known_elements x (works ++ new ∷ [])) (work_key new) ≡ fact_of_state new.state
new-fact-listed x works new on was =
    ap (λ ks. fact_of ks (work_key new)) (known-new x works new on) ∙ fact-new x works (known_as new) (unknown-away-listed x works (work_key new) was)

-- ---- A work item that is over

-- what was known of the element of a busy work item
busy-fact-listed : (p : WorkRow → Bool) (works : List WorkRow) (c : WorkRow) → find p works ≡ Some c → AllApart works → c.state ≡ Busy
    → fact_of (known_elements c.execution works) (work_key c) ≡ FactBusy
busy-fact-listed p [] c e apart busy = cc
busy-fact-listed p (r ∷ rs) c e apart busy =
    (elim (p r) as (λ b. cond b (Some r) (find p rs) ≡ Some c → fact_of (known_elements c.execution (r ∷ rs)) (work_key c) ≡ FactBusy) [
      | true ↦ λ s.
          let same : r ≡ c = cc in
          let on : (r.execution == c.execution) ≡ true = eq-eqb r.execution c.execution (ap (λ (z : WorkRow). z.execution) same) in
          let here : is_same_key (work_key r) (work_key c) ≡ true = same-self (work_key r) (work_key c) (ap work_key same) in
          rw on (rw here (ap fact_of_state (ap (λ (z : WorkRow). z.state) same ∙ busy)))
      | false ↦ λ s.
          let from : Apart r c = each-found (Apart r) p rs c apart.0 s in
          let rest = busy-fact-listed p rs c s apart.1 busy in
          (elim (r.execution == c.execution) as (λ b. (r.execution == c.execution) ≡ b → fact_of (cond b (known_as r ∷ known_elements c.execution rs) (known_elements c.execution rs)) (work_key c) ≡ FactBusy) [
            | true ↦ λ on.
                let off : is_same_key (work_key r) (work_key c) ≡ false = differing-keys (work_key r) (work_key c) (λ same. from (sym (eqb-true r.execution c.execution on)) (sym same)) in
                rw off rest
            | false ↦ λ off. rest
          ]) refl
    ]) e

-- the facts with one work item over differ at its element alone
over-differs-listed : (x : ℕ) (p : WorkRow → Bool) (works : List WorkRow) (c : WorkRow) (o : WorkOutcome) (t : Option (List ℕ)) (step : MetricStep) (at n : ℕ)
    → find p works ≡ Some c → DifferAt (work_key c) (fact_of (known_elements x works)) (fact_of (known_elements x (change_first p (over o t step at n) works)))
over-differs-listed x p [] c o t step at n e i other = cc
over-differs-listed x p (r ∷ rs) c o t step at n e i other =
    (elim (p r) as (λ b. cond b (Some r) (find p rs) ≡ Some c
    → fact_of (known_elements x (cond b (over o t step at n r ∷ rs) (r ∷ change_first p (over o t step at n) rs))) i ≡ fact_of (known_elements x (r ∷ rs)) i) [
      | true ↦ λ s.
          let same : r ≡ c = cc in
          let off : is_same_key (work_key r) i ≡ false = differing-keys (work_key r) i (λ h. other (sym h ∙ ap work_key same)) in
          elim (r.execution == x) as (λ b. fact_of (cond b (known_as (over o t step at n r) ∷ known_elements x rs) (known_elements x rs)) i ≡ fact_of (cond b (known_as r ∷ known_elements x rs) (known_elements x rs)) i) [
            | true ↦ rw off refl
            | false ↦ refl
          ]
      | false ↦ λ s.
          let rest = over-differs-listed x p rs c o t step at n s i other in
          elim (r.execution == x) as (λ b. fact_of (cond b (known_as r ∷ known_elements x (change_first p (over o t step at n) rs)) (known_elements x (change_first p (over o t step at n) rs))) i
          ≡ fact_of (cond b (known_as r ∷ known_elements x rs) (known_elements x rs)) i) [
            | true ↦ ap (λ f. cond (is_same_key (work_key r) i) (fact_of_state r.state) f) rest
            | false ↦ rest
          ]
    ]) e

-- ---- The same of what is known of each element

-- where nothing is known of an element, no work item is of it
pub unknown-away : (x : ℕ) (works : List WorkRow) (key : WorkKey) → facts_by_work x works key ≡ Nothing → Each (λ r. r.execution ≡ x → work_key r ≢ key) works
unknown-away x works key h = unknown-away-listed x works key (sym (known-fact x works key) ∙ h)

-- the facts with one work item more, of an element that nothing was known of
pub new-differs : (x : ℕ) (works : List WorkRow) (new : WorkRow) → (new.execution == x) ≡ true
    → DifferAt (work_key new) (facts_by_work x works) (facts_by_work x (works ++ new ∷ []))
new-differs x works new on i other =
    known-fact x (works ++ new ∷ []) i ∙ (new-differs-listed x works new on i other ∙ sym (known-fact x works i))

pub new-fact : (x : ℕ) (works : List WorkRow) (new : WorkRow) → (new.execution == x) ≡ true → facts_by_work x works (work_key new) ≡ Nothing
    → facts_by_work x (works ++ new ∷ []) (work_key new) ≡ fact_of_state new.state
new-fact x works new on was =
    known-fact x (works ++ new ∷ []) (work_key new) ∙ new-fact-listed x works new on (sym (known-fact x works (work_key new)) ∙ was)

-- what was known of the element of a busy work item
pub busy-fact : (p : WorkRow → Bool) (works : List WorkRow) (c : WorkRow) → find p works ≡ Some c → AllApart works → c.state ≡ Busy
    → facts_by_work c.execution works (work_key c) ≡ FactBusy
busy-fact p works c e apart busy = known-fact c.execution works (work_key c) ∙ busy-fact-listed p works c e apart busy

-- the facts with one work item over differ at its element alone
pub over-differs : (x : ℕ) (p : WorkRow → Bool) (works : List WorkRow) (c : WorkRow) (o : WorkOutcome) (t : Option (List ℕ)) (step : MetricStep) (at n : ℕ)
    → find p works ≡ Some c → DifferAt (work_key c) (facts_by_work x works) (facts_by_work x (change_first p (over o t step at n) works))
over-differs x p works c o t step at n e i other =
    known-fact x (change_first p (over o t step at n) works) i ∙ (over-differs-listed x p works c o t step at n e i other ∙ sym (known-fact x works i))

over-fact-listed : (x : ℕ) (p : WorkRow → Bool) (works : List WorkRow) (c : WorkRow) (o : WorkOutcome) (t : Option (List ℕ)) (step : MetricStep) (at n : ℕ)
    → find p works ≡ Some c → (c.execution == x) ≡ true → AllApart works
    → is_over (fact_of (known_elements x (change_first p (over o t step at n) works)) (work_key c)) ≡ true
over-fact-listed x p [] c o t step at n e on apart = cc
over-fact-listed x p (r ∷ rs) c o t step at n e on apart =
    (elim (p r) as (λ b. cond b (Some r) (find p rs) ≡ Some c
    → is_over (fact_of (known_elements x (cond b (over o t step at n r ∷ rs) (r ∷ change_first p (over o t step at n) rs))) (work_key c)) ≡ true) [
      | true ↦ λ s.
          let same : r ≡ c = cc in
          let here : (r.execution == x) ≡ true = ap (λ (z : WorkRow). z.execution == x) same ∙ on in
          let key : is_same_key (work_key r) (work_key c) ≡ true = same-self (work_key r) (work_key c) (ap work_key same) in
          rw here (rw key refl)
      | false ↦ λ s.
          let from : Apart r c = each-found (Apart r) p rs c apart.0 s in
          let rest = over-fact-listed x p rs c o t step at n s on apart.1 in
          (elim (r.execution == x) as (λ b. (r.execution == x) ≡ b
          → is_over (fact_of (cond b (known_as r ∷ known_elements x (change_first p (over o t step at n) rs)) (known_elements x (change_first p (over o t step at n) rs))) (work_key c)) ≡ true) [
            | true ↦ λ here.
                let off : is_same_key (work_key r) (work_key c) ≡ false =
                differing-keys (work_key r) (work_key c) (λ same. from (eqb-true c.execution x on ∙ sym (eqb-true r.execution x here)) (sym same)) in
                rw off rest
            | false ↦ λ here. rest
          ]) refl
    ]) e

-- a work item that is reported over is known so
pub over-fact : (x : ℕ) (p : WorkRow → Bool) (works : List WorkRow) (c : WorkRow) (o : WorkOutcome) (t : Option (List ℕ)) (step : MetricStep) (at n : ℕ)
    → find p works ≡ Some c → (c.execution == x) ≡ true → AllApart works → is_over (facts_by_work x (change_first p (over o t step at n) works) (work_key c)) ≡ true
over-fact x p works c o t step at n e on apart =
    ap is_over (known-fact x (change_first p (over o t step at n) works) (work_key c)) ∙ over-fact-listed x p works c o t step at n e on apart

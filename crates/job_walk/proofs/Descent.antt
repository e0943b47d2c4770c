-- From a list that shows a work key to the element that shows it, and what becomes of the list when that element changes.
use Rattle.std.proofs.Common.{◌≡◌, ℕ, zero, suc, ◌+◌, ◌<◌, ◌≤◌, true, Option, None, Some, List, [], ◌∷◌, ◌++◌, length, length-append, take, drop, get_or, set, refl, sym, ◌∙◌, ap, arith, subst}
use Rattle.std.specs.List.{position}
use Rattle.std.proofs.lemmas.List.{append_assoc, length-map}
use Rattle.std.proofs.lemmas.Option.{slice_get-get_or}
use Rattle.std.specs.Cmp.Lexicographic.{bytes_decides}
use Rattle.std.specs.Str.{bytes_eq}
use Rattle.jsl_model.specs.Trees.{joined}
use Rattle.jsl_model.specs.declared.element.Element.{Element}
use Rattle.walk_rules.specs.declared.element_result.ElementResult.{ElementResult}
use Rattle.walk_rules.specs.declared.element_result.ElementResult.TheVariants.{ListValue}
use Rattle.walk_rules.specs.declared.facts.Fact.{Fact}
use Rattle.walk_rules.specs.declared.facts.Value.{Value}
use Rattle.job_walk.specs.declared.kept_list.KeptList.{KeptList}
use Rattle.job_walk.specs.declared.kept_list.ListChange.{ListChange}
use Rattle.walk_rules.specs.declared.progress.Progress.{Progress}
use Rattle.walk_rules.specs.declared.work_key.WorkKey.{WorkKey}
use Rattle.walk_rules.specs.declared.facts.Known.{Known}
use Rattle.walk_rules.specs.Walk.{WalkedElement, fact_of, follow}
use Rattle.job_walk.specs.KeptLists.{KeptElement, head_of, rows_in, insides, starts_from, kept_element, tree_of, kept_of, value_kept, first_shows, result_shows, put_in, Puts, DifferAt, Keeps, KeepsInside, facts_after}
use Rattle.walk_rules.specs.Standing.{rows_by, stands, progress, row_place}
use Rattle.walk_rules.specs.Counts.{count_in, count_of}
use Rattle.walk_rules.specs.Shown.{shows}
use Rattle.job_walk.proofs.KeptTrees.{kept-row}
use Rattle.job_plans.proofs.Newest.{put-others}
use Rattle.job_walk.proofs.Putting.{puts-list, puts-length, joined-set, start-at}
use Rattle.job_walk.proofs.Reporting.{states, owns_in, rows-self, list-reported, Passes, find-passes}
use Rattle.job_walk.proofs.ShownCounts.{shown-counts, others-none}
use Rattle.walk_rules.proofs.Places.{within}
use Rattle.walk_rules.proofs.Stands.{is_row, shown-stands, place-found, place-none, row_place-by}

-- ---- The first of the lists

abbrev pub head_in : (WorkKey → Fact) → List Element → List ℕ → KeptList
head_in facts es from = head_of (rows_in (states facts es)) (insides (states facts es)) from

-- what is kept of the list itself stands first
pub kept-head : (facts : WorkKey → Fact) (es : List Element) (from : List ℕ) (lists rest : List KeptList) (kept : KeptList) → lists ≡ kept_of facts es from ++ rest
    → kept ≡ get_or lists 0 kept → kept ≡ head_in facts es from
kept-head facts es from lists rest kept is got = got ∙ ap (λ ls. get_or ls 0 kept) is

abbrev value_in : (WorkKey → Fact) → List Element → List ℕ → Value
value_in facts es from = follow (length (rows_in (states facts es))) (rows_in (states facts es)) from

pub kept-shows : (facts : WorkKey → Fact) (es : List Element) (from : List ℕ) (lists rest : List KeptList) (key : WorkKey) → lists ≡ kept_of facts es from ++ rest
    → first_shows key lists ≡ true → shows key (value_in facts es from) ≡ true
kept-shows facts es from lists rest key is h = ap (first_shows key) (sym is) ∙ h

-- ---- The element at which the walk stands

some-none : {X : Type 0} (o : Option X) (x : X) → o ≡ Some x → o ≡ None → ⊥
some-none o x e f = cc

pub never-nowhere : (facts : WorkKey → Fact) (es : List Element) (from : List ℕ) (key : WorkKey) → shows key (value_in facts es from) ≡ true
    → (head_in facts es from).progress.place ≡ None → ⊥
never-nowhere facts es from key shown nowhere =
    let rows = rows_in (states facts es) in
    let there = shown-stands key rows (length rows) from shown in
    some-none _ there.0 there.1 (place-none (is_row (stands (length rows) rows from).id) rows nowhere)

owns-get : (facts : WorkKey → Fact) (es : List Element) (k : ℕ) (d : ElementResult) (e : Element) → k < length es
    → get_or (owns_in (states facts es)) k d ≡ (kept_element facts (get_or es k e)).row.own_result
owns-get facts [] k d e lt = absurd (omega (arith, lt))
owns-get facts (x ∷ es) zero d e lt = refl
owns-get facts (x ∷ es) (suc k) d e lt = owns-get facts es k d e (omega (arith, lt))

rows-get : (facts : WorkKey → Fact) (es : List Element) (k : ℕ) (d : WalkedElement) (e : Element) → k < length es
    → get_or (rows_in (states facts es)) k d ≡ (kept_element facts (get_or es k e)).row
rows-get facts [] k d e lt = absurd (omega (arith, lt))
rows-get facts (x ∷ es) zero d e lt = refl
rows-get facts (x ∷ es) (suc k) d e lt = rows-get facts es k d e (omega (arith, lt))

some-same : {X : Type 0} (x y : X) → Some x ≡ Some y → x ≡ y
some-same x y e = cc

-- what is known of the element at which a list stands that shows a work key
pub record Reached (facts : WorkKey → Fact) (es : List Element) (from : List ℕ) (key : WorkKey) (k : ℕ) (e : Element) : Type 0 where
  pub within : k < length es
  pub comes : (kept_element facts (get_or es k e)).row.own_result ≡ ListValue (value_in facts es from)
  pub place : Some k ≡ position (λ (x : Element). bytes_eq x.id (get_or es k e).id) es

pub reached : (facts : WorkKey → Fact) (es : List Element) (from : List ℕ) (key : WorkKey) (k : ℕ) (e : Element) → shows key (value_in facts es from) ≡ true
    → (head_in facts es from).progress.place ≡ Some k → Reached facts es from key k e
reached facts es from key k e shown at =
    let rows = rows_in (states facts es) in
    let id : List ℕ = (stands (length rows) rows from).id in
    let there = shown-stands key rows (length rows) from shown in
    let place = place-found (is_row id) rows k at in
    let n : length rows ≡ length es = length-map (states facts es) (λ (s : KeptElement). s.row) ∙ length-map es (kept_element facts) in
    let below : length rows ≡ length es → k < length rows → k < length es = λ same lt. omega (arith, same, lt) in
    let lt : k < length es = below n place.0 in
    let row : WalkedElement = there.0 in
    let same : get_or rows k row ≡ row = some-same _ _ (sym (slice_get-get_or rows k row place.0) ∙ (sym place.1 ∙ there.1)) in
    let self : rows ≡ rows_by es (owns_in (states facts es)) = rows-self facts es in
    let m : length (owns_in (states facts es)) ≡ length es = length-map rows (λ (r : WalkedElement). r.own_result) ∙ n in
    let found : position (λ (x : Element). bytes_eq x.id id) es ≡ Some k =
    sym (row_place-by es (owns_in (states facts es)) id m) ∙ (ap (λ rs. row_place rs id) (sym self) ∙ at) in
    let spot = place-found (λ (x : Element). bytes_eq x.id id) es k found in
    let passes : bytes_eq (get_or es k e).id id ≡ true =
    subst (Passes (λ (x : Element). bytes_eq x.id id)) (spot.1 ∙ slice_get-get_or es k e lt) (find-passes (λ (x : Element). bytes_eq x.id id) es) in
    let named : (get_or es k e).id ≡ id = (bytes_decides (get_or es k e).id id).0 passes in
    record {
      within = lt;
      comes = sym (ap (λ (r : WalkedElement). r.own_result) (rows-get facts es k row e lt)) ∙ (ap (λ (r : WalkedElement). r.own_result) same ∙ there.2);
      place = sym found ∙ ap (λ i. position (λ (x : Element). bytes_eq x.id i) es) (sym named);
    }

-- it shows the work key itself
pub reached-shows : (facts : WorkKey → Fact) (es : List Element) (from : List ℕ) (key : WorkKey) (k : ℕ) (e : Element) → shows key (value_in facts es from) ≡ true
    → Reached facts es from key k e → result_shows key (kept_element facts (get_or es k e)).row.own_result ≡ true
reached-shows facts es from key k e shown there = ap (result_shows key) there.comes ∙ shown

-- ---- The lists inside it

insides-length : (facts : WorkKey → Fact) (es : List Element) → length (insides (states facts es)) ≡ length es
insides-length facts [] = refl
insides-length facts (e ∷ es) = ap suc (insides-length facts es)

insides-get : (facts : WorkKey → Fact) (es : List Element) (k : ℕ) (d : List KeptList) (e : Element) → k < length es
    → get_or (insides (states facts es)) k d ≡ (kept_element facts (get_or es k e)).inside
insides-get facts [] k d e lt = absurd (omega (arith, lt))
insides-get facts (x ∷ es) zero d e lt = refl
insides-get facts (x ∷ es) (suc k) d e lt = insides-get facts es k d e (omega (arith, lt))

starts-length : (n : ℕ) (xs : List (List KeptList)) → length (starts_from n xs) ≡ length xs
starts-length n [] = refl
starts-length n (x ∷ xs) = ap suc (starts-length (n + length x) xs)

pub head-lengths : (facts : WorkKey → Fact) (es : List Element) (from : List ℕ)
    → (length (head_in facts es from).starts ≡ length es) × (length (head_in facts es from).results ≡ length es)
head-lengths facts es from = (
  starts-length 0 (insides (states facts es)) ∙ insides-length facts es,
  length-map (rows_in (states facts es)) (λ (r : WalkedElement). r.own_result)
      ∙ (length-map (states facts es) (λ (s : KeptElement). s.row) ∙ length-map es (kept_element facts)),
)

pub joined-at : {X : Type 0} (xs : List (List X)) (k : ℕ) (d : List X) → k < length xs
    → joined xs ≡ joined (take k xs) ++ (get_or xs k d ++ joined (drop (k + 1) xs))
joined-at [] k d lt = absurd (omega (arith, lt))
joined-at (x ∷ xs) zero d lt = refl
joined-at (x ∷ xs) (suc k) d lt =
    let e : suc k + 1 ≡ suc (k + 1) = omega arith in
    ap (λ r. x ++ r) (joined-at xs k d (omega (arith, lt)))
    ∙ (sym (append_assoc x (joined (take k xs)) (get_or xs k d ++ joined (drop (k + 1) xs)))
    ∙ ap (λ n. (x ++ joined (take k xs)) ++ (get_or xs k d ++ joined (drop n (x ∷ xs)))) (sym e))

-- the lists before those inside this element, and those behind them
abbrev pub before_in : (WorkKey → Fact) → List Element → ℕ → List KeptList
before_in facts es k = joined (take k (insides (states facts es)))

abbrev pub behind_in : (WorkKey → Fact) → List Element → ℕ → List KeptList
behind_in facts es k = joined (drop (k + 1) (insides (states facts es)))

pub kept-apart : (facts : WorkKey → Fact) (es : List Element) (from : List ℕ) (k : ℕ) (e : Element) → k < length es
    → kept_of facts es from ≡ head_in facts es from ∷ (before_in facts es k ++ ((kept_element facts (get_or es k e)).inside ++ behind_in facts es k))
kept-apart facts es from k e lt =
    let n = insides-length facts es in
    let inside : List KeptList = (kept_element facts (get_or es k e)).inside in
    ap (λ r. head_in facts es from ∷ r)
    (joined-at (insides (states facts es)) k inside (omega (arith, n, lt))
    ∙ ap (λ x. before_in facts es k ++ (x ++ behind_in facts es k)) (insides-get facts es k inside e lt))

pub start-is : (facts : WorkKey → Fact) (es : List Element) (from : List ℕ) (k d : ℕ) → k < length es
    → get_or (head_in facts es from).starts k d ≡ length (before_in facts es k)
start-is facts es from k d lt =
    let n = insides-length facts es in
    let at = start-at 0 (insides (states facts es)) k d (omega (arith, n, lt)) in
    omega (arith, at)

drop-past : {X : Type 0} (xs ys : List X) → drop (length xs) (xs ++ ys) ≡ ys
drop-past [] ys = refl
drop-past (x ∷ xs) ys = drop-past xs ys

-- the lists from those inside this element on
pub kept-inside : (facts : WorkKey → Fact) (es : List Element) (from : List ℕ) (lists rest : List KeptList) (k start : ℕ) (e : Element) → lists ≡ kept_of facts es from ++ rest
    → k < length es → start ≡ length (before_in facts es k)
    → (drop (start + 1) lists ≡ (kept_element facts (get_or es k e)).inside ++ (behind_in facts es k ++ rest)) × (start + 1 ≤ length lists)
kept-inside facts es from lists rest k start e is lt at =
    let pre : List KeptList = before_in facts es k in
    let inside : List KeptList = (kept_element facts (get_or es k e)).inside in
    let post : List KeptList = behind_in facts es k in
    let whole : lists ≡ head_in facts es from ∷ (pre ++ (inside ++ (post ++ rest))) =
    is ∙ (ap (λ r. r ++ rest) (kept-apart facts es from k e lt)
    ∙ ap (λ r. head_in facts es from ∷ r) (append_assoc pre (inside ++ post) rest ∙ ap (λ r. pre ++ r) (append_assoc inside post rest))) in
    let n : start + 1 ≡ suc (length pre) = omega (arith, at) in
    let l : length lists ≡ suc (length (pre ++ (inside ++ (post ++ rest)))) = ap length whole in
    let a = length-append pre (inside ++ (post ++ rest)) in
    (ap (λ m. drop m lists) n ∙ (ap (drop (suc (length pre))) whole ∙ drop-past pre (inside ++ (post ++ rest))), omega (arith, n, l, a))

-- ---- What becomes of the list

set-same : {X : Type 0} (xs : List X) (k : ℕ) (y : X) → take k (set xs k y) ≡ take k xs
set-same [] k y = refl
set-same (x ∷ xs) zero y = refl
set-same (x ∷ xs) (suc k) y = ap (λ r. x ∷ r) (set-same xs k y)

starts-set : (n : ℕ) (xs : List (List KeptList)) (k : ℕ) (y d : List KeptList) → length y ≡ length (get_or xs k d) → starts_from n (set xs k y) ≡ starts_from n xs
starts-set n [] k y d same = refl
starts-set n (x ∷ xs) zero y d same = ap (λ m. n ∷ starts_from (n + m) xs) same
starts-set n (x ∷ xs) (suc k) y d same = ap (λ r. n ∷ r) (starts-set (n + length x) xs k y d same)

lengths-set : (xs : List (List KeptList)) (k : ℕ) (y d : List KeptList) → length y ≡ length (get_or xs k d) → length (joined (set xs k y)) ≡ length (joined xs)
lengths-set [] k y d same = refl
lengths-set (x ∷ xs) zero y d same =
    let a = length-append y (joined xs) in
    let b = length-append x (joined xs) in
    let c : length y ≡ length x = same in
    omega (arith, a, b, c)
lengths-set (x ∷ xs) (suc k) y d same =
    let a = length-append x (joined (set xs k y)) in
    let b = length-append x (joined xs) in
    let c = lengths-set xs k y d same in
    omega (arith, a, b, c)

abbrev kept_by : Progress → List ElementResult → List ℕ → ℕ → KeptList
kept_by p rs ss n = record { progress = p; results = rs; starts = ss; size = n }

abbrev change_by : ℕ → Progress → ℕ → ElementResult → ListChange
change_by n p k r = record { list = n; progress = p; place = k; result = r }

-- THE LIST'S LAW, in what is kept: the lists inside the element become the new ones, and then the list itself does
pub list-becomes : (key : WorkKey) (facts later : WorkKey → Fact) → DifferAt key.element facts later → (es : List Element) (from : List ℕ) (k : ℕ) (e : Element)
    → shows key (value_in facts es from) ≡ true → count_of key.element es ≤ 1
    → (head_in facts es from).progress.place ≡ Some k
    → (r : ElementResult) → r ≡ (kept_element later (get_or es k e)).row.own_result
    → (p : Progress) → p ≡ progress (head_in facts es from).progress.left (rows_by es (set (head_in facts es from).results k r)) (get_or es k e).id
    → (others inner : List ListChange) (base start : ℕ) → start ≡ length (before_in facts es k)
    → Puts others inner (base + (start + 1)) (kept_element facts (get_or es k e)).inside (kept_element later (get_or es k e)).inside
    → (p.value ≡ value_kept (tree_of later es from)) × Puts others (inner ++ change_by base p k r ∷ []) base (kept_of facts es from) (kept_of later es from)
list-becomes key facts later differ es from k e shown once at r is p goes others inner base start begins puts =
    let there = reached facts es from key k e shown at in
    let lt : k < length es = there.within in
    let x : Element = get_or es k e in
    let inside : List KeptList = (kept_element facts x).inside in
    let inside2 : List KeptList = (kept_element later x).inside in
    let ins : List (List KeptList) = insides (states facts es) in
    let counted : 1 ≤ count_in key.element x =
    shown-counts key facts x (ap (λ (row : WalkedElement). result_shows key row.own_result) (sym (kept-row facts x)) ∙ reached-shows facts es from key k e shown there) in
    let none = others-none (count_in key.element) es k e lt once counted in
    let r2 : ElementResult = (kept_element later x).row.own_result in
    let comes : get_or (owns_in (states facts es)) k r2 ≡ ListValue (value_in facts es from) = owns-get facts es k r2 e lt ∙ there.comes in
    let law = list-reported key.element facts later differ es from k e (kept_element later x).row (value_in facts es from) lt none at comes in
    let many : length inside2 ≡ length inside = puts-length others inner (base + (start + 1)) inside inside2 (head_in facts es from) puts in
    let fits : length inside2 ≡ length (get_or ins k inside) = many ∙ ap length (sym (insides-get facts es k inside e lt)) in
    let p2 : p ≡ (head_in later es from).progress =
    goes ∙ (ap (λ y. progress (head_in facts es from).progress.left (rows_by es (set (head_in facts es from).results k y)) x.id) is ∙ sym law.0) in
    let s2 : starts_from 0 (insides (states later es)) ≡ starts_from 0 ins = ap (starts_from 0) law.2 ∙ starts-set 0 ins k inside2 inside fits in
    let z2 : length (joined (insides (states later es))) ≡ length (joined ins) = ap (λ xs. length (joined xs)) law.2 ∙ lengths-set ins k inside2 inside fits in
    let o2 : owns_in (states later es) ≡ set (owns_in (states facts es)) k r = law.1 ∙ ap (set (owns_in (states facts es)) k) (sym is) in
    let head : put_in (change_by base p k r) (head_in facts es from) ≡ head_in later es from =
    ap (λ y. kept_by y (set (owns_in (states facts es)) k r) (starts_from 0 ins) (length (joined ins) + 1)) p2
    ∙ (ap (λ y. kept_by (head_in later es from).progress y (starts_from 0 ins) (length (joined ins) + 1)) (sym o2)
    ∙ (ap (λ y. kept_by (head_in later es from).progress (owns_in (states later es)) y (length (joined ins) + 1)) (sym s2)
    ∙ ap (λ y. kept_by (head_in later es from).progress (owns_in (states later es)) (starts_from 0 (insides (states later es))) (y + 1)) (sym z2))) in
    let n = insides-length facts es in
    let new : joined (insides (states later es)) ≡ before_in facts es k ++ (inside2 ++ behind_in facts es k) =
    ap joined law.2 ∙ joined-set ins k inside2 (omega (arith, n, lt)) in
    let far : base + (start + 1) ≡ (base + 1) + length (before_in facts es k) = omega (arith, begins) in
    let way = puts-list others inner (change_by base p k r) base (head_in facts es from) (before_in facts es k) inside inside2 (behind_in facts es k) refl
    (subst (λ m. Puts others inner m inside inside2) far puts) in
    let to : put_in (change_by base p k r) (head_in facts es from) ∷ (before_in facts es k ++ (inside2 ++ behind_in facts es k)) ≡ kept_of later es from =
    ap (λ h. h ∷ (before_in facts es k ++ (inside2 ++ behind_in facts es k))) head ∙ ap (λ xs. head_in later es from ∷ xs) (sym new) in (
      ap (λ (y : Progress). y.value) p2,
      subst (λ y. Puts others (inner ++ change_by base p k r ∷ []) base y (kept_of later es from)) (sym (kept-apart facts es from k e lt))
          (subst (λ y. Puts others (inner ++ change_by base p k r ∷ []) base (head_in facts es from ∷ (before_in facts es k ++ (inside ++ behind_in facts es k))) y) to way),
    )

-- ---- What the way into a list rests on

pub at-nowhere : (facts : WorkKey → Fact) (es : List Element) (lists : List KeptList) (key : WorkKey) (kept : KeptList) → Keeps facts es lists → first_shows key lists ≡ true
    → kept ≡ get_or lists 0 kept → kept.progress.place ≡ None → ⊥
at-nowhere facts es lists key kept keeps shown got nowhere =
    let head = kept-head facts es keeps.0 lists keeps.1 kept keeps.2 got in
    never-nowhere facts es keeps.0 key (kept-shows facts es keeps.0 lists keeps.1 key keeps.2 shown) (sym (ap (λ (k : KeptList). k.progress.place) head) ∙ nowhere)

place-within : (facts : WorkKey → Fact) (es : List Element) (from : List ℕ) (k : ℕ) → (head_in facts es from).progress.place ≡ Some k → k < length es
place-within facts es from k at =
    let rows = rows_in (states facts es) in
    let place = place-found (is_row (stands (length rows) rows from).id) rows k at in
    let n : length rows ≡ length es = length-map (states facts es) (λ (s : KeptElement). s.row) ∙ length-map es (kept_element facts) in
    let below : length rows ≡ length es → k < length rows → k < length es = λ same lt. omega (arith, same, lt) in
    below n place.0

-- the place is that of an element, and the lists inside it begin behind this many
pub record Way (facts : WorkKey → Fact) (es : List Element) (lists : List KeptList) (kept : KeptList) (k : ℕ) : Type 0 where
  pub within : k < length es
  pub in_starts : k < length kept.starts
  pub in_results : length kept.results ≡ length es
  pub start : get_or kept.starts k 0 ≡ length (before_in facts es k)
  pub room : get_or kept.starts k 0 + 1 ≤ length lists

pub way : (facts : WorkKey → Fact) (es : List Element) (lists : List KeptList) (kept : KeptList) (k : ℕ) → Keeps facts es lists
    → kept ≡ get_or lists 0 kept → kept.progress.place ≡ Some k → Way facts es lists kept k
way facts es lists kept k keeps got at =
    let head = kept-head facts es keeps.0 lists keeps.1 kept keeps.2 got in
    let lt = place-within facts es keeps.0 k (sym (ap (λ (x : KeptList). x.progress.place) head) ∙ at) in
    let lengths = head-lengths facts es keeps.0 in
    let starts : length kept.starts ≡ length es = ap (λ (x : KeptList). length x.starts) head ∙ lengths.0 in
    let start : get_or kept.starts k 0 ≡ length (before_in facts es k) = ap (λ (x : KeptList). get_or x.starts k 0) head ∙ start-is facts es keeps.0 k 0 lt in
    let some : lists ≡ kept_of facts es keeps.0 ++ keeps.1 = keeps.2 in
    let l : length lists ≡ suc (length (joined (insides (states facts es)) ++ keeps.1)) = ap length some in
    let a = length-append (joined (insides (states facts es))) keeps.1 in
    let n = insides-length facts es in
    let b : length (joined (insides (states facts es))) ≡ length (before_in facts es k ++ (get_or (insides (states facts es)) k [] ++ behind_in facts es k)) =
    ap length (joined-at (insides (states facts es)) k [] (omega (arith, n, lt))) in
    let c = length-append (before_in facts es k) (get_or (insides (states facts es)) k [] ++ behind_in facts es k) in
    record {
      within = lt;
      in_starts = omega (arith, starts, lt);
      in_results = ap (λ (x : KeptList). length x.results) head ∙ lengths.1;
      start = start;
      room = omega (arith, start, l, a, b, c);
    }

-- the element itself is at hand
pub record Entered (facts : WorkKey → Fact) (es : List Element) (lists : List KeptList) (key : WorkKey) (kept : KeptList) (k : ℕ) (e : Element) : Type 0 where
  pub inside : KeepsInside facts e (drop (get_or kept.starts k 0 + 1) lists)
  pub shown : result_shows key (kept_element facts e).row.own_result ≡ true
  pub once : count_in key.element e ≤ 1
  pub place : Some k ≡ position (λ (x : Element). bytes_eq x.id e.id) es

pub entered : (facts : WorkKey → Fact) (es : List Element) (lists : List KeptList) (key : WorkKey) (kept : KeptList) (k : ℕ) (e : Element) → Keeps facts es lists
    → first_shows key lists ≡ true → count_of key.element es ≤ 1 → kept ≡ get_or lists 0 kept → kept.progress.place ≡ Some k → e ≡ get_or es k e
    → Entered facts es lists key kept k e
entered facts es lists key kept k e keeps shows_it once got at is =
    let from = keeps.0 in
    let rest = keeps.1 in
    let head = kept-head facts es from lists rest kept keeps.2 got in
    let shown = kept-shows facts es from lists rest key keeps.2 shows_it in
    let there = reached facts es from key k e shown (sym (ap (λ (x : KeptList). x.progress.place) head) ∙ at) in
    let lt : k < length es = there.within in
    let start = (way facts es lists kept k keeps got at).start in
    let inner = kept-inside facts es from lists rest k (get_or kept.starts k 0) e keeps.2 lt start in
    let part = within (count_in key.element) es k e lt in
    let less : count_in key.element (get_or es k e) ≤ 1 = omega (arith, part, once) in
    record {
      inside = (behind_in facts es k ++ rest, inner.0 ∙ ap (λ x. (kept_element facts x).inside ++ (behind_in facts es k ++ rest)) (sym is));
      shown = ap (λ x. result_shows key (kept_element facts x).row.own_result) is ∙ reached-shows facts es from key k e shown there;
      once = subst (λ x. count_in key.element x ≤ 1) (sym is) less;
      place = there.place ∙ ap (λ x. position (λ (y : Element). bytes_eq y.id x.id) es) (sym is);
    }

-- THE LIST'S LAW, from what stands at hand
pub became : (key : WorkKey) (facts later : WorkKey → Fact) → DifferAt key.element facts later → (es : List Element) (lists : List KeptList) (kept : KeptList) (k : ℕ) (e : Element)
    → first_shows key lists ≡ true → count_of key.element es ≤ 1 → kept ≡ get_or lists 0 kept → kept.progress.place ≡ Some k → e ≡ get_or es k e
    → (results : List ElementResult) → results ≡ kept.results
    → (r : ElementResult) → r ≡ (kept_element later e).row.own_result
    → (p : Progress) → p ≡ progress kept.progress.left (rows_by es (set results k r)) e.id
    → (others inner changes : List ListChange) (base start : ℕ) → start ≡ get_or kept.starts k 0
    → Puts others inner (base + (start + 1)) (kept_element facts e).inside (kept_element later e).inside
    → changes ≡ inner ++ change_by base p k r ∷ []
    → (value : Value) → value ≡ p.value
    → (from : List ℕ) (rest : List KeptList) → lists ≡ kept_of facts es from ++ rest
    → (value ≡ value_kept (tree_of later es from)) × Puts others changes base (kept_of facts es from) (kept_of later es from)
became key facts later differ es lists kept k e shows_it once got at is results those r comes p goes others inner changes base start begins puts pushed value copied from rest keeps =
    let head = kept-head facts es from lists rest kept keeps got in
    let shown = kept-shows facts es from lists rest key keeps shows_it in
    let place : (head_in facts es from).progress.place ≡ Some k = sym (ap (λ (x : KeptList). x.progress.place) head) ∙ at in
    let lt = place-within facts es from k place in
    let r2 : r ≡ (kept_element later (get_or es k e)).row.own_result = comes ∙ ap (λ x. (kept_element later x).row.own_result) is in
    let p2 : p ≡ progress (head_in facts es from).progress.left (rows_by es (set (head_in facts es from).results k r)) (get_or es k e).id =
    goes ∙ (ap (λ (x : KeptList). progress x.progress.left (rows_by es (set results k r)) e.id) head
    ∙ (ap (λ xs. progress (head_in facts es from).progress.left (rows_by es (set xs k r)) e.id) (those ∙ ap (λ (x : KeptList). x.results) head)
    ∙ ap (λ x. progress (head_in facts es from).progress.left (rows_by es (set (head_in facts es from).results k r)) x.id) is)) in
    let start2 : start ≡ length (before_in facts es k) = begins ∙ (ap (λ (x : KeptList). get_or x.starts k 0) head ∙ start-is facts es from k 0 lt) in
    let puts2 : Puts others inner (base + (start + 1)) (kept_element facts (get_or es k e)).inside (kept_element later (get_or es k e)).inside =
    subst (λ x. Puts others inner (base + (start + 1)) (kept_element facts x).inside (kept_element later x).inside) is puts in
    let law = list-becomes key facts later differ es from k e shown once place r r2 p p2 others inner base start start2 puts2 in
    (copied ∙ law.0, subst (λ xs. Puts others xs base (kept_of facts es from) (kept_of later es from)) (sym pushed) law.1)

-- facts that differ at a work key alone
pub learnt-apart : (known : List Known) (key : WorkKey) (fact : Fact) → DifferAt key.element (fact_of known) (facts_after known key fact)
learnt-apart known key fact other apart = put-others known key fact other (λ (same : key ≡ other). apart (ap (λ (k : WorkKey). k.element) (sym same)))

pub drop-length : {X : Type 0} (xs : List X) (n : ℕ) → n ≤ length xs → length (drop n xs) + n ≡ length xs
drop-length xs zero le = omega arith
drop-length [] (suc n) le = absurd (omega (arith, le))
drop-length (x ∷ xs) (suc n) le = let more = drop-length xs n (omega (arith, le)) in omega (arith, more)

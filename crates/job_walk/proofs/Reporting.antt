-- THE LAW OF A REPORT, one list of it: where a fact changes inside the element at which the list's walk stands, the walk goes on from there.
use Rattle.std.proofs.Common.{◌≡◌, ◌≢◌, ℕ, zero, suc, ◌<◌, Bool, true, false, cond, Option, None, Some, List, [], ◌∷◌, length, map, find, get_or, set, refl, sym, ◌∙◌, ap, arith, subst}
use Rattle.std.proofs.lemmas.List.{length-map}
use Rattle.std.proofs.lemmas.Option.{slice_get-get_or}
use Rattle.std.specs.Cmp.Lexicographic.{bytes_decides}
use Rattle.std.specs.Str.{bytes_eq}
use Rattle.jsl_model.specs.declared.element.Element.{Element}
use Rattle.walk_rules.specs.declared.facts.Fact.{Fact}
use Rattle.walk_rules.specs.declared.facts.Value.{Value}
use Rattle.walk_rules.specs.declared.element_result.ElementResult.{ElementResult}
use Rattle.walk_rules.specs.declared.element_result.ElementResult.TheVariants.{ListValue}
use Rattle.job_walk.specs.declared.kept_list.KeptList.{KeptList}
use Rattle.walk_rules.specs.declared.progress.Progress.{Progress}
use Rattle.walk_rules.specs.declared.work_key.WorkKey.{WorkKey}
use Rattle.walk_rules.specs.Walk.{WalkedElement, walked_element, value_of, follow}
use Rattle.job_walk.specs.KeptLists.{DifferAt, KeptElement, rows_in, insides, kept_element, kept_of}
use Rattle.walk_rules.specs.Standing.{rows_by, stands, progress, row_place}
use Rattle.walk_rules.specs.Counts.{count_in}
use Rattle.job_plans.proofs.Following.{walked_element-parts}
use Rattle.walk_rules.proofs.Stands.{is_row, list-moves, place-found}
use Rattle.job_walk.proofs.KeptTrees.{kept-row, kept-same}

abbrev pub states : (WorkKey → Fact) → List Element → List KeptElement
states facts es = map (kept_element facts) es

abbrev pub owns_in : List KeptElement → List ElementResult
owns_in all = map (λ (row : WalkedElement). row.own_result) (rows_in all)

-- one state changed
states-set : (id : List ℕ) (facts later : WorkKey → Fact) → DifferAt id facts later → (es : List Element) (k : ℕ) (d : Element) → k < length es
    → ((j : ℕ) → j ≢ k → j < length es → count_in id (get_or es j d) ≡ 0)
    → states later es ≡ set (states facts es) k (kept_element later (get_or es k d))
states-set id facts later differ [] k d lt others = absurd (omega (arith, lt))
states-set id facts later differ (e ∷ es) zero d lt others =
    ap (λ ss. kept_element later e ∷ ss) (rest es (λ j below. others (suc j) (omega arith) (omega (arith, below))))
  where
    rest : (xs : List Element) → ((j : ℕ) → j < length xs → count_in id (get_or xs j d) ≡ 0) → states later xs ≡ states facts xs
    rest [] none = refl
    rest (x ∷ xs) none =
        ap (λ s. s ∷ states later xs) (kept-same id facts later differ x (none 0 (omega arith)))
        ∙ ap (λ ss. kept_element facts x ∷ ss) (rest xs (λ j below. none (suc j) (omega (arith, below))))
states-set id facts later differ (e ∷ es) (suc k) d lt others =
    ap (λ s. s ∷ states later es) (kept-same id facts later differ e (others 0 (omega arith) (omega arith)))
    ∙ ap (λ ss. kept_element facts e ∷ ss)
    (states-set id facts later differ es k d (omega (arith, lt)) (λ j apart below. others (suc j) (λ same. apart (omega (arith, same))) (omega (arith, below))))

map-set : {A B : Type 0} (f : A → B) (xs : List A) (k : ℕ) (y : A) → map f (set xs k y) ≡ set (map f xs) k (f y)
map-set f [] k y = refl
map-set f (x ∷ xs) zero y = refl
map-set f (x ∷ xs) (suc k) y = ap (λ ys. f x ∷ ys) (map-set f xs k y)

-- the rows of elements, by what each comes to by itself
pub rows-self : (facts : WorkKey → Fact) (es : List Element) → rows_in (states facts es) ≡ rows_by es (owns_in (states facts es))
rows-self facts [] = refl
rows-self facts (e ∷ es) =
    let row = (kept_element facts e).row in
    let is = kept-row facts e ∙ walked_element-parts facts e in
    let whole : row ≡ record { id = e.id; next = e.next; transitions = e.transitions; own_result = row.own_result } =
    is ∙ ap (λ o. record { id = e.id; next = e.next; transitions = e.transitions; own_result = o }) (sym (ap (λ (r : WalkedElement). r.own_result) is)) in
    ap (λ (r : WalkedElement). r ∷ rows_in (states facts es)) whole
    ∙ ap (λ rs. record { id = e.id; next = e.next; transitions = e.transitions; own_result = row.own_result } ∷ rs) (rows-self facts es)

abbrev pub Passes : {X : Type 0} → (X → Bool) → Option X → Type 0
Passes p None = Unit {0}
Passes p (Some x) = p x ≡ true

pub find-passes : {X : Type 0} (p : X → Bool) (xs : List X) → Passes p (find p xs)
find-passes p [] = tt
find-passes p (x ∷ xs) =
    (elim (p x) as (λ b. p x ≡ b → Passes p (cond b (Some x) (find p xs))) [
      | true ↦ λ e. e
      | false ↦ λ e. find-passes p xs
    ]) refl

row-id : (es : List Element) (owns : List ElementResult) (k : ℕ) (d : Element) (e : WalkedElement) → k < length (rows_by es owns) → (get_or (rows_by es owns) k e).id ≡ (get_or es k d).id
row-id [] owns k d e lt = absurd (omega (arith, lt))
row-id (x ∷ es) [] k d e lt = absurd (omega (arith, lt))
row-id (x ∷ es) (o ∷ owns) zero d e lt = refl
row-id (x ∷ es) (o ∷ owns) (suc k) d e lt = row-id es owns k d e (omega (arith, lt))

row-own : (es : List Element) (owns : List ElementResult) (k : ℕ) (d : ElementResult) (e : WalkedElement) → k < length (rows_by es owns) → (get_or (rows_by es owns) k e).own_result ≡ get_or owns k d
row-own [] owns k d e lt = absurd (omega (arith, lt))
row-own (x ∷ es) [] k d e lt = absurd (omega (arith, lt))
row-own (x ∷ es) (o ∷ owns) zero d e lt = refl
row-own (x ∷ es) (o ∷ owns) (suc k) d e lt = row-own es owns k d e (omega (arith, lt))

some-is : {X : Type 0} (x y : X) → Some x ≡ Some y → x ≡ y
some-is x y e = cc

-- the walk goes on from the place at which it stands
from-there : (es : List Element) (owns : List ElementResult) (n : ℕ) (from : List ℕ) (k : ℕ) (d : Element) (dr : WalkedElement) (own : ElementResult) (v : Value)
    → row_place (rows_by es owns) (stands n (rows_by es owns) from).id ≡ Some k → get_or owns k own ≡ ListValue v
    → progress n (rows_by es (set owns k own)) from ≡ progress (stands n (rows_by es owns) from).left (rows_by es (set owns k own)) (get_or es k d).id
from-there es owns n from k d dr own v at halts =
    let rows = rows_by es owns in
    let s = stands n rows from in
    let place = place-found (is_row s.id) rows k at in
    let found : find (is_row s.id) rows ≡ Some (get_or rows k dr) = place.1 ∙ slice_get-get_or rows k dr place.0 in
    let passes : bytes_eq (get_or rows k dr).id s.id ≡ true = subst (Passes (is_row s.id)) found (find-passes (is_row s.id) rows) in
    let named : (get_or rows k dr).id ≡ s.id = (bytes_decides (get_or rows k dr).id s.id).0 passes in
    let is : s.id ≡ (get_or es k d).id = sym named ∙ row-id es owns k d dr place.0 in
    list-moves es owns n from k d own v is
    (λ row got.
    let same : get_or rows k dr ≡ row = some-is _ _ (sym found ∙ (ap (λ i. find (is_row i) rows) is ∙ got)) in
    ap (λ (r : WalkedElement). r.own_result) (sym same) ∙ (row-own es owns k own dr place.0 ∙ halts))

-- THE LAW: what a list has come to, what its elements come to by themselves and what is kept inside them, where a fact changes inside the element
-- at which the list's walk stands. `left` and `owns` are what is kept of the list
pub list-reported : (id : List ℕ) (facts later : WorkKey → Fact) → DifferAt id facts later → (es : List Element) (from : List ℕ) (k : ℕ) (d : Element) (dr : WalkedElement) (v : Value)
    → k < length es
    → ((j : ℕ) → j ≢ k → j < length es → count_in id (get_or es j d) ≡ 0)
    → (progress (length (rows_in (states facts es))) (rows_in (states facts es)) from).place ≡ Some k
    → get_or (owns_in (states facts es)) k (kept_element later (get_or es k d)).row.own_result ≡ ListValue v
    → (progress (length (rows_in (states later es))) (rows_in (states later es)) from
    ≡ progress (progress (length (rows_in (states facts es))) (rows_in (states facts es)) from).left
    (rows_by es (set (owns_in (states facts es)) k (kept_element later (get_or es k d)).row.own_result)) (get_or es k d).id)
    × (owns_in (states later es) ≡ set (owns_in (states facts es)) k (kept_element later (get_or es k d)).row.own_result)
    × (insides (states later es) ≡ set (insides (states facts es)) k (kept_element later (get_or es k d)).inside)
list-reported id facts later differ es from k d dr v lt others at halts =
    let new = kept_element later (get_or es k d) in
    let changed = states-set id facts later differ es k d lt others in
    let owns = owns_in (states facts es) in
    let owns2 : owns_in (states later es) ≡ set owns k new.row.own_result =
    ap owns_in changed ∙ (ap (λ rs. map (λ (row : WalkedElement). row.own_result) rs) (map-set (λ (s : KeptElement). s.row) (states facts es) k new)
    ∙ map-set (λ (row : WalkedElement). row.own_result) (rows_in (states facts es)) k new.row) in
    let inside2 : insides (states later es) ≡ set (insides (states facts es)) k new.inside =
    ap insides changed ∙ map-set (λ (s : KeptElement). s.inside) (states facts es) k new in
    let n : length (rows_in (states facts es)) ≡ length es = length-map (states facts es) (λ (s : KeptElement). s.row) ∙ length-map es (kept_element facts) in
    let n2 : length (rows_in (states later es)) ≡ length es = length-map (states later es) (λ (s : KeptElement). s.row) ∙ length-map es (kept_element later) in
    let rows : rows_in (states facts es) ≡ rows_by es owns = rows-self facts es in
    let rows2 : rows_in (states later es) ≡ rows_by es (set owns k new.row.own_result) = rows-self later es ∙ ap (rows_by es) owns2 in
    let old : progress (length (rows_in (states facts es))) (rows_in (states facts es)) from ≡ progress (length es) (rows_by es owns) from =
    ap (λ m. progress m (rows_in (states facts es)) from) n ∙ ap (λ rs. progress (length es) rs from) rows in
    let stands-there : (progress (length es) (rows_by es owns) from).place ≡ Some k = ap (λ (s : Progress). s.place) (sym old) ∙ at in
    let goes = from-there es owns (length es) from k d dr new.row.own_result v stands-there halts in (
      ap (λ m. progress m (rows_in (states later es)) from) n2
          ∙ (ap (λ rs. progress (length es) rs from) rows2
          ∙ (goes
          ∙ ap (λ (s : Progress). progress s.left (rows_by es (set owns k new.row.own_result)) (get_or es k d).id) (sym old))),
      owns2,
      inside2,
    )

rows-of : (facts : WorkKey → Fact) (es : List Element) → rows_in (states facts es) ≡ map (walked_element facts) es
rows-of facts [] = refl
rows-of facts (e ∷ es) = ap (λ (r : WalkedElement). r ∷ rows_in (states facts es)) (kept-row facts e) ∙ ap (λ rs. walked_element facts e ∷ rs) (rows-of facts es)

-- the value that is kept of a list is the walk's
pub value_is_kept : (facts : WorkKey → Fact) (es : List Element) (from : List ℕ) (lists : List KeptList) (d : KeptList) → lists ≡ kept_of facts es from
    → ((get_or lists 0 d).progress.value ≡ value_of facts es from) × (0 < length lists)
value_is_kept facts es from lists d is =
    let first : (get_or lists 0 d).progress.value ≡ follow (length (rows_in (states facts es))) (rows_in (states facts es)) from = ap (λ (ls : List KeptList). (get_or ls 0 d).progress.value) is in
    let count : length lists ≡ length (kept_of facts es from) = ap length is in
    (first ∙ ap (λ rs. follow (length rs) rs from) (rows-of facts es), omega (arith, count))

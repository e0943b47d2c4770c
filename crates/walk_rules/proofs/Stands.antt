-- Where a walk over a list stands, and what becomes of it when the element there changes.
use Rattle.std.proofs.Common.{◌≡◌, ℕ, zero, suc, ◌+◌, ◌-◌, ◌<◌, ◌≤◌, not, Bool, true, false, cond, Option, None, Some, List, [], ◌∷◌, length, find, get_or, set, refl, sym, ◌∙◌, ap, arith, subst}
use Rattle.std.specs.List.{position, position_or_len, prefix_len, slice_get}
use Rattle.std.proofs.lemmas.Bool.{ltb-true, ltb-false}
use Rattle.walk_rules.specs.declared.progress.Progress.{Progress}
use Rattle.std.proofs.lemmas.List.Folds.{find_at}
use Rattle.std.proofs.lemmas.Option.{slice_get_past}
use Rattle.std.specs.Cmp.Lexicographic.{bytes_decides}
use Rattle.std.specs.Str.{bytes_eq}
use Rattle.batch_ids.specs.declared.status.WorkOutcome.{WorkOutcome}
use Rattle.batch_ids.specs.declared.status.WorkOutcome.TheVariants.{Completed, Failed, Stopped}
use Rattle.jsl_model.specs.declared.element.Then.{Then}
use Rattle.jsl_model.specs.declared.element.Then.TheVariants.{Next, End, Fail, Stop}
use Rattle.jsl_model.specs.declared.element.Transition.{Transition}
use Rattle.jsl_model.specs.declared.element.Element.{Element}
use Rattle.transitions.specs.Transitions.{matching_transition}
use Rattle.walk_rules.specs.declared.continuation.Continuation.{Continuation}
use Rattle.walk_rules.specs.declared.continuation.Continuation.TheVariants.{AtElement, WithValue}
use Rattle.walk_rules.specs.declared.facts.Value.{Value}
use Rattle.walk_rules.specs.declared.facts.Value.TheVariants.{Done}
use Rattle.walk_rules.specs.declared.element_result.ElementResult.{ElementResult}
use Rattle.walk_rules.specs.declared.element_result.ElementResult.TheVariants.{ListValue, Outcome}
use Rattle.walk_rules.specs.declared.work_key.WorkKey.{WorkKey}
use Rattle.walk_rules.specs.Walk.{WalkedElement, value_after_outcome, value_by_transition, value_of_continuation, follow, value_by_result, value_at}
use Rattle.walk_rules.specs.Standing.{Stand, stand_by_continuation, stand_by_result, stand_at, stands, row_place, rows_by, progress}
use Rattle.walk_rules.specs.Continuations.{continuation_of, continuation_by}
use Rattle.walk_rules.specs.Shown.{shows}

-- ---- Where a list goes

taken-value_of_continuation : (on : List ℕ → Value) (then : Then) → value_by_transition on then ≡ value_of_continuation on (continuation_by then)
taken-value_of_continuation on (Next to) = refl
taken-value_of_continuation on (End exit) = refl
taken-value_of_continuation on (Fail exit) = refl
taken-value_of_continuation on (Stop exit point) = refl

pub goes-value_of_continuation : (on : List ℕ → Value) (next : Option (List ℕ)) (t : Option Transition) (o : WorkOutcome) (x : List ℕ)
    → value_after_outcome on next t o x ≡ value_of_continuation on (continuation_of next t o x)
goes-value_of_continuation on next None Stopped x = refl
goes-value_of_continuation on next (Some t) Stopped x = refl
goes-value_of_continuation on next (Some t) Completed x = taken-value_of_continuation on t.then
goes-value_of_continuation on next (Some t) Failed x = taken-value_of_continuation on t.then
goes-value_of_continuation on next None Failed x = refl
goes-value_of_continuation on (Some to) None Completed x = refl
goes-value_of_continuation on None None Completed x = refl

-- an end shows nothing
abbrev pub TurnHides : WorkKey → Continuation → Type 0
TurnHides id (AtElement to) = Unit {0}
TurnHides id (WithValue v) = shows id v ≡ false

taken-hides : (id : WorkKey) (then : Then) → TurnHides id (continuation_by then)
taken-hides id (Next to) = tt
taken-hides id (End exit) = refl
taken-hides id (Fail exit) = refl
taken-hides id (Stop exit point) = refl

pub turn-hides : (id : WorkKey) (next : Option (List ℕ)) (t : Option Transition) (o : WorkOutcome) (x : List ℕ) → TurnHides id (continuation_of next t o x)
turn-hides id next None Stopped x = refl
turn-hides id next (Some t) Stopped x = refl
turn-hides id next (Some t) Completed x = taken-hides id t.then
turn-hides id next (Some t) Failed x = taken-hides id t.then
turn-hides id next None Failed x = refl
turn-hides id (Some to) None Completed x = tt
turn-hides id None None Completed x = refl

-- ---- Places

abbrev pub IsPlace : {X : Type 0} → (X → Bool) → List X → ℕ → Type 0
IsPlace {X = X} p xs k = (k < length xs) × (find p xs ≡ slice_get xs k)

cond-some : (b : Bool) (n k : ℕ) → cond b (Some n) None ≡ Some k → (b ≡ true) × (n ≡ k)
cond-some true n k e = (refl, cc)
cond-some false n k e = cc

pub place-found : {X : Type 0} (p : X → Bool) (xs : List X) (k : ℕ) → position p xs ≡ Some k → IsPlace p xs k
place-found p xs k e =
    let parts = cond-some _ (position_or_len p xs) k e in
    let is : position_or_len p xs ≡ k = parts.1 in
    let lt : position_or_len p xs < length xs = ltb-true _ _ parts.0 in
    (omega (arith, lt, is), find_at p xs ∙ ap (slice_get xs) is)

cond-none : (b : Bool) (n : ℕ) → cond b (Some n) None ≡ None → b ≡ false
cond-none true n e = cc
cond-none false n e = refl

pub place-none : {X : Type 0} (p : X → Bool) (xs : List X) → position p xs ≡ None → find p xs ≡ None
place-none p xs e =
    let past : length xs ≤ position_or_len p xs = ltb-false _ _ (cond-none _ (position_or_len p xs) e) in
    find_at p xs ∙ slice_get_past xs (position_or_len p xs) past

-- ---- One element further

pub follow-suc : (rows : List WalkedElement) (id : List ℕ) (n i : ℕ) → i < n
    → follow (n - i) rows id ≡ value_at (follow (n - (i + 1)) rows) (find (λ (row : WalkedElement). bytes_eq row.id id) rows)
follow-suc rows id n i lt = let e : n - i ≡ suc (n - (i + 1)) = omega arith in rw e refl

pub stands-suc : (rows : List WalkedElement) (id : List ℕ) (n i : ℕ) → i < n
    → stands (n - i) rows id ≡ stand_at record { id = id; left = n - i } (stands (n - (i + 1)) rows) (find (λ (row : WalkedElement). bytes_eq row.id id) rows)
stands-suc rows id n i lt = let e : n - i ≡ suc (n - (i + 1)) = omega arith in rw e refl

-- ---- What a walk shows, it shows where it stands

abbrev pub is_row : List ℕ → WalkedElement → Bool
is_row id row = bytes_eq row.id id

abbrev pub StandsAt : List WalkedElement → Value → List ℕ → Type 0
StandsAt rows v id = (row : WalkedElement) × (find (is_row id) rows ≡ Some row) × (row.own_result ≡ ListValue v)

shown-turn : (x : WorkKey) (id : List ℕ) (rows : List WalkedElement) (on : List ℕ → Value) (onward : List ℕ → Stand) (here : Stand)
    → ((to : List ℕ) → shows x (on to) ≡ true → StandsAt rows (on to) (onward to).id) → (turn : Continuation) → TurnHides x turn
    → shows x (value_of_continuation on turn) ≡ true → StandsAt rows (value_of_continuation on turn) (stand_by_continuation here onward turn).id
shown-turn x id rows on onward here h (AtElement to) hides shown = h to shown
shown-turn x id rows on onward here h (WithValue v) hides shown = cc

shown-own : (x : WorkKey) (id : List ℕ) (rows : List WalkedElement) (on : List ℕ → Value) (onward : List ℕ → Stand) (here : Stand)
    → ((to : List ℕ) → shows x (on to) ≡ true → StandsAt rows (on to) (onward to).id) → (row : WalkedElement) → find (is_row here.id) rows ≡ Some row
    → (own : ElementResult) → row.own_result ≡ own
    → shows x (value_by_result on row own) ≡ true → StandsAt rows (value_by_result on row own) (stand_by_result here onward row own).id
shown-own x id rows on onward here h row found (ListValue v) is shown = (row, found, is)
shown-own x id rows on onward here h row found (Outcome o e) is shown =
    let same = goes-value_of_continuation on row.next (matching_transition row.transitions e) o e in
    let P : Value → Type 0 = λ v. StandsAt rows v (stand_by_result here onward row (Outcome o e)).id in
    subst P (sym same)
    (shown-turn x id rows on onward here h (continuation_of row.next (matching_transition row.transitions e) o e) (turn-hides x row.next (matching_transition row.transitions e) o e)
    (ap (shows x) (sym same) ∙ shown))

shown-at : (x : WorkKey) (id : List ℕ) (rows : List WalkedElement) (on : List ℕ → Value) (onward : List ℕ → Stand) (here : Stand)
    → ((to : List ℕ) → shows x (on to) ≡ true → StandsAt rows (on to) (onward to).id) → (o : Option WalkedElement) → find (is_row here.id) rows ≡ o
    → shows x (value_at on o) ≡ true → StandsAt rows (value_at on o) (stand_at here onward o).id
shown-at x id rows on onward here h None found shown = cc
shown-at x id rows on onward here h (Some row) found shown = shown-own x id rows on onward here h row found row.own_result refl shown

pub shown-stands : (x : WorkKey) (rows : List WalkedElement) (n : ℕ) (id : List ℕ) → shows x (follow n rows id) ≡ true
    → StandsAt rows (follow n rows id) (stands n rows id).id
shown-stands x rows zero id shown = cc
shown-stands x rows (suc n) id shown =
    shown-at x id rows (follow n rows) (stands n rows) record { id = id; left = suc n } (λ to s. shown-stands x rows n to s) (find (is_row id) rows) refl shown

-- ---- Where an element that halts its list changes, the walk comes to it as before

abbrev pub Goes : List WalkedElement → ℕ → List ℕ → Stand → Type 0
Goes rows2 n id s = (stands n rows2 id ≡ stands s.left rows2 s.id) × (follow n rows2 id ≡ follow s.left rows2 s.id)

-- the walk over the rows before ends at this row, and the rows after differ from them there alone
pub record Differ (rows rows2 : List WalkedElement) (last : List ℕ) (v : Value) : Type 0 where
  pub progress : (row : WalkedElement) → find (is_row last) rows ≡ Some row → row.own_result ≡ ListValue v
  pub same : (q : List ℕ) → bytes_eq last q ≡ false → find (is_row q) rows2 ≡ find (is_row q) rows

not-true : (b : Bool) → (b ≡ true → ⊥) → b ≡ false
not-true true h = absurd (h refl)
not-true false h = refl

some-same : {X : Type 0} (x y : X) → Some x ≡ Some y → x ≡ y
some-same x y e = cc

halts-came : (v : Value) (o : WorkOutcome) (x : List ℕ) → ListValue v ≡ Outcome o x → ⊥
halts-came v o x e = cc

abbrev Moves : List WalkedElement → List WalkedElement → Value → ℕ → Type 0
Moves rows rows2 v m = (id : List ℕ) → Differ rows rows2 (stands m rows id).id v → Goes rows2 m id (stands m rows id)

moved-came : (rows rows2 : List WalkedElement) (v : Value) (m : ℕ) → Moves rows rows2 v m → (id : List ℕ) (row : WalkedElement) → find (is_row id) rows ≡ Some row → (o : WorkOutcome) (x : List ℕ) → row.own_result ≡ Outcome o x
    → (turn : Continuation) → continuation_of row.next (matching_transition row.transitions x) o x ≡ turn
    → Differ rows rows2 (stand_by_continuation record { id = id; left = suc m } (stands m rows) turn).id v
    → Goes rows2 (suc m) id (stand_by_continuation record { id = id; left = suc m } (stands m rows) turn)
moved-came rows rows2 v m h id row found o x is (WithValue w) turn d = (refl, refl)
moved-came rows rows2 v m h id row found o x is (AtElement to) turn d =
    let last = (stands m rows to).id in
    let away : bytes_eq last id ≡ false =
    not-true _ (λ (e : bytes_eq last id ≡ true).
    let same : last ≡ id = (bytes_decides last id).0 e in
    halts-came v o x (sym (d.progress row (ap (λ i. find (is_row i) rows) same ∙ found)) ∙ is)) in
    let found2 : find (is_row id) rows2 ≡ Some row = d.same id away ∙ found in
    let s : stands (suc m) rows2 id ≡ stands m rows2 to =
    ap (stand_at record { id = id; left = suc m } (stands m rows2)) found2
    ∙ (ap (stand_by_result record { id = id; left = suc m } (stands m rows2) row) is
    ∙ ap (stand_by_continuation record { id = id; left = suc m } (stands m rows2)) turn) in
    let f : follow (suc m) rows2 id ≡ follow m rows2 to =
    ap (value_at (follow m rows2)) found2
    ∙ (ap (value_by_result (follow m rows2) row) is
    ∙ (goes-value_of_continuation (follow m rows2) row.next (matching_transition row.transitions x) o x
    ∙ ap (value_of_continuation (follow m rows2)) turn)) in
    let further = h to d in
    (s ∙ further.0, f ∙ further.1)

moved-own : (rows rows2 : List WalkedElement) (v : Value) (m : ℕ) → Moves rows rows2 v m → (id : List ℕ) (row : WalkedElement) → find (is_row id) rows ≡ Some row → (own : ElementResult) → row.own_result ≡ own
    → Differ rows rows2 (stand_by_result record { id = id; left = suc m } (stands m rows) row own).id v
    → Goes rows2 (suc m) id (stand_by_result record { id = id; left = suc m } (stands m rows) row own)
moved-own rows rows2 v m h id row found (ListValue w) is d = (refl, refl)
moved-own rows rows2 v m h id row found (Outcome o x) is d =
    moved-came rows rows2 v m h id row found o x is (continuation_of row.next (matching_transition row.transitions x) o x) refl d

moved-at : (rows rows2 : List WalkedElement) (v : Value) (m : ℕ) → Moves rows rows2 v m → (id : List ℕ) (o : Option WalkedElement) → find (is_row id) rows ≡ o
    → Differ rows rows2 (stand_at record { id = id; left = suc m } (stands m rows) o).id v
    → Goes rows2 (suc m) id (stand_at record { id = id; left = suc m } (stands m rows) o)
moved-at rows rows2 v m h id None found d = (refl, refl)
moved-at rows rows2 v m h id (Some row) found d = moved-own rows rows2 v m h id row found row.own_result refl d

pub moved : (rows rows2 : List WalkedElement) (v : Value) (n : ℕ) (id : List ℕ) → Differ rows rows2 (stands n rows id).id v
    → Goes rows2 n id (stands n rows id)
moved rows rows2 v zero id d = (refl, refl)
moved rows rows2 v (suc m) id d = moved-at rows rows2 v m (moved rows rows2 v m) id (find (is_row id) rows) refl d

-- ---- Rows of elements that came to these by themselves

first-by : (p : WalkedElement → Bool) (q : Element → Bool) → ((e : Element) (own : ElementResult) → p record { id = e.id; next = e.next; transitions = e.transitions; own_result = own } ≡ q e)
    → (es : List Element) (owns : List ElementResult) → length owns ≡ length es → (prefix_len p (rows_by es owns) ≡ prefix_len q es) × (length (rows_by es owns) ≡ length es)
first-by p q same [] owns l = (refl, refl)
first-by p q same (e ∷ es) [] l = absurd (omega (arith, l))
first-by p q same (e ∷ es) (own ∷ owns) l =
    let more = first-by p q same es owns (omega (arith, l)) in
    (ap (λ b. cond b (1 + prefix_len p (rows_by es owns)) 0) (same e own) ∙ ap (λ n. cond (q e) (1 + n) 0) more.0, let is = more.1 in omega (arith, is))

pub row_place-by : (es : List Element) (owns : List ElementResult) (id : List ℕ) → length owns ≡ length es
    → row_place (rows_by es owns) id ≡ position (λ (e : Element). bytes_eq e.id id) es
row_place-by es owns id l =
    let both = first-by (λ row. not (bytes_eq row.id id)) (λ e. not (bytes_eq e.id id)) (λ e own. refl) es owns l in
    let one : prefix_len (λ (row : WalkedElement). not (bytes_eq row.id id)) (rows_by es owns) ≡ prefix_len (λ (e : Element). not (bytes_eq e.id id)) es = both.0 in
    let two : length (rows_by es owns) ≡ length es = both.1 in
    rw one (rw two refl)

row-get : (es : List Element) (owns : List ElementResult) (k : ℕ) (e : Element) (own : ElementResult) → length owns ≡ length es → k < length es → e ≡ get_or es k e → own ≡ get_or owns k own
    → slice_get (rows_by es owns) k ≡ Some record { id = e.id; next = e.next; transitions = e.transitions; own_result = own }
row-get [] owns k e own l lt is was = absurd (omega (arith, lt))
row-get (x ∷ es) [] k e own l lt is was = absurd (omega (arith, l))
row-get (x ∷ es) (y ∷ owns) zero e own l lt is was = cc (is, was)
row-get (x ∷ es) (y ∷ owns) (suc k) e own l lt is was = row-get es owns k e own (omega (arith, l)) (omega (arith, lt)) is was

pub here-row : (es : List Element) (owns : List ElementResult) (id : List ℕ) (k : ℕ) (e : Element) (own : ElementResult) → length owns ≡ length es
    → position (λ (e : Element). bytes_eq e.id id) es ≡ Some k → e ≡ get_or es k e → own ≡ get_or owns k own
    → find (is_row id) (rows_by es owns) ≡ Some record { id = e.id; next = e.next; transitions = e.transitions; own_result = own }
here-row es owns id k e own l at is was =
    (place-found (is_row id) (rows_by es owns) k (row_place-by es owns id l ∙ at)).1
    ∙ row-get es owns k e own l (place-found (λ (e : Element). bytes_eq e.id id) es k at).0 is was

-- ---- What a walk has come to at an element

abbrev stood_by : Value → Option ℕ → ℕ → Progress
stood_by v a l = record { value = v; place = a; left = l }

progress-made : (v v2 : Value) (a a2 : Option ℕ) (l l2 : ℕ) → v ≡ v2 → a ≡ a2 → l ≡ l2 → stood_by v a l ≡ stood_by v2 a2 l2
progress-made v v2 a a2 l l2 e f g = ap (λ x. stood_by x a l) e ∙ (ap (λ x. stood_by v2 x l) f ∙ ap (λ x. stood_by v2 a2 x) g)

pub progress-here : (es : List Element) (owns : List ElementResult) (from id : List ℕ) (n i : ℕ) (v : Value) (a : Option ℕ) → length owns ≡ length es
    → a ≡ position (λ (e : Element). bytes_eq e.id id) es
    → follow (n - i) (rows_by es owns) id ≡ follow n (rows_by es owns) from
    → stands (n - i) (rows_by es owns) id ≡ stands n (rows_by es owns) from
    → follow (n - i) (rows_by es owns) id ≡ v → stands (n - i) (rows_by es owns) id ≡ record { id = id; left = n - i }
    → record { value = v; place = a; left = n - i } ≡ progress n (rows_by es owns) from
progress-here es owns from id n i v a l at followed stood_so came here =
    let last : stands n (rows_by es owns) from ≡ record { id = id; left = n - i } = sym stood_so ∙ here in
    progress-made v _ a _ (n - i) _ (sym came ∙ followed)
    (at ∙ (sym (row_place-by es owns id l) ∙ ap (λ (s : Stand). row_place (rows_by es owns) s.id) (sym last)))
    (ap (λ (s : Stand). s.left) (sym last))

pub none-here : (es : List Element) (owns : List ElementResult) (id : List ℕ) (n i : ℕ) → length owns ≡ length es → i < n → position (λ (e : Element). bytes_eq e.id id) es ≡ None
    → (follow (n - i) (rows_by es owns) id ≡ Done []) × (stands (n - i) (rows_by es owns) id ≡ record { id = id; left = n - i })
none-here es owns id n i l lt at =
    let none : find (is_row id) (rows_by es owns) ≡ None = place-none (is_row id) (rows_by es owns) (row_place-by es owns id l ∙ at) in (
      follow-suc (rows_by es owns) id n i lt ∙ ap (value_at (follow (n - (i + 1)) (rows_by es owns))) none,
      stands-suc (rows_by es owns) id n i lt ∙ ap (stand_at record { id = id; left = n - i } (stands (n - (i + 1)) (rows_by es owns))) none,
    )

pub halts-here : (rows : List WalkedElement) (id : List ℕ) (n i : ℕ) (row : WalkedElement) (v : Value) → i < n → find (is_row id) rows ≡ Some row → row.own_result ≡ ListValue v
    → (follow (n - i) rows id ≡ v) × (stands (n - i) rows id ≡ record { id = id; left = n - i })
halts-here rows id n i row v lt found is =
    let on = follow (n - (i + 1)) rows in
    let onward = stands (n - (i + 1)) rows in (
      follow-suc rows id n i lt ∙ (ap (value_at on) found ∙ ap (value_by_result on row) is),
      stands-suc rows id n i lt ∙ (ap (stand_at record { id = id; left = n - i } onward) found ∙ ap (stand_by_result record { id = id; left = n - i } onward row) is),
    )

pub turns-here : (rows : List WalkedElement) (id : List ℕ) (n i : ℕ) (row : WalkedElement) (o : WorkOutcome) (x : List ℕ) (turn : Continuation) → i < n
    → find (is_row id) rows ≡ Some row → row.own_result ≡ Outcome o x → turn ≡ continuation_of row.next (matching_transition row.transitions x) o x
    → (follow (n - i) rows id ≡ value_of_continuation (follow (n - (i + 1)) rows) turn)
    × (stands (n - i) rows id ≡ stand_by_continuation record { id = id; left = n - i } (stands (n - (i + 1)) rows) turn)
turns-here rows id n i row o x turn lt found is leads =
    let on = follow (n - (i + 1)) rows in
    let onward = stands (n - (i + 1)) rows in (
      follow-suc rows id n i lt ∙ (ap (value_at on) found ∙ (ap (value_by_result on row) is ∙ (goes-value_of_continuation on row.next (matching_transition row.transitions x) o x ∙ ap (value_of_continuation on) (sym leads)))),
      stands-suc rows id n i lt
          ∙ (ap (stand_at record { id = id; left = n - i } onward) found
          ∙ (ap (stand_by_result record { id = id; left = n - i } onward row) is
          ∙ ap (stand_by_continuation record { id = id; left = n - i } onward) (sym leads))),
    )

pub end-here : (rows : List WalkedElement) (id : List ℕ) (n i : ℕ) → n ≤ i
    → (follow (n - i) rows id ≡ Done []) × (stands (n - i) rows id ≡ record { id = id; left = n - i })
end-here rows id n i le = let e : n - i ≡ 0 = omega arith in (rw e refl, rw e refl)

-- ---- THE LIST'S LAW: where what one element comes to by itself changes, and the list's walk stands at it, the walk goes on from it

by-set : (es : List Element) (owns : List ElementResult) (k : ℕ) (d : Element) (own : ElementResult) (q : List ℕ) → bytes_eq (get_or es k d).id q ≡ false
    → find (is_row q) (rows_by es (set owns k own)) ≡ find (is_row q) (rows_by es owns)
by-set [] owns k d own q away = refl
by-set (e ∷ es) [] k d own q away = refl
by-set (e ∷ es) (o ∷ owns) zero d own q away = rw away refl
by-set (e ∷ es) (o ∷ owns) (suc k) d own q away =
    ap (λ (r : Option WalkedElement). cond (bytes_eq e.id q) (Some record { id = e.id; next = e.next; transitions = e.transitions; own_result = o }) r) (by-set es owns k d own q away)

pub list-moves : (es : List Element) (owns : List ElementResult) (n : ℕ) (from : List ℕ) (k : ℕ) (d : Element) (own : ElementResult) (v : Value)
    → (stands n (rows_by es owns) from).id ≡ (get_or es k d).id
    → ((row : WalkedElement) → find (is_row (get_or es k d).id) (rows_by es owns) ≡ Some row → row.own_result ≡ ListValue v)
    → progress n (rows_by es (set owns k own)) from ≡ progress (stands n (rows_by es owns) from).left (rows_by es (set owns k own)) (get_or es k d).id
list-moves es owns n from k d own v is halts =
    let rows = rows_by es owns in
    let rows2 = rows_by es (set owns k own) in
    let s = stands n rows from in
    let m = moved rows rows2 v n from record {
      progress = λ row found. halts row (ap (λ i. find (is_row i) rows) (sym is) ∙ found);
      same = λ q away. by-set es owns k d own q (ap (λ i. bytes_eq i q) (sym is) ∙ away);
    } in
    (progress-made _ _ _ _ _ _ m.1 (ap (λ (t : Stand). row_place rows2 t.id) m.0) (ap (λ (t : Stand). t.left) m.0))
    ∙ ap (progress s.left rows2) is

-- Stop words are stored and read.
use Rattle.std.proofs.Common.{◌≡◌, ◌⊎◌, ℕ, zero, suc, ◌<◌, List, [], ◌∷◌, map, length, set, refl, ap, sym, ◌∙◌, subst, arith, inl, inr, ⊎_elim, length-set}
use Rattle.std.proofs.lemmas.List.{set-get_or}
use Rattle.std.specs.Prelude.{slice_index}
use Rattle.atomic_table.specs.Table.{Me, keeps, Allows}
use Rattle.batch_history.specs.declared.call.Entry.{Entry}
use Rattle.jsl_model.specs.Jobs.{JobTree}
use Rattle.seat_rules.specs.Places.{Known}
use Rattle.seat_rules.specs.Rule.{IsSessionOf, IsShown, Kept}
use Rattle.seat_rules.specs.Steps.{Raised, Stopped}
use Rattle.seat_rules.specs.Views.{Each, HasStop, desk_view, fresh_with, stopped_at, view_of}
use Rattle.seat_rules.specs.declared.view.SeatView.{SeatView}
use Rattle.seat_rules.proofs.Sums.{sum_set, each-map, times_map}
use Rattle.seat_rules.proofs.Keeping.{books_in, nothing, seats_in, shown_set}

set_index : (ws : List ℕ) (i k x : ℕ) → ((slice_index (set ws i x) k ≡ x) × (k ≡ i)) ⊎ (slice_index (set ws i x) k ≡ slice_index ws k)
set_index [] i k x = inr refl
set_index (w ∷ ws) zero zero x = inl (refl, refl)
set_index (w ∷ ws) zero (suc k) x = inr refl
set_index (w ∷ ws) (suc i) zero x = inr refl
set_index (w ∷ ws) (suc i) (suc k) x = ⊎_elim (λ (t : (slice_index (set ws i x) k ≡ x) × (k ≡ i)). inl (t.0, ap suc t.1)) (λ (t : slice_index (set ws i x) k ≡ slice_index ws k). inr t) (set_index ws i k x)

set_before : (ws : List ℕ) (i x : ℕ) → 0 < i → slice_index (set ws i x) 0 ≡ slice_index ws 0
set_before [] i x h = refl
set_before (w ∷ ws) zero x h = absurd (omega arith)
set_before (w ∷ ws) (suc i) x h = refl

-- a stop word is raised
raises_here : (catalogue : List JobTree) (slots id : ℕ) (k0 : Known) (i x : ℕ) → 0 < i → HasStop k0.log (length k0.log) x
    → Allows (Kept catalogue) slots id (desk_view k0, []) i (λ _. x) (λ _. Raised nothing (desk_view k0, []) x)
raises_here catalogue slots id k0 i x pos stop s k len at small =
    let log = k.0 in
    let last = k.1 in
    let r = k.2 in
    let v = desk_view k0 in
    let log_is = (r.shown id v at).books.0.log_is in
    let stop' : HasStop log (length log) x = subst (λ (l : List Entry). HasStop l (length l) x) log_is stop in
    let some_word = r.some_word in (
      v,
      keeps,
      tt,
      (
        log,
        last,
        record {
          some_word = omega (arith, length-set s.words i x);
          stop_words = λ m p. ⊎_elim
              (λ (t : (slice_index (set s.words i x) m ≡ x) × (m ≡ i)). inr (subst (HasStop log (length log)) (sym t.0) stop'))
              (λ (t : slice_index (set s.words i x) m ≡ slice_index s.words m). subst (λ (n : ℕ). (n ≡ 0) ⊎ HasStop log (length log) n) (sym t) (r.stop_words m p))
              (set_index s.words i m x);
          counted = set_before s.words i x pos ∙ r.counted;
          legal = r.legal;
          unused = r.unused;
          shown = shown_set (IsShown log last) (IsShown log last) s.views id v (r.shown id v at) (λ j u _ e. r.shown j u e);
          one_book =
              let a = sum_set books_in s.views id v v at in
              let o = r.one_book in
              omega arith;
          apart = λ m.
              let a = sum_set (seats_in m) s.views id v v at in
              let o = r.apart m in
              omega arith;
        },
      ),
      refl,
    )

pub raises : (catalogue : List JobTree) (slots id : ℕ) (k0 : Known) (i x : ℕ) (me : Me ℕ SeatView) → me ≡ (desk_view k0, []) → 0 < i → HasStop k0.log (length k0.log) x
    → Allows (Kept catalogue) slots id me i (λ _. x) (λ _. Raised nothing me x)
raises catalogue slots id k0 i x me is pos stop = subst (λ (m : Me ℕ SeatView). Allows (Kept catalogue) slots id m i (λ _. x) (λ _. Raised nothing m x)) (sym is) (raises_here catalogue slots id k0 i x pos stop)

fresh_fine : (log : List Entry) (n : ℕ) (xs : List ℕ) → (n ≡ 0) ⊎ HasStop log (length log) n → Each (HasStop log (length log)) xs → Each (HasStop log (length log)) (fresh_with n xs)
fresh_fine log zero xs ok each = each
fresh_fine log (suc n) xs ok each = (⊎_elim (λ (z : suc n ≡ 0). absurd (omega arith)) (λ (h : HasStop log (length log) (suc n)). h) ok, each)

-- a session reads a stop word
pub reads_stop_word : (catalogue : List JobTree) (slots id : ℕ) (i : ℕ) (me : Me ℕ SeatView) → 0 < i → Allows (Kept catalogue) slots id me i (λ n. n) (Stopped nothing me)
reads_stop_word catalogue slots id i me pos st k len at small =
    let log = k.0 in
    let last = k.1 in
    let r = k.2 in
    let v = me.0 in
    let n : ℕ = slice_index st.words i in
    let w = view_of v.books (map (stopped_at n) v.sessions) v.copies in
    let mine = r.shown id v at in
    let same : set st.words i n ≡ st.words = set-get_or st.words i 0 in (
      w,
      keeps,
      tt,
      (
        log,
        last,
        record {
          some_word = subst (λ (ws : List ℕ). 0 < length ws) (sym same) r.some_word;
          stop_words = subst (λ (ws : List ℕ). (m : ℕ) → 0 < m → (slice_index ws m ≡ 0) ⊎ HasStop log (length log) (slice_index ws m)) (sym same) r.stop_words;
          counted = subst (λ (ws : List ℕ). slice_index ws 0 ≡ length log) (sym same) r.counted;
          legal = r.legal;
          unused = r.unused;
          shown = shown_set (IsShown log last) (IsShown log last) st.views id w
              (record {
                books = mine.books;
                sessions = each-map (IsSessionOf log last) (IsSessionOf log last) (stopped_at n) v.sessions
                    (λ g p. record { seen = p.seen; least = p.least; mine = p.mine; all_seen = p.all_seen; number = p.number; stops = p.stops; fresh = fresh_fine log n g.fresh (r.stop_words i pos) p.fresh })
                    mine.sessions;
                copies = mine.copies;
              })
              (λ j u _ e. r.shown j u e);
          one_book =
              let a = sum_set books_in st.views id v w at in
              let o = r.one_book in
              omega arith;
          apart = λ m.
              let a = sum_set (seats_in m) st.views id v w at in
              let t = times_map m (stopped_at n) v.sessions (λ g. refl) in
              let o = r.apart m in
              omega arith;
        },
      ),
      refl,
    )

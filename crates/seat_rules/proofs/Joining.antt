-- Two seats become one, and learn that they speak of one log.
use Rattle.std.proofs.Common.{◌≡◌, ◌≢◌, ℕ, List, [], ◌∷◌, ◌++◌, set, refl, sym, ◌∙◌, subst, arith, ⊎_elim, length-append}
use mathlib.Core.Option.{some}
use mathlib.Core.List.{IsPrefix}
use lib.ListN.{get_elem?}
use Rattle.atomic_table.specs.Table.{Me, keeps, Allows, Joins}
use Rattle.atomic_table.proofs.Lists.{at_set, set_again}
use Rattle.batch_history.specs.declared.call.Entry.{Entry}
use Rattle.jsl_model.specs.Jobs.{JobTree}
use Rattle.seat_rules.specs.Places.{Known}
use Rattle.seat_rules.specs.Rule.{IsBookOf, RuleHolds, IsSessionOf, IsShown, Kept}
use Rattle.seat_rules.specs.Steps.{Found, Looked, hosting}
use Rattle.seat_rules.specs.Views.{Each, book_view, desk_view, nobody, view_of}
use Rattle.seat_rules.specs.declared.view.SeatView.{SeatView}
use Rattle.seat_rules.proofs.Sums.{sum_set, times-append, each-append}
use Rattle.seat_rules.proofs.Keeping.{books_in, nothing, once, same_words, seats_in, shown_set}

-- a look at word 0
pub looks : (catalogue : List JobTree) (slots id : ℕ) (me : Me ℕ SeatView) → Allows (Kept catalogue) slots id me 0 (λ n. n) (Looked nothing me)
looks catalogue slots id me st k len at small = (
  me.0,
  keeps,
  tt,
  (
    k.0,
    k.1,
    subst (λ (p : List ℕ × List SeatView). RuleHolds catalogue k.0 k.1 p.0 p.1) (λ i. (sym (same_words st.words) i, sym (set_again st.views id me.0 at) i)) k.2,
  ),
  (refl, (k.0, k.1, k.2.counted, k.2.shown id me.0 at, once k.0 k.1 catalogue st.words st.views id me.0 k.2 at)),
)

-- two seats become one
pub joins : (catalogue : List JobTree) (id : ℕ) (v : SeatView) (other : ℕ) (w : SeatView) → Joins (Kept catalogue) id v other w (hosting v w) nobody
joins catalogue id v other w s k at apart there =
    let log = k.0 in
    let last = k.1 in
    let r = k.2 in
    let both = hosting v w in
    let was : get_elem? s.views other ≡ some w = ⊎_elim (λ (t : (other ≡ id) × (both ≡ w)). absurd (apart t.0)) (λ (t : (other ≢ id) × (get_elem? s.views other ≡ some w)). t.1) (at_set s.views id other both w there) in
    let a = r.shown id v at in
    let b = r.shown other w was in (
      log,
      last,
      record {
        some_word = r.some_word;
        stop_words = r.stop_words;
        counted = r.counted;
        legal = r.legal;
        unused = r.unused;
        shown = shown_set (IsShown log last) (IsShown log last) (set s.views id both) other nobody (record { books = tt; sessions = tt; copies = tt })
            (λ j u _ e. shown_set (IsShown log last) (IsShown log last) s.views id both
            (record { books = each-append (IsBookOf log last) v.books w.books a.books b.books; sessions = each-append (IsSessionOf log last) v.sessions w.sessions a.sessions b.sessions; copies = each-append (λ (l : List Entry). IsPrefix l log) v.copies w.copies a.copies b.copies })
            (λ i y _ e'. r.shown i y e') j u e);
        one_book =
            let p = sum_set books_in s.views id v both at in
            let q = sum_set books_in (set s.views id both) other w nobody there in
            let o = r.one_book in
            omega (arith, length-append v.books w.books);
        apart = λ n.
            let p = sum_set (seats_in n) s.views id v both at in
            let q = sum_set (seats_in n) (set s.views id both) other w nobody there in
            let o = r.apart n in
            let t = times-append n v.sessions w.sessions in
            omega arith;
      },
    )

-- what a book's seat learns of a session that it has just taken in
pub learns : (k : Known) (v w now : SeatView) (n : ℕ) → v ≡ desk_view k → now ≡ hosting v w → k.sessions ≡ [] → k.copies ≡ [] → Found now n
    → Each (IsSessionOf k.log k.last) w.sessions × Each (λ l. IsPrefix l k.log) w.copies
learns k v w now n v_is now_is alone bare found =
    let is : now ≡ view_of (book_view k.log k.last ∷ w.books) w.sessions w.copies = now_is ∙ ((λ i. hosting (v_is i) w) ∙ (λ i. view_of (book_view k.log k.last ∷ w.books) (alone i ++ w.sessions) (bare i ++ w.copies))) in
    let s = subst (IsShown found.0 found.1) is found.3 in (
      subst (λ (p : List Entry × ℕ). Each (IsSessionOf p.0 p.1) w.sessions) (λ i. (sym s.books.0.log_is i, sym s.books.0.last_is i)) s.sessions,
      subst (λ (p : List Entry). Each (λ (l : List Entry). IsPrefix l p) w.copies) (sym s.books.0.log_is) s.copies,
    )

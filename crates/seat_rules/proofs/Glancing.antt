-- A session reads the count.
use Rattle.std.proofs.Common.{◌≡◌, ◌⊎◌, ℕ, ◌<◌, List, map, length, refl, sym, subst, arith}
use Rattle.std.specs.Prelude.{slice_index}
use Rattle.atomic_table.specs.Table.{Me, keeps, Allows}
use Rattle.jsl_model.specs.Jobs.{JobTree}
use Rattle.seat_rules.specs.Rule.{IsSessionOf, IsShown, Kept}
use Rattle.seat_rules.specs.Steps.{Glanced}
use Rattle.seat_rules.specs.Views.{HasStop, glanced_at, view_of}
use Rattle.seat_rules.specs.declared.view.SeatView.{SeatView}
use Rattle.seat_rules.proofs.Sums.{sum_set, each-append, each-imp, each-map, times_map}
use Rattle.seat_rules.proofs.Keeping.{books_in, nothing, once, same_words, seats_in, shown_set, stop_later}

-- a session counts
pub glances : (catalogue : List JobTree) (slots id : ℕ) (me : Me ℕ SeatView) → Allows (Kept catalogue) slots id me 0 (λ n. n) (Glanced nothing me)
glances catalogue slots id me st k len at small =
    let log = k.0 in
    let last = k.1 in
    let r = k.2 in
    let v = me.0 in
    let n : ℕ = slice_index st.words 0 in
    let w = view_of v.books (map (glanced_at n) v.sessions) v.copies in
    let mine = r.shown id v at in
    let counted : n ≡ length log = r.counted in (
      w,
      keeps,
      tt,
      (
        log,
        last,
        record {
          some_word = subst (λ (ws : List ℕ). 0 < length ws) (sym (same_words st.words)) r.some_word;
          stop_words = subst (λ (ws : List ℕ). (m : ℕ) → 0 < m → (slice_index ws m ≡ 0) ⊎ HasStop log (length log) (slice_index ws m)) (sym (same_words st.words)) r.stop_words;
          counted = subst (λ (ws : List ℕ). slice_index ws 0 ≡ length log) (sym (same_words st.words)) r.counted;
          legal = r.legal;
          unused = r.unused;
          shown = shown_set (IsShown log last) (IsShown log last) st.views id w
              (record {
                books = mine.books;
                sessions = each-map (IsSessionOf log last) (IsSessionOf log last) (glanced_at n) v.sessions
                    (λ g p. let low = p.least in record {
                      seen = p.seen;
                      least = omega arith;
                      mine = p.mine;
                      all_seen = p.all_seen;
                      number = p.number;
                      stops = each-append (HasStop log n) g.fresh g.stops
                          (each-imp (HasStop log (length log)) (HasStop log n) g.fresh (λ x y. stop_later log (length log) n x (omega arith) y) p.fresh)
                          (each-imp (HasStop log g.least) (HasStop log n) g.stops (λ x y. stop_later log g.least n x (omega arith) y) p.stops);
                      fresh = tt;
                    })
                    mine.sessions;
                copies = mine.copies;
              })
              (λ j u _ e. r.shown j u e);
          one_book =
              let a = sum_set books_in st.views id v w at in
              let o = r.one_book in
              omega arith;
          apart = λ m.
              let a = sum_set (seats_in m) st.views id v w at in
              let t = times_map m (glanced_at n) v.sessions (λ g. refl) in
              let o = r.apart m in
              omega arith;
        },
      ),
      (refl, (log, last, counted, mine, once log last catalogue st.words st.views id v r at)),
    )

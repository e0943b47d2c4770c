-- A seat is cut in two.
use Rattle.std.proofs.Common.{◌≡◌, ℕ, ◌+◌, ◌≤◌, ◌<◌, max, nat_lt, if◌then◌else◌, Bool, true, false, List, [], ◌∷◌, take, length, set, refl, ap, sym, ◌∙◌, subst, arith}
use mathlib.Core.List.{IsPrefix}
use borrow.Author.Tests.{ltb-true}
use Rattle.atomic_table.specs.Table.{Splits}
use Rattle.batch_history.specs.declared.call.Entry.{Entry}
use Rattle.jsl_model.specs.Jobs.{JobTree}
use Rattle.seat_rules.specs.Places.{Known, known}
use Rattle.seat_rules.specs.Rule.{IsSessionOf, IsShown, Kept}
use Rattle.seat_rules.specs.Steps.{caught_up, copy_read, emptied, leaver, new_copy, one_met, other_met, released, same_view, without_copy}
use Rattle.batch_history.specs.Legal.{entries_by}
use Rattle.seat_rules.specs.Views.{HasStop, desk_view, informed, session_view, times, view_of}
use Rattle.seat_rules.proofs.Prefixes.{prefix_self, prefix_take, prefix_shorter, entries_between}
use Rattle.seat_rules.specs.declared.view.SessionView.{SessionView}
use Rattle.seat_rules.specs.declared.view.BookView.{BookView}
use Rattle.seat_rules.specs.declared.view.SeatView.{SeatView}
use Rattle.seat_rules.proofs.Sums.{sum_set, each-imp, each-map, times_map}
use Rattle.seat_rules.proofs.Keeping.{books_in, seats_in, shown_set, shown_snoc, stop_later, sum_snoc}

-- a seat is cut in two, at the same log
pub cuts : (catalogue : List JobTree) (id : ℕ) (v left right : SeatView) → right.books ≡ [] → left.books ≡ v.books → ((n : ℕ) → times n left.sessions + times n right.sessions ≡ times n v.sessions)
    → ((log : List Entry) (last : ℕ) → IsShown log last v → IsShown log last left × IsShown log last right) → Splits (Kept catalogue) id v left right
cuts catalogue id v left right empty same counts fine s k at =
    let log = k.0 in
    let last = k.1 in
    let r = k.2 in
    let both = fine log last (r.shown id v at) in (
      log,
      last,
      record {
        some_word = r.some_word;
        stop_words = r.stop_words;
        counted = r.counted;
        legal = r.legal;
        unused = r.unused;
        shown = shown_snoc (IsShown log last) (set s.views id left) right both.1
            (shown_set (IsShown log last) (IsShown log last) s.views id left both.0 (λ j u _ e. r.shown j u e));
        one_book =
            let p = sum_set books_in s.views id v left at in
            let q = sum_snoc books_in (set s.views id left) right in
            let o = r.one_book in
            omega (arith, ap (λ (bs : List BookView). length bs) empty, ap (λ (bs : List BookView). length bs) same);
        apart = λ n.
            let p = sum_set (seats_in n) s.views id v left at in
            let q = sum_snoc (seats_in n) (set s.views id left) right in
            let o = r.apart n in
            let t = counts n in
            omega arith;
      },
    )

-- a session leaves the book's seat
pub leaves_fine : (log0 : List Entry) (last0 : ℕ) (gs : List SessionView) (cs : List (List Entry)) (log : List Entry) (last : ℕ) → IsShown log last (desk_view (known log0 last0 gs cs))
    → IsShown log last (emptied (desk_view (known log0 last0 gs cs))) × IsShown log last (leaver (desk_view (known log0 last0 gs cs)))
leaves_fine log0 last0 gs cs log last h = (
  record { books = h.books; sessions = tt; copies = h.copies },
  record {
    books = tt;
    sessions = each-map (IsSessionOf log last) (IsSessionOf log last) (informed log0) gs
        (λ g p. record {
          seen = subst (λ (l : List Entry). IsPrefix log0 l) h.books.0.log_is (prefix_self log0);
          least = p.least;
          mine = p.mine;
          all_seen = ap (entries_by g.number) h.books.0.log_is ∙ p.mine;
          number = p.number;
          stops = p.stops;
          fresh = p.fresh;
        })
        h.sessions;
    copies = tt;
  },
)

pub leaves : (catalogue : List JobTree) (id : ℕ) (log : List Entry) (last : ℕ) (gs : List SessionView) (cs : List (List Entry)) (v : SeatView) → v ≡ desk_view (known log last gs cs) → Splits (Kept catalogue) id v (emptied v) (leaver v)
leaves catalogue id log last gs cs v is =
    subst (λ (u : SeatView). Splits (Kept catalogue) id u (emptied u) (leaver u)) (sym is)
    (cuts catalogue id (desk_view (known log last gs cs)) _ _ refl refl (λ n. omega (arith, times_map n (informed log) gs (λ g. refl))) (leaves_fine log last gs cs))

-- a copy of nothing is made
pub makes_copy : (catalogue : List JobTree) (id : ℕ) (v : SeatView) → Splits (Kept catalogue) id v (same_view v) (new_copy v)
makes_copy catalogue id v = cuts catalogue id v _ _ refl refl (λ n. omega arith) (λ log last h. (h, record { books = tt; sessions = tt; copies = ((log, refl), tt) }))

-- a copy leaves the book's seat with the first n entries
releases_fine : (n : ℕ) (k : Known) (log : List Entry) (last : ℕ) → IsShown log last (desk_view k) → IsShown log last (without_copy (desk_view k)) × IsShown log last (released n (desk_view k))
releases_fine n k log last h = (
  record { books = h.books; sessions = h.sessions; copies = tt },
  record {
    books = tt;
    sessions = tt;
    copies = each-map (λ (l : List Entry). IsPrefix l log) (λ (l : List Entry). IsPrefix l log) (λ _. take n k.log) k.copies
        (λ l p. subst (IsPrefix (take n k.log)) h.books.0.log_is (prefix_take n k.log)) h.copies;
  },
)

pub releases : (catalogue : List JobTree) (id n : ℕ) (k : Known) (v : SeatView) → v ≡ desk_view k → Splits (Kept catalogue) id v (without_copy v) (released n v)
releases catalogue id n k v is =
    subst (λ (u : SeatView). Splits (Kept catalogue) id u (without_copy u) (released n u)) (sym is)
    (cuts catalogue id (desk_view k) _ _ refl refl (λ m. omega arith) (releases_fine n k))

-- a session takes the list of a copy that has as many entries
reads_fine : (g : SessionView) (l log : List Entry) (last : ℕ) → length g.seen ≤ length l → IsShown log last (view_of [] (g ∷ []) (l ∷ []))
    → IsShown log last (caught_up (view_of [] (g ∷ []) (l ∷ []))) × IsShown log last (copy_read (view_of [] (g ∷ []) (l ∷ [])))
reads_fine g l log last le h =
    let p = h.sessions.0 in
    let q = h.copies.0 in (
      record {
        books = tt;
        sessions = (
          record {
            seen = q;
            least = p.least;
            mine = p.mine;
            all_seen = entries_between g.number g.seen l log g.mine (prefix_shorter g.seen l log p.seen q le) q p.all_seen p.mine;
            number = p.number;
            stops = p.stops;
            fresh = p.fresh;
          },
          tt,
        );
        copies = tt;
      },
      record { books = tt; sessions = tt; copies = h.copies },
    )

pub reads : (catalogue : List JobTree) (id : ℕ) (g : SessionView) (l : List Entry) (v : SeatView) → length g.seen ≤ length l → v ≡ view_of [] (g ∷ []) (l ∷ []) → Splits (Kept catalogue) id v (caught_up v) (copy_read v)
reads catalogue id g l v le is =
    subst (λ (u : SeatView). Splits (Kept catalogue) id u (caught_up u) (copy_read u)) (sym is)
    (cuts catalogue id (view_of [] (g ∷ []) (l ∷ [])) _ _ refl refl (λ n. omega arith) (λ log last h. reads_fine g l log last le h))

met_fine : (log : List Entry) (last : ℕ) (g h : SessionView) → IsSessionOf log last g → IsSessionOf log last h → (b : Bool) → nat_lt (length g.seen) (length h.seen) ≡ b
    → IsSessionOf log last (session_view g.number (if b then h.seen else g.seen) g.mine (max g.least h.least) g.stops g.fresh)
met_fine log last g h p q true is =
    let less : length g.seen < length h.seen = ltb-true (length g.seen) (length h.seen) is in
    let a = p.least in
    let b = q.least in
    record {
      seen = q.seen;
      least = omega arith;
      mine = p.mine;
      all_seen = entries_between g.number g.seen h.seen log g.mine (prefix_shorter g.seen h.seen log p.seen q.seen (omega arith)) q.seen p.all_seen p.mine;
      number = p.number;
      stops = each-imp (HasStop log g.least) (HasStop log (max g.least h.least)) g.stops (λ x y. stop_later log g.least (max g.least h.least) x (omega arith) y) p.stops;
      fresh = p.fresh;
    }
met_fine log last g h p q false is =
    let a = p.least in
    let b = q.least in
    record { seen = p.seen; least = omega arith; mine = p.mine; all_seen = p.all_seen; number = p.number; stops = each-imp (HasStop log g.least) (HasStop log (max g.least h.least)) g.stops (λ x y. stop_later log g.least (max g.least h.least) x (omega arith) y) p.stops; fresh = p.fresh }

-- two sessions part
pub parts : (catalogue : List JobTree) (id : ℕ) (g h : SessionView) (v : SeatView) → v ≡ view_of [] (g ∷ h ∷ []) [] → Splits (Kept catalogue) id v (one_met v) (other_met v)
parts catalogue id g h v is =
    subst (λ (u : SeatView). Splits (Kept catalogue) id u (one_met u) (other_met u)) (sym is)
    (cuts catalogue id (view_of [] (g ∷ h ∷ []) []) _ _ refl refl (λ n. omega arith)
    (λ log last s. (
      record { books = tt; sessions = (met_fine log last g h s.sessions.0 s.sessions.1.0 (nat_lt (length g.seen) (length h.seen)) refl, tt); copies = tt },
      record { books = tt; sessions = (met_fine log last h g s.sessions.1.0 s.sessions.0 (nat_lt (length h.seen) (length g.seen)) refl, tt); copies = tt },
    )))

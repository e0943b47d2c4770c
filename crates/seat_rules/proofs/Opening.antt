-- A session is opened.
use Rattle.std.proofs.Common.{◌≡◌, ◌≢◌, ℕ, ◌+◌, List, [], set, refl, ap, sym, ◌∙◌, subst, arith}
use mathlib.Core.Option.{some}
use mathlib.Core.List.{IsPrefix}
use mathlib.Core.Logic.{dite}
use native.Mathlib.Decide.{ℕ_discrete}
use lib.ListN.{get_elem?}
use Rattle.atomic_table.specs.Table.{Splits}
use Rattle.batch_history.specs.declared.call.Entry.{Entry}
use Rattle.jsl_model.specs.Jobs.{JobTree}
use Rattle.seat_rules.specs.Places.{known}
use Rattle.seat_rules.specs.Rule.{IsBookOf, IsSessionOf, IsShown, Kept}
use Rattle.seat_rules.specs.Steps.{newcomer, opened}
use Rattle.batch_history.specs.Legal.{entries_by}
use Rattle.seat_rules.specs.Views.{desk_view, new_session}
use Rattle.seat_rules.proofs.Prefixes.{prefix_self}
use Rattle.seat_rules.specs.declared.view.SeatView.{SeatView}
use Rattle.seat_rules.proofs.Sums.{sum_set, sum_zero, each-imp, each-none, times_high, times_own, times_not}
use Rattle.seat_rules.proofs.Keeping.{books_in, others_have_none, seats_in, shown_set, shown_snoc, sum_snoc}

-- a session is opened
opens_here : (catalogue : List JobTree) (id : ℕ) (log0 : List Entry) (last0 : ℕ) (cs : List (List Entry)) → Splits (Kept catalogue) id (desk_view (known log0 last0 [] cs)) (opened (desk_view (known log0 last0 [] cs))) (newcomer (desk_view (known log0 last0 [] cs)))
opens_here catalogue id log0 last0 cs s k at =
    let log = k.0 in
    let last = k.1 in
    let r = k.2 in
    let v = desk_view (known log0 last0 [] cs) in
    let left = opened v in
    let right = newcomer v in
    let mine = r.shown id v at in
    let log_is = mine.books.0.log_is in
    let last_is = mine.books.0.last_is in
    let unused : entries_by (last0 + 1) log ≡ [] = r.unused (last0 + 1) (omega arith) in
    let later : (j : ℕ) (u : SeatView) → j ≢ id → get_elem? s.views j ≡ some u → IsShown log (last + 1) u = λ j u apart there. record {
      books = each-none (IsBookOf log (last + 1)) u.books (others_have_none catalogue log last s.words s.views id j v u r at refl there apart);
      sessions = each-imp (IsSessionOf log last) (IsSessionOf log (last + 1)) u.sessions
          (λ g p. record { seen = p.seen; least = p.least; mine = p.mine; all_seen = p.all_seen; number = let low = p.number in omega arith; stops = p.stops; fresh = p.fresh })
          (r.shown j u there).sessions;
      copies = (r.shown j u there).copies;
    } in (
      log,
      last + 1,
      record {
        some_word = r.some_word;
        stop_words = r.stop_words;
        counted = r.counted;
        legal = r.legal;
        unused = λ n h. r.unused n (omega arith);
        shown = shown_snoc (IsShown log (last + 1)) (set s.views id left) right
            (record {
              books = tt;
              sessions = (
                record {
                  seen = subst (λ (l : List Entry). IsPrefix log0 l) log_is (prefix_self log0);
                  least = omega arith;
                  mine = unused;
                  all_seen = ap (entries_by (last0 + 1)) log_is ∙ unused;
                  number = omega arith;
                  stops = tt;
                  fresh = tt;
                },
                tt,
              );
              copies = tt;
            })
            (shown_set (IsShown log (last + 1)) (IsShown log (last + 1)) s.views id left (record { books = (record { log_is = log_is; last_is = omega arith }, tt); sessions = tt; copies = mine.copies }) later);
        one_book =
            let p = sum_set books_in s.views id v left at in
            let q = sum_snoc books_in (set s.views id left) right in
            let o = r.one_book in
            omega arith;
        apart = λ n.
            let p = sum_set (seats_in n) s.views id v left at in
            let q = sum_snoc (seats_in n) (set s.views id left) right in
            let o = r.apart n in
            dite (ℕ_discrete (last0 + 1) n)
            (λ (same : last0 + 1 ≡ n).
            let z = sum_zero (seats_in n) s.views (λ i u e. times_high log last n u.sessions (omega arith) (r.shown i u e).sessions) in
            let t = times_own n (new_session (last0 + 1) log0) same in
            omega arith)
            (λ (ne : last0 + 1 ≢ n).
            let t = times_not n (new_session (last0 + 1) log0) ne in
            omega arith);
      },
    )

pub opens : (catalogue : List JobTree) (id : ℕ) (log : List Entry) (last : ℕ) (cs : List (List Entry)) (v : SeatView) → v ≡ desk_view (known log last [] cs) → Splits (Kept catalogue) id v (opened v) (newcomer v)
opens catalogue id log last cs v is = subst (λ (u : SeatView). Splits (Kept catalogue) id u (opened u) (newcomer u)) (sym is) (opens_here catalogue id log last cs)

-- The log grows by an operation.
use Rattle.std.proofs.Common.{◌≡◌, ◌≢◌, ℕ, ◌+◌, ◌%◌, ◌^◌, ◌≤◌, ◌<◌, ◌==◌, cond, List, [], ◌∷◌, ◌++◌, map, length, set, refl, ap, sym, ◌∙◌, subst, arith, inl, inr, ⊎_elim, eq-eqb, ne_eqb, length-append, length-set}
use Rattle.std.proofs.lemmas.List.{append-nil}
use Rattle.std.proofs.lemmas.List.Elements.{filter-append}
use Rattle.std.specs.Prelude.{slice_index}
use Rattle.std.proofs.Math.Nat.{mod-eq_of_lt}
use mathlib.Core.Option.{some}
use mathlib.Core.List.{IsPrefix}
use lib.ListN.{get_elem?}
use Rattle.atomic_table.specs.Table.{Me, keeps, Allows}
use Rattle.batch_history.specs.declared.call.Entry.{Entry}
use Rattle.jsl_model.specs.Jobs.{JobTree}
use Rattle.seat_rules.specs.Places.{IsLegalLog, Known, known}
use Rattle.seat_rules.specs.Rule.{IsBookOf, IsSessionOf, IsShown, Kept}
use Rattle.seat_rules.specs.Steps.{Appended, appended}
use Rattle.batch_history.specs.Legal.{entries_by}
use Rattle.seat_rules.specs.Views.{HasStop, desk_view, known_in, times, with_entry}
use Rattle.seat_rules.proofs.Prefixes.{prefix_self, prefix_push}
use Rattle.seat_rules.specs.declared.view.SessionView.{SessionView}
use Rattle.seat_rules.specs.declared.view.SeatView.{SeatView}
use Rattle.seat_rules.proofs.Sums.{sum_set, sum_two, each-imp, each-none, each-other, times_own}
use Rattle.seat_rules.proofs.Keeping.{books_in, nothing, others_have_none, others_same, seats_in, shown_set, stop_later, stop_push}

set_first : (ws : List ℕ) (x : ℕ) → 0 < length ws → slice_index (set ws 0 x) 0 ≡ x
set_first [] x h = absurd (omega arith)
set_first (y ∷ ws) x h = refl

wraps : (n : ℕ) → n < 2 ^ 62 → (n + 1) % 2 ^ 64 ≡ n + 1
wraps n h = mod-eq_of_lt (omega arith)

pub entries_more : (n : ℕ) (log : List Entry) (e : Entry) (mine : List Entry) → n ≡ e.who → entries_by n log ≡ mine → entries_by n (log ++ e ∷ []) ≡ mine ++ e ∷ []
entries_more n log e mine same is =
    filter-append (λ (x : Entry). x.who == n) log (e ∷ []) ∙ (λ i. is i ++ cond (eq-eqb e.who n (sym same) i) (e ∷ []) [])

entries_same : (n : ℕ) (log : List Entry) (e : Entry) (mine : List Entry) → n ≢ e.who → entries_by n log ≡ mine → entries_by n (log ++ e ∷ []) ≡ mine
entries_same n log e mine ne is =
    filter-append (λ (x : Entry). x.who == n) log (e ∷ []) ∙ ((λ i. is i ++ cond (ne_eqb e.who n (λ h. ne (sym h)) i) (e ∷ []) []) ∙ append-nil mine)

-- the log grows
appends_here : (catalogue : List JobTree) (slots id : ℕ) (log0 : List Entry) (last0 : ℕ) (g : SessionView) (cs : List (List Entry)) (e : Entry)
    → g.number ≡ e.who → IsLegalLog catalogue (log0 ++ e ∷ [])
    → Allows (Kept catalogue) slots id (desk_view (known log0 last0 (g ∷ []) cs), []) 0 (λ n. (n + 1) % 2 ^ 64) (Appended e nothing (desk_view (known log0 last0 (g ∷ []) cs), []))
appends_here catalogue slots id log0 last0 g cs e own legal s k len at small =
    let log = k.0 in
    let last = k.1 in
    let r = k.2 in
    let v = desk_view (known log0 last0 (g ∷ []) cs) in
    let w = appended e v in
    let now : List Entry = log ++ e ∷ [] in
    let mine = r.shown id v at in
    let log_is = mine.books.0.log_is in
    let last_is = mine.books.0.last_is in
    let p = mine.sessions.0 in
    let now_is : log0 ++ e ∷ [] ≡ now = ap (λ (l : List Entry). l ++ e ∷ []) log_is in
    let n : ℕ = slice_index s.words 0 in
    let counted : n ≡ length log = r.counted in
    let longer : length now ≡ length log + 1 = omega (arith, length-append log (e ∷ [])) in
    let legal' : IsLegalLog catalogue now = subst (IsLegalLog catalogue) now_is legal in
    let within : length now ≤ 1000000 = legal'.within in
    let some_word = r.some_word in
    let here : entries_by g.number now ≡ g.mine ++ e ∷ [] = entries_more g.number log e g.mine own p.mine in
    let low = p.number in
    let later : (j : ℕ) (u : SeatView) → j ≢ id → get_elem? s.views j ≡ some u → IsShown now last u = λ j u apart there.
    let none : times g.number u.sessions ≡ 0 =
    let a = sum_two (seats_in g.number) s.views id j v u at there apart in
    let o = r.apart g.number in
    let t = times_own g.number g refl in
    omega arith in
    record {
      books = each-none (IsBookOf now last) u.books (others_have_none catalogue log last s.words s.views id j v u r at refl there apart);
      sessions = each-other g.number (IsSessionOf log last) (IsSessionOf now last) u.sessions none
          (λ h other q. record {
            seen = prefix_push h.seen log (e ∷ []) q.seen;
            least = let a = q.least in omega arith;
            mine = entries_same h.number log e h.mine (λ x. other (x ∙ sym own)) q.mine;
            all_seen = q.all_seen;
            number = q.number;
            stops = each-imp (HasStop log h.least) (HasStop now h.least) h.stops (λ x y. stop_push log (e ∷ []) h.least x y) q.stops;
            fresh = each-imp (HasStop log (length log)) (HasStop now (length now)) h.fresh (λ x y. stop_later now (length log) (length now) x (omega arith) (stop_push log (e ∷ []) (length log) x y)) q.fresh;
          })
          (r.shown j u there).sessions;
      copies = each-imp (λ (l : List Entry). IsPrefix l log) (λ (l : List Entry). IsPrefix l now) u.copies (λ l q. prefix_push l log (e ∷ []) q) (r.shown j u there).copies;
    } in (
      w,
      keeps,
      tt,
      (
        now,
        last,
        record {
          some_word = omega (arith, length-set s.words 0 ((n + 1) % 2 ^ 64));
          stop_words = λ m pos. ⊎_elim (λ (z : slice_index s.words m ≡ 0). inl (others_same s.words m _ pos ∙ z)) (λ (h : HasStop log (length log) (slice_index s.words m)). inr (subst (HasStop now (length now)) (sym (others_same s.words m _ pos)) (stop_later now (length log) (length now) (slice_index s.words m) (omega arith) (stop_push log (e ∷ []) (length log) (slice_index s.words m) h)))) (r.stop_words m pos);
          counted = set_first s.words ((n + 1) % 2 ^ 64) some_word ∙ (wraps n (omega arith) ∙ omega arith);
          legal = legal';
          unused = λ m h. entries_same m log e [] (λ x. omega arith) (r.unused m h);
          shown = shown_set (IsShown now last) (IsShown now last) s.views id w
              (record {
                books = (record { log_is = now_is; last_is = last_is }, tt);
                sessions = (
                  record {
                    seen = subst (λ (l : List Entry). IsPrefix (log0 ++ e ∷ []) l) now_is (prefix_self (log0 ++ e ∷ []));
                    least = let a = p.least in omega arith;
                    mine = here;
                    all_seen = ap (entries_by g.number) now_is ∙ here;
                    number = p.number;
                    stops = each-imp (HasStop log g.least) (HasStop now g.least) g.stops (λ x y. stop_push log (e ∷ []) g.least x y) p.stops;
                    fresh = each-imp (HasStop log (length log)) (HasStop now (length now)) g.fresh (λ x y. stop_later now (length log) (length now) x (omega arith) (stop_push log (e ∷ []) (length log) x y)) p.fresh;
                  },
                  tt,
                );
                copies = each-imp (λ (l : List Entry). IsPrefix l log) (λ (l : List Entry). IsPrefix l now) cs (λ l q. prefix_push l log (e ∷ []) q) mine.copies;
              })
              later;
          one_book =
              let a = sum_set books_in s.views id v w at in
              let o = r.one_book in
              omega arith;
          apart = λ m.
              let a = sum_set (seats_in m) s.views id v w at in
              let o = r.apart m in
              omega arith;
        },
      ),
      refl,
    )

pub appends : (catalogue : List JobTree) (slots id : ℕ) (log : List Entry) (last : ℕ) (g : SessionView) (cs : List (List Entry)) (e : Entry) (me : Me ℕ SeatView)
    → me ≡ (desk_view (known log last (g ∷ []) cs), []) → g.number ≡ e.who → IsLegalLog catalogue (log ++ e ∷ [])
    → Allows (Kept catalogue) slots id me 0 (λ n. (n + 1) % 2 ^ 64) (Appended e nothing me)
appends catalogue slots id log last g cs e me is own legal =
    subst (λ (m : Me ℕ SeatView). Allows (Kept catalogue) slots id m 0 (λ n. (n + 1) % 2 ^ 64) (Appended e nothing m)) (sym is) (appends_here catalogue slots id log last g cs e own legal)

-- a session alone on its seat
pub appends_at : (catalogue : List JobTree) (slots id : ℕ) (k : Known) (e picked : Entry) (me : Me ℕ SeatView) (g : SessionView)
    → me ≡ (desk_view k, []) → k.sessions ≡ g ∷ [] → g.number ≡ e.who → e ≡ picked → IsLegalLog catalogue (k.log ++ e ∷ [])
    → Allows (Kept catalogue) slots id me 0 (λ n. (n + 1) % 2 ^ 64) (Appended picked nothing me)
appends_at catalogue slots id k e picked me g is sessions_is own same legal =
    subst (λ (x : Entry). Allows (Kept catalogue) slots id me 0 (λ n. (n + 1) % 2 ^ 64) (Appended x nothing me)) same
    (appends catalogue slots id k.log k.last g k.copies e me (is ∙ ap (λ (gs : List SessionView). (desk_view (known k.log k.last gs k.copies), [])) sessions_is) own legal)

-- what the seat knows afterwards
pub grows : (k : Known) (v : SeatView) (log : List Entry) (last : ℕ) (gs : List SessionView) (e : Entry) → v ≡ desk_view k → known_in (appended e v) ≡ known (k.log ++ e ∷ []) k.last (map (with_entry (k.log ++ e ∷ []) e) k.sessions) k.copies
grows k v log last gs e is = ap (λ (u : SeatView). known_in (appended e u)) is

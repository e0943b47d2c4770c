-- What every step uses: how the rule goes over a change of one view.
use Rattle.std.proofs.Common.{append_assoc, ◌≡◌, ◌≢◌, ℕ, zero, suc, ◌+◌, ◌≤◌, ◌<◌, Bool, true, false, List, [], ◌∷◌, ◌++◌, length, set, refl, ap, sym, ◌∙◌, subst, arith, inl, ⊎_elim}
use Rattle.std.proofs.lemmas.List.{set-get_or}
use Rattle.std.specs.Prelude.{slice_index}
use mathlib.Core.Option.{some, none, some-injective, some-ne-none}
use lib.ListN.{get_elem?}
use Rattle.atomic_table.specs.Table.{Step, step}
use Rattle.atomic_table.proofs.Lists.{at_set, at_snoc}
use Rattle.batch_history.specs.declared.call.Entry.{Entry}
use Rattle.jsl_model.specs.Jobs.{JobTree}
use Rattle.seat_rules.specs.Rule.{RuleHolds, IsShown}
use Rattle.seat_rules.specs.Views.{HasStop, first_view, times, total}
use Rattle.batch_history.proofs.Legal.{legal-nothing}
use Rattle.batch_history.specs.Legal.{most_operations}
use Rattle.seat_rules.specs.declared.view.SeatView.{SeatView}
use Rattle.seat_rules.proofs.Sums.{sum_at, sum_two, total-snoc}

abbrev pub books_in : SeatView → ℕ
books_in v = length v.books

abbrev pub seats_in : ℕ → SeatView → ℕ
seats_in n v = times n v.sessions

-- all but one view are as they were, or as the new log has it
pub shown_set : (P Q : SeatView → Type 0) (views : List SeatView) (i : ℕ) (w : SeatView) → Q w → ((j : ℕ) (u : SeatView) → j ≢ i → get_elem? views j ≡ some u → Q u)
    → (j : ℕ) (u : SeatView) → get_elem? (set views i w) j ≡ some u → Q u
shown_set P Q views i w mine others j u e =
    ⊎_elim
    (λ (t : (j ≡ i) × (w ≡ u)). subst Q t.1 mine)
    (λ (t : (j ≢ i) × (get_elem? views j ≡ some u)). others j u t.0 t.1)
    (at_set views i j w u e)

pub shown_snoc : (Q : SeatView → Type 0) (views : List SeatView) (w : SeatView) → Q w → ((j : ℕ) (u : SeatView) → get_elem? views j ≡ some u → Q u)
    → (j : ℕ) (u : SeatView) → get_elem? (views ++ w ∷ []) j ≡ some u → Q u
shown_snoc Q views w mine others j u e =
    ⊎_elim (λ (t : get_elem? views j ≡ some u). others j u t) (λ (t : w ≡ u). subst Q t mine) (at_snoc views w u j e)

pub sum_snoc : (f : SeatView → ℕ) (views : List SeatView) (w : SeatView) → total f (views ++ w ∷ []) ≡ total f views + f w
sum_snoc = total-snoc

abbrev pub all_zero : List ℕ → Bool
all_zero [] = true
all_zero (zero ∷ ws) = all_zero ws
all_zero (suc n ∷ ws) = false

pub zeros_at : (ws : List ℕ) → all_zero ws ≡ true → (k : ℕ) → slice_index ws k ≡ 0
zeros_at [] h k = refl
zeros_at (zero ∷ ws) h zero = refl
zeros_at (zero ∷ ws) h (suc k) = zeros_at ws h k
zeros_at (suc n ∷ ws) h k = absurd cc

pub begins : (catalogue : List JobTree) (ws : List ℕ) → 0 < length ws → all_zero ws ≡ true → RuleHolds catalogue [] 0 ws (first_view ∷ [])
begins catalogue ws some_word zeros = record {
  some_word = some_word;
  stop_words = λ k pos. inl (zeros_at ws zeros k);
  counted = zeros_at ws zeros 0;
  legal = legal-nothing most_operations catalogue;
  unused = λ n h. refl;
  shown = one;
  one_book = omega arith;
  apart = λ n. omega arith;
}
  where
    one : (i : ℕ) (v : SeatView) → get_elem? (first_view ∷ []) i ≡ some v → IsShown [] 0 v
    one zero v e = subst (IsShown [] 0) (some-injective _ _ e) (record { books = (record { log_is = refl; last_is = refl }, tt); sessions = tt; copies = tt })
    one (suc i) v e = absurd (some-ne-none v (sym e))

-- the plays read no step
abbrev pub nothing : Step ℕ
nothing = step 0 0 0 0 none

pub same_words : (ws : List ℕ) → set ws 0 (slice_index ws 0) ≡ ws
same_words ws = set-get_or ws 0 0

-- a call that stands in a log stands in each longer one
pub stop_push : (log more : List Entry) (n x : ℕ) → HasStop log n x → HasStop (log ++ more) n x
stop_push log more n x h = record { before = h.before; stop = h.stop; after = h.after ++ more; cut = ap (λ l. l ++ more) h.cut ∙ append_assoc h.before (h.stop ∷ h.after) more; asks = h.asks; early = h.early }

pub stop_later : (log : List Entry) (n m x : ℕ) → n ≤ m → HasStop log n x → HasStop log m x
stop_later log n m x le h = let early = h.early in record { before = h.before; stop = h.stop; after = h.after; cut = h.cut; asks = h.asks; early = omega arith }

pub others_same : (ws : List ℕ) (k x : ℕ) → 0 < k → slice_index (set ws 0 x) k ≡ slice_index ws k
others_same [] k x h = refl
others_same (w ∷ ws) zero x h = absurd (omega arith)
others_same (w ∷ ws) (suc k) x h = refl

-- each number sits on a seat once at most
pub once : (log : List Entry) (last : ℕ) (catalogue : List JobTree) (ws : List ℕ) (views : List SeatView) (id : ℕ) (v : SeatView) → RuleHolds catalogue log last ws views → get_elem? views id ≡ some v → (m : ℕ) → times m v.sessions ≤ 1
once log last catalogue ws views id v r at m =
    let a = sum_at (seats_in m) views id v at in
    let o = r.apart m in
    omega arith

-- the book's seat is the only one
pub others_have_none : (catalogue : List JobTree) (log : List Entry) (last : ℕ) (ws : List ℕ) (views : List SeatView) (id j : ℕ) (v u : SeatView) → RuleHolds catalogue log last ws views → get_elem? views id ≡ some v → length v.books ≡ 1 → get_elem? views j ≡ some u → j ≢ id → length u.books ≡ 0
others_have_none catalogue log last ws views id j v u r at one there apart =
    let t = sum_two books_in views id j v u at there apart in
    let o = r.one_book in
    omega arith

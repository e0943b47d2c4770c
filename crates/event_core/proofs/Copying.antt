-- Copies of a history that goes on, and what a copy takes in next.
use Rattle.std.proofs.Common.{◌≡◌, ℕ, ◌+◌, ◌≤◌, ◌<◌, None, Some, inl, inr, replicate, List, [], ◌∷◌, ◌++◌, length, get_or, take, drop, sym, ◌∙◌, ap, subst, arith}
use Rattle.std.specs.Prelude.{slice_get}
use Rattle.std.proofs.lemmas.List.{map-append, replicate-append-replicate, take-append-drop, take-append-le}
use Rattle.std.proofs.lemmas.Option.{slice_get_cases, slice_get_within}
use Rattle.batch_history.proofs.Legal.{legal-beginning}
use Rattle.batch_history.specs.Legal.{IsLegal, grown}
use Rattle.batch_history.specs.Rows.{History, history}
use Rattle.batch_history.specs.declared.call.Entry.{Entry}
use Rattle.op_log.proofs.Taking.{take-next}
use Rattle.event_core.specs.Copies.{IsCopy, AreCopies, lengths}
use Rattle.event_core.specs.Headline.{Continues}
use Rattle.event_core.specs.Worlds.{operations, first}
use Rattle.event_core.specs.declared.copies.LaggingCopy.{LaggingCopy}
use Rattle.event_core.proofs.Soundness.{operations-continue}

-- the first operations stay
pub first-stays : (k : ℕ) (h g : History) → Continues h g → k ≤ operations h → first k h ≡ first k g
first-stays k h g c within =
    ap (history h.catalogue) (sym (take-append-le k h.log c.more within)) ∙ ap (first k) (sym c.grown)

-- a copy stays one
pub copy-stays : {J : Type 0} (stands : J → History → Type 0) (h g : History) (copy : LaggingCopy J) → Continues h g → IsCopy stands h copy → IsCopy stands g copy
copy-stays stands h g copy c is = record {
  stood = subst (stands copy.repository) (first-stays copy.entries h g c is.within) is.stood;
  within = omega (arith, is.within, operations-continue h g c);
}

pub copies-stay : {J : Type 0} (stands : J → History → Type 0) (h g : History) (copies : List (LaggingCopy J)) → Continues h g → AreCopies stands h copies → AreCopies stands g copies
copies-stay stands h g copies c each = λ k d lt. copy-stays stands h g (get_or copies k d) c (each k d lt)

-- the first operations and the next one
first-more : (k : ℕ) (h : History) (e : Entry) → slice_get h.log k ≡ Some e → grown (first k h) e ≡ first (k + 1) h
first-more k h e there = ap (history h.catalogue) (sym (take-next h.log k e there))

-- the first operations of a legal history are legal
pub legal-first : {limit : ℕ} (k : ℕ) (h : History) → IsLegal limit h → IsLegal limit (first k h)
legal-first {limit} k h legal = legal-beginning limit h legal (take k h.log) (drop k h.log) (sym (take-append-drop k h.log))

-- what a repository that has the first operations may take in next
pub next-taken : {limit : ℕ} (stands : History → Type 0) (h : History) (k : ℕ) (e : Entry) → IsLegal limit h → stands (first k h) → slice_get h.log k ≡ Some e
    → (g : History) × stands g × IsLegal limit (grown g e)
next-taken {limit} stands h k e legal stood there = (first k h, stood, subst (IsLegal limit) (sym (first-more k h e there)) (legal-first (k + 1) h legal))

-- it has one operation more then
pub taken-more : (stands : History → Type 0) (h : History) (k : ℕ) (e : Entry) → slice_get h.log k ≡ Some e → stands (grown (first k h) e)
    → stands (first (k + 1) h) × (k + 1 ≤ operations h)
taken-more stands h k e there stood =
    let within : k < length h.log = slice_get_within h.log k e there in
    (subst stands (first-more k h e there) stood, omega (arith, within))

-- where there is no operation, the history has ended
pub ended-at : (log : List Entry) (k : ℕ) → slice_get log k ≡ None → length log ≤ k
ended-at log k none =
    elim (slice_get_cases log k).1 [
      | inl w ↦ absurd (no-some w.0 (sym w.2 ∙ none))
      | inr w ↦ w.0
    ]
  where
    no-some : (e : Entry) → Some e ≡ None → ⊥
    no-some e is = cc

-- so many of them, and one more
pub lengths-push : {J : Type 0} (copies : List (LaggingCopy J)) (copy : LaggingCopy J) (n : ℕ) → lengths copies ≡ replicate n 0 → copy.entries ≡ 0
    → lengths (copies ++ copy ∷ []) ≡ replicate (n + 1) 0
lengths-push {J} copies copy n before none =
    map-append (λ (copy : LaggingCopy J). copy.entries) copies (copy ∷ [])
    ∙ (ap (λ l. l ++ copy.entries ∷ []) before ∙ (ap (λ m. replicate n 0 ++ m ∷ []) none ∙ replicate-append-replicate n 1 0))

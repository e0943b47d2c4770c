-- States that have the first operations of a history, and the next one that they absorb.
use Rattle.std.proofs.Common.{◌≡◌, ℕ, ◌+◌, ◌<◌, Some, Ok, Err, Result, [], ◌∷◌, ◌++◌, length, take, sym, ◌∙◌, ap, subst, arith}
use Rattle.std.specs.Prelude.{slice_get, OnOk, OnErr}
use Rattle.std.proofs.lemmas.List.{length-reverse, length-take-le}
use Rattle.std.proofs.lemmas.Option.{slice_get_within}
use Rattle.batch_history.specs.Legal.{IsLegal, grown, most_operations}
use Rattle.batch_history.specs.Rows.{History, Rows}
use Rattle.batch_history.specs.declared.call.Entry.{Entry}
use Rattle.event_core.proofs.Copying.{legal-first, next-taken, taken-more}
use Rattle.event_core.specs.Worlds.{first}
use Rattle.op_log.proofs.Taking.{take-next}
use Rattle.read_copies.specs.States.{StandsForCounts}
use Rattle.read_copies.specs.declared.status_counts.StatusCounts.{StatusCounts}
use Rattle.seat_rules.specs.Places.{IsLegalLog}
use Rattle.seq_repository.specs.Kept.{Kept, StandsFor, IsNext}
use Rattle.refused_calls.specs.Behind.{AreBehind, IsCopy}

-- the first operations with the next one are legal
pub legal-next : (h : History) (n : ℕ) (e : Entry) → IsLegal most_operations h → slice_get h.log n ≡ Some e → IsLegalLog h.catalogue (take n h.log ++ e ∷ [])
legal-next h n e legal there = subst (IsLegalLog h.catalogue) (take-next h.log n e there) (legal-first (n + 1) h legal)

-- what a copy takes in next
pub copy-next : (h : History) (kept : Kept) (e : Entry) → IsLegal most_operations h → IsCopy h kept → slice_get h.log kept.count ≡ Some e → IsNext most_operations kept e
copy-next h kept e legal copy there =
    let next = next-taken (StandsFor kept) h kept.count e legal copy there in
    record { history = next.0; stands = next.1; legal = next.2 }

-- it is a copy then, of one operation more
copy-more : (h : History) (kept new : Kept) (e : Entry) → slice_get h.log kept.count ≡ Some e → StandsFor new (grown (first kept.count h) e) → IsCopy h new
copy-more h kept new e there stands =
    let more = taken-more (StandsFor new) h kept.count e there stands in
    let within : kept.count < length h.log = slice_get_within h.log kept.count e there in
    let count : new.count ≡ kept.count + 1 = ap (λ (r : Rows). r.count) more.0 ∙ (length-reverse (take (kept.count + 1) h.log) ∙ length-take-le (kept.count + 1) h.log (omega arith)) in
    subst (λ n. StandsFor new (first n h)) (sym count) more.0

-- a copy that took in the next operation, or was refused memory, is a copy
pub copy-follows : {E : Type 0} → (h : History) (old new : Kept) (e : Entry) (r : Result (Unit {0}) E) → IsCopy h old → slice_get h.log old.count ≡ Some e
    → OnOk r (StandsFor new (grown (first old.count h) e)) → OnErr r (new ≡ old) → IsCopy h new
copy-follows h old new e (Ok done) copy there stands same = copy-more h old new e there stands
copy-follows h old new e (Err error) copy there stands same = subst (IsCopy h) (sym same) copy

-- counts that absorbed the next operation have one more
pub counts-follow : (h : History) (copy : Kept) (old new : StatusCounts Kept) (n : ℕ) (e : Entry) → AreBehind h copy old n → slice_get h.log n ≡ Some e
    → StandsForCounts most_operations (StandsFor new.repository) new.counts h.catalogue (take n h.log ++ e ∷ []) → AreBehind h copy new (n + 1)
counts-follow h copy old new n e behind there stands =
    let within = slice_get_within h.log n e there in
    record {
      copied = behind.copied;
      tallied = subst (StandsForCounts most_operations (StandsFor new.repository) new.counts h.catalogue) (sym (take-next h.log n e there)) stands;
      within = omega (arith, within);
    }

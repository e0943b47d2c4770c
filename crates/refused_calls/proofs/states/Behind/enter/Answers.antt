use Rattle.std.proofs.Common.{◌≡◌, ◌∙◌, Some, ap, sym, lit<}
use Rattle.std.specs.Prelude.{slice_get}
use Rattle.batch_history.specs.Rows.{History}
use Rattle.event_core.specs.Worlds.{first}
use Rattle.seq_repository.specs.Kept.{Kept}
use Rattle.event_core.proofs.Copying.{legal-first}
use Rattle.refused_calls.proofs.Following.{copy-follows, copy-next}
use Rattle.refused_calls.proofs.states.Behind.enter.Goals as goal

pub enter-entered-requires : goal.enter-entered-requires
enter-entered-requires c =
    let h : History = c.self.inside.book in
    let old : Kept = c.self.inside.copy.repository in
    let next = c.in_ok-entry.ensures in
    let there : slice_get h.log old.count ≡ Some c.in_ok-entry.entry.now = ap (slice_get h.log) (sym c.len.ensures) ∙ next.there in
    (lit< tt, copy-next h old c.in_ok-entry.entry.now next.legal c.self.invariant.copied there)

pub invariant_of-self : goal.invariant_of-self
invariant_of-self c =
    let h : History = c.self.inside.book in
    let old : Kept = c.self.inside.copy.repository in
    let next = c.in_ok-entry.ensures in
    let copied = c.self.invariant.copied in
    let there : slice_get h.log old.count ≡ Some c.in_ok-entry.entry.now = ap (slice_get h.log) (sym c.len.ensures) ∙ next.there in
    let stands = c.enter-entered.ensures.stands (first old.count h) (legal-first old.count h next.legal) copied in
    record {
      copied = copy-follows h old c.enter-entered.new.self c.in_ok-entry.entry.now c.enter-entered.result copied there stands c.enter-entered.ensures.unchanged;
      tallied = c.self.invariant.tallied;
      within = c.self.invariant.within;
    }

use Rattle.std.proofs.Common.{◌≡◌, ◌∙◌, Some, ap, sym, take, refl}
use Rattle.std.specs.Prelude.{slice_get}
use Rattle.std.proofs.lemmas.Result.{on_err_weaker, on_ok_weaker}
use Rattle.batch_history.specs.Rows.{History}
use Rattle.seq_repository.specs.Kept.{Kept}
use Rattle.refused_calls.proofs.Following.{copy-follows, legal-next}
use Rattle.refused_calls.proofs.states.Behind.absorb.Goals as goal

pub absorb-absorbed-requires : goal.absorb-absorbed-requires
absorb-absorbed-requires c =
    let h : History = c.self.inside.book in
    let old : Kept = c.self.inside.copy.repository in
    let next = c.in_ok-entry.ensures in
    let there : slice_get h.log old.count ≡ Some c.in_ok-entry.entry.now = ap (slice_get h.log) (sym c.len.ensures) ∙ next.there in
    record { next = (h.catalogue, take old.count h.log, record { limit_is = refl; stood = c.self.invariant.copied }, legal-next h old.count c.in_ok-entry.entry.now next.legal there) }

pub invariant_of-self : goal.invariant_of-self
invariant_of-self c =
    let h : History = c.self.inside.book in
    let old : Kept = c.self.inside.copy.repository in
    let next = c.in_ok-entry.ensures in
    let copied = c.self.invariant.copied in
    let there : slice_get h.log old.count ≡ Some c.in_ok-entry.entry.now = ap (slice_get h.log) (sym c.len.ensures) ∙ next.there in
    let stands = c.absorb-absorbed.ensures.absorbed h.catalogue (take old.count h.log) record { limit_is = refl; stood = copied } (legal-next h old.count c.in_ok-entry.entry.now next.legal there) in
    record {
      copied = copy-follows h old c.absorb-absorbed.new.self.repository c.in_ok-entry.entry.now c.absorb-absorbed.result copied there (on_ok_weaker c.absorb-absorbed.result (λ stands. stands.stood) stands)
          (on_err_weaker c.absorb-absorbed.result (λ same. ap (λ state. state.repository) same) c.absorb-absorbed.ensures.refused);
      tallied = c.self.invariant.tallied;
      within = c.self.invariant.within;
    }

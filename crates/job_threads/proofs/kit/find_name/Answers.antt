use Rattle.std.proofs.Common.{◌∙◌, sym, ap, string_bytes}
use Rattle.job_threads.proofs.Kits.{place-found, place-passed}
use Rattle.job_threads.proofs.kit.find_name.Goals as goal

pub returns-then-eq-clause-place : goal.returns-then-eq-clause-place
returns-then-eq-clause-place g c = sym (place-found (λ e. string_bytes e.name) _ _ _ c.index-all-at.result _ _ c.loop-at-test.true c.index-all-at.is (c.as_str.ensures.value ∙ ap (λ (e : _). string_bytes e.name) (sym c.index-all-at.is)) c.eq.ensures c.if-eq.true) ∙ c.loop-at.invariant

pub loop-at-preserved : goal.loop-at-preserved
loop-at-preserved g c = sym (place-passed (λ e. string_bytes e.name) _ _ _ c.index-all-at.result _ _ c.loop-at-test.true c.index-all-at.is (c.as_str.ensures.value ∙ ap (λ (e : _). string_bytes e.name) (sym c.index-all-at.is)) c.eq.ensures c.if-eq.false) ∙ c.loop-at.invariant

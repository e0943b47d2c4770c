use Rattle.std.proofs.Common.{◌∙◌, ◌∷◌, [], ℕ, List, sym, subst}
use Rattle.file_host.specs.Making.{IsReady}
use Rattle.program_calls.proofs.Readied.{ready-by}
use Rattle.program_calls.proofs.logs.run_log.Goals as goal

pub new-host-requires-clause-ready : goal.new-host-requires-clause-ready
new-host-requires-clause-ready g c =
    let past = c.make_anew.new.disk.tape.past.calls in
    subst (λ (l : List ℕ). (n : List ℕ) × IsReady past n l) (c.deref.ensures.value ∙ sym c.deref-2.ensures.value)
    (ready-by (108 ∷ 111 ∷ 103 ∷ []) [] c.deref.result.now c.new-disk.result.tape.past.calls past c.make_anew.result c.new-disk.ensures (sym c.is_err.ensures.value ∙ c.if-is_err.false) c.make_anew.ensures.made)

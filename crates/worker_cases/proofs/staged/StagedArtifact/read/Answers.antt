use Rattle.std.proofs.Common.{◌∙◌, ℕ, ◌<◌, length, refl, List, String, arith}
use Rattle.std.proofs.lemmas.Option.{slice_get_read}
use Rattle.std.specs.declared.alloc.Global.{Global}
use Rattle.worker_cases.proofs.Staging.{read-next}
use Rattle.worker_cases.proofs.staged.StagedArtifact.read.Goals as goal

pub returns-in-Ok : goal.returns-in-Ok
returns-in-Ok c =
    let items : List (String Global) = c.args.self.now.items.items in
    let at : ℕ = c.args.self.now.at in
    let within : at < length items = omega (arith, c.if-self-len.false, c.len.ensures) in
    read-next items at c.args.self.now.tape.told c.index.result.now c.in-Ok.item
    (slice_get_read items (length items) at c.index.result.now refl within c.index.ensures)
    (c.in-Ok.ensures ∙ c.as_str.ensures.value)

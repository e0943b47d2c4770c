use Rattle.std.proofs.Common.{ℕ, List, Bor, map, ap₂, subst}
use Rattle.script_lines.specs.Tape.{told_by, held_by}
use Rattle.batch_commands.specs.Devices.{Devices, devices}
use Rattle.batch_commands.specs.Statuses.{IsServed}
use Rattle.batch_commands.proofs.main_program.program_over.Goals as goal

pub returns : goal.returns
returns g c =
    let words : List (List ℕ) = map (λ (w : Bor (List ℕ)). w.now) c.args.words.now in
    let served = c.serve-status.result in
    let source = c.serve-status.new.source in
    let after : Devices = devices (told_by source.tape.past (g.D.Read.remaining source.inner)) (held_by served.2.tape.past (g.W.Write.contents served.2.inner)) (g.K.Disk.past served.1) in
    let told = ap₂ (λ past reader. told_by past (g.D.Read.remaining reader)) c.new-source.ensures.past c.new-source.ensures.device in
    let held = ap₂ (λ past writer. held_by past (g.W.Write.contents writer)) c.new-sink.ensures.past c.new-sink.ensures.device in
    (after, subst (λ (x : Devices). IsServed words x after served.0) (λ i. devices (told i) (held i) (c.requires.fresh_disk i)) c.serve-status.ensures)

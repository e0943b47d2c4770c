use Rattle.std.proofs.Common.{ap, arith, length, string_bytes}
use Rattle.std.proofs.lemmas.List.{length-map}
use Rattle.job_threads.specs.Steps.{bytes_of}
use Rattle.job_threads.proofs.Stepped.{stepped}
use Rattle.job_threads.proofs.chunk.run_group.Goals as goal

pub returns-clause-steps : goal.returns-clause-steps
returns-clause-steps g c =
    let r = c.in-Ok.ensures in
    stepped c.args.roles c.args.chunk.now.size c.in-Ok.group.read c.args.chunk.now.work c.args.chunk.now.at c.len.result (bytes_of c.in-Ok.group) c.in-Ok.group.ended _ _ _ _ _ _ r.0 r.1 _ record { some = omega arith; read = r.2; end = r.3; full = r.4; written = rw c.as_slice.ensures.value at c.in-Ok-write_kept.ensures } (omega (arith, c.as_slice.ensures.len, ap length c.as_slice.ensures.value, length-map c.in-Ok.group.kept.items string_bytes)) c.report_group.ensures.marks

use Rattle.std.proofs.Common.{◌≡◌, ◌<◌, ℕ, length, string_bytes, arith, false, nat_eq, ◌∙◌, sym}
use Rattle.std.proofs.lemmas.List.{length-map}
use Rattle.std.proofs.lemmas.Bool.Decides.{nat_tests}
use Rattle.job_threads.proofs.Turns.{writes}
use Rattle.job_threads.proofs.group.write_kept.Goals as goal

some-of : (n : ℕ) → nat_eq n 0 ≡ false → 0 < n
some-of n e = grind (arith, nat_tests)

pub returns : goal.returns
returns g c =
    let some : 0 < length c.args.kept.now = some-of _ (sym c.is_empty.ensures ∙ c.if-is_empty.false) in
    writes c.args.writer _ c.write.result _ _ c.requires (omega (arith, length-map c.args.kept.now string_bytes)) c.write.ensures

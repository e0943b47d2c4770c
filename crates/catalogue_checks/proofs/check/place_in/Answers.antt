use Rattle.std.proofs.Common.{rules, ◌≡◌}
use Rattle.std.specs.Str.{IsUtf8}
use Rattle.catalogue_checks.proofs.Judging.{no_text, no_place, placed}
use Rattle.catalogue_checks.proofs.check.place_in.Goals as goal

pub returns-in_ok-place-in-Ok : goal.returns-in_ok-place-in-Ok
returns-in_ok-place-in-Ok c =
    let same : c.in-Ok.text.now ≡ c.args.line.now = search rules in
    placed c.args.line.now c.in-Ok.text.now c.args.fault c.in_ok-place-in-Ok.place same c.requires.fault c.in_ok-place-in-Ok.ensures.site c.in_ok-place-in-Ok.ensures.known

pub returns-in-Err : goal.returns-in-Err
returns-in-Err c =
    let none : IsUtf8 c.args.line.now → ⊥ = search rules in
    no_place c.args.line.now c.args.fault (no_text c.args.line.now c.args.fault none c.requires.fault)

use Rattle.std.proofs.Common.{ℕ, ◌==◌, position, sym, ◌∙◌, ap}
use Rattle.record_lists.proofs.Numbers.{absent, removed_first, none_removed}
use Rattle.record_lists.proofs.name_lists.remove_number.Goals as goal

pub returns-in-Some : goal.returns-in-Some
returns-in-Some c =
    c.remove.ensures.rest
    ∙ removed_first c.args.number c.args.numbers.now c.in-Some.place
    (sym (ap (position (λ n. n == c.args.number)) c.as_slice.ensures) ∙ (sym c.place_of.ensures ∙ c.in-Some.is))

pub returns-in_default : goal.returns-in_default
returns-in_default c =
    none_removed c.args.number c.args.numbers.now
    (absent (λ n. n == c.args.number) c.args.numbers.now
    (sym (ap (position (λ n. n == c.args.number)) c.as_slice.ensures) ∙ (sym c.place_of.ensures ∙ c.in_default.is)))

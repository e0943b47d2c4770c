use Rattle.std.proofs.Common.{◌≡◌, ℕ, ◌-◌, List, Some, find, length, slice_get, sym, ◌∙◌, ap, subst}
use Rattle.std.specs.Option.{option_copied}
use Rattle.batch_history.specs.Works.{is_work}
use Rattle.records.proofs.Stepped.{newest_found}
use Rattle.records.proofs.records.Records.newest_of_step.Goals as goal

pub returns-in-Some : goal.returns-in-Some
returns-in-Some c i own =
    let n : ℕ = c.in-Some.number.now in
    let numbers : List ℕ = c.step_numbers.result.now in
    let last : slice_get numbers (length numbers - 1) ≡ Some n = sym c.last.ensures.value ∙ ap option_copied c.in-Some.is in
    c.work.ensures
    ∙ (ap (λ (w : ℕ). find (is_work w) c.args.self.now.works) c.new.ensures
    ∙ newest_found i c.args.step.now c.args.self.now.executions c.args.self.now.works n c.step_numbers.ensures.keyed.works
    (subst (λ (ns : List ℕ). slice_get ns (length ns - 1) ≡ Some n) (c.step_numbers.ensures.numbers ∙ own c.args.step.now) last))

use Rattle.std.proofs.Common.{◌≡◌, ℕ, ◌==◌, List, length, sym, ◌∙◌, ap}
use Rattle.std.proofs.lemmas.List.{length-map}
use Rattle.batch_history.specs.declared.rows.WorkRow.{WorkRow}
use Rattle.records.specs.Belonging.{works_of}
use Rattle.records.specs.Indexes.{numbers_under}
use Rattle.records.specs.Maps.{Maps, work_numbers}
use Rattle.record_lists.proofs.Listing.{empty_list}
use Rattle.records.proofs.records.Records.has_no_work.Goals as goal

pub returns : goal.returns
returns c is =
    let own : List WorkRow = works_of c.args.x c.self.inside.works.rows in
    let numbers : c.under.result.now ≡ work_numbers own = c.under.ensures ∙ (ap (numbers_under c.self.inside.works_by_execution) c.value.ensures ∙ c.self.invariant.0.works_by_execution c.args.x) in
    let same : length own ≡ length c.under.result.now = sym (ap length numbers ∙ length-map own _) in
    ap (λ (m : Maps). works_of c.args.x m.works) (sym c.self.view_is) ∙ empty_list own (ap (λ (n : ℕ). n == 0) same ∙ (sym c.is_empty.ensures ∙ is))

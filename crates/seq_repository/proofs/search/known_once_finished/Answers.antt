use Rattle.std.proofs.Common.{◌≡◌, ◌++◌, List, refl, ◌∙◌, ap, map}
use Rattle.batch_history.specs.NextRows.{over_as}
use Rattle.batch_history.specs.Lists.{change_first}
use Rattle.batch_history.specs.Works.{is_work}
use Rattle.batch_history.specs.declared.rows.WorkRow.{WorkRow}
use Rattle.walk_rules.specs.declared.facts.Known.{Known}
use Rattle.records.specs.Left.{works_left, works_of}
use Rattle.restart_rules.proofs.Reading.{known_by}
use Rattle.seq_repository.proofs.Readers.{known_changed}
use Rattle.seq_repository.proofs.search.known_once_finished.Goals as goal

pub loop-row-init : goal.loop-row-init
loop-row-init c = λ step at number.
    let over : WorkRow → WorkRow = over_as c.args.outcome c.args.exit.now step at number in
    let begun : works_left c.into_iter-row-iterator.result ≡ works_of c.args.x c.args.records.now.works =
    ap works_left c.into_iter-row-iterator.ensures.into_iter_gives ∙ c.works_of-row-items.ensures in
    ap (λ (l : List Known). l ++ map known_by (change_first (is_work c.args.w) over (works_left c.into_iter-row-iterator.result))) c.new-known.ensures.items
    ∙ (ap (λ (l : List WorkRow). map known_by (change_first (is_work c.args.w) over l)) begun
    ∙ known_changed c.args.x (is_work c.args.w) over c.args.records.now.works (λ row. refl) c.requires)

use Rattle.std.proofs.Common.{[]}
use Rattle.batch_history.specs.Rows.{history}
use Rattle.read_copies.proofs.Counting.{counts_are}
use Rattle.read_copies.proofs.status_counts.StatusCountsAbsorb.begin.Goals as goal

pub returns : goal.returns
returns g c =
    let h = history c.args.catalogue [] in
    let stands = c.in_ok-repository.ensures.stands in
    record { kept = record { limit_is = c.requires; stood = stands }; counts_are = counts_are h _ (c.status_counts-counts.ensures h stands) }

use Rattle.std.proofs.Common.{◌≡◌, [], ◌∷◌, ◌++◌, List, ap, sym, ◌∙◌, subst}
use Rattle.std.proofs.lemmas.List.Elements.{All-push}
use Rattle.batch_history.specs.Rows.{History}
use Rattle.jsl_model.specs.Jobs.{JobTree}
use Rattle.event_core.specs.Copies.{AreCopies, IsCopy, lengths}
use Rattle.event_core.proofs.Copying.{lengths-push}
use Rattle.event_core.proofs.copies.empty_copies.Goals as goal

pub loop-preserved : goal.loop-preserved
loop-preserved g c =
    let stands = g.J.JobRepository.stands in
    let h : History = record { catalogue = c.args.catalogue.now; log = [] } in
    let made = c.in_ok-new.field-0 in
    let copy = subst (λ (jobs : List JobTree). IsCopy stands record { catalogue = jobs; log = [] } made) c.in_ok-try_clone.ensures c.in_ok-new.ensures.copy in
    let pushed : c.push.new.self.items ≡ c.loop.copies.items ++ made ∷ [] = c.in_ok-push.ensures.items in (
      subst (AreCopies stands h) (sym pushed) (All-push (IsCopy stands h) c.loop.copies.items made c.loop.invariant.0 copy),
      ap lengths pushed ∙ lengths-push c.loop.copies.items made c.loop.counter c.loop.invariant.1 c.in_ok-new.ensures.empty,
    )

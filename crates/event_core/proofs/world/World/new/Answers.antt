use Rattle.std.proofs.Common.{◌≡◌, ℕ, List, [], replicate, sym, subst}
use Rattle.batch_history.specs.Rows.{History}
use Rattle.event_core.specs.Copies.{AreCopies}
use Rattle.event_core.specs.Seeing.{nothing_seen}
use Rattle.event_core.specs.Worlds.{IsSound}
use Rattle.event_core.specs.declared.sessions.Seen.{Seen}
use Rattle.event_core.proofs.Soundness.{sound-empty}
use Rattle.event_core.proofs.world.World.new.Goals as goal

pub invariant_of-result : goal.invariant_of-result
invariant_of-result g c =
    let h : History = record { catalogue = c.args.catalogue; log = [] } in
    let stands = g.J.JobRepository.stands in
    let book : c.in_ok-new.field-0 ≡ h = (let same = c.in_ok-new.ensures in cc) in
    let none : List Seen = replicate c.args.sessions nothing_seen in
    let first = subst (λ (h : History). IsSound record { history = h; sessions = none; copies = replicate c.args.copies 0 }) (sym book)
    (sound-empty c.args.catalogue c.args.sessions c.args.copies) in
    let second = subst (λ (l : List Seen). IsSound record { history = c.in_ok-new.field-0; sessions = l; copies = replicate c.args.copies 0 })
    (sym c.in_ok-sessions.ensures) first in (
      subst (λ (l : List ℕ). IsSound record { history = c.in_ok-new.field-0; sessions = c.in_ok-sessions.sessions; copies = l })
          (sym c.in_ok-copies.ensures.lengths) second,
      subst (λ (h : History). AreCopies stands h c.in_ok-copies.copies.items) (sym book) c.in_ok-copies.ensures.copies,
      c.requires.limit,
    )

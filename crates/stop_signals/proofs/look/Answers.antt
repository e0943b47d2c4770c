use Rattle.std.proofs.Common.{◌≡◌, ◌≢◌, ap, ◌∙◌}
use Rattle.seat_rules.specs.Views.{glanced_at}
use Rattle.seat_rules.specs.declared.view.SessionView.{SessionView}
use Rattle.stop_signals.proofs.Stops.{found_first}
use Rattle.stop_signals.proofs.look.Goals as goal

pub returns-clause-found : goal.returns-clause-found
returns-clause-found g c t =
    let before = c.args.session.now in
    let found = c.read_stop-found.result in
    let value = c.value.ensures in
    let is : found ≡ c.args.execution = c.if-found-value.false ∙ c.value-else-value-eq0.ensures in
    let some : c.args.execution ≢ 0 = λ z. c.if-value-eq0.false (value ∙ z) in
    let p = found_first found c.args.execution before.fresh before.stops is some in
    let now = c.operations_at_least-count.ensures.shown ∙ ap (glanced_at c.operations_at_least-count.result) c.read_stop-found.ensures in
    (p.0, ap (λ (s : SessionView). s.stops) now ∙ p.1)

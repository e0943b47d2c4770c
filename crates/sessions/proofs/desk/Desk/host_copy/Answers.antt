use Rattle.std.proofs.Common.{List, ap, subst, ◌∙◌}
use mathlib.Core.List.{IsPrefix}
use Rattle.batch_history.specs.declared.call.Entry.{Entry}
use Rattle.seat_rules.specs.Places.{Known}
use Rattle.seat_rules.specs.Views.{Each}
use Rattle.sessions.specs.Sessions.{DeskState}
use Rattle.sessions.proofs.desk.Desk.host_copy.Goals as goal

pub returns-clause-learnt : goal.returns-clause-learnt
returns-clause-learnt g c =
    subst (λ (log : List Entry). Each (λ (l : List Entry). IsPrefix l log) c.args.copy) (ap (λ (k : Known). k.log) c.self.invariant.seat_is ∙ ap (λ (s : DeskState). s.log) c.self.view_is) c.host_copy.ensures.learnt

use Rattle.std.proofs.Common.{◌≤◌, ◌∷◌, [], List, take, length, ap, subst, ◌∙◌}
use mathlib.Core.List.{IsPrefix}
use Rattle.batch_history.specs.declared.call.Entry.{Entry}
use Rattle.seat_rules.specs.Views.{Each}
use Rattle.sessions.specs.Sessions.{DeskState}
use Rattle.read_copies.proofs.Kept.{copied_is, kept_is}
use Rattle.read_copies.proofs.copied.Copied.bring.Goals as goal

pub invariant_of-self : goal.invariant_of-self
invariant_of-self g c =
    let a = c.absorb_rest-result.ensures in
    copied_is _ _ _ _ _ c.part_copy.ensures.copy a.short a.legal a.stands

pub returns-clause-kept : goal.returns-clause-kept
returns-clause-kept g c =
    let a = c.absorb_rest-result.ensures in
    let s = c.self.invariant in
    let log = ap (λ (d : DeskState). d.log) c.host_copy.ensures.desk in
    kept_is _ _ _ _ _ _ (subst (Each (λ (l : List Entry). IsPrefix l c.args.desk.now.log)) c.take.ensures.seat c.host_copy.ensures.learnt) s.one c.self.view_is s.entries_is a.more
    (subst (λ (l : List Entry). c.absorb_rest-result.new.entries ≤ length l) log a.short)
    (c.part_copy.ensures.copy ∙ ap (λ l. take c.absorb_rest-result.new.entries l ∷ []) log)

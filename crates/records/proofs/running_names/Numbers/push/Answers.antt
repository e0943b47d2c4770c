use Rattle.std.proofs.Common.{◌≡◌, ◌∷◌, ◌++◌, [], ℕ, List, Bool, sym, ◌∙◌, ap, subst}
use Rattle.std.specs.Bool.{OnTrue}
use Rattle.records.specs.Maps.{AreBelow}
use Rattle.records.proofs.Sets.{put_last}
use Rattle.records.proofs.running_names.Numbers.push.Goals.{in-Ok, in-Err}
use Rattle.records.proofs.running_names.Numbers.push.Goals as goal

pub returns : goal.returns
returns c =
    let last : Bool → Type 0 = λ b. OnTrue b (c.insert.new.self.keys ≡ c.args.self.now ++ c.args.number ∷ []) in
    let below : AreBelow c.args.number c.args.self.now = subst (λ b. OnTrue b (AreBelow c.args.number c.args.self.now)) c.if-not-are_below.false c.are_below.ensures in
    elim c.match-insert.branch [
      | in-Ok w ↦ subst last (sym w.result-is) (w.in-Ok.ensures.keys
          ∙ (put_last c.args.number _ (subst (AreBelow c.args.number) (sym c.self.view_is) below) ∙ ap (λ (ns : List ℕ). ns ++ c.args.number ∷ []) c.self.view_is))
      | in-Err w ↦ subst last (sym w.result-is) tt
    ]

use Rattle.std.proofs.Common.{◌≡◌, subst, sym, ap, ◌∙◌, false, true}
use Rattle.std.specs.Str.{chars}
use Rattle.std.proofs.lemmas.List.{get_or_default}
use Rattle.std.proofs.lemmas.List.Elements.{AllWithin-more}
use Rattle.transitions.specs.Transitions.{MatchesOn, matches_on}
use Rattle.transitions.specs.Patterns.{Matches, is_match}
use Rattle.batch_ids.proofs.Found.{find_at_place, find_past_place}
use Rattle.transitions.proofs.matching.first_match.Goals as goal

pub loop-i-preserved : goal.loop-i-preserved
loop-i-preserved c = record {
  none = AllWithin-more (λ t. ¬ MatchesOn c.args.exit.now t) c.args.transitions.now 0 c.loop-i.i c.loop-i.invariant.none
      (λ d fits.
      let t = c.index-transitions-i.result in
      let e = get_or_default c.args.transitions.now c.loop-i.i d t c.loop-i-test.true in
      let h = rw (e, ← c.index-transitions-i.is) at fits in
      let v = sym c.as_str.ensures.same in
      let m : Matches (chars c.as_str.result.now) (chars c.args.exit.now) = subst (λ bs. Matches (chars bs) (chars c.args.exit.now)) v h in
      let f : false ≡ true = c.if-matches.ensures.cut.1 m in cc);
  same =
      find_past_place (matches_on c.args.exit.now) c.args.transitions.now c.loop-i.i c.index-transitions-i.result c.loop-i-test.true c.index-transitions-i.is
      (ap (λ bs. is_match (chars bs) (chars c.args.exit.now)) (sym c.as_str.ensures.same) ∙ (sym c.matches.ensures.same ∙ c.if-matches.false))
      ∙ c.loop-i.invariant.same;
}

pub returns-then-matches-clause-same : goal.returns-then-matches-clause-same
returns-then-matches-clause-same c = (
  c.loop-i-test.true,
  sym c.loop-i.invariant.same
      ∙ find_at_place (matches_on c.args.exit.now) c.args.transitions.now c.loop-i.i c.index-transitions-i.result c.loop-i-test.true c.index-transitions-i.is
      (ap (λ bs. is_match (chars bs) (chars c.args.exit.now)) (sym c.as_str.ensures.same) ∙ (sym c.matches.ensures.same ∙ c.if-matches.true)),
)

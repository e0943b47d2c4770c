use Rattle.std.proofs.Common.{List, [], ◌+◌, ℕ, ap, sym, ◌∙◌, subst}
use Rattle.std.proofs.lemmas.List.Elements.{All-push}
use Rattle.std.specs.List.{All}
use Rattle.jsl_model.specs.Jobs.{JobTree}
use Rattle.batch_operator.proofs.states.states_of_nothing.Goals as goal

pub loop-number-preserved : goal.loop-number-preserved
loop-number-preserved g c =
    let stands = g.S.Absorb.stands in
    let nothing = subst (λ (jobs : List JobTree). stands c.in_ok-begin.field-0 jobs []) c.in_ok-try_clone.ensures c.in_ok-begin.ensures in
    record {
      empty = subst (λ l. All (λ s. stands s c.args.catalogue.now []) l) (sym c.in_ok-push.ensures.items)
          (All-push (λ s. stands s c.args.catalogue.now []) c.loop-number.states.items c.in_ok-begin.field-0 c.loop-number.invariant.empty nothing);
      count = c.in_ok-push.ensures.len ∙ ap (λ (n : ℕ). n + 1) c.loop-number.invariant.count;
    }

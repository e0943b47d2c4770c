use Rattle.std.proofs.Common.{◌≤◌, ap, sym, ◌∙◌, subst}
use Rattle.jsl_model.specs.declared.element.Body.TheVariants.{Flow, Split}
use Rattle.jsl_model.specs.declared.element.SplitFlow.{out-SplitFlow}
use Rattle.walk_rules.specs.Counts.{count_of}
use Rattle.job_plans.specs.Runnables.{all_leaves, run_with}
use Rattle.job_plans.proofs.Near.{flow-run, flow-once-in, split-run, split-once-in}
use Rattle.job_plans.proofs.runnable.list_inside.Goals as goal

pub returns-then-flow-flows : goal.returns-then-flow-flows
returns-then-flow-flows c = λ key once.
    let flows = c.as_slice-flows.result.now in
    let f = c.index-flows-flow.result in
    let is = c.in-Split.is ∙ ap Split (sym c.as_slice-flows.ensures) in
    let these = c.as_slice-then-flow-flows.ensures ∙ ap (λ flow. (out-SplitFlow flow).elements) (sym c.index-flows-flow.is) in (
      subst (λ xs. count_of key.element xs ≤ 1) (sym these)
          (split-once-in key.element c.args.element.now flows c.args.flow f is once c.if-flow-flows.true c.index-flows-flow.is),
      λ run found.
          split-run c.args.element.now flows key c.args.flow f run is once c.if-flow-flows.true c.index-flows-flow.is
          (ap (λ xs. run_with (all_leaves xs) key) (sym these) ∙ found),
    )

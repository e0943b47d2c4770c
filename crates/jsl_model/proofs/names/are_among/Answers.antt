use Rattle.std.proofs.Common.{◌∙◌, [], get_or, sym}
use Rattle.jsl_model.proofs.Among.{texts, are_among-next, are_among-not}
use Rattle.jsl_model.proofs.names.are_among.Goals as goal

pub loop-name-preserved : goal.loop-name-preserved
loop-name-preserved c =
    let name = get_or c.args.names.now c.loop-name.name-index (record { ref_ptr = (0, 0); now = [] }) in
    are_among-next (texts c.args.held.now) c.args.names.now c.loop-name.name-index (record { ref_ptr = (0, 0); now = [] }) c.loop-name-test.true
    (sym (c.in_ok-set.ensures name.now) ∙ (sym c.contains.ensures ∙ c.if-not-contains.false))
    ∙ c.loop-name.invariant

pub returns-then-not-contains : goal.returns-then-not-contains
returns-then-not-contains c =
    let name = get_or c.args.names.now c.loop-name.name-index (record { ref_ptr = (0, 0); now = [] }) in
    sym (are_among-not (texts c.args.held.now) c.args.names.now c.loop-name.name-index (record { ref_ptr = (0, 0); now = [] }) c.loop-name-test.true
    (sym (c.in_ok-set.ensures name.now) ∙ (sym c.contains.ensures ∙ c.if-not-contains.true)))
    ∙ c.loop-name.invariant

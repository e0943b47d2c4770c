use Rattle.std.proofs.Common.{◌∙◌, Bool, true, [], cond, get_or, bytes_eq, sym, ap}
use Rattle.jsl_model.proofs.Among.{among-more}
use Rattle.jsl_model.proofs.names.set_of.Goals as goal

pub loop-name-preserved : goal.loop-name-preserved
loop-name-preserved c = λ q.
    c.in_ok-insert.ensures.updates.0 (record { ref_ptr = (0, 0); now = q })
    ∙ (ap (λ (b : Bool). cond (bytes_eq (get_or c.args.names.now c.loop-name.name-index (record { ref_ptr = (0, 0); now = [] })).now q) true b) (c.loop-name.invariant q)
    ∙ sym (among-more c.args.names.now c.loop-name.name-index (record { ref_ptr = (0, 0); now = [] }) q c.loop-name-test.true))

use Rattle.std.proofs.Common.{◌∙◌, ◌+◌, ◌++◌, Bor, List, ℕ, [], drop, bytes_eq, sym, ap}
use Rattle.std.specs.HashSet as hash
use Rattle.std.proofs.lemmas.List.{drop_more}
use Rattle.jsl_model.specs.Names.{unheld}
use Rattle.jsl_model.proofs.Among.{texts}
use Rattle.jsl_model.proofs.names.distinct.Goals as goal

pub loop-name-preserved : goal.loop-name-preserved
loop-name-preserved c =
    c.in_ok-add_new.ensures (texts (drop (c.loop-name.name-index + 1) c.args.names.now))
    ∙ (ap (λ (ns : List (Bor (List ℕ))). texts c.loop-name.kept.items ++ unheld (λ name. hash.contains_by (λ key. bytes_eq name key.now) c.loop-name.seen) (texts ns))
    (sym (drop_more c.args.names.now c.loop-name.name-index (record { ref_ptr = (0, 0); now = [] }) c.loop-name-test.true))
    ∙ c.loop-name.invariant)

use Rattle.std.proofs.Common.{◌∷◌, bytes_eq}
use Rattle.std.specs.HashSet as hash
use Rattle.jsl_model.specs.Names.{unheld}
use Rattle.jsl_model.proofs.Among.{kept-more, unheld-new, was-new}
use Rattle.jsl_model.proofs.names.add_new.Goals as goal

pub returns : goal.returns
returns c = λ rest.
    kept-more c.args.kept.now.items c.push.new.self.items c.args.name c.in_ok-push.ensures.items
    (unheld (λ other. hash.contains_by (λ key. bytes_eq other key.now) c.insert.new.self) rest)
    (unheld (λ other. hash.contains_by (λ key. bytes_eq other key.now) c.args.seen.now) (c.args.name.now ∷ rest))
    (unheld-new (λ other. hash.contains_by (λ key. bytes_eq other key.now) c.args.seen.now) (λ other. hash.contains_by (λ key. bytes_eq other key.now) c.insert.new.self)
    c.args.name.now (λ q. c.in_ok-insert.ensures.updates.0 (record { ref_ptr = (0, 0); now = q })) (was-new _ _ c.in_ok-insert.ensures.added c.if-not-branch.false) rest)

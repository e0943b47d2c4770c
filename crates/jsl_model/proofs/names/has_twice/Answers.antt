use Rattle.std.proofs.Common.{◌∙◌, ℕ, Bor, List, [], bytes_eq, sym, ap}
use Rattle.std.specs.HashSet as hash
use Rattle.std.specs.List.{list_any}
use Rattle.jsl_model.proofs.Among.{texts, repeats-here, repeats-next, repeats-first, was-new, was-held}
use Rattle.jsl_model.proofs.names.has_twice.Goals as goal

pub loop-name-init : goal.loop-name-init
loop-name-init c =
    repeats-first (λ name. hash.contains_by (λ key. bytes_eq name key.now) c.new-seen.result)
    (λ q. ap (λ (keys : List (Bor (List ℕ))). list_any (λ key. bytes_eq q key.now) keys) c.new-seen.ensures.empty)
    (texts c.args.names.now)

pub loop-name-preserved : goal.loop-name-preserved
loop-name-preserved c =
    repeats-next (λ name. hash.contains_by (λ key. bytes_eq name key.now) c.loop-name.seen) (λ name. hash.contains_by (λ key. bytes_eq name key.now) c.insert.new.self)
    c.args.names.now c.loop-name.name-index (record { ref_ptr = (0, 0); now = [] }) c.loop-name-test.true
    (λ q. c.in_ok-insert.ensures.updates.0 (record { ref_ptr = (0, 0); now = q }))
    (was-new _ _ c.in_ok-insert.ensures.added c.if-not-branch.false)
    ∙ c.loop-name.invariant

pub returns-then-not-branch : goal.returns-then-not-branch
returns-then-not-branch c =
    sym (repeats-here (λ name. hash.contains_by (λ key. bytes_eq name key.now) c.loop-name.seen) c.args.names.now c.loop-name.name-index (record { ref_ptr = (0, 0); now = [] })
    c.loop-name-test.true (was-held _ _ c.in_ok-insert.ensures.added c.if-not-branch.true))
    ∙ c.loop-name.invariant

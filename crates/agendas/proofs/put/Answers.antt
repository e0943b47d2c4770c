use Rattle.std.proofs.Common.{◌≡◌, ℕ, cond, subst, List}
use Rattle.std.specs.Ordering.{is_eq, nat_cmp}
use Rattle.std.specs.Bool.{OnFalse}
use Rattle.std.specs.Set.{remove_key}
use Rattle.agendas.proofs.Numbers.{put_back}
use Rattle.agendas.proofs.put.Goals as goal

-- src/lib.rt:18:1
pub returns-in_ok-added-clause-back : goal.returns-in_ok-added-clause-back
returns-in_ok-added-clause-back c =
    let old : List ℕ = c.args.agenda.now.keys in
    let new : List ℕ = c.insert.new.self.keys in
    subst (λ x. cond c.in_ok-added.added (remove_key (λ y. is_eq (nat_cmp x y)) new) new ≡ old) c.value.ensures
    (put_back c.in_ok-added.added c.value.result old new c.in_ok-added.ensures.added c.in_ok-added.ensures.keys (λ e. subst (λ b. OnFalse b (new ≡ old)) e c.in_ok-added.ensures.unchanged))

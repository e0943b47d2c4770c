use Rattle.std.proofs.Common.{ℕ, ◌∷◌, ◌++◌, [], refl, sym, subst}
use Rattle.seat_rules.proofs.Prefixes.{legal_prefix}
use Rattle.batch_history.specs.Legal.{IsLegal}
use Rattle.std.proofs.lemmas.Result.{on_ok_weaker}
use Rattle.batch_history.specs.Rows.{history}
use Rattle.read_copies.proofs.states.RepositoryStateAbsorb.absorb.Goals as goal

pub enter-requires : goal.enter-requires
enter-requires g c =
    let r = c.requires.next in
    (history r.0 r.1, r.2.stood, subst (λ (l : ℕ). IsLegal l (history r.0 (r.1 ++ c.args.entry.now ∷ []))) (sym r.2.limit_is) r.3)

pub returns-clause-absorbed : goal.returns-clause-absorbed
returns-clause-absorbed g c catalogue log stands legal =
    let before = legal_prefix catalogue log (log ++ c.args.entry.now ∷ []) (c.args.entry.now ∷ [], refl) legal in
    let h = history catalogue log in
    let entered = c.enter.ensures.stands h (subst (λ (l : ℕ). IsLegal l h) (sym stands.limit_is) before) stands.stood in
    on_ok_weaker c.enter.result (λ stood. record { limit_is = stands.limit_is; stood = stood }) entered

use Rattle.std.proofs.Common.{ℕ, ◌∷◌, ◌++◌, [], refl, sym, subst}
use Rattle.seat_rules.proofs.Prefixes.{legal_prefix}
use Rattle.batch_history.specs.Legal.{IsLegal}
use Rattle.batch_history.specs.Rows.{history}
use Rattle.read_copies.proofs.Counting.{counts_are}
use Rattle.read_copies.proofs.status_counts.StatusCountsAbsorb.absorb.Goals as goal

pub enter-requires : goal.enter-requires
enter-requires g c =
    let r = c.requires.next in
    (history r.0 r.1, r.2.kept.stood, subst (λ (l : ℕ). IsLegal l (history r.0 (r.1 ++ c.args.entry.now ∷ []))) (sym r.2.kept.limit_is) r.3)

pub returns-clause-absorbed : goal.returns-clause-absorbed
returns-clause-absorbed g c catalogue log stands legal =
    let e = c.args.entry.now in
    let before = legal_prefix catalogue log (log ++ e ∷ []) (e ∷ [], refl) legal in
    let h = history catalogue log in
    let now = c.in_ok-enter.ensures.stands h (subst (λ (l : ℕ). IsLegal l h) (sym stands.kept.limit_is) before) stands.kept.stood in
    record {
      kept = record { limit_is = stands.kept.limit_is; stood = now };
      counts_are = counts_are (history catalogue (log ++ e ∷ [])) _ (c.status_counts-self.ensures (history catalogue (log ++ e ∷ [])) now);
    }

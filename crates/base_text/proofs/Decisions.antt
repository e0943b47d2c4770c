-- The `==` that is derived for rows is true exactly if the two are equal.
use Rattle.std.proofs.Common.{◌≡◌, ◌==◌, ◌&&◌, Bool, Option, ℕ, List, sym, ap, subst, bytes_eq, rules}
use Rattle.std.specs.Bool.{Decides}
use Rattle.std.specs.Option.{option_eq}
use Rattle.std.proofs.lemmas.Bool.Decides.{Decides-and, Decides-eqb}
use Rattle.std.proofs.lemmas.Slice.Eq.{bytes_eq-Decides}
use Rattle.batch_ids.specs.declared.metrics.Metrics.{Metrics}
use Rattle.batch_ids.specs.declared.status.BatchStatus.{BatchStatus}
use Rattle.batch_ids.specs.contracts.metrics.MetricsPartialEq.TheImpl as metrics_impl
use Rattle.batch_ids.specs.contracts.status.BatchStatusPartialEq.TheImpl as status_impl
use Rattle.batch_history.specs.declared.call.WorkKind.{WorkKind}
use Rattle.batch_history.specs.contracts.call.WorkKindPartialEq.TheImpl as kind_impl
use Rattle.batch_history.specs.declared.rows.WorkRow.{WorkRow}
use Rattle.batch_history.specs.declared.rows.WorkState.{WorkState}
use Rattle.batch_history.specs.contracts.rows.WorkRowPartialEq.TheImpl as work_impl
use Rattle.batch_history.specs.contracts.rows.WorkStatePartialEq.TheImpl as state_impl
use Rattle.walk_rules.specs.declared.work_key.WorkKey.{WorkKey}
use Rattle.walk_rules.specs.contracts.work_key.WorkKeyPartialEq.TheImpl as key_impl

by_parts : {P Q : Type 0} (test : Bool) → Decides test P → (P → Q) → (Q → P) → Decides test Q
by_parts test parts join split = (λ e. join (parts.0 e), λ same. parts.1 (split same))

-- a test is true exactly if another one that equals it is
pub decided : {P : Type 0} (r test : Bool) → r ≡ test → Decides test P → Decides r P
decided {P} r test same d = let D : Bool → Type 0 = λ b. Decides b P in subst D (sym same) d

pub pair_decides : (a b : List ℕ × List ℕ) → Decides (bytes_eq a.0 b.0 && bytes_eq a.1 b.1) (a ≡ b)
pair_decides a b =
    by_parts _ (Decides-and _ _ (bytes_eq-Decides a.0 b.0) (bytes_eq-Decides a.1 b.1))
    (λ parts i. (parts.0 i, parts.1 i))
    (λ same. (ap (λ (p : List ℕ × List ℕ). p.0) same, ap (λ (p : List ℕ × List ℕ). p.1) same))

pub status_decides : (a b : BatchStatus) → Decides (status_impl.ghosts.eq a b) (a ≡ b)
status_decides a b = search rules

numbers_decide : (a b : Option ℕ) → Decides (option_eq ◌==◌ a b) (a ≡ b)
numbers_decide a b = search rules

kind_decides : (a b : WorkKind) → Decides (kind_impl.ghosts.eq a b) (a ≡ b)
kind_decides a b = search rules

state_decides : (a b : WorkState) → Decides (state_impl.ghosts.eq a b) (a ≡ b)
state_decides a b = search rules

pub key_decides : (a b : WorkKey) → Decides (key_impl.ghosts.eq a b) (a ≡ b)
key_decides a b =
    by_parts _ (Decides-and _ _ (bytes_eq-Decides a.element b.element) (Decides-eqb a.partition b.partition))
    (λ parts i. record { element = parts.0 i; partition = parts.1 i })
    (λ same. (ap (λ (k : WorkKey). k.element) same, ap (λ (k : WorkKey). k.partition) same))

metrics_decide : (a b : Metrics) → Decides (metrics_impl.ghosts.eq a b) (a ≡ b)
metrics_decide a b =
    by_parts _ (Decides-and _ _ (Decides-eqb a.read_count b.read_count)
    (Decides-and _ _ (Decides-eqb a.write_count b.write_count)
    (Decides-and _ _ (Decides-eqb a.commit_count b.commit_count)
    (Decides-and _ _ (Decides-eqb a.rollback_count b.rollback_count)
    (Decides-and _ _ (Decides-eqb a.read_skip_count b.read_skip_count)
    (Decides-and _ _ (Decides-eqb a.process_skip_count b.process_skip_count)
    (Decides-and _ _ (Decides-eqb a.filter_count b.filter_count) (Decides-eqb a.write_skip_count b.write_skip_count))))))))
    (λ p i. record {
      read_count = p.0 i;
      write_count = p.1.0 i;
      commit_count = p.1.1.0 i;
      rollback_count = p.1.1.1.0 i;
      read_skip_count = p.1.1.1.1.0 i;
      process_skip_count = p.1.1.1.1.1.0 i;
      filter_count = p.1.1.1.1.1.1.0 i;
      write_skip_count = p.1.1.1.1.1.1.1 i;
    })
    (λ same. (
      ap (λ (m : Metrics). m.read_count) same,
      (
        ap (λ (m : Metrics). m.write_count) same,
        (
          ap (λ (m : Metrics). m.commit_count) same,
          (
            ap (λ (m : Metrics). m.rollback_count) same,
            (
              ap (λ (m : Metrics). m.read_skip_count) same,
              (
                ap (λ (m : Metrics). m.process_skip_count) same,
                (ap (λ (m : Metrics). m.filter_count) same, ap (λ (m : Metrics). m.write_skip_count) same),
              ),
            ),
          ),
        ),
      ),
    ))

pub work_decides : (a b : WorkRow) → Decides (work_impl.ghosts.eq a b) (a ≡ b)
work_decides a b =
    by_parts _ (Decides-and _ _ (Decides-eqb a.work b.work)
    (Decides-and _ _ (Decides-eqb a.execution b.execution)
    (Decides-and _ _ (bytes_eq-Decides a.element b.element)
    (Decides-and _ _ (numbers_decide a.partition b.partition)
    (Decides-and _ _ (kind_decides a.kind b.kind)
    (Decides-and _ _ (Decides-eqb a.claimer b.claimer)
    (Decides-and _ _ (state_decides a.state b.state)
    (Decides-and _ _ (Decides-eqb a.start b.start)
    (Decides-and _ _ (numbers_decide a.end b.end)
    (Decides-and _ _ (numbers_decide a.ended b.ended) (metrics_decide a.metrics b.metrics)))))))))))
    (λ p i. record {
      work = p.0 i;
      execution = p.1.0 i;
      element = p.1.1.0 i;
      partition = p.1.1.1.0 i;
      kind = p.1.1.1.1.0 i;
      claimer = p.1.1.1.1.1.0 i;
      state = p.1.1.1.1.1.1.0 i;
      start = p.1.1.1.1.1.1.1.0 i;
      end = p.1.1.1.1.1.1.1.1.0 i;
      ended = p.1.1.1.1.1.1.1.1.1.0 i;
      metrics = p.1.1.1.1.1.1.1.1.1.1 i;
    })
    (λ same. (
      ap (λ (r : WorkRow). r.work) same,
      (
        ap (λ (r : WorkRow). r.execution) same,
        (
          ap (λ (r : WorkRow). r.element) same,
          (
            ap (λ (r : WorkRow). r.partition) same,
            (
              ap (λ (r : WorkRow). r.kind) same,
              (
                ap (λ (r : WorkRow). r.claimer) same,
                (
                  ap (λ (r : WorkRow). r.state) same,
                  (
                    ap (λ (r : WorkRow). r.start) same,
                    (
                      ap (λ (r : WorkRow). r.end) same,
                      (ap (λ (r : WorkRow). r.ended) same, ap (λ (r : WorkRow). r.metrics) same),
                    ),
                  ),
                ),
              ),
            ),
          ),
        ),
      ),
    ))

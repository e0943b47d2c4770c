-- What a repository keeps to is kept by each operation.
use Rattle.std.proofs.Common.{◌≡◌, ℕ, ◌+◌, ◌<◌, Bool, true, Option, None, Some, IfSome, List, [], ◌∷◌, ◌++◌, find, sym, ◌∙◌, ap, subst, arith, not, ◌==◌}
use Rattle.batch_ids.specs.Metrics.{added, most_after, zero_metrics}
use Rattle.batch_ids.specs.declared.metric_step.MetricStep.{MetricStep}
use Rattle.batch_history.specs.Lists.{change_first}
use Rattle.batch_history.specs.Rows.{instance_in, is_execution, is_gone}
use Rattle.batch_history.specs.declared.rows.ExecutionRow.{ExecutionRow}
use Rattle.batch_history.specs.declared.rows.JobInstance.{JobInstance}
use Rattle.batch_history.specs.declared.rows.WorkRow.{WorkRow}
use Rattle.records.specs.Maps.{Maps, AreBelow, execution_numbers}
use Rattle.records.specs.Without.{without_instance}
use Rattle.restart_rules.specs.Placed.{is_placed}
use Rattle.seq_repository.specs.Changes.{put_row, ReplacesExecution}
use Rattle.seq_repository.specs.Kept.{Kept, IsSound}
use Rattle.seq_repository.specs.Metered.{IsStep}
use Rattle.seq_repository.proofs.Below.{below_changed, below_filtered, below_pushed}
use Rattle.seq_repository.proofs.Entries.{maps-changed}
use Rattle.restart_rules.proofs.Placing.{placed_filtered, placed_pushed}
use Rattle.seq_repository.proofs.Placing.{placed_put}
use Rattle.seq_repository.proofs.Metering.{within_filtered, within_more, within_pushed, within_put}

-- a changed row keeps its number
below_put : (x : ℕ) (new : Option ExecutionRow) (rows : List ExecutionRow) (bound : ℕ) → IfSome new (λ row. ReplacesExecution rows x row)
    → AreBelow bound (execution_numbers rows) → AreBelow bound (execution_numbers (put_row x new rows))
below_put x None rows bound own h = h
below_put x (Some row) rows bound own h = below_changed (λ (r : ExecutionRow). r.execution) (is_execution x) rows own.0 row bound own.1 own.2.execution h

pub sound_change : (limit : ℕ) (kept : Kept) (m : Maps) (x : ℕ) (new : Option ExecutionRow) → IsSound limit kept → kept.count < limit
    → IfSome new (λ row. ReplacesExecution kept.records.executions x row)
    → m ≡ record kept.records { executions = put_row x new kept.records.executions } → IsSound limit (record kept { count = kept.count + 1; records = m })
sound_change limit kept m x new s room own is =
    subst (λ (maps : Maps). IsSound limit (record kept { count = kept.count + 1; records = maps })) (sym is)
    record {
      few = s.few;
      room = omega (arith, room);
      last = record {
        instance = s.last.instance;
        execution = below_put x new kept.records.executions (kept.last.execution + 1) own s.last.execution;
        work = s.last.work;
      };
      instance = omega (arith, s.instance);
      execution = omega (arith, s.execution);
      work = omega (arith, s.work);
      metrics = within_more kept.count kept.records.works s.metrics;
      placed = placed_put kept.catalogue x new kept.records.executions own s.placed;
    }

pub sound_start : (limit : ℕ) (kept : Kept) (m : Maps) (made : JobInstance) (row : ExecutionRow) → IsSound limit kept
    → made.instance ≡ kept.last.instance + 1 → row.execution ≡ kept.last.execution + 1 → kept.count < limit → is_placed kept.catalogue row ≡ true
    → m ≡ record kept.records { instances = kept.records.instances ++ made ∷ []; executions = kept.records.executions ++ row ∷ [] }
    → IsSound limit (record kept { count = kept.count + 1; last = record { instance = kept.last.instance + 1; execution = kept.last.execution + 1; work = kept.last.work }; records = m })
sound_start limit kept m made row s i x room placed is =
    subst (λ (maps : Maps). IsSound limit (record kept { count = kept.count + 1; last = record { instance = kept.last.instance + 1; execution = kept.last.execution + 1; work = kept.last.work }; records = maps })) (sym is)
    record {
      few = s.few;
      room = omega (arith, room);
      last = record {
        instance = below_pushed (λ (r : JobInstance). r.instance) kept.records.instances made (kept.last.instance + 1) s.last.instance i;
        execution = below_pushed (λ (r : ExecutionRow). r.execution) kept.records.executions row (kept.last.execution + 1) s.last.execution x;
        work = s.last.work;
      };
      instance = omega (arith, s.instance);
      execution = omega (arith, s.execution);
      work = omega (arith, s.work);
      metrics = within_more kept.count kept.records.works s.metrics;
      placed = placed_pushed kept.catalogue kept.records.executions row s.placed placed;
    }

pub sound_restart : (limit : ℕ) (kept : Kept) (m : Maps) (row : ExecutionRow) → IsSound limit kept → row.execution ≡ kept.last.execution + 1
    → kept.count < limit → is_placed kept.catalogue row ≡ true
    → m ≡ record kept.records { executions = kept.records.executions ++ row ∷ [] }
    → IsSound limit (record kept { count = kept.count + 1; last = record { instance = kept.last.instance; execution = kept.last.execution + 1; work = kept.last.work }; records = m })
sound_restart limit kept m row s x room placed is =
    subst (λ (maps : Maps). IsSound limit (record kept { count = kept.count + 1; last = record { instance = kept.last.instance; execution = kept.last.execution + 1; work = kept.last.work }; records = maps })) (sym is)
    record {
      few = s.few;
      room = omega (arith, room);
      last = record {
        instance = s.last.instance;
        execution = below_pushed (λ (r : ExecutionRow). r.execution) kept.records.executions row (kept.last.execution + 1) s.last.execution x;
        work = s.last.work;
      };
      instance = omega (arith, s.instance);
      execution = omega (arith, s.execution);
      work = omega (arith, s.work);
      metrics = within_more kept.count kept.records.works s.metrics;
      placed = placed_pushed kept.catalogue kept.records.executions row s.placed placed;
    }

pub sound_work : (limit : ℕ) (kept : Kept) (m1 m2 : Maps) (x : ℕ) (new : Option ExecutionRow) (work : WorkRow) → IsSound limit kept → kept.count < limit
    → IfSome new (λ row. ReplacesExecution kept.records.executions x row) → work.work ≡ kept.last.work + 1
    → work.metrics ≡ zero_metrics → m1 ≡ record kept.records { works = kept.records.works ++ work ∷ [] } → m2 ≡ record m1 { executions = put_row x new m1.executions }
    → IsSound limit (record kept { count = kept.count + 1; last = record { instance = kept.last.instance; execution = kept.last.execution; work = kept.last.work + 1 }; records = m2 })
sound_work limit kept m1 m2 x new work s room own next zero e1 e2 =
    let whole : m2 ≡ record kept.records { executions = put_row x new kept.records.executions; works = kept.records.works ++ work ∷ [] } =
    e2 ∙ ap (λ (m : Maps). record m { executions = put_row x new m.executions }) e1 in
    subst (λ (maps : Maps). IsSound limit (record kept { count = kept.count + 1; last = record { instance = kept.last.instance; execution = kept.last.execution; work = kept.last.work + 1 }; records = maps })) (sym whole)
    record {
      few = s.few;
      room = omega (arith, room);
      last = record {
        instance = s.last.instance;
        execution = below_put x new kept.records.executions (kept.last.execution + 1) own s.last.execution;
        work = below_pushed (λ (r : WorkRow). r.work) kept.records.works work (kept.last.work + 1) s.last.work next;
      };
      instance = omega (arith, s.instance);
      execution = omega (arith, s.execution);
      work = omega (arith, s.work);
      metrics = within_pushed kept.count kept.records.works work zero s.metrics;
      placed = placed_put kept.catalogue x new kept.records.executions own s.placed;
    }

pub sound_report : (limit : ℕ) (kept : Kept) (m1 m2 m3 : Maps) (p : WorkRow → Bool) (x : ℕ) (row work : WorkRow) (new : Option ExecutionRow) (step : MetricStep)
    → IsSound limit kept → kept.count < limit → IfSome new (λ row. ReplacesExecution kept.records.executions x row) → find p kept.records.works ≡ Some row
    → work.work ≡ row.work → work.metrics ≡ added row.metrics step → IsStep step
    → m1 ≡ record kept.records { checkpoints = m1.checkpoints } → m2 ≡ record m1 { works = change_first p (λ old. work) m1.works }
    → m3 ≡ record m2 { executions = put_row x new m2.executions }
    → IsSound limit (record kept { count = kept.count + 1; records = m3 })
sound_report limit kept m1 m2 m3 p x row work new step s room own found same sum small e1 e2 e3 =
    let whole = maps-changed kept.records m1 m2 m3 m1.checkpoints (change_first p (λ old. work)) (put_row x new) e1 e2 e3 in
    subst (λ (maps : Maps). IsSound limit (record kept { count = kept.count + 1; records = maps })) (sym whole)
    record {
      few = s.few;
      room = omega (arith, room);
      last = record {
        instance = s.last.instance;
        execution = below_put x new kept.records.executions (kept.last.execution + 1) own s.last.execution;
        work = below_changed (λ (r : WorkRow). r.work) p kept.records.works row work (kept.last.work + 1) found same s.last.work;
      };
      instance = omega (arith, s.instance);
      execution = omega (arith, s.execution);
      work = omega (arith, s.work);
      metrics = within_put kept.count p kept.records.works row work step found sum small s.metrics;
      placed = placed_put kept.catalogue x new kept.records.executions own s.placed;
    }

pub sound_purge : (limit : ℕ) (kept : Kept) (m : Maps) (i : ℕ) → IsSound limit kept → kept.count < limit → m ≡ without_instance i kept.records
    → IsSound limit (record kept { count = kept.count + 1; records = m })
sound_purge limit kept m i s room is =
    let old : Maps = kept.records in
    subst (λ (maps : Maps). IsSound limit (record kept { count = kept.count + 1; records = maps })) (sym is)
    record {
      few = s.few;
      room = omega (arith, room);
      last = record {
        instance = below_filtered (λ (r : JobInstance). r.instance) (λ row. not (row.instance == i)) old.instances (kept.last.instance + 1) s.last.instance;
        execution = below_filtered (λ (r : ExecutionRow). r.execution) (λ row. not (row.instance == i)) old.executions (kept.last.execution + 1) s.last.execution;
        work = below_filtered (λ (r : WorkRow). r.work) (λ work. not (is_gone (λ j. j == i) (instance_in old.executions work.execution))) old.works (kept.last.work + 1) s.last.work;
      };
      instance = omega (arith, s.instance);
      execution = omega (arith, s.execution);
      work = omega (arith, s.work);
      metrics = within_filtered (most_after (kept.count + 1)) (λ work. not (is_gone (λ j. j == i) (instance_in old.executions work.execution))) old.works (within_more kept.count old.works s.metrics);
      placed = placed_filtered kept.catalogue (λ row. not (row.instance == i)) old.executions s.placed;
    }

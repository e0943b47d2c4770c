use Rattle.std.proofs.Common.{◌≡◌, List, Some, true, false, sym, ◌∙◌, ap, subst}
use Rattle.batch_history.specs.Answers.{counts_of, instances_of_job}
use Rattle.batch_history.specs.declared.rows.ExecutionRow.{ExecutionRow}
use Rattle.batch_history.specs.declared.rows.JobInstance.{JobInstance}
use Rattle.batch_history.specs.declared.rows.WorkRow.{WorkRow}
use Rattle.records.specs.Belonging.{executions_of, works_of}
use Rattle.records.specs.Indexes.{AreRunning}
use Rattle.records.specs.Maps.{AreApart, AreRising, instance_numbers, execution_numbers, work_numbers}
use Rattle.records.proofs.records.Records.new.Goals as goal

pub invariant_of-result : goal.invariant_of-result
invariant_of-result c = (
  record {
    keyed = record {
      instances = subst (λ (l : List JobInstance). AreRising (instance_numbers l)) (sym c.new.ensures) tt;
      executions = subst (λ (l : List ExecutionRow). AreRising (execution_numbers l)) (sym c.new-2.ensures) tt;
      works = subst (λ (l : List WorkRow). AreRising (work_numbers l)) (sym c.new-3.ensures) tt;
      checkpoints = subst AreApart (sym c.new-4.ensures) tt;
    };
    instances_by_name = λ q. c.new-5.ensures q ∙ ap (λ (l : List JobInstance). instance_numbers (instances_of_job q l)) (sym c.new.ensures);
    executions_by_instance = λ i. c.new-6.ensures i ∙ ap (λ (l : List ExecutionRow). execution_numbers (executions_of i l)) (sym c.new-2.ensures);
    works_by_execution = λ x. c.new-7.ensures x ∙ ap (λ (l : List WorkRow). work_numbers (works_of x l)) (sym c.new-3.ensures);
  },
  λ i there q. absurd (let no : false ≡ true = sym (c.new-8.ensures i) ∙ there in cc),
  c.zero.ensures ∙ ap counts_of (sym c.new-2.ensures),
  subst (AreRunning (Some c.new-9.result)) (sym c.new-2.ensures) c.new-9.ensures,
)

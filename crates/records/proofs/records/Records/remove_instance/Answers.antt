use Rattle.std.proofs.Common.{◌≡◌, ◌==◌, ℕ, List, [], Some, None, true, false, refl, not, filter, cond, find, option_copied, bytes_eq, sym, ◌∙◌, ap, subst, is_some}
use Rattle.std.specs.List.{list_any}
use Rattle.batch_history.specs.Answers.{counts_of}
use Rattle.batch_history.specs.Rows.{instances_there, executions_there, works_there}
use Rattle.batch_history.specs.declared.rows.ExecutionRow.{ExecutionRow}
use Rattle.batch_history.specs.declared.rows.JobInstance.{JobInstance}
use Rattle.batch_history.specs.declared.rows.WorkRow.{WorkRow}
use Rattle.records.specs.Indexes.{AreIndexed, AreRunning, numbers_named, numbers_under, without_number, AreStepped, has_steps, numbers_of_step}
use Rattle.records.specs.Maps.{Maps, is_instance}
use Rattle.records.specs.Without.{without_instance}
use Rattle.records.proofs.Indexed.{flipped}
use Rattle.records.proofs.Indexing.{instance_removed}
use Rattle.records.proofs.Leaving.{left_by, executions_purged, works_purged}
use Rattle.batch_history.specs.Replies.{is_running_in}
use Rattle.records.proofs.Stepped as stepped
use Rattle.records.proofs.Unfinished.{running_there}
use Rattle.records.proofs.records.Records.remove_instance.Goals as goal

pub invariant_of-self : goal.invariant_of-self
invariant_of-self c =
    let i : ℕ = c.args.i in
    let inside : Maps = record { instances = c.self.inside.instances.rows; executions = c.self.inside.executions.rows; works = c.self.inside.works.rows; checkpoints = c.self.inside.checkpoints } in
    let names : List ℕ → List ℕ = numbers_named c.self.inside.instances_by_name in
    let executions : ℕ → List ℕ = numbers_under c.self.inside.executions_by_instance in
    let works : ℕ → List ℕ = numbers_under c.self.inside.works_by_execution in
    let theirs : c.under-executions.result.now ≡ executions i = c.under-executions.ensures ∙ ap executions c.value-3.ensures in
    let instances-left : c.remove-4.new.self.rows ≡ instances_there (λ j. j == i) inside.instances =
    c.remove-4.ensures
    ∙ (ap (λ n. filter (λ (one : JobInstance). not (n == one.instance)) inside.instances) c.value-6.ensures
    ∙ (λ k. filter (λ (one : JobInstance). not (flipped i one.instance k)) inside.instances)) in
    let executions-left : c.remove_all.new.self.rows ≡ executions_there (λ j. j == i) inside.executions =
    c.remove_all.ensures
    ∙ (ap (λ ns. left_by (λ n (one : ExecutionRow). n == one.execution) ns inside.executions) theirs ∙ executions_purged i inside names executions works c.self.invariant.0) in
    let works-left : c.remove_works.new.works.rows ≡ works_there (λ j. j == i) inside.executions inside.works =
    c.remove_works.ensures
    ∙ (ap (λ ns. left_by (λ x (one : WorkRow). list_any (λ n. n == one.work) (works x)) ns inside.works) theirs ∙ works_purged i inside names executions works c.self.invariant.0) in
    let whole : without_instance i inside ≡ record { instances = c.remove-4.new.self.rows; executions = c.remove_all.new.self.rows; works = c.remove_works.new.works.rows; checkpoints = c.remove_instance.new.self } =
    λ k. record { instances = sym instances-left k; executions = sym executions-left k; works = sym works-left k; checkpoints = sym c.remove_instance.ensures k } in
    let row : JobInstance = c.in-Some.row.now in
    let there : find (is_instance i) inside.instances ≡ Some row =
    ap (λ n. find (is_instance n) inside.instances) (sym c.value.ensures) ∙ (sym c.get.ensures.row ∙ ap option_copied c.in-Some.is) in (
      subst (λ (m : Maps). AreIndexed m (numbers_named c.remove.new.self) (numbers_under c.remove-2.new.self) (numbers_under c.remove_all-2.new.self)) whole
          (instance_removed inside names _ executions works _ _ i row c.self.invariant.0 there record {
            named = λ q. c.remove.ensures q
                ∙ (ap (λ (name : List ℕ). cond (bytes_eq name q) (without_number c.value-2.result (names q)) (names q)) c.as_str.ensures.same
                ∙ ap (λ (n : ℕ). cond (bytes_eq row.job q) (without_number n (names q)) (names q)) c.value-2.ensures);
            own = λ q. c.remove-2.ensures q ∙ ap (λ (n : ℕ). cond (n == q) [] (executions q)) c.value-4.ensures;
            their-works = λ q. c.remove_all-2.ensures q ∙ ap (λ (ns : List ℕ). cond (list_any (λ x. x == q) ns) [] (works q)) theirs;
          }),
      subst (λ (m : Maps). AreStepped m (numbers_of_step c.remove-3.new.self) (has_steps c.remove-3.new.self)) whole
          (stepped.instance_removed inside (numbers_of_step c.self.inside.works_by_step) _ (has_steps c.self.inside.works_by_step) _ i c.self.invariant.1
          (λ j. c.remove-3.ensures.has j ∙ ap (λ (n : ℕ). cond (n == j) false (has_steps c.self.inside.works_by_step j)) c.value-5.ensures)
          (λ j q. c.remove-3.ensures.left j q ∙ ap (λ (n : ℕ). cond (n == j) [] (numbers_of_step c.self.inside.works_by_step j q)) c.value-5.ensures)),
      c.counts_without-counts.ensures ∙ (ap (λ (m : Maps). counts_of (executions_there (λ j. j == i) m.executions)) (sym c.self.view_is) ∙ ap counts_of (sym executions-left)),
      subst (λ r. AreRunning r c.remove_all.new.self.rows) (sym c.forget_if.ensures)
          ((elim c.has_unfinished-has_unfinished.result as (λ b. c.has_unfinished-has_unfinished.result ≡ b
          → AreRunning (cond b None c.self.inside.running) c.remove_all.new.self.rows) [
            | true ↦ λ some. tt
            | false ↦ λ none.
                subst (λ (l : List ExecutionRow). AreRunning c.self.inside.running l) (sym executions-left)
                (running_there c.self.inside.running i inside.executions
                (ap (λ (m : Maps). list_any (is_running_in i) m.executions) c.self.view_is ∙ (sym c.has_unfinished-has_unfinished.ensures ∙ none)) c.self.invariant.3)
          ]) refl),
    )

pub returns : goal.returns
returns c =
    let i : ℕ = c.args.i in
    let inside : Maps = record { instances = c.self.inside.instances.rows; executions = c.self.inside.executions.rows; works = c.self.inside.works.rows; checkpoints = c.self.inside.checkpoints } in
    let names : List ℕ → List ℕ = numbers_named c.self.inside.instances_by_name in
    let executions : ℕ → List ℕ = numbers_under c.self.inside.executions_by_instance in
    let works : ℕ → List ℕ = numbers_under c.self.inside.works_by_execution in
    let theirs : c.under-executions.result.now ≡ executions i = c.under-executions.ensures ∙ ap executions c.value-3.ensures in
    let instances-left : c.remove-4.new.self.rows ≡ instances_there (λ j. j == i) inside.instances =
    c.remove-4.ensures
    ∙ (ap (λ n. filter (λ (one : JobInstance). not (n == one.instance)) inside.instances) c.value-6.ensures
    ∙ (λ k. filter (λ (one : JobInstance). not (flipped i one.instance k)) inside.instances)) in
    let executions-left : c.remove_all.new.self.rows ≡ executions_there (λ j. j == i) inside.executions =
    c.remove_all.ensures
    ∙ (ap (λ ns. left_by (λ n (one : ExecutionRow). n == one.execution) ns inside.executions) theirs ∙ executions_purged i inside names executions works c.self.invariant.0) in
    let works-left : c.remove_works.new.works.rows ≡ works_there (λ j. j == i) inside.executions inside.works =
    c.remove_works.ensures
    ∙ (ap (λ ns. left_by (λ x (one : WorkRow). list_any (λ n. n == one.work) (works x)) ns inside.works) theirs ∙ works_purged i inside names executions works c.self.invariant.0) in
    let whole : without_instance i inside ≡ record { instances = c.remove-4.new.self.rows; executions = c.remove_all.new.self.rows; works = c.remove_works.new.works.rows; checkpoints = c.remove_instance.new.self } =
    λ k. record { instances = sym instances-left k; executions = sym executions-left k; works = sym works-left k; checkpoints = sym c.remove_instance.ensures k } in
    sym whole ∙ ap (without_instance c.args.i) c.self.view_is

pub unreachable-requires : goal.unreachable-requires
unreachable-requires c =
    let rows : List JobInstance = c.self.inside.instances.rows in
    let none : find (is_instance c.args.i) rows ≡ None =
    ap (λ n. find (is_instance n) rows) (sym c.value.ensures) ∙ (sym c.get.ensures.row ∙ ap option_copied c.in_default.is) in
    let there = subst (λ (m : Maps). is_some (find (is_instance c.args.i) m.instances) ≡ true) (sym c.self.view_is) c.requires in
    let no : false ≡ true = ap is_some (sym none) ∙ there in
    cc

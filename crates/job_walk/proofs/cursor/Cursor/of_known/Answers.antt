use Rattle.std.proofs.Common.{◌≤◌, sym, subst}
use Rattle.job_plans.specs.Cursors.{known_keys}
use Rattle.walk_rules.specs.Counts.{count_of}
use Rattle.job_plans.specs.Lists.{key_count}
use Rattle.job_plans.proofs.KeysOnce.{keys-once}
use Rattle.job_walk.proofs.Learning.{kept-first}
use Rattle.job_plans.proofs.Once.{ids-once}
use Rattle.job_walk.proofs.cursor.Cursor.of_known.Goals as goal

pub invariant_of-result : goal.invariant_of-result
invariant_of-result c =
    kept-first c.args.job c.args.from c.args.known.items c.as_slice.result.now c.elements.result.now c.new-lists.result.items c.keep_list.new.lists.items c.requires
    c.as_slice.ensures.value c.elements.ensures.same c.new-lists.ensures.items c.in_ok-keep_list.ensures

pub keep_list-requires : goal.keep_list-requires
keep_list-requires c =
    record {
      each = λ one. subst (λ ks. key_count one (known_keys ks) ≤ 1) (sym c.as_slice.ensures.value) (keys-once c.args.job.elements c.args.known.items c.requires.each (ids-once c.args.job c.elements.ensures.checked) one);
      once = λ id. subst (λ es. count_of id es ≤ 1) (sym c.elements.ensures.same) (ids-once c.args.job c.elements.ensures.checked id);
    }

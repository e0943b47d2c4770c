use Rattle.std.proofs.Common.{◌≡◌, ◌≤◌, true, [], sym, ◌∙◌, ap, subst, rules}
use Rattle.job_plans.specs.Cursors.{CursorState, known_keys, value_in}
use Rattle.walk_rules.specs.Shown.{is_shown}
use Rattle.walk_rules.specs.Keys.{has_key}
use Rattle.walk_rules.specs.Counts.{count_of}
use Rattle.job_plans.specs.Lists.{key_count}
use Rattle.job_plans.proofs.KeysOnce.{keys-once}
use Rattle.job_plans.proofs.Shown.{shown-known}
use Rattle.job_walk.proofs.Learning.{at-hand, shown-first, learnt-lists}
use Rattle.job_plans.proofs.Once.{ids-once}
use Rattle.job_walk.proofs.cursor.Cursor.changes_by.Goals as goal

pub list_changes-requires : goal.list_changes-requires
list_changes-requires c =
    let cursor : CursorState = record { job = c.self.inside.job; from = c.self.inside.from; facts = c.self.inside.known.items } in
    let key = c.args.key.now in
    let shown : is_shown (value_in cursor) key ≡ true = ap (λ (s : CursorState). is_shown (value_in s) key) c.self.view_is ∙ c.requires.shown in
    record {
      kept = (c.self.inside.from, [], at-hand cursor c.self.inside.lists.items c.as_slice.result.now c.elements.result.now c.as_slice-2.result.now c.self.invariant c.as_slice.ensures.value c.elements.ensures.same c.as_slice-2.ensures.value);
      shown = shown-first cursor c.self.inside.lists.items c.as_slice.result.now key c.self.invariant c.as_slice.ensures.value shown;
      known = ap (λ ks. has_key (known_keys ks) key) c.as_slice-2.ensures.value ∙ shown-known cursor c.self.invariant.state key shown;
      each = λ one. subst (λ ks. key_count one (known_keys ks) ≤ 1) (sym c.as_slice-2.ensures.value) (keys-once c.self.inside.job.elements c.self.inside.known.items c.self.invariant.state.each (ids-once c.self.inside.job c.elements.ensures.checked) one);
      once = λ id. subst (λ es. count_of id es ≤ 1) (sym c.elements.ensures.same) (ids-once c.self.inside.job c.elements.ensures.checked id);
      numbered = search rules;
    }

pub returns-in-Ok : goal.returns-in-Ok
returns-in-Ok c =
    let cursor : CursorState = record { job = c.self.inside.job; from = c.self.inside.from; facts = c.self.inside.known.items } in
    let key = c.args.key.now in
    let shown : is_shown (value_in cursor) key ≡ true = ap (λ (s : CursorState). is_shown (value_in s) key) c.self.view_is ∙ c.requires.shown in
    rw (← c.self.view_is) record {
      known = shown-known cursor c.self.invariant.state key shown;
      once = keys-once c.self.inside.job.elements c.self.inside.known.items c.self.invariant.state.each (ids-once c.self.inside.job c.elements.ensures.checked);
      lists = learnt-lists cursor c.self.inside.lists.items c.as_slice.result.now key c.args.fact.now c.new-changes.result.items c.list_changes.new.changes.items c.elements.result.now c.as_slice-2.result.now c.self.invariant c.as_slice.ensures.value c.elements.ensures.same c.as_slice-2.ensures.value c.new-changes.ensures.items c.in-Ok.ensures.changes;
    }

-- The changes of a walk by a new fact.
use Rattle.std.specs.Prelude.{◌≡◌, ◌≤◌, true, List}
use Rattle.walk_rules.specs.declared.facts.Fact.{Fact}
use Rattle.job_walk.specs.declared.kept_list.KeptList.{KeptList}
use Rattle.job_walk.specs.declared.kept_list.ListChange.{ListChange}
use Rattle.walk_rules.specs.declared.work_key.WorkKey.{WorkKey}
use Rattle.job_plans.specs.Cursors.{CursorState, known_keys, with_fact}
use Rattle.job_plans.specs.Lists.{key_count}
use Rattle.job_walk.specs.KeptLists.{kept_of, put_all}
use Rattle.walk_rules.specs.Keys.{has_key}
use Rattle.walk_rules.specs.Walk.{fact_of}

-- the stored lists of a walk
abbrev pub kept_in : CursorState → List KeptList
kept_in cursor = kept_of (fact_of cursor.facts) cursor.job.elements cursor.from

-- the changes of the stored lists by a new fact of a work key, of which the walk has one fact
pub record AreChanges (cursor : CursorState) (key : WorkKey) (fact : Fact) (changes : List ListChange) : Type 0 where
  pub known : has_key (known_keys cursor.facts) key ≡ true
  pub once : (one : WorkKey) → key_count one (known_keys cursor.facts) ≤ 1
  pub lists : put_all changes (kept_in cursor) ≡ kept_in (with_fact cursor key fact)

use Rattle.std.proofs.Common.{◌≡◌, ◌==◌, ◌||◌, Bool, List, ℕ, Option, true, false, Some, cond, is_some, refl, ◌∙◌, ap}
use Rattle.std.specs.Bool.{nat_eq}
use Rattle.indexmap.specs.IndexMap.{get}
use Rattle.records.specs.Indexes.{numbers_if_there, numbers_named}
use Rattle.record_lists.specs.declared.name_lists.NameLists.{NameLists}
use Rattle.records.proofs.step_lists.StepLists.put.Goals as goal

is-there : (b : Bool) (names : NameLists) (old : Option NameLists) → is_some (cond b (Some names) old) ≡ (b || is_some old)
is-there true names old = refl
is-there false names old = refl

is-listed : (b : Bool) (names : NameLists) (old : Option NameLists) (q : List ℕ) → numbers_if_there (cond b (Some names) old) q ≡ cond b (numbers_named names q) (numbers_if_there old q)
is-listed true names old q = refl
is-listed false names old q = refl

pub returns-clause-has : goal.returns-clause-has
returns-clause-has c = λ i. ap is_some (c.in_ok-insert.ensures.updates.0 i) ∙ is-there (c.args.instance == i) c.args.names (get nat_eq c.args.self.now.lists i)

pub returns-clause-lists : goal.returns-clause-lists
returns-clause-lists c = λ i q.
    ap (λ (o : Option NameLists). numbers_if_there o q) (c.in_ok-insert.ensures.updates.0 i) ∙ is-listed (c.args.instance == i) c.args.names (get nat_eq c.args.self.now.lists i) q

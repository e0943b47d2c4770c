use Rattle.std.proofs.Common.{rules, ◌≡◌, ℕ, ◌≤◌, None, Some, List, [], ◌∷◌, ◌++◌, All, IfSome, slice_get, map, bytes_eq, string_bytes, sym, subst, String, Global}
use Rattle.std.proofs.lemmas.List.Elements.{All-map}
use Rattle.std.proofs.lemmas.Map.Entries.{All-lookup}
use Rattle.std.proofs.lemmas.Map.Iter.{iter_end}
use Rattle.std.specs.Map.Iter.{deref_pair}
use Rattle.std.specs.Ordering.{nat_cmp, ord_max}
use Rattle.record_lists.proofs.Firsts.{IsLeastBound, with_number, without_number, shown, entries_up_to}
use Rattle.record_lists.proofs.Numbers.{first_up_to}
use Rattle.record_lists.proofs.name_lists.NameLists.newest.Goals as goal

pub returns-clause-bound : goal.returns-clause-bound
returns-clause-bound c =
    let begins : List ℕ → Type 0 = λ ns. IfSome (slice_get ns 0) (λ n. n ≤ c.loop-name.newest) in
    let whole : map deref_pair c.loop-name.yielded ≡ c.args.self.now.lists.entries = search (rules, iter_end) in
    let each : All (λ (e : String Global × List ℕ). begins e.1) c.args.self.now.lists.entries = subst (All (λ (e : String Global × List ℕ). begins e.1)) whole
    (All-map (λ (e : String Global × List ℕ). begins e.1) deref_pair c.loop-name.yielded c.loop-name.invariant.0) in
    λ q. first_up_to c.loop-name.newest _ (All-lookup begins (λ k. bytes_eq q (string_bytes k)) c.args.self.now.lists.entries each)

pub returns-clause-least : goal.returns-clause-least
returns-clause-least c = λ bound up.
    let P : String Global × List ℕ → Type 0 = λ e. IfSome (slice_get e.1 0) (λ n. n ≤ bound) in
    let whole : map deref_pair c.loop-name.yielded ≡ c.args.self.now.lists.entries = search (rules, iter_end) in
    c.loop-name.invariant.1 bound (shown P deref_pair c.loop-name.yielded
    (subst (All P) (sym whole) (entries_up_to bound c.args.self.now.lists c.iter-name-items.ensures.unique up)))

pub loop-name-preserved-in-Some-first : goal.loop-name-preserved-in-Some-first
loop-name-preserved-in-Some-first c =
    let is : slice_get c.in-Some.numbers.now 0 ≡ Some c.in-Some-first.first.now = search rules in
    let more : IsLeastBound (λ p. slice_get p.1.now 0) (ord_max nat_cmp c.loop-name.newest c.in-Some-first.first.now) (c.loop-name.yielded ++ (c.in-Some._name, c.in-Some.numbers) ∷ []) =
    with_number (λ p. slice_get p.1.now 0) c.loop-name.newest c.in-Some-first.first.now c.loop-name.yielded (c.in-Some._name, c.in-Some.numbers) is c.loop-name.invariant in
    subst (λ (n : ℕ). IsLeastBound (λ p. slice_get p.1.now 0) n (c.loop-name.yielded ++ (c.in-Some._name, c.in-Some.numbers) ∷ [])) (sym c.max-newest.ensures) more

pub loop-name-preserved : goal.loop-name-preserved
loop-name-preserved c =
    let is : slice_get c.in-Some.numbers.now 0 ≡ None = search rules in
    without_number (λ p. slice_get p.1.now 0) c.loop-name.newest c.loop-name.yielded (c.in-Some._name, c.in-Some.numbers) is c.loop-name.invariant

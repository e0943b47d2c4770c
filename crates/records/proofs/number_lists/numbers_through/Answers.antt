use Rattle.std.proofs.Common.{ℕ, ◌+◌, List, ◌++◌, drop, refl, ◌∙◌, ap}
use Rattle.std.proofs.Math.ListN.{drop_of_length-le}
use Rattle.std.proofs.lemmas.List.{drop_more}
use Rattle.std.specs.List.{flat_map}
use Rattle.records.specs.Indexes.{numbers_under}
use Rattle.records.proofs.Gathered.{one_more, none_left}
use Rattle.records.proofs.number_lists.numbers_through.Goals as goal

pub loop-middle-init : goal.loop-middle-init
loop-middle-init c =
    ap (λ (l : List ℕ). l ++ flat_map (numbers_under c.args.second.now) c.under-middle-items.result.now) c.new-numbers.ensures.items

pub loop-middle-preserved : goal.loop-middle-preserved
loop-middle-preserved c =
    let i : ℕ = c.loop-middle.middle-index in
    let middles : List ℕ = c.under-middle-items.result.now in
    let so_far : List ℕ = c.loop-middle.numbers.items in
    one_more (flat_map (numbers_under c.args.second.now)) so_far _ _ _ _ (drop i middles) (drop (i + 1) middles)
    (drop_more middles i 0 c.loop-middle-test.true) refl
    (c.in_ok-extend_from_slice.ensures.items ∙ ap (λ (l : List ℕ). so_far ++ l) c.under.ensures) c.loop-middle.invariant

pub returns : goal.returns
returns c =
    let through : List ℕ → List ℕ = flat_map (numbers_under c.args.second.now) in
    none_left through c.loop-middle.numbers.items _ _ (drop_of_length-le c.under-middle-items.result.now c.loop-middle-test.false) refl
    (c.loop-middle.invariant ∙ ap through c.under-middle-items.ensures)

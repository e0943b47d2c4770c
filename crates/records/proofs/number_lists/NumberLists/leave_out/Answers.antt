use Rattle.std.proofs.Common.{◌≡◌, ℕ, ◌==◌, Bool, true, false, List, [], cond, refl, sym, ◌∙◌, ap}
use Rattle.std.proofs.lemmas.Bool.{eqb-true}
use Rattle.records.specs.Indexes.{numbers_under, without_number}
use Rattle.record_lists.proofs.Listing.{empty_list}
use Rattle.records.proofs.number_lists.NumberLists.leave_out.Goals as goal

pub returns-then-is_empty : goal.returns-then-is_empty
returns-then-is_empty c = λ q.
    let key : ℕ = c.args.key in
    let before : List ℕ = numbers_under c.args.self.now q in
    let left : ℕ → List ℕ = numbers_under c.leave_in_list.new.self in
    let none : left key ≡ [] = sym c.under.ensures ∙ empty_list _ (sym c.is_empty.ensures ∙ c.if-is_empty.true) in
    let removed : numbers_under c.remove.new.self q ≡ cond (key == q) [] (left q) = c.remove.ensures q in
    (elim (key == q) as (λ b. key == q ≡ b → numbers_under c.remove.new.self q ≡ cond (key == q) (without_number c.args.number before) before) [
      | true ↦ λ same.
          removed ∙ (ap (λ (b : Bool). cond b [] (left q)) same ∙ (sym none ∙ (ap left (eqb-true key q same) ∙ c.leave_in_list.ensures q)))
      | false ↦ λ off. removed ∙ (ap (λ (b : Bool). cond b [] (left q)) off ∙ c.leave_in_list.ensures q)
    ]) refl

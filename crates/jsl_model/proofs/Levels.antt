-- When the deepest of some levels lies below a bound.
use Rattle.std.proofs.Common.{◌≡◌, ℕ, ◌+◌, ◌||◌, List, ◌∷◌, nat_lt, arith}
use Rattle.jsl_model.specs.declared.element.Element.{Element, fold_out-Element}
use Rattle.jsl_model.specs.declared.element.SplitFlow.{SplitFlow, out-SplitFlow, fold_out-SplitFlow}
use Rattle.jsl_model.specs.Trees.{greatest, depth, depth_of, depth_of_body, depth_of_flow, body_depth, element_depth, flow_depth}

-- more than a bound are the greatest of numbers just where one of them is
pub greatest_more : (most n : ℕ) (rest : List ℕ) → nat_lt most (greatest (n ∷ rest)) ≡ (nat_lt most n || nat_lt most (greatest rest))
greatest_more most n rest = grind arith

-- an element has one level more than its body
pub element_levels : (e : Element) → depth_of e ≡ 1 + depth_of_body e.body
element_levels e = fold_out-Element ℕ ℕ ℕ body_depth element_depth flow_depth e

-- a flow of a split has one level more than its elements
pub flow_levels : (f : SplitFlow) → depth_of_flow f ≡ 1 + depth (out-SplitFlow f).elements
flow_levels f = fold_out-SplitFlow ℕ ℕ ℕ body_depth element_depth flow_depth f

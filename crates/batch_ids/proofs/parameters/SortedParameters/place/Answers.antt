use Rattle.std.proofs.Common.{◌≡◌, ℕ, List, length, get_or, set, sym, ◌∙◌, ap, subst, arith}
use Rattle.std.specs.List.{insert}
use Rattle.std.specs.Ordering.{nat_cmp}
use Rattle.std.specs.Cmp.Lexicographic.{slice_cmp}
use Rattle.std.specs.declared.cmp.Ordering.{Ordering}
use Rattle.std.specs.declared.cmp.Ordering.TheVariants.{Less, Equal, Greater}
use Rattle.batch_ids.specs.Parameters.{Pair, with_pair}
use Rattle.batch_ids.proofs.Placed.{held_at, absent_at, behind_at}
use Rattle.batch_ids.proofs.parameters.SortedParameters.place.Goals as goal

-- how the key of the pair at a place compares
compared : (pairs : List Pair) (i : ℕ) (item inside : Pair) (text key : List ℕ) (o wanted : Ordering)
    → item ≡ get_or pairs i item → inside ≡ item → text ≡ inside.0 → o ≡ slice_cmp nat_cmp text key → o ≡ wanted
    → slice_cmp nat_cmp (get_or pairs i item).0 key ≡ wanted
compared pairs i item inside text key o wanted is view same cmp is_wanted =
    ap (λ (p : Pair). slice_cmp nat_cmp p.0 key) (sym is ∙ sym view)
    ∙ (ap (λ (t : List ℕ). slice_cmp nat_cmp t key) (sym same) ∙ (sym cmp ∙ is_wanted))

pub loop-at-preserved : goal.loop-at-preserved
loop-at-preserved c = λ value.
    behind_at c.deref-parameter-items.result.now c.loop-at.at c.parameter-item.result (c.args.key.now, value) (omega arith)
    (compared c.deref-parameter-items.result.now c.loop-at.at c.parameter-item.result (c.parameter.inside.key, c.parameter.inside.value) c.as_str.result.now c.args.key.now c.cmp.result Less
    c.parameter-item.is c.parameter.view_is c.as_str.ensures.same c.cmp.ensures c.in-Less.is)
    (c.loop-at.invariant value)

pub returns-in-Equal-clause-held : goal.returns-in-Equal-clause-held
returns-in-Equal-clause-held c =
    let same = c.deref-parameter-items.ensures.value ∙ c.self.view_is in (
      omega (arith, ap length same),
      λ value.
          subst (λ (pairs : List Pair). with_pair pairs (c.args.key.now, value) ≡ set pairs c.loop-at.at (c.args.key.now, value)) same
          (held_at c.deref-parameter-items.result.now c.loop-at.at c.parameter-item.result (c.args.key.now, value) (omega arith)
          (compared c.deref-parameter-items.result.now c.loop-at.at c.parameter-item.result (c.parameter.inside.key, c.parameter.inside.value) c.as_str.result.now c.args.key.now c.cmp.result Equal
          c.parameter-item.is c.parameter.view_is c.as_str.ensures.same c.cmp.ensures c.in-Equal.is)
          (c.loop-at.invariant value)),
    )

pub returns-in-Greater-clause-absent : goal.returns-in-Greater-clause-absent
returns-in-Greater-clause-absent c =
    let same = c.deref-parameter-items.ensures.value ∙ c.self.view_is in (
      omega (arith, ap length same),
      λ value.
          subst (λ (pairs : List Pair). with_pair pairs (c.args.key.now, value) ≡ insert pairs c.loop-at.at (c.args.key.now, value)) same
          (absent_at c.deref-parameter-items.result.now c.loop-at.at c.parameter-item.result (c.args.key.now, value) (omega arith)
          (compared c.deref-parameter-items.result.now c.loop-at.at c.parameter-item.result (c.parameter.inside.key, c.parameter.inside.value) c.as_str.result.now c.args.key.now c.cmp.result Greater
          c.parameter-item.is c.parameter.view_is c.as_str.ensures.same c.cmp.ensures c.in-Greater.is)
          (c.loop-at.invariant value)),
    )

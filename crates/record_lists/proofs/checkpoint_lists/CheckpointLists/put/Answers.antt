use Rattle.std.proofs.Common.{◌≡◌, ◌==◌, ◌++◌, ◌∷◌, [], ℕ, IsSome, Some, cond, Vec, Global, List, filter, refl, sym, ◌∙◌, ap, subst, Ok, Err}
use Rattle.std.specs.Result.{OnErr}
use Rattle.std.specs.Map.{lookup}
use Rattle.std.specs.BTreeMap.{insert_entry}
use Rattle.std.specs.BTreeMap.{is_at}
use Rattle.std.specs.Ordering.{nat_cmp}
use Rattle.batch_history.specs.declared.rows.CheckpointRow.{CheckpointRow}
use Rattle.batch_history.specs.Checkpoints.{InstanceStep, is_same_step}
use Rattle.record_lists.specs.Listed.{AreListed, AreOf, rows_listed}
use Rattle.record_lists.specs.Places.{mark_at, AreApart}
use Rattle.record_lists.specs.Placed.{with_mark}
use Rattle.record_lists.proofs.Marks.{apart_with}
use Rattle.record_lists.proofs.Listing.{rows_found, found_of, own_found, of_with, changed, inserted, same_set, set_of, marks_put, apart_of}
use Rattle.record_lists.proofs.checkpoint_lists.CheckpointLists.put.Goals as goal

-- the checkpoints of a list
abbrev listed : Vec CheckpointRow Global → List CheckpointRow
listed rows = rows.items

pub invariant_of-self : goal.invariant_of-self
invariant_of-self c =
    let i : ℕ = c.value-instance.result in
    let es : List (ℕ × Vec CheckpointRow Global) = c.self.inside.lists.entries in
    let w : Vec CheckpointRow Global = c.put_row.new.rows in
    let known : c.in-Some.known.now.items ≡ rows_found listed (lookup (is_at (nat_cmp i)) es) = ap (rows_found listed) c.in-Some.ensures.value in
    let own = own_found listed i es c.self.invariant in
    let same : w.items ≡ rows_found listed (lookup (is_at (nat_cmp i)) es) = c.in_err-put_row.ensures.unchanged ∙ known in
    changed listed i w es _ c.self.invariant (c.get_mut.follows.holds w).0 (c.get_mut.follows.holds w).4
    (subst (AreOf i) (sym same) own.0) (subst AreApart (sym same) own.1)

pub returns-in_err-put_row-clause-unchanged : goal.returns-in_err-put_row-clause-unchanged
returns-in_err-put_row-clause-unchanged c =
    let i : ℕ = c.value-instance.result in
    let es : List (ℕ × Vec CheckpointRow Global) = c.self.inside.lists.entries in
    let w : Vec CheckpointRow Global = c.put_row.new.rows in
    let known : c.in-Some.known.now.items ≡ rows_found listed (lookup (is_at (nat_cmp i)) es) = ap (rows_found listed) c.in-Some.ensures.value in
    let same : w.items ≡ rows_found listed (lookup (is_at (nat_cmp i)) es) = c.in_err-put_row.ensures.unchanged ∙ known in
    let whole : rows_listed listed (c.get_mut.follows.lender w).entries ≡ c.args.self.now =
    ap (rows_listed listed) (c.get_mut.follows.holds w).0 ∙ (same_set listed (is_at (nat_cmp i)) w es same ∙ c.self.view_is) in
    elim c.from_residual.result as (λ r. OnErr r (rows_listed listed (c.get_mut.follows.lender w).entries ≡ c.args.self.now)) [
      | Ok done ↦ tt
      | Err refused ↦ whole
    ]

pub invariant_of-self-in-Some : goal.invariant_of-self-in-Some
invariant_of-self-in-Some c =
    let i : ℕ = c.value-instance.result in
    let p : InstanceStep = record { instance = c.args.row.instance; step = c.args.row.step } in
    let es : List (ℕ × Vec CheckpointRow Global) = c.self.inside.lists.entries in
    let w : Vec CheckpointRow Global = c.put_row.new.rows in
    let rows : List CheckpointRow = c.in-Some.known.now.items in
    let known : rows ≡ rows_found listed (lookup (is_at (nat_cmp i)) es) = ap (rows_found listed) c.in-Some.ensures.value in
    let own = own_found listed i es c.self.invariant in
    let put : w.items ≡ with_mark p c.args.row.mark rows = c.in_ok-put_row.ensures.put in
    changed listed i w es _ c.self.invariant (c.get_mut.follows.holds w).0 (c.get_mut.follows.holds w).4
    (subst (AreOf i) (sym put) (of_with i p c.args.row.mark rows (sym c.value-instance.ensures) (subst (AreOf i) (sym known) own.0)))
    (subst AreApart (sym put) (apart_with p c.args.row.mark rows (subst AreApart (sym known) own.1)))

pub returns-in-Some-clause-set : goal.returns-in-Some-clause-set
returns-in-Some-clause-set c =
    let i : ℕ = c.value-instance.result in
    let p : InstanceStep = record { instance = c.args.row.instance; step = c.args.row.step } in
    let es : List (ℕ × Vec CheckpointRow Global) = c.self.inside.lists.entries in
    let w : Vec CheckpointRow Global = c.put_row.new.rows in
    let rows : List CheckpointRow = c.in-Some.known.now.items in
    let known : rows ≡ filter (λ row. row.instance == p.instance) (rows_listed listed es) =
    ap (rows_found listed) c.in-Some.ensures.value
    ∙ (found_of listed i es c.self.invariant ∙ ap (λ (n : ℕ). filter (λ row. row.instance == n) (rows_listed listed es)) c.value-instance.ensures) in
    let updates = (c.get_mut.follows.holds w).3 (subst IsSome c.in-Some.ensures.value refl) in
    λ q. marks_put (rows_listed listed es) _ rows w.items p c.args.row.mark
    (set_of listed i p.instance w es _ c.value-instance.ensures c.self.invariant (invariant_of-self-in-Some c) updates.0) known c.in_ok-put_row.ensures.put q
    ∙ ap (λ (l : List CheckpointRow). cond (is_same_step q (Some p)) (Some c.args.row.mark) (mark_at l q)) c.self.view_is

pub returns-in-Some-clause-apart : goal.returns-in-Some-clause-apart
returns-in-Some-clause-apart c = apart_of listed _ (invariant_of-self-in-Some c)

pub invariant_of-self-2 : goal.invariant_of-self-2
invariant_of-self-2 c =
    let i : ℕ = c.value-instance.result in
    let p : InstanceStep = record { instance = c.args.row.instance; step = c.args.row.step } in
    let es : List (ℕ × Vec CheckpointRow Global) = c.self.inside.lists.entries in
    let first : Vec CheckpointRow Global = c.push.new.self in
    let one : first.items ≡ c.args.row ∷ [] = c.in_ok-push.ensures.items ∙ ap (λ (l : List CheckpointRow). l ++ c.args.row ∷ []) c.new-first.ensures.items in
    inserted listed i first es _ c.self.invariant
    (c.in_ok-insert.ensures.entries ∙ ap (λ m. insert_entry nat_cmp m.entries i first) c.get_mut.follows.holds-at-none) c.insert.ensures.ordered
    (subst (AreOf i) (sym one) (sym c.value-instance.ensures, tt)) (subst AreApart (sym one) (apart_with p c.args.row.mark [] tt))

pub returns-clause-set : goal.returns-clause-set
returns-clause-set c =
    let i : ℕ = c.value-instance.result in
    let p : InstanceStep = record { instance = c.args.row.instance; step = c.args.row.step } in
    let es : List (ℕ × Vec CheckpointRow Global) = c.self.inside.lists.entries in
    let first : Vec CheckpointRow Global = c.push.new.self in
    let one : first.items ≡ c.args.row ∷ [] = c.in_ok-push.ensures.items ∙ ap (λ (l : List CheckpointRow). l ++ c.args.row ∷ []) c.new-first.ensures.items in
    let none : [] ≡ rows_found listed (lookup (is_at (nat_cmp i)) es) = ap (rows_found listed) c.in_default.ensures.value in
    let known : [] ≡ filter (λ row. row.instance == p.instance) (rows_listed listed es) =
    none ∙ (found_of listed i es c.self.invariant ∙ ap (λ (n : ℕ). filter (λ row. row.instance == n) (rows_listed listed es)) c.value-instance.ensures) in
    let updates : (q : ℕ) → lookup (is_at (nat_cmp q)) c.insert.new.self.entries ≡ cond (is_at (nat_cmp i) q) (Some first) (lookup (is_at (nat_cmp q)) es) =
    λ q. c.in_ok-insert.ensures.updates.0 q ∙ ap (λ m. cond (is_at (nat_cmp i) q) (Some first) (lookup (is_at (nat_cmp q)) m.entries)) c.get_mut.follows.holds-at-none in
    λ q. marks_put (rows_listed listed es) _ [] first.items p c.args.row.mark
    (set_of listed i p.instance first es _ c.value-instance.ensures c.self.invariant (invariant_of-self-2 c) updates) known one q
    ∙ ap (λ (l : List CheckpointRow). cond (is_same_step q (Some p)) (Some c.args.row.mark) (mark_at l q)) c.self.view_is

pub returns-clause-apart : goal.returns-clause-apart
returns-clause-apart c = apart_of listed _ (invariant_of-self-2 c)

pub invariant_of-self-in_err-push : goal.invariant_of-self-in_err-push
invariant_of-self-in_err-push c = subst (λ m. AreListed listed m.entries) (sym c.get_mut.follows.holds-at-none) c.self.invariant

pub invariant_of-self-in_err-insert : goal.invariant_of-self-in_err-insert
invariant_of-self-in_err-insert c =
    subst (AreListed listed) (sym (c.in_err-insert.ensures.err ∙ ap (λ m. m.entries) c.get_mut.follows.holds-at-none)) c.self.invariant

use Rattle.std.proofs.Common.{◌≡◌, ◌==◌, [], ℕ, IsSome, None, Some, cond, Vec, Global, List, filter, refl, sym, ◌∙◌, ap, subst}
use Rattle.std.specs.Map.{lookup}
use Rattle.std.specs.BTreeMap.{is_at}
use Rattle.std.specs.Ordering.{nat_cmp}
use Rattle.batch_history.specs.declared.rows.CheckpointRow.{CheckpointRow}
use Rattle.batch_history.specs.Checkpoints.{InstanceStep, is_same_step}
use Rattle.record_lists.specs.Listed.{AreOf, AreListed, rows_listed}
use Rattle.record_lists.specs.Places.{mark_at, AreApart}
use Rattle.record_lists.specs.Placed.{is_elsewhere}
use Rattle.record_lists.proofs.Marks.{apart_without}
use Rattle.record_lists.proofs.Listing.{rows_found, found_of, own_found, of_filtered, changed, set_of, marks_cleared, marks_absent, apart_of}
use Rattle.record_lists.proofs.checkpoint_lists.CheckpointLists.leave_out.Goals as goal
use Rattle.record_lists.proofs.checkpoint_lists.CheckpointLists.leave_out.Goals.{in-Some, in_default}

-- the checkpoints of a list
abbrev listed : Vec CheckpointRow Global → List CheckpointRow
listed rows = rows.items

pub invariant_of-self : goal.invariant_of-self
invariant_of-self c =
    let i : ℕ = c.value.result in
    let p : InstanceStep = record { instance = c.args.i; step = c.args.step.now } in
    let es : List (ℕ × Vec CheckpointRow Global) = c.self.inside.lists.entries in
    elim c.match-get_mut.branch [
      | in-Some w ↦
          let left : Vec CheckpointRow Global = w.remove_row.new.rows in
          let rows : List CheckpointRow = w.in-Some.known.now.items in
          let known : rows ≡ rows_found listed (lookup (is_at (nat_cmp i)) es) = ap (rows_found listed) w.in-Some.ensures.value in
          let own = own_found listed i es c.self.invariant in
          subst (λ s. AreListed listed s.lists.entries) (sym w.self-inside-is)
          (changed listed i left es _ c.self.invariant (c.get_mut.follows.holds left).0 (c.get_mut.follows.holds left).4
          (subst (AreOf i) (sym w.remove_row.ensures) (of_filtered i (is_elsewhere p) rows (subst (AreOf i) (sym known) own.0)))
          (subst AreApart (sym w.remove_row.ensures) (apart_without p rows (subst AreApart (sym known) own.1))))
      | in_default w ↦
          subst (λ s. AreListed listed s.lists.entries) (sym w.self-inside-is)
          (subst (λ m. AreListed listed m.entries) (sym c.get_mut.follows.holds-at-none) c.self.invariant)
    ]

pub returns-clause-set : goal.returns-clause-set
returns-clause-set c =
    let i : ℕ = c.value.result in
    let p : InstanceStep = record { instance = c.args.i; step = c.args.step.now } in
    let es : List (ℕ × Vec CheckpointRow Global) = c.self.inside.lists.entries in
    let here : filter (λ row. row.instance == i) (rows_listed listed es) ≡ filter (λ row. row.instance == p.instance) (rows_listed listed es) =
    ap (λ (n : ℕ). filter (λ row. row.instance == n) (rows_listed listed es)) c.value.ensures in
    λ q. elim c.match-get_mut.branch [
      | in-Some w ↦
          let left : Vec CheckpointRow Global = w.remove_row.new.rows in
          let rows : List CheckpointRow = w.in-Some.known.now.items in
          let known : rows ≡ filter (λ row. row.instance == p.instance) (rows_listed listed es) =
          ap (rows_found listed) w.in-Some.ensures.value ∙ (found_of listed i es c.self.invariant ∙ here) in
          let updates = (c.get_mut.follows.holds left).3 (subst IsSome w.in-Some.ensures.value refl) in
          let new : AreListed listed (c.get_mut.follows.lender left).entries =
          subst (λ s. AreListed listed s.lists.entries) w.self-inside-is (invariant_of-self c) in
          ap (λ s. mark_at (rows_listed listed s.lists.entries) q) w.self-inside-is
          ∙ (marks_cleared (rows_listed listed es) _ rows left.items p
          (set_of listed i p.instance left es _ c.value.ensures c.self.invariant new updates.0) known w.remove_row.ensures q
          ∙ ap (λ (l : List CheckpointRow). cond (is_same_step q (Some p)) None (mark_at l q)) c.self.view_is)
      | in_default w ↦
          let none : [] ≡ filter (λ row. row.instance == p.instance) (rows_listed listed es) =
          ap (rows_found listed) w.in_default.ensures.value ∙ (found_of listed i es c.self.invariant ∙ here) in
          ap (λ s. mark_at (rows_listed listed s.lists.entries) q) w.self-inside-is
          ∙ (ap (λ m. mark_at (rows_listed listed m.entries) q) c.get_mut.follows.holds-at-none
          ∙ (marks_absent (rows_listed listed es) p none q
          ∙ ap (λ (l : List CheckpointRow). cond (is_same_step q (Some p)) None (mark_at l q)) c.self.view_is))
    ]

pub returns-clause-apart : goal.returns-clause-apart
returns-clause-apart c = apart_of listed _ (invariant_of-self c)

-- How far the counts of work items go.
use Rattle.std.proofs.Common.{◌≡◌, ℕ, ◌+◌, ◌==◌, ◌<◌, ◌≤◌, length, drop, get_or, ◌++◌, ◌∷◌, [], Bool, true, false, cond, Some, List, find, filter, map, refl, sym, ◌∙◌, ap, subst, arith}
use Rattle.batch_ids.specs.declared.metrics.Metrics.{Metrics}
use Rattle.batch_ids.specs.declared.metric_step.MetricStep.{MetricStep}
use Rattle.batch_ids.specs.Metrics.{added, both_metrics, sum_of_metrics, zero_metrics}
use Rattle.batch_history.specs.declared.rows.WorkRow.{WorkRow}
use Rattle.std.proofs.lemmas.List.{drop_more}
use Rattle.std.specs.Str.{bytes_eq}
use Rattle.batch_history.specs.Legal.{most_numbered}
use Rattle.batch_history.specs.Lists.{change_first}
use Rattle.batch_history.specs.StepExecutions.{same_step}
use Rattle.records.specs.Left.{works_of}
use Rattle.batch_ids.specs.Metrics.{HaveRoom, IsWithin, most_after}
use Rattle.seq_repository.specs.Metered.{AreWithin, IsStep}

within-more : (a b : ℕ) (m : Metrics) → a ≤ b → IsWithin a m → IsWithin b m
within-more a b m le w =
    record {
      read = omega (arith, le, w.read);
      write = omega (arith, le, w.write);
      commit = omega (arith, le, w.commit);
      rollback = omega (arith, le, w.rollback);
      read_skip = omega (arith, le, w.read_skip);
      process_skip = omega (arith, le, w.process_skip);
      filter = omega (arith, le, w.filter);
      write_skip = omega (arith, le, w.write_skip);
    }

-- one operation more leaves more room
pub within_more : (count : ℕ) (works : List WorkRow) → AreWithin (most_after count) works → AreWithin (most_after (count + 1)) works
within_more count works w = within-more (most_after count) (most_after (count + 1)) (sum_of_metrics (map (λ row. row.metrics) works)) (omega arith) w

-- ---- Of one count

-- what is read off metrics is a count: that of sums is the sum, and at the beginning it is 0
record IsCount (pick : Metrics → ℕ) : Type 0 where
  sums : (one other : Metrics) → pick (both_metrics one other) ≡ pick one + pick other
  none : pick zero_metrics ≡ 0

-- what a count comes to over work items
abbrev total : (Metrics → ℕ) → List WorkRow → ℕ
total pick works = pick (sum_of_metrics (map (λ row. row.metrics) works))

total-pushed : (pick : Metrics → ℕ) (works : List WorkRow) (row : WorkRow) → IsCount pick → row.metrics ≡ zero_metrics
    → total pick (works ++ row ∷ []) ≡ total pick works
total-pushed pick [] row c zero = c.sums row.metrics zero_metrics ∙ omega (arith, ap pick zero, c.none)
total-pushed pick (r ∷ works) row c zero =
    omega (arith, c.sums r.metrics (sum_of_metrics (map (λ row. row.metrics) (works ++ row ∷ []))), c.sums r.metrics (sum_of_metrics (map (λ row. row.metrics) works)), total-pushed pick works row c zero)

total-found : (pick : Metrics → ℕ) (p : WorkRow → Bool) (works : List WorkRow) (row : WorkRow) → IsCount pick → find p works ≡ Some row
    → pick row.metrics ≤ total pick works
total-found pick p [] row c e = cc
total-found pick p (r ∷ works) row c e =
    let sums : total pick (r ∷ works) ≡ pick r.metrics + total pick works = c.sums r.metrics (sum_of_metrics (map (λ row. row.metrics) works)) in
    (elim (p r) as (λ b. cond b (Some r) (find p works) ≡ Some row → pick row.metrics ≤ total pick (r ∷ works)) [
      | true ↦ λ s. let is : r ≡ row = cc in omega (arith, sums, ap (λ (x : WorkRow). pick x.metrics) is)
      | false ↦ λ s. omega (arith, sums, total-found pick p works row c s)
    ]) e

total-put : (pick : Metrics → ℕ) (p : WorkRow → Bool) (new : WorkRow) (works : List WorkRow) (row : WorkRow) → IsCount pick → find p works ≡ Some row
    → total pick (change_first p (λ old. new) works) + pick row.metrics ≡ total pick works + pick new.metrics
total-put pick p new [] row c e = cc
total-put pick p new (r ∷ works) row c e =
    let sums : total pick (r ∷ works) ≡ pick r.metrics + total pick works = c.sums r.metrics (sum_of_metrics (map (λ row. row.metrics) works)) in
    (elim (p r) as (λ b. cond b (Some r) (find p works) ≡ Some row
    → total pick (cond b (new ∷ works) (r ∷ change_first p (λ old. new) works)) + pick row.metrics ≡ total pick (r ∷ works) + pick new.metrics) [
      | true ↦ λ s.
          let is : r ≡ row = cc in
          omega (arith, sums, ap (λ (x : WorkRow). pick x.metrics) is, c.sums new.metrics (sum_of_metrics (map (λ row. row.metrics) works)))
      | false ↦ λ s.
          omega (arith, sums, c.sums r.metrics (sum_of_metrics (map (λ row. row.metrics) (change_first p (λ old. new) works))), total-put pick p new works row c s)
    ]) e

total-filtered : (pick : Metrics → ℕ) (q : WorkRow → Bool) (works : List WorkRow) → IsCount pick → total pick (filter q works) ≤ total pick works
total-filtered pick q [] c = omega arith
total-filtered pick q (r ∷ works) c =
    let sums : total pick (r ∷ works) ≡ pick r.metrics + total pick works = c.sums r.metrics (sum_of_metrics (map (λ row. row.metrics) works)) in
    elim (q r) as (λ b. total pick (cond b (r ∷ filter q works) (filter q works)) ≤ total pick (r ∷ works)) [
      | true ↦ omega (arith, sums, c.sums r.metrics (sum_of_metrics (map (λ row. row.metrics) (filter q works))), total-filtered pick q works c)
      | false ↦ omega (arith, sums, total-filtered pick q works c)
    ]

-- ---- Of each

-- what holds of each count holds of the metrics
within-every : (most : ℕ) (works : List WorkRow) (other : List WorkRow) → ((pick : Metrics → ℕ) → IsCount pick → total pick other ≤ total pick works)
    → AreWithin most works → AreWithin most other
within-every most works other le w =
    record {
      read = omega (arith, w.read, le (λ m. m.read_count) record { sums = λ a b. refl; none = refl });
      write = omega (arith, w.write, le (λ m. m.write_count) record { sums = λ a b. refl; none = refl });
      commit = omega (arith, w.commit, le (λ m. m.commit_count) record { sums = λ a b. refl; none = refl });
      rollback = omega (arith, w.rollback, le (λ m. m.rollback_count) record { sums = λ a b. refl; none = refl });
      read_skip = omega (arith, w.read_skip, le (λ m. m.read_skip_count) record { sums = λ a b. refl; none = refl });
      process_skip = omega (arith, w.process_skip, le (λ m. m.process_skip_count) record { sums = λ a b. refl; none = refl });
      filter = omega (arith, w.filter, le (λ m. m.filter_count) record { sums = λ a b. refl; none = refl });
      write_skip = omega (arith, w.write_skip, le (λ m. m.write_skip_count) record { sums = λ a b. refl; none = refl });
    }

-- a work item begins with counts of 0
pub within_pushed : (count : ℕ) (works : List WorkRow) (row : WorkRow) → row.metrics ≡ zero_metrics → AreWithin (most_after count) works
    → AreWithin (most_after (count + 1)) (works ++ row ∷ [])
within_pushed count works row zero w =
    within-every (most_after (count + 1)) works (works ++ row ∷ []) (λ pick c. omega (arith, total-pushed pick works row c zero)) (within_more count works w)

-- some of the work items come to no more than all of them
pub within_filtered : (most : ℕ) (q : WorkRow → Bool) (works : List WorkRow) → AreWithin most works → AreWithin most (filter q works)
within_filtered most q works w = within-every most works (filter q works) (λ pick c. total-filtered pick q works c) w

-- what a report adds to one count is at most 4,294,967,295
count-put : (pick : Metrics → ℕ) (p : WorkRow → Bool) (works : List WorkRow) (row new : WorkRow) (step count : ℕ) → IsCount pick → find p works ≡ Some row
    → pick new.metrics ≡ pick row.metrics + step → step ≤ 4294967295 → total pick works ≤ most_after count
    → total pick (change_first p (λ old. new) works) ≤ most_after (count + 1)
count-put pick p works row new step count c found sum small w = omega (arith, total-put pick p new works row c found, sum, small, w)

-- a work item that was reported of, in its place
pub within_put : (count : ℕ) (p : WorkRow → Bool) (works : List WorkRow) (row new : WorkRow) (step : MetricStep)
    → find p works ≡ Some row → new.metrics ≡ added row.metrics step → IsStep step → AreWithin (most_after count) works
    → AreWithin (most_after (count + 1)) (change_first p (λ old. new) works)
within_put count p works row new step found is s w =
    record {
      read = count-put (λ m. m.read_count) p works row new step.read_count count record { sums = λ a b. refl; none = refl } found (ap (λ (m : Metrics). m.read_count) is) s.read w.read;
      write = count-put (λ m. m.write_count) p works row new step.write_count count record { sums = λ a b. refl; none = refl } found (ap (λ (m : Metrics). m.write_count) is) s.write w.write;
      commit = count-put (λ m. m.commit_count) p works row new step.commit_count count record { sums = λ a b. refl; none = refl } found (ap (λ (m : Metrics). m.commit_count) is) s.commit w.commit;
      rollback = count-put (λ m. m.rollback_count) p works row new step.rollback_count count record { sums = λ a b. refl; none = refl } found (ap (λ (m : Metrics). m.rollback_count) is) s.rollback w.rollback;
      read_skip = count-put (λ m. m.read_skip_count) p works row new step.read_skip_count count record { sums = λ a b. refl; none = refl } found (ap (λ (m : Metrics). m.read_skip_count) is) s.read_skip w.read_skip;
      process_skip = count-put (λ m. m.process_skip_count) p works row new step.process_skip_count count record { sums = λ a b. refl; none = refl } found (ap (λ (m : Metrics). m.process_skip_count) is) s.process_skip w.process_skip;
      filter = count-put (λ m. m.filter_count) p works row new step.filter_count count record { sums = λ a b. refl; none = refl } found (ap (λ (m : Metrics). m.filter_count) is) s.filter w.filter;
      write_skip = count-put (λ m. m.write_skip_count) p works row new step.write_skip_count count record { sums = λ a b. refl; none = refl } found (ap (λ (m : Metrics). m.write_skip_count) is) s.write_skip w.write_skip;
    }

-- so many operations leave room for the sums of all that is reported
pub within_limit : (limit count : ℕ) (works : List WorkRow) → limit ≤ most_numbered → count ≤ limit → AreWithin (most_after count) works → AreWithin (most_after most_numbered) works
within_limit limit count works few le w =
    within-more (most_after count) (most_after most_numbered) (sum_of_metrics (map (λ row. row.metrics) works)) (omega (arith, few, le)) w

-- the counts of a work item that is found have room for more
pub within_found : (limit count : ℕ) (p : WorkRow → Bool) (works : List WorkRow) (row : WorkRow)
    → limit ≤ most_numbered → count ≤ limit → find p works ≡ Some row → AreWithin (most_after count) works → IsWithin (most_after most_numbered) row.metrics
within_found limit count p works row few le found w =
    let all : AreWithin (most_after most_numbered) works = within_limit limit count works few le w in
    record {
      read = omega (arith, all.read, total-found (λ m. m.read_count) p works row record { sums = λ a b. refl; none = refl } found);
      write = omega (arith, all.write, total-found (λ m. m.write_count) p works row record { sums = λ a b. refl; none = refl } found);
      commit = omega (arith, all.commit, total-found (λ m. m.commit_count) p works row record { sums = λ a b. refl; none = refl } found);
      rollback = omega (arith, all.rollback, total-found (λ m. m.rollback_count) p works row record { sums = λ a b. refl; none = refl } found);
      read_skip = omega (arith, all.read_skip, total-found (λ m. m.read_skip_count) p works row record { sums = λ a b. refl; none = refl } found);
      process_skip = omega (arith, all.process_skip, total-found (λ m. m.process_skip_count) p works row record { sums = λ a b. refl; none = refl } found);
      filter = omega (arith, all.filter, total-found (λ m. m.filter_count) p works row record { sums = λ a b. refl; none = refl } found);
      write_skip = omega (arith, all.write_skip, total-found (λ m. m.write_skip_count) p works row record { sums = λ a b. refl; none = refl } found);
    }

-- ---- Sums

-- sums of sums
pub both_associative : (a b c : Metrics) → both_metrics (both_metrics a b) c ≡ both_metrics a (both_metrics b c)
both_associative a b c =
    let read : (a.read_count + b.read_count) + c.read_count ≡ a.read_count + (b.read_count + c.read_count) = omega arith in
    let write : (a.write_count + b.write_count) + c.write_count ≡ a.write_count + (b.write_count + c.write_count) = omega arith in
    let commit : (a.commit_count + b.commit_count) + c.commit_count ≡ a.commit_count + (b.commit_count + c.commit_count) = omega arith in
    let rollback : (a.rollback_count + b.rollback_count) + c.rollback_count ≡ a.rollback_count + (b.rollback_count + c.rollback_count) = omega arith in
    let read_skip : (a.read_skip_count + b.read_skip_count) + c.read_skip_count ≡ a.read_skip_count + (b.read_skip_count + c.read_skip_count) = omega arith in
    let process_skip : (a.process_skip_count + b.process_skip_count) + c.process_skip_count ≡ a.process_skip_count + (b.process_skip_count + c.process_skip_count) = omega arith in
    let filter : (a.filter_count + b.filter_count) + c.filter_count ≡ a.filter_count + (b.filter_count + c.filter_count) = omega arith in
    let write_skip : (a.write_skip_count + b.write_skip_count) + c.write_skip_count ≡ a.write_skip_count + (b.write_skip_count + c.write_skip_count) = omega arith in
    rw read (rw write (rw commit (rw rollback (rw read_skip (rw process_skip (rw filter (rw write_skip refl)))))))

-- what is joined with nothing more is the whole
pub both_none : (a : Metrics) → both_metrics a zero_metrics ≡ a
both_none a = search arith

-- parts of what is within bounds have room for one another
pub room_within : (one other rest : Metrics) (works : List WorkRow) → AreWithin (most_after most_numbered) works
    → both_metrics one (both_metrics other rest) ≡ sum_of_metrics (map (λ row. row.metrics) works) → HaveRoom one other
room_within one other rest works w is =
    record {
      read = omega (arith, w.read, ap (λ (m : Metrics). m.read_count) is);
      write = omega (arith, w.write, ap (λ (m : Metrics). m.write_count) is);
      commit = omega (arith, w.commit, ap (λ (m : Metrics). m.commit_count) is);
      rollback = omega (arith, w.rollback, ap (λ (m : Metrics). m.rollback_count) is);
      read_skip = omega (arith, w.read_skip, ap (λ (m : Metrics). m.read_skip_count) is);
      process_skip = omega (arith, w.process_skip, ap (λ (m : Metrics). m.process_skip_count) is);
      filter = omega (arith, w.filter, ap (λ (m : Metrics). m.filter_count) is);
      write_skip = omega (arith, w.write_skip, ap (λ (m : Metrics). m.write_skip_count) is);
    }

-- the next of the work items has room beside those before it, and with them comes to what the rest leaves
pub room_at : {A : Type 0} (f : A → WorkRow) (items : List A) (i : ℕ) (row : A) (sum : Metrics) → i < length items → row ≡ get_or items i row
    → AreWithin (most_after most_numbered) (map f items)
    → both_metrics sum (sum_of_metrics (map (λ row. row.metrics) (map f (drop i items)))) ≡ sum_of_metrics (map (λ row. row.metrics) (map f items))
    → HaveRoom sum (f row).metrics
room_at f items i row sum lt is w so_far =
    let ahead : drop i items ≡ get_or items i row ∷ drop (i + 1) items = drop_more items i row lt in
    let here : drop i items ≡ row ∷ drop (i + 1) items = ahead ∙ ap (λ r. r ∷ drop (i + 1) items) (sym is) in
    room_within sum (f row).metrics (sum_of_metrics (map (λ row. row.metrics) (map f (drop (i + 1) items)))) (map f items) w
    (sym (ap (λ l. both_metrics sum (sum_of_metrics (map (λ row. row.metrics) (map f l)))) here) ∙ so_far)

pub joined_at : {A : Type 0} (f : A → WorkRow) (items : List A) (i : ℕ) (row : A) (sum after : Metrics) → i < length items → row ≡ get_or items i row
    → after ≡ both_metrics sum (f row).metrics
    → both_metrics sum (sum_of_metrics (map (λ row. row.metrics) (map f (drop i items)))) ≡ sum_of_metrics (map (λ row. row.metrics) (map f items))
    → both_metrics after (sum_of_metrics (map (λ row. row.metrics) (map f (drop (i + 1) items)))) ≡ sum_of_metrics (map (λ row. row.metrics) (map f items))
joined_at f items i row sum after lt is sums so_far =
    let here : drop i items ≡ row ∷ drop (i + 1) items = drop_more items i row lt ∙ ap (λ r. r ∷ drop (i + 1) items) (sym is) in
    let rest : Metrics = sum_of_metrics (map (λ row. row.metrics) (map f (drop (i + 1) items))) in
    ap (λ m. both_metrics m rest) sums
    ∙ (both_associative sum (f row).metrics rest
    ∙ (sym (ap (λ l. both_metrics sum (sum_of_metrics (map (λ row. row.metrics) (map f l)))) here) ∙ so_far))

-- the work items of one step, and those of one job execution, are some of all
pub within_same_step : (most : ℕ) (works items : List WorkRow) (row : WorkRow) → AreWithin most works → items ≡ same_step works row → AreWithin most items
within_same_step most works items row w is =
    subst (AreWithin most) (sym is) (within_filtered most (λ other. bytes_eq other.element row.element) works w)

pub within_works_of : (most x : ℕ) (works own : List WorkRow) → AreWithin most works → own ≡ works_of x works → AreWithin most own
within_works_of most x works own w is = subst (AreWithin most) (sym is) (within_filtered most (λ row. row.execution == x) works w)

-- What a repository keeps to, its agenda too, is kept by each operation.
use Rattle.std.proofs.Common.{◌≡◌, ℕ, ◌+◌, ◌<◌, ◌==◌, Bool, true, false, cond, not, Option, None, Some, IfSome, List, [], ◌∷◌, ◌++◌, find, refl, sym, ◌∙◌, ap, subst}
use Rattle.std.specs.BTreeMap.{BTreeMap, get, keys}
use Rattle.std.specs.BTreeSet.{insert_key}
use Rattle.std.specs.List.{list_any}
use Rattle.std.specs.Option.{option_and_then, option_map}
use Rattle.std.specs.Ordering.{nat_cmp, is_eq}
use Rattle.job_plans.specs.Cursors.{CursorState}
use Rattle.batch_history.specs.Works.{is_work, work_key, AllApart}
use Rattle.seq_repository.specs.Following.{AreFollowed, AreOfUnfinished, IsSlotOf, Walks, kept_at}
use Rattle.seq_repository.specs.declared.cursors.Slot.{Slot}
use Rattle.seq_repository.proofs.Slots.{cursor_left, slots_put, slots_pushed, slots_same, slots_without}
use Rattle.seq_repository.proofs.Followed.{apart_filtered, apart_put, followed_pushed, followed_put, followed_some, followed_without}
use Rattle.batch_ids.specs.Metrics.{added, zero_metrics}
use Rattle.batch_ids.specs.declared.metric_step.MetricStep.{MetricStep}
use Rattle.batch_ids.specs.declared.status.BatchStatus.TheVariants.{Starting}
use Rattle.batch_history.specs.Lists.{change_first}
use Rattle.batch_history.specs.Replies.{is_running_in, row_status}
use Rattle.batch_history.specs.Rows.{instance_in, is_execution, is_gone}
use Rattle.batch_history.specs.declared.rows.ExecutionRow.{ExecutionRow}
use Rattle.batch_history.specs.declared.rows.JobInstance.{JobInstance}
use Rattle.batch_history.specs.declared.rows.WorkRow.{WorkRow}
use Rattle.records.specs.Maps.{Maps, AreBelow, AreRising, execution_numbers}
use Rattle.records.specs.Without.{without_instance}
use Rattle.restart_rules.specs.Placed.{is_placed}
use Rattle.seq_repository.specs.Agendas.{agenda_of, is_ready_row, without_number}
use Rattle.seq_repository.specs.Changes.{put_row, row_after, ReplacesExecution}
use Rattle.seq_repository.specs.Reports.{IsReport, works_with}
use Rattle.seq_repository.specs.declared.after.After.{After}
use Rattle.seq_repository.specs.declared.rows.Change.TheVariants.{Report}
use Rattle.seq_repository.specs.Kept.{Kept, IsRepository, IsSound}
use Rattle.seq_repository.specs.Metered.{IsStep}
use Rattle.row_repository.specs.Settled.{AreSettled, IsSettled}
use Rattle.seq_repository.proofs.Agendas.{KeepsOthers, agenda_changed, agenda_pushed, agenda_without, others_apart, others_beside, others_same}
use Rattle.seq_repository.proofs.Below.{numbers_changed}
use Rattle.seq_repository.proofs.Entries.{maps-changed}
use Rattle.seq_repository.proofs.Numbers.{rising_filtered, rising_pushed}
use Rattle.seq_repository.proofs.Settled.{settled_after, settled_pushed, settled_put, settled_without}
use Rattle.seq_repository.proofs.Sound.{sound_change, sound_purge, sound_report, sound_restart, sound_start, sound_work}

-- what an operation on job execution x did to the agenda: `put` where there is something to do, and then taken off where
-- there is not
pub record Puts (ready : Bool) (x : ℕ) (old done : List ℕ) : Type 0 where
  pub goes : Bool
  pub put : List ℕ
  pub is_goes : goes ≡ not ready
  pub is_put : put ≡ cond ready (insert_key nat_cmp old x) old
  pub is_done : done ≡ cond goes (without_number x put) put

-- and to the cursors: the slot of x has its cursor, or is not there, and those of others stay
pub record KeepsWalk (x : ℕ) (row : Option ExecutionRow) (cursor : Option CursorState) (old kept : BTreeMap ℕ Slot) : Type 0 where
  pub others : (q : ℕ) → is_eq (nat_cmp x q) ≡ false → get nat_cmp kept q ≡ get nat_cmp old q
  pub own : IfSome (get nat_cmp kept x) (IsSlotOf row cursor)

rising-put : (x : ℕ) (new : Option ExecutionRow) (rows : List ExecutionRow) → IfSome new (λ row. ReplacesExecution rows x row) → AreRising (execution_numbers rows)
    → AreRising (execution_numbers (put_row x new rows))
rising-put x None rows own rising = rising
rising-put x (Some row) rows own rising =
    subst AreRising (sym (numbers_changed (λ (r : ExecutionRow). r.execution) (is_execution x) rows own.0 row own.1 own.2.execution)) rising

-- the rows and the agenda after an operation on job execution x
kept-put : (limit : ℕ) (old done : List ℕ) (walks left : BTreeMap ℕ Slot) (kept after : Kept) (x : ℕ) (f : ExecutionRow → ExecutionRow) (new : Option ExecutionRow) (ready : Bool) (cursor : Option CursorState)
    → IsRepository limit old walks kept → IsSound limit after → after.catalogue ≡ kept.catalogue → after.records.executions ≡ put_row x new kept.records.executions
    → KeepsOthers x kept.records.works after.records.works → IfSome new (λ row. ReplacesExecution kept.records.executions x row)
    → new ≡ option_map f (find (is_execution x) kept.records.executions) → ready ≡ is_ready_row kept.catalogue after.records.works new → Puts ready x old done
    → AllApart after.records.works → ((c : CursorState) → cursor ≡ Some c → Walks kept.catalogue after.records.works (find (is_execution x) kept.records.executions) cursor) → KeepsWalk x new cursor walks left
    → ((row : ExecutionRow) → IsSettled kept.catalogue after.records.works (f row))
    → IsRepository limit done left after
kept-put limit old done walks left kept after x f new ready cursor k sound same rows others own made is_ready puts apart walked stays settles =
    record {
      sound = sound;
      rising = subst (λ l. AreRising (execution_numbers l)) (sym rows) (rising-put x new kept.records.executions own k.rising);
      apart = apart;
      followed =
          subst (λ catalogue. AreFollowed catalogue after.records.works after.records.executions (kept_at left)) (sym same)
          (subst (λ (l : List ExecutionRow). AreFollowed kept.catalogue after.records.works l (kept_at left)) (sym rows)
          (followed_put kept.catalogue kept.records.works after.records.works kept.records.executions x new cursor (kept_at walks) (kept_at left) k.followed others own walked
          (λ q off. ap (option_and_then (λ (slot : Slot). slot.cursor)) (stays.others q off)) (cursor_left new cursor (get nat_cmp left x) stays.own)));
      slots = subst (λ l. AreOfUnfinished l left) (sym rows) (slots_put x new cursor kept.records.executions walks left own stays.others stays.own k.slots);
      settled =
          subst (λ catalogue. AreSettled catalogue after.records.works after.records.executions) (sym same)
          (subst (AreSettled kept.catalogue after.records.works) (sym rows)
          (settled_put kept.catalogue kept.records.works after.records.works kept.records.executions x f new others own made settles k.settled));
      agenda =
          agenda_changed kept.catalogue kept.records.works after.records.works kept.records.executions x f new ready puts.goes old puts.put done k.rising k.agenda others own made is_ready puts.is_goes puts.is_put puts.is_done
          ∙ (ap (λ (l : List ExecutionRow). agenda_of kept.catalogue after.records.works l) (sym rows)
          ∙ ap (λ catalogue. agenda_of catalogue after.records.works after.records.executions) (sym same));
    }

pub kept_change : (limit : ℕ) (old done : List ℕ) (walks left : BTreeMap ℕ Slot) (kept : Kept) (m : Maps) (x : ℕ) (f : ExecutionRow → ExecutionRow) (new : Option ExecutionRow) (ready : Bool) (cursor : Option CursorState)
    → IsRepository limit old walks kept → kept.count < limit → IfSome new (λ row. ReplacesExecution kept.records.executions x row)
    → new ≡ option_map f (find (is_execution x) kept.records.executions) → ready ≡ is_ready_row kept.catalogue kept.records.works new
    → m ≡ record kept.records { executions = put_row x new kept.records.executions } → Puts ready x old done
    → ((c : CursorState) → cursor ≡ Some c → Walks kept.catalogue kept.records.works (find (is_execution x) kept.records.executions) cursor) → KeepsWalk x new cursor walks left
    → ((row : ExecutionRow) → IsSettled kept.catalogue kept.records.works (f row))
    → IsRepository limit done left (record kept { count = kept.count + 1; records = m })
kept_change limit old done walks left kept m x f new ready cursor k room own made is_ready is puts walked stays settles =
    let same : kept.records.works ≡ m.works = ap (λ (maps : Maps). maps.works) (sym is) in
    kept-put limit old done walks left kept (record kept { count = kept.count + 1; records = m }) x f new ready cursor k (sound_change limit kept m x new k.sound room own is) refl
    (ap (λ (maps : Maps). maps.executions) is) (subst (KeepsOthers x kept.records.works) same (others_same x kept.records.works)) own made
    (subst (λ works. ready ≡ is_ready_row kept.catalogue works new) same is_ready) puts
    (subst AllApart same k.apart) (λ c is_some. subst (λ works. Walks kept.catalogue works (find (is_execution x) kept.records.executions) cursor) same (walked c is_some)) stays
    (λ row. subst (λ works. IsSettled kept.catalogue works (f row)) same (settles row))

pub kept_work : (limit : ℕ) (old done : List ℕ) (walks left : BTreeMap ℕ Slot) (kept : Kept) (m1 m2 : Maps) (x : ℕ) (f : ExecutionRow → ExecutionRow) (new : Option ExecutionRow) (ready : Bool) (cursor : Option CursorState) (work : WorkRow)
    → IsRepository limit old walks kept → kept.count < limit → IfSome new (λ row. ReplacesExecution kept.records.executions x row)
    → new ≡ option_map f (find (is_execution x) kept.records.executions) → ready ≡ is_ready_row kept.catalogue (kept.records.works ++ work ∷ []) new
    → work.work ≡ kept.last.work + 1 → work.execution ≡ x → work.metrics ≡ zero_metrics
    → m1 ≡ record kept.records { works = kept.records.works ++ work ∷ [] } → m2 ≡ record m1 { executions = put_row x new m1.executions } → Puts ready x old done
    → AllApart (kept.records.works ++ work ∷ []) → Walks kept.catalogue (kept.records.works ++ work ∷ []) (find (is_execution x) kept.records.executions) cursor → KeepsWalk x new cursor walks left
    → ((row : ExecutionRow) → IsSettled kept.catalogue (kept.records.works ++ work ∷ []) (f row))
    → IsRepository limit done left (record kept { count = kept.count + 1; last = record { instance = kept.last.instance; execution = kept.last.execution; work = kept.last.work + 1 }; records = m2 })
kept_work limit old done walks left kept m1 m2 x f new ready cursor work k room own made is_ready next of zero e1 e2 puts apart walked stays settles =
    let whole : m2 ≡ record kept.records { executions = put_row x new kept.records.executions; works = kept.records.works ++ work ∷ [] } =
    e2 ∙ ap (λ (m : Maps). record m { executions = put_row x new m.executions }) e1 in
    let same : kept.records.works ++ work ∷ [] ≡ m2.works = ap (λ (maps : Maps). maps.works) (sym whole) in
    kept-put limit old done walks left kept (record kept { count = kept.count + 1; last = record { instance = kept.last.instance; execution = kept.last.execution; work = kept.last.work + 1 }; records = m2 }) x f new ready cursor k
    (sound_work limit kept m1 m2 x new work k.sound room own next zero e1 e2) refl
    (ap (λ (maps : Maps). maps.executions) whole) (subst (KeepsOthers x kept.records.works) same (others_beside x kept.records.works work of)) own made
    (subst (λ works. ready ≡ is_ready_row kept.catalogue works new) same is_ready) puts
    (subst AllApart same apart) (λ c is_some. subst (λ works. Walks kept.catalogue works (find (is_execution x) kept.records.executions) cursor) same walked) stays
    (λ row. subst (λ works. IsSettled kept.catalogue works (f row)) same (settles row))

kept-report : (limit : ℕ) (old done : List ℕ) (walks left : BTreeMap ℕ Slot) (kept : Kept) (m1 m2 m3 : Maps) (p : WorkRow → Bool) (x : ℕ) (f : ExecutionRow → ExecutionRow) (row work : WorkRow) (new : Option ExecutionRow) (ready : Bool) (cursor : Option CursorState) (step : MetricStep)
    → IsRepository limit old walks kept → kept.count < limit → IfSome new (λ row. ReplacesExecution kept.records.executions x row)
    → new ≡ option_map f (find (is_execution x) kept.records.executions) → ready ≡ is_ready_row kept.catalogue (change_first p (λ gone. work) kept.records.works) new
    → find p kept.records.works ≡ Some row → row.execution ≡ x → work.execution ≡ row.execution → work_key work ≡ work_key row
    → work.work ≡ row.work → work.metrics ≡ added row.metrics step → IsStep step
    → m1 ≡ record kept.records { checkpoints = m1.checkpoints } → m2 ≡ record m1 { works = change_first p (λ gone. work) m1.works }
    → m3 ≡ record m2 { executions = put_row x new m2.executions } → Puts ready x old done
    → Walks kept.catalogue (change_first p (λ gone. work) kept.records.works) (find (is_execution x) kept.records.executions) cursor → KeepsWalk x new cursor walks left
    → ((r : ExecutionRow) → IsSettled kept.catalogue (change_first p (λ gone. work) kept.records.works) (f r))
    → IsRepository limit done left (record kept { count = kept.count + 1; records = m3 })
kept-report limit old done walks left kept m1 m2 m3 p x f row work new ready cursor step k room own made is_ready found of stays key same sum small e1 e2 e3 puts walked keeps settles =
    let whole = maps-changed kept.records m1 m2 m3 m1.checkpoints (change_first p (λ gone. work)) (put_row x new) e1 e2 e3 in
    let works : change_first p (λ gone. work) kept.records.works ≡ m3.works = ap (λ (maps : Maps). maps.works) (sym whole) in
    kept-put limit old done walks left kept (record kept { count = kept.count + 1; records = m3 }) x f new ready cursor k
    (sound_report limit kept m1 m2 m3 p x row work new step k.sound room own found same sum small e1 e2 e3) refl
    (ap (λ (maps : Maps). maps.executions) whole) (subst (KeepsOthers x kept.records.works) works (others_apart x p kept.records.works row work found of stays)) own made
    (subst (λ l. ready ≡ is_ready_row kept.catalogue l new) works is_ready) puts
    (subst AllApart works (apart_put p kept.records.works row work found stays key k.apart))
    (λ c is_some. subst (λ l. Walks kept.catalogue l (find (is_execution x) kept.records.executions) cursor) works walked) keeps
    (λ r. subst (λ l. IsSettled kept.catalogue l (f r)) works (settles r))

pub kept_reported : (limit : ℕ) (old done : List ℕ) (walks left : BTreeMap ℕ Slot) (kept : Kept) (m1 m2 m3 : Maps) (w at : ℕ) (work : WorkRow) (after : After) (cursor : Option CursorState)
    → IsRepository limit old walks kept → kept.count < limit → IsReport kept w at work after cursor
    → m1 ≡ record kept.records { checkpoints = m1.checkpoints } → m2 ≡ record m1 { works = works_with w work m1.works }
    → m3 ≡ record m2 { executions = put_row work.execution after.row m2.executions } → Puts after.ready work.execution old done → KeepsWalk work.execution after.row cursor walks left
    → IsRepository limit done left (record kept { count = kept.count + 1; records = m3 })
kept_reported limit old done walks left kept m1 m2 m3 w at work after cursor k room r e1 e2 e3 puts keeps =
    kept-report limit old done walks left kept m1 m2 m3 (is_work w) work.execution (row_after Report kept.catalogue (works_with w work kept.records.works) at) r.row work after.row after.ready cursor r.step
    k room r.own r.new r.ready r.found (sym r.execution) r.execution r.key r.number r.counts r.small e1 e2 e3 puts r.walks keeps
    (settled_after kept.catalogue (works_with w work kept.records.works) Report at)

-- the rows and the agenda after a job execution is made
kept-pushed : (limit : ℕ) (old put : List ℕ) (walks : BTreeMap ℕ Slot) (kept after : Kept) (row : ExecutionRow) → IsRepository limit old walks kept → IsSound limit after → after.catalogue ≡ kept.catalogue
    → after.records.works ≡ kept.records.works → after.records.executions ≡ kept.records.executions ++ row ∷ []
    → row.execution ≡ kept.last.execution + 1 → row_status row ≡ Starting → IsSettled kept.catalogue kept.records.works row → put ≡ insert_key nat_cmp old row.execution → IsRepository limit put walks after
kept-pushed limit old put walks kept after row k sound catalogue works rows is status settled is_put =
    let below : AreBelow row.execution (execution_numbers kept.records.executions) =
    subst (λ n. AreBelow n (execution_numbers kept.records.executions)) (sym is) k.sound.last.execution in
    record {
      sound = sound;
      rising = subst (λ l. AreRising (execution_numbers l)) (sym rows) (rising_pushed (λ (r : ExecutionRow). r.execution) row.execution kept.records.executions row k.rising below refl);
      apart = subst AllApart (sym works) k.apart;
      followed =
          subst (λ catalogue. AreFollowed catalogue after.records.works after.records.executions (kept_at walks)) (sym catalogue)
          (subst (λ (l : List WorkRow). AreFollowed kept.catalogue l after.records.executions (kept_at walks)) (sym works)
          (subst (λ (l : List ExecutionRow). AreFollowed kept.catalogue kept.records.works l (kept_at walks)) (sym rows)
          (followed_pushed kept.catalogue kept.records.works kept.records.executions row (kept_at walks) k.followed)));
      slots = subst (λ l. AreOfUnfinished l walks) (sym rows) (slots_pushed kept.records.executions row walks k.slots);
      settled =
          subst (λ catalogue. AreSettled catalogue after.records.works after.records.executions) (sym catalogue)
          (subst (λ (l : List WorkRow). AreSettled kept.catalogue l after.records.executions) (sym works)
          (subst (AreSettled kept.catalogue kept.records.works) (sym rows) (settled_pushed kept.catalogue kept.records.works kept.records.executions row settled k.settled)));
      agenda =
          agenda_pushed kept.catalogue kept.records.works kept.records.executions row old put status below k.agenda is_put
          ∙ (ap (λ (l : List ExecutionRow). agenda_of kept.catalogue kept.records.works l) (sym rows)
          ∙ (ap (λ (l : List WorkRow). agenda_of kept.catalogue l after.records.executions) (sym works)
          ∙ ap (λ catalogue. agenda_of catalogue after.records.works after.records.executions) (sym catalogue)));
    }

pub kept_start : (limit : ℕ) (old put : List ℕ) (walks : BTreeMap ℕ Slot) (kept : Kept) (m : Maps) (made : JobInstance) (row : ExecutionRow) → IsRepository limit old walks kept
    → made.instance ≡ kept.last.instance + 1 → row.execution ≡ kept.last.execution + 1 → row_status row ≡ Starting → IsSettled kept.catalogue kept.records.works row → kept.count < limit → is_placed kept.catalogue row ≡ true
    → m ≡ record kept.records { instances = kept.records.instances ++ made ∷ []; executions = kept.records.executions ++ row ∷ [] } → put ≡ insert_key nat_cmp old row.execution
    → IsRepository limit put walks (record kept { count = kept.count + 1; last = record { instance = kept.last.instance + 1; execution = kept.last.execution + 1; work = kept.last.work }; records = m })
kept_start limit old put walks kept m made row k i x status settled room placed is is_put =
    kept-pushed limit old put walks kept (record kept { count = kept.count + 1; last = record { instance = kept.last.instance + 1; execution = kept.last.execution + 1; work = kept.last.work }; records = m }) row k
    (sound_start limit kept m made row k.sound i x room placed is) refl
    (ap (λ (maps : Maps). maps.works) is) (ap (λ (maps : Maps). maps.executions) is) x status settled is_put

pub kept_restart : (limit : ℕ) (old put : List ℕ) (walks : BTreeMap ℕ Slot) (kept : Kept) (m : Maps) (row : ExecutionRow) → IsRepository limit old walks kept → row.execution ≡ kept.last.execution + 1
    → row_status row ≡ Starting → IsSettled kept.catalogue kept.records.works row → kept.count < limit → is_placed kept.catalogue row ≡ true
    → m ≡ record kept.records { executions = kept.records.executions ++ row ∷ [] } → put ≡ insert_key nat_cmp old row.execution
    → IsRepository limit put walks (record kept { count = kept.count + 1; last = record { instance = kept.last.instance; execution = kept.last.execution + 1; work = kept.last.work }; records = m })
kept_restart limit old put walks kept m row k x status settled room placed is is_put =
    kept-pushed limit old put walks kept (record kept { count = kept.count + 1; last = record { instance = kept.last.instance; execution = kept.last.execution + 1; work = kept.last.work }; records = m }) row k
    (sound_restart limit kept m row k.sound x room placed is) refl
    (ap (λ (maps : Maps). maps.works) is) (ap (λ (maps : Maps). maps.executions) is) x status settled is_put

pub kept_purge : (limit : ℕ) (old : List ℕ) (walks : BTreeMap ℕ Slot) (kept : Kept) (m : Maps) (i : ℕ) → IsRepository limit old walks kept → kept.count < limit → list_any (is_running_in i) kept.records.executions ≡ false
    → m ≡ without_instance i kept.records → IsRepository limit old walks (record kept { count = kept.count + 1; records = m })
kept_purge limit old walks kept m i k room finished is =
    record {
      sound = sound_purge limit kept m i k.sound room is;
      rising =
          subst (λ (maps : Maps). AreRising (execution_numbers maps.executions)) (sym is)
          (rising_filtered (λ (r : ExecutionRow). r.execution) (λ row. not (row.instance == i)) kept.records.executions k.rising);
      apart = subst (λ (maps : Maps). AllApart maps.works) (sym is) (apart_filtered (λ work. not (is_gone (λ j. j == i) (instance_in kept.records.executions work.execution))) kept.records.works k.apart);
      followed =
          subst (λ (maps : Maps). AreFollowed kept.catalogue maps.works maps.executions (kept_at walks)) (sym is)
          (followed_without kept.catalogue i kept.records.works kept.records.executions (kept_at walks) finished k.followed);
      slots = subst (λ (maps : Maps). AreOfUnfinished maps.executions walks) (sym is) (slots_without i kept.records.executions walks finished k.slots);
      settled = subst (λ (maps : Maps). AreSettled kept.catalogue maps.works maps.executions) (sym is) (settled_without kept.catalogue i kept.records.works kept.records.executions k.rising k.settled);
      agenda =
          k.agenda
          ∙ (sym (agenda_without kept.catalogue i kept.records.works kept.records.executions k.rising finished)
          ∙ ap (λ (maps : Maps). agenda_of kept.catalogue maps.works maps.executions) (sym is));
    }

-- a cursor is taken out of its slot
pub kept_taken : (limit : ℕ) (numbers : List ℕ) (walks left : BTreeMap ℕ Slot) (kept : Kept) (x : ℕ) → IsRepository limit numbers walks kept
    → ((q : ℕ) → kept_at left q ≡ cond (is_eq (nat_cmp x q)) None (kept_at walks q)) → keys left ≡ keys walks → IsRepository limit numbers left kept
kept_taken limit numbers walks left kept x k rest same =
    record {
      sound = k.sound;
      rising = k.rising;
      apart = k.apart;
      agenda = k.agenda;
      followed = followed_some kept.catalogue kept.records.works kept.records.executions x (kept_at walks) (kept_at left) rest k.followed;
      slots = slots_same kept.records.executions walks left same k.slots;
      settled = k.settled;
    }

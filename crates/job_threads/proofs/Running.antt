-- All groups.
use Rattle.std.proofs.Common.{◌≡◌, ℕ, ◌<◌, ◌++◌, ◌⊎◌, List, [], ◌∷◌, true, false, length, length-append, append_assoc, append-nil, refl, sym, ap, ◌∙◌, subst, arith, Option, Some, None, Ok, Err, inl, inr}
use Rattle.std.proofs.lemmas.List.{map-append}
use Rattle.std.specs.List.{Contains}
use Rattle.batch_ids.specs.declared.refusal.Refusal.{Refusal}
use Rattle.job_threads.specs.declared.report.Report.{Report}
use Rattle.job_threads.specs.declared.report.Onward.{Onward}
use Rattle.job_threads.specs.declared.report.Onward.TheVariants.{Go, StopAsked}
use Rattle.job_threads.specs.declared.kit.Roles.{Roles}
use Rattle.job_threads.specs.declared.chunk.Step.TheVariants.{More, Stop, End, Fault}
use Rattle.job_threads.specs.declared.chunk.Ending.TheVariants.{Completed, Stopped, Failed}
use Rattle.job_threads.specs.Meaning.{Coming, Known, means_at}
use Rattle.job_threads.specs.Groups.{FirstGroups, IsGroup, kept, unless_empty, grown, written, Done, done, groups, report_of, reports_of, mark_after, AllGo}
use Rattle.job_threads.specs.Kits.{Calm, NoneFaulted, FaultAt, work_of}
use Rattle.job_threads.specs.Ports.{Stops, HasLooked}
use Rattle.job_threads.specs.Chunks.{GroupDone, GroupLost, StepsTo, HoldsThese, HoldsNext, RunsGroups, Went, Going}
use Rattle.job_threads.proofs.Turns.{calm-refl, calm-trans, fault-at, fault-of, work-same, grown-none}

first-snoc : (n : ℕ) (xs : List Coming) (gs : List (List Coming)) (to g rest : List Coming) → FirstGroups n xs gs to → to ≡ g ++ rest → IsGroup n g rest → FirstGroups n xs (gs ++ g ∷ []) rest
first-snoc n xs [] to g rest first is group = (rest, first ∙ is, group, refl)
first-snoc n xs (h ∷ gs) to g rest first is group = (first.0, first.1, first.2, first-snoc n first.0 gs to g rest first.3 is group)

written-snoc : (f : List ℕ → Option (List ℕ)) (gs : List (List Coming)) (g : List Coming) → written f (gs ++ g ∷ []) ≡ written f gs ++ unless_empty (kept f g)
written-snoc f [] g = append-nil (unless_empty (kept f g))
written-snoc f (h ∷ gs) g = ap (λ (xs : List (List (List ℕ))). unless_empty (kept f h) ++ xs) (written-snoc f gs g) ∙ sym (append_assoc (unless_empty (kept f h)) (written f gs) (unless_empty (kept f g)))

grown-twice : (a b : List (List (List ℕ))) (h : Option (List (List (List ℕ)))) → grown b (grown a h) ≡ grown (a ++ b) h
grown-twice a b None = refl
grown-twice a b (Some gs) = ap Some (append_assoc gs a b)

all-go : (ds : List Done) (g : List Coming) → AllGo ds → AllGo (ds ++ done g Go ∷ [])
all-go [] g so = (refl, tt)
all-go (d ∷ ds) g so = (so.0, all-go ds g so.1)

pub going-begin : (roles : Roles) (n work at : ℕ) (a : List Known) (before : List Report) → Going roles n work at a a before before
going-begin roles n work at a before = ([], (means_at roles.reader a).left, record { cut = refl; left = refl; calm = calm-refl a; holds = sym (grown-none (means_at roles.writer a).holds); reports = sym (append-nil before) }, tt)

holds-on : (roles : Roles) (ds : List Done) (a b c : List Known) (g : List Coming) → Calm a b → HoldsThese roles ds a b → (means_at roles.writer c).holds ≡ grown (unless_empty (kept (work_of roles.processor b) g)) (means_at roles.writer b).holds
    → (means_at roles.writer c).holds ≡ grown (written (work_of roles.processor a) (groups ds) ++ unless_empty (kept (work_of roles.processor a) g)) (means_at roles.writer a).holds
holds-on roles ds a b c g calm held grew =
    let same = work-same roles.processor a b calm in
    grew ∙ (ap (λ (f : List ℕ → Option (List ℕ)). grown (unless_empty (kept f g)) (means_at roles.writer b).holds) same ∙ (ap (grown (unless_empty (kept (work_of roles.processor a) g))) held ∙ grown-twice (written (work_of roles.processor a) (groups ds)) (unless_empty (kept (work_of roles.processor a) g)) (means_at roles.writer a).holds))

went-on : (roles : Roles) (n work at : ℕ) (a b c : List Known) (r0 r1 r2 : List Report) (ds : List Done) (to g rest : List Coming) (reply : Onward) → Went roles n work at a b r0 r1 ds to → GroupDone roles n work at b c r1 r2 g rest reply → Went roles n work at a c r0 r2 (ds ++ done g reply ∷ []) rest
went-on roles n work at a b c r0 r1 r2 ds to g rest reply w d =
    let f = work_of roles.processor a in
    let same = work-same roles.processor a b w.calm in
    let gs : groups (ds ++ done g reply ∷ []) ≡ groups ds ++ g ∷ [] = map-append (λ (x : Done). x.group) ds (done g reply ∷ []) in
    let P : List (List Coming) → Type 0 = λ xs. FirstGroups n (means_at roles.reader a).left xs rest in
    let Q : List (List Coming) → Type 0 = λ xs. (means_at roles.writer c).holds ≡ grown (written f xs) (means_at roles.writer a).holds in
    record {
      cut = subst P (sym gs) (first-snoc n (means_at roles.reader a).left (groups ds) to g rest w.cut (sym w.left ∙ d.items) d.group);
      left = d.left;
      calm = calm-trans a b c w.calm d.calm;
      holds = subst Q (sym gs) (holds-on roles ds a b c g w.calm w.holds d.holds ∙ ap (λ (xs : List (List (List ℕ))). grown xs (means_at roles.writer a).holds) (sym (written-snoc f (groups ds) g)));
      reports = d.reports ∙ (ap (λ (xs : List Report). xs ++ report_of (work_of roles.processor b) work at (done g reply) ∷ []) w.reports ∙ (ap (λ (h : List ℕ → Option (List ℕ)). (r0 ++ reports_of f work at ds) ++ report_of h work at (done g reply) ∷ []) same ∙ (append_assoc r0 (reports_of f work at ds) (report_of f work at (done g reply) ∷ []) ∙ ap (λ (xs : List Report). r0 ++ xs) (sym (map-append (report_of f work at) ds (done g reply ∷ []))))));
    }

pub going-more : (roles : Roles) (n work at : ℕ) (a b c : List Known) (r0 r1 r2 : List Report) → Going roles n work at a b r0 r1 → StepsTo roles n work at (Ok More) b c r1 r2 → Going roles n work at a c r0 r2
going-more roles n work at a b c r0 r1 r2 so step =
    (so.0 ++ done step.0 Go ∷ [], step.1, went-on roles n work at a b c r0 r1 r2 so.0 so.1 step.0 step.1 Go so.2 step.2, all-go so.0 step.0 so.3)

pub going-less : (roles : Roles) (n work at : ℕ) (b c : List Known) (r1 r2 : List Report) → StepsTo roles n work at (Ok More) b c r1 r2 → length (means_at roles.reader c).left < length (means_at roles.reader b).left
going-less roles n work at b c r1 r2 step =
    let d = step.2 in
    omega (arith, d.group.some, ap length d.items, ap length d.left, length-append step.0 step.1)

pub going-calm : (roles : Roles) (n work at : ℕ) (a b : List Known) (r0 r1 : List Report) → Going roles n work at a b r0 r1 → Calm a b
going-calm roles n work at a b r0 r1 so = so.2.calm

pub none-faulted : (a b : List Known) → Calm a b → NoneFaulted a b
none-faulted a b calm i = (calm.faults i, calm.open_faults i)

pub ends-seen : (roles : Roles) (n work execution at : ℕ) (a b : List Known) (r0 r1 : List Report) (was stops : Stops) → Going roles n work at a b r0 r1 → HasLooked execution true was stops → RunsGroups roles n work execution at (means_at roles.reader a).left (Ok Stopped) a b r0 r1 stops
ends-seen roles n work execution at a b r0 r1 was stops so look =
    (so.0, so.1, so.2.cut, so.2.reports, (inr (look.2 refl, look.1, so.3), so.2.left, none-faulted a b so.2.calm, so.2.holds))

pub ends-stop : (roles : Roles) (n work execution at : ℕ) (a b c : List Known) (r0 r1 r2 : List Report) (stops : Stops) → Going roles n work at a b r0 r1 → StepsTo roles n work at (Ok Stop) b c r1 r2 → RunsGroups roles n work execution at (means_at roles.reader a).left (Ok Stopped) a c r0 r2 stops
ends-stop roles n work execution at a b c r0 r1 r2 stops so step =
    let w = went-on roles n work at a b c r0 r1 r2 so.0 so.1 step.0 step.1 StopAsked so.2 step.2 in
    (so.0 ++ done step.0 StopAsked ∷ [], step.1, w.cut, w.reports, (inl (so.0, step.0, refl, so.3), w.left, none-faulted a c w.calm, w.holds))

pub ends-end : (roles : Roles) (n work execution at : ℕ) (a b c : List Known) (r0 r1 r2 : List Report) (stops : Stops) → Going roles n work at a b r0 r1 → StepsTo roles n work at (Ok End) b c r1 r2 → stops.found ≡ false → RunsGroups roles n work execution at (means_at roles.reader a).left (Ok Completed) a c r0 r2 stops
ends-end roles n work execution at a b c r0 r1 r2 stops so (inl e) unseen =
    (so.0, so.1, so.2.cut, e.3 ∙ so.2.reports, (sym so.2.left ∙ e.0, so.3, unseen, none-faulted a c (calm-trans a b c so.2.calm e.1), e.2 ∙ so.2.holds))
ends-end roles n work execution at a b c r0 r1 r2 stops so (inr e) unseen =
    let w = went-on roles n work at a b c r0 r1 r2 so.0 so.1 e.0 [] Go so.2 e.1 in
    (so.0 ++ done e.0 Go ∷ [], [], w.cut, w.reports, (refl, all-go so.0 e.0 so.3, unseen, none-faulted a c w.calm, w.holds))

next : (roles : Roles) (n work at : ℕ) (a b c : List Known) (r0 r1 : List Report) (ds : List Done) (to g rest : List Coming) → Went roles n work at a b r0 r1 ds to → GroupLost roles n b c g rest → HoldsNext roles n ds to a c g rest
next roles n work at a b c r0 r1 ds to g rest w l = record {
  items = sym w.left ∙ l.items;
  group = l.group;
  holds = holds-on roles ds a b c g w.calm w.holds l.holds;
}

reader-by : (r : ℕ) (a b c : List Known) (g : List Coming) → Calm a b → FaultAt r b c ⊎ (65536 < length (mark_after g)) → FaultAt r a c ⊎ (65536 < length (mark_after g))
reader-by r a b c g calm (inl f) = inl (fault-at r a b c calm f)
reader-by r a b c g calm (inr long) = inr long

pub ends-fault : (roles : Roles) (n work execution at : ℕ) (a b c : List Known) (r0 r1 r2 : List Report) (stops : Stops) → Going roles n work at a b r0 r1 → StepsTo roles n work at (Ok Fault) b c r1 r2 → stops.found ≡ false → RunsGroups roles n work execution at (means_at roles.reader a).left (Ok Failed) a c r0 r2 stops
ends-fault roles n work execution at a b c r0 r1 r2 stops so (same, inl f) unseen =
    (so.0, so.1, so.2.cut, same ∙ so.2.reports, (so.3, unseen, inl (fault-of roles a b c so.2.calm f.0, f.1 ∙ so.2.holds)))
ends-fault roles n work execution at a b c r0 r1 r2 stops so (same, inr f) unseen =
    (so.0, so.1, so.2.cut, same ∙ so.2.reports, (so.3, unseen, inr (f.0, f.1, next roles n work at a b c r0 r1 so.0 so.1 f.0 f.1 so.2 f.2, reader-by roles.reader a b c f.0 so.2.calm f.3)))

pub ends-err : (roles : Roles) (n work execution at : ℕ) (e : Refusal) (a b c : List Known) (r0 r1 r2 : List Report) (stops : Stops) → Going roles n work at a b r0 r1 → StepsTo roles n work at (Err e) b c r1 r2 → RunsGroups roles n work execution at (means_at roles.reader a).left (Err e) a c r0 r2 stops
ends-err roles n work execution at e a b c r0 r1 r2 stops so (same, inl f) = (so.0, so.1, so.2.cut, same ∙ so.2.reports, (so.3, inl (f ∙ so.2.holds)))
ends-err roles n work execution at e a b c r0 r1 r2 stops so (same, inr f) = (so.0, so.1, so.2.cut, same ∙ so.2.reports, (so.3, inr (f.0, f.1, next roles n work at a b c r0 r1 so.0 so.1 f.0 f.1 so.2 f.2)))

pub reports-same : (roles : Roles) (n work at : ℕ) (a b : List Known) (r0 r1 r2 : List Report) → r2 ≡ r1 → Going roles n work at a b r0 r1 → Going roles n work at a b r0 r2
reports-same roles n work at a b r0 r1 r2 e so = (so.0, so.1, record { cut = so.2.cut; left = so.2.left; calm = so.2.calm; holds = so.2.holds; reports = e ∙ so.2.reports }, so.3)

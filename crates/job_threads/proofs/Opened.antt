-- A chunk's artifacts are opened, and then its groups run.
use Rattle.std.proofs.Common.{◌≡◌, ℕ, zero, suc, ◌<◌, ◌++◌, ◌⊎◌, nat_eq, cond, List, [], ◌∷◌, length, append-nil, refl, sym, ap, ◌∙◌, subst, arith, Option, Some, None, Result, Ok, Err, Bool, true, false, inl, inr}
use Rattle.std.proofs.lemmas.Bool.Decides.{nat_tests}
use Rattle.batch_ids.specs.declared.refusal.Refusal.{Refusal}
use Rattle.job_threads.specs.declared.report.Report.{Report}
use Rattle.job_threads.specs.declared.artifact.ArtifactFault.{ArtifactFault}
use Rattle.job_threads.specs.declared.kit.Roles.{Roles}
use Rattle.job_threads.specs.declared.chunk.Ending.{Ending}
use Rattle.job_threads.specs.declared.chunk.Ending.TheVariants.{Completed, Stopped, Failed, Unopened}
use Rattle.job_threads.specs.Meaning.{Coming, Meaning, Known, means_at, put_at}
use Rattle.job_threads.specs.Calls.{Turned, Opening, opened}
use Rattle.job_threads.specs.Groups.{kept, unless_empty, grown, written, Done, groups, reports_of, mark_after}
use Rattle.job_threads.specs.Kits.{Calm, HoldsSame, NoneFaulted, FaultAt, FaultOf, OpenFaultAt, OpenFaultIn, OpenFaultOf, work_of, to_read}
use Rattle.job_threads.specs.Ports.{Stops}
use Rattle.job_threads.specs.Chunks.{HoldsThese, HoldsNext, RunsGroups, EndsBy}
use Rattle.job_threads.specs.Items.{OpensRoles}
use Rattle.job_threads.proofs.Turns.{keep, put-there, calm-put, calm-trans, holds-trans, fault-at, fault-of, work-same, grown-none}

put-other : (i at : ℕ) (m : Meaning) (ks : List Known) → (i ≡ at → ⊥) → means_at i (put_at at m ks) ≡ means_at i ks
put-other i at m [] h = refl
put-other zero zero m (k ∷ ks) h = absurd (h refl)
put-other zero (suc at) m (k ∷ ks) h = refl
put-other (suc i) zero m (k ∷ ks) h = refl
put-other (suc i) (suc at) m (k ∷ ks) h = put-other i at m ks (λ e. h (ap suc e))

same-of : (i j : ℕ) → nat_eq i j ≡ true → i ≡ j
same-of i j e = grind (arith, nat_tests)

other-of : (i j : ℕ) → nat_eq i j ≡ false → i ≡ j → ⊥
other-of i j e f = grind (arith, nat_tests)

-- one open
pub record OneOpen (i : ℕ) (at : Option (List ℕ)) (a b : List Known) : Type 0 where
  pub calm : Calm a b
  pub holds : HoldsSame a b
  pub opens : (k : ℕ) → (means_at k b).opens ≡ (means_at k a).opens
  pub left : (means_at i b).left ≡ (means_at i a).opens at
  pub others : (k : ℕ) → (k ≡ i → ⊥) → means_at k b ≡ means_at k a

one-open : (i : ℕ) (at : Option (List ℕ)) (a b : List Known) → i < length a → (n : Meaning) (mark : List ℕ) → n ≡ opened at mark (means_at i a) → b ≡ put_at i n a → OneOpen i at a b
one-open i at a b lt n mark is put =
    let to : Meaning = opened at mark (means_at i a) in
    let P : List Known → Type 0 = λ ks. OneOpen i at a ks in
    subst P (sym (put ∙ ap (λ (m : Meaning). put_at i m a) is)) record {
      calm = calm-put i to a refl refl refl;
      holds = keep (λ (m : Meaning). m.holds) i to a refl;
      opens = keep (λ (m : Meaning). m.opens) i to a refl;
      left = ap (λ (m : Meaning). m.left) (put-there i to a lt);
      others = λ k no. put-other k i to a no;
    }

left-of : (r w : ℕ) (at : Option (List ℕ)) (a b c : List Known) (t : Bool) → nat_eq r w ≡ t → OneOpen r at a b → OneOpen w None b c → (means_at r c).left ≡ (means_at r a).opens (cond t None at)
left-of r w at a b c true is p q =
    let e = same-of r w is in
    let P : ℕ → Type 0 = λ k. (means_at k c).left ≡ (means_at k b).opens None in
    subst P (sym e) q.left ∙ ap (λ (f : Option (List ℕ) → List Coming). f None) (p.opens r)
left-of r w at a b c false is p q = ap (λ (m : Meaning). m.left) (q.others r (other-of r w is)) ∙ p.left

pub open-both : (roles : Roles) (at : Option (List ℕ)) (result : Result (Unit {0}) ArtifactFault) (a b c : List Known) → roles.reader < length a → roles.writer < length a → Turned roles.reader (Opening at (Ok tt)) a b → Turned roles.writer (Opening None result) b c → OpensRoles at roles result a c
open-both roles at (Ok u) a b c lt wt s t =
    let p = one-open roles.reader at a b lt s.0 s.1.0 s.1.1 s.2 in
    let inside : roles.writer < length b = omega (arith, p.calm.size) in
    let q = one-open roles.writer None b c inside t.0 t.1.0 t.1.1 t.2 in
    (calm-trans a b c p.calm q.calm, holds-trans a b c p.holds q.holds, left-of roles.reader roles.writer at a b c (nat_eq roles.reader roles.writer) refl p q)
open-both roles at (Err e) a b c lt wt s t =
    let p = one-open roles.reader at a b lt s.0 s.1.0 s.1.1 s.2 in
    let inside : roles.writer < length b = omega (arith, p.calm.size) in
    let P : List Known → Type 0 = λ ks. OpenFaultAt roles.writer a ks × HoldsSame b ks in
    let more = t.1.counted in
    let f = subst P (sym t.2) (omega (arith, p.calm.open_faults roles.writer, ap (λ (n : Meaning). n.open_faults) (put-there roles.writer t.0 b inside)), keep (λ (n : Meaning). n.holds) roles.writer t.0 b t.1.holds) in
    (inr (inr f.0), holds-trans a b c p.holds f.1)

pub open-first : (roles : Roles) (at : Option (List ℕ)) (e : ArtifactFault) (a b : List Known) → roles.reader < length a → Turned roles.reader (Opening at (Err e)) a b → OpensRoles at roles (Err e) a b
open-first roles at e a b lt t =
    let P : List Known → Type 0 = λ ks. OpenFaultAt roles.reader a ks × HoldsSame a ks in
    let more = t.1.counted in
    let f = subst P (sym t.2) (omega (arith, ap (λ (n : Meaning). n.open_faults) (put-there roles.reader t.0 a lt)), keep (λ (n : Meaning). n.holds) roles.reader t.0 a t.1.holds) in
    (inl f.0, f.1)

pub chunk-unopened : (roles : Roles) (n work execution at : ℕ) (items : List Coming) (a b : List Known) (r : List Report) (stops : Stops) → OpenFaultOf roles a b → HoldsSame a b → RunsGroups roles n work execution at items (Ok Unopened) a b r r stops
chunk-unopened roles n work execution at items a b r stops f holds =
    ([], items, refl, sym (append-nil r), (refl, f, holds roles.writer ∙ sym (grown-none (means_at roles.writer a).holds)))

these-from : (roles : Roles) (ds : List Done) (a b c : List Known) → Calm a b → HoldsSame a b → HoldsThese roles ds b c → HoldsThese roles ds a c
these-from roles ds a b c calm holds h =
    h ∙ (ap (λ (f : List ℕ → Option (List ℕ)). grown (written f (groups ds)) (means_at roles.writer b).holds) (work-same roles.processor a b calm) ∙ ap (grown (written (work_of roles.processor a) (groups ds))) (holds roles.writer))

next-from : (roles : Roles) (n : ℕ) (ds : List Done) (to g rest : List Coming) (a b c : List Known) → Calm a b → HoldsSame a b → HoldsNext roles n ds to b c g rest → HoldsNext roles n ds to a c g rest
next-from roles n ds to g rest a b c calm holds h = record {
  items = h.items;
  group = h.group;
  holds = h.holds ∙ (ap (λ (f : List ℕ → Option (List ℕ)). grown (written f (groups ds) ++ unless_empty (kept f g)) (means_at roles.writer b).holds) (work-same roles.processor a b calm) ∙ ap (grown (written (work_of roles.processor a) (groups ds) ++ unless_empty (kept (work_of roles.processor a) g))) (holds roles.writer));
}

by-from : (r : ℕ) (g : List Coming) (a b c : List Known) → Calm a b → FaultAt r b c ⊎ (65536 < length (mark_after g)) → FaultAt r a c ⊎ (65536 < length (mark_after g))
by-from r g a b c calm (inl f) = inl (fault-at r a b c calm f)
by-from r g a b c calm (inr long) = inr long

open-fault-in : (p : Option ℕ) (a b c : List Known) → Calm a b → OpenFaultIn p b c → OpenFaultIn p a c
open-fault-in None a b c calm f = f
open-fault-in (Some i) a b c calm f = omega (arith, calm.open_faults i)

open-fault-from : (roles : Roles) (a b c : List Known) → Calm a b → OpenFaultOf roles b c → OpenFaultOf roles a c
open-fault-from roles a b c calm (inl f) = inl (omega (arith, calm.open_faults roles.reader))
open-fault-from roles a b c calm (inr (inl f)) = inr (inl (open-fault-in roles.processor a b c calm f))
open-fault-from roles a b c calm (inr (inr f)) = inr (inr (omega (arith, calm.open_faults roles.writer)))

unfaulted : (a b c : List Known) → Calm a b → NoneFaulted b c → NoneFaulted a c
unfaulted a b c calm none i = ((none i).0 ∙ calm.faults i, (none i).1 ∙ calm.open_faults i)

abbrev failed : Roles → ℕ → List Done → List Coming → List Known → List Known → Type 0
failed roles n ds to a b =
    (FaultOf roles a b × HoldsThese roles ds a b)
    ⊎ ((g : List Coming) × (rest : List Coming) × HoldsNext roles n ds to a b g rest × (FaultAt roles.reader a b ⊎ (65536 < length (mark_after g))))

failed-from : (roles : Roles) (n : ℕ) (ds : List Done) (to : List Coming) (a b c : List Known) → Calm a b → HoldsSame a b → failed roles n ds to b c → failed roles n ds to a c
failed-from roles n ds to a b c calm holds (inl x) = inl (fault-of roles a b c calm x.0, these-from roles ds a b c calm holds x.1)
failed-from roles n ds to a b c calm holds (inr x) = inr (x.0, x.1, next-from roles n ds to x.0 x.1 a b c calm holds x.2, by-from roles.reader x.0 a b c calm x.3)

ends-from : (roles : Roles) (n execution : ℕ) (result : Result Ending Refusal) (ds : List Done) (to : List Coming) (a b c : List Known) (stops : Stops) → Calm a b → HoldsSame a b → EndsBy roles n execution result ds to b c stops → EndsBy roles n execution result ds to a c stops
ends-from roles n execution (Ok Completed) ds to a b c stops calm holds h = (h.0, h.1, h.2, unfaulted a b c calm h.3, these-from roles ds a b c calm holds h.4)
ends-from roles n execution (Ok Stopped) ds to a b c stops calm holds h = (h.0, h.1, unfaulted a b c calm h.2, these-from roles ds a b c calm holds h.3)
ends-from roles n execution (Ok Failed) ds to a b c stops calm holds h = (h.0, h.1, failed-from roles n ds to a b c calm holds h.2)
ends-from roles n execution (Ok Unopened) ds to a b c stops calm holds (x, y, z) = (x, open-fault-from roles a b c calm y, these-from roles ds a b c calm holds z)
ends-from roles n execution (Err e) ds to a b c stops calm holds (go, inl x) = (go, inl (these-from roles ds a b c calm holds x))
ends-from roles n execution (Err e) ds to a b c stops calm holds (go, inr x) = (go, inr (x.0, x.1, next-from roles n ds to x.0 x.1 a b c calm holds x.2))

pub chunk-opened : (roles : Roles) (n work execution at : ℕ) (checkpoint : Option (List ℕ)) (result : Result Ending Refusal) (a b c : List Known) (r0 r1 : List Report) (stops : Stops) → OpensRoles checkpoint roles (Ok tt) a b → RunsGroups roles n work execution at (means_at roles.reader b).left result b c r0 r1 stops → RunsGroups roles n work execution at (to_read checkpoint roles a) result a c r0 r1 stops
chunk-opened roles n work execution at checkpoint result a b c r0 r1 stops o g =
    let P : List Coming → Type 0 = λ xs. RunsGroups roles n work execution at xs result a c r0 r1 stops in
    subst P o.2 (g.0, g.1, g.2, g.3 ∙ ap (λ (f : List ℕ → Option (List ℕ)). r0 ++ reports_of f work at g.0) (work-same roles.processor a b o.0), ends-from roles n execution result g.0 g.1 a b c stops o.0 o.1 g.4)

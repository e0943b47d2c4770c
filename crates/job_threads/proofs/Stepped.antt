-- One group.
use Rattle.std.proofs.Common.{◌≡◌, ℕ, ◌<◌, ◌-◌, ◌++◌, ◌⊎◌, List, [], ◌∷◌, length, refl, sym, ap, ◌∙◌, subst, arith, Result, Ok, Err, Bool, true, false, inl, inr}
use Rattle.batch_ids.specs.declared.refusal.Refusal.{Refusal}
use Rattle.job_threads.specs.declared.report.Report.{Report}
use Rattle.job_threads.specs.declared.report.Report.TheVariants.{Checkpoint}
use Rattle.job_threads.specs.declared.report.Onward.{Onward}
use Rattle.job_threads.specs.declared.report.Onward.TheVariants.{Go, StopAsked}
use Rattle.job_threads.specs.declared.kit.Roles.{Roles}
use Rattle.job_threads.specs.declared.chunk.Step.{Step}
use Rattle.job_threads.specs.declared.chunk.Step.TheVariants.{More, Stop, End, Fault}
use Rattle.job_threads.specs.Meaning.{Coming, Known, means_at}
use Rattle.job_threads.specs.Groups.{IsGroup, kept, unless_empty, grown, counts, mark_from, mark_after}
use Rattle.job_threads.specs.Kits.{HoldsSame, Written, FaultAt, work_of}
use Rattle.job_threads.specs.Steps.{IsRead}
use Rattle.job_threads.specs.Chunks.{Marks, GroupDone, GroupLost, StepsTo}
use Rattle.job_threads.proofs.Turns.{calm-trans, fault-at}

mark-any : (m : List ℕ) (g : List Coming) → 0 < length g → mark_from m g ≡ mark_from [] g
mark-any m [] some = absurd (omega arith)
mark-any m (c ∷ g) some = refl

-- a group that was read and written
pub record IsWritten (roles : Roles) (n many : ℕ) (bytes : List (List ℕ)) (ended : Bool) (a b c : List Known) (g rest : List Coming) : Type 0 where
  pub some : 0 < many
  pub read : IsRead roles n many bytes a b g rest
  pub end : ended ≡ true → rest ≡ []
  pub full : ended ≡ false → many ≡ n
  pub written : Written roles.writer b c (unless_empty bytes)

is-last : (n many : ℕ) (g rest : List Coming) (ended : Bool) → many ≡ length g → (ended ≡ true → rest ≡ []) → (ended ≡ false → many ≡ n) → length g < n → rest ≡ []
is-last n many g rest true is end full lt = end refl
is-last n many g rest false is end full lt = let e = full refl in absurd (omega arith)

is-group : (roles : Roles) (n many : ℕ) (bytes : List (List ℕ)) (ended : Bool) (a b c : List Known) (g rest : List Coming) → IsWritten roles n many bytes ended a b c g rest → IsGroup n g rest
is-group roles n many bytes ended a b c g rest w = record {
  some = omega (arith, w.some, w.read.count);
  most = omega (arith, w.read.most, w.read.count);
  last = is-last n many g rest ended w.read.count w.end w.full;
}

holds-of : (roles : Roles) (n many : ℕ) (bytes : List (List ℕ)) (ended : Bool) (a b c : List Known) (g rest : List Coming) → IsWritten roles n many bytes ended a b c g rest
    → (means_at roles.writer c).holds ≡ grown (unless_empty (kept (work_of roles.processor a) g)) (means_at roles.writer a).holds
holds-of roles n many bytes ended a b c g rest w =
    w.written.holds ∙ (ap (λ (bs : List (List ℕ)). grown (unless_empty bs) (means_at roles.writer b).holds) w.read.keeps ∙ ap (grown (unless_empty (kept (work_of roles.processor a) g))) (w.read.read.holds roles.writer))

mark-of : (roles : Roles) (n many : ℕ) (bytes : List (List ℕ)) (ended : Bool) (a b c : List Known) (g rest : List Coming) → IsWritten roles n many bytes ended a b c g rest → (means_at roles.reader c).mark ≡ mark_after g
mark-of roles n many bytes ended a b c g rest w =
    w.written.mark roles.reader ∙ (w.read.read.mark ∙ mark-any (means_at roles.reader a).mark g (is-group roles n many bytes ended a b c g rest w).some)

group-done : (roles : Roles) (n many work at : ℕ) (bytes : List (List ℕ)) (ended : Bool) (a b c d : List Known) (before after : List Report) (g rest : List Coming) (reply : Onward) → IsWritten roles n many bytes ended a b c g rest
    → d ≡ c → after ≡ before ++ Checkpoint work (means_at roles.reader c).mark (counts many (many - length bytes) (length bytes) 1 0) at reply ∷ [] → GroupDone roles n work at a d before after g rest reply
group-done roles n many work at bytes ended a b c d before after g rest reply w same e =
    let P : List Known → Type 0 = λ ks. GroupDone roles n work at a ks before after g rest reply in
    let mark = mark-of roles n many bytes ended a b c g rest w in
    let keeps = w.read.keeps in
    let count = w.read.count in
    subst P (sym same) record {
      group = is-group roles n many bytes ended a b c g rest w;
      items = w.read.read.items;
      left = w.written.left roles.reader ∙ w.read.read.left;
      calm = calm-trans a b c w.read.read.calm w.written.calm;
      holds = holds-of roles n many bytes ended a b c g rest w;
      reports = e ∙ ap (λ (r : Report). before ++ r ∷ []) (ap (λ (m : List ℕ). Checkpoint work m (counts many (many - length bytes) (length bytes) 1 0) at reply) mark ∙ (ap (λ (k : ℕ). Checkpoint work (mark_after g) (counts k (k - length bytes) (length bytes) 1 0) at reply) count ∙ ap (λ (bs : List (List ℕ)). Checkpoint work (mark_after g) (counts (length g) (length g - length bs) (length bs) 1 0) at reply) keeps));
    }

group-lost : (roles : Roles) (n many : ℕ) (bytes : List (List ℕ)) (ended : Bool) (a b c d : List Known) (g rest : List Coming) → IsWritten roles n many bytes ended a b c g rest → HoldsSame c d → GroupLost roles n a d g rest
group-lost roles n many bytes ended a b c d g rest w same = record {
  group = is-group roles n many bytes ended a b c g rest w;
  items = w.read.read.items;
  holds = same roles.writer ∙ holds-of roles n many bytes ended a b c g rest w;
}

lost-by : (roles : Roles) (n many : ℕ) (bytes : List (List ℕ)) (ended : Bool) (a b c d : List Known) (g rest : List Coming) → IsWritten roles n many bytes ended a b c g rest
    → FaultAt roles.reader c d ⊎ (65536 < length (means_at roles.reader c).mark) → FaultAt roles.reader a d ⊎ (65536 < length (mark_after g))
lost-by roles n many bytes ended a b c d g rest w (inl f) = inl (fault-at roles.reader a c d (calm-trans a b c w.read.read.calm w.written.calm) f)
lost-by roles n many bytes ended a b c d g rest w (inr long) = inr (omega (arith, ap length (mark-of roles n many bytes ended a b c g rest w)))

eq-holds : (c d : List Known) → d ≡ c → HoldsSame c d
eq-holds c d e i = ap (λ (ks : List Known). (means_at i ks).holds) e

pub stepped : (roles : Roles) (n many work at k : ℕ) (bytes : List (List ℕ)) (ended : Bool) (a b c d : List Known) (before after : List Report) (g rest : List Coming) (result : Result Step Refusal) → IsWritten roles n many bytes ended a b c g rest
    → k ≡ length bytes → Marks roles.reader work at many k ended result c d before after → StepsTo roles n work at result a d before after
stepped roles n many work at k bytes ended a b c d before after g rest (Ok More) w is m =
    (g, rest, group-done roles n many work at bytes ended a b c d before after g rest Go w m.0 (m.1 ∙ ap (λ (j : ℕ). before ++ Checkpoint work (means_at roles.reader c).mark (counts many (many - j) j 1 0) at Go ∷ []) is))
stepped roles n many work at k bytes ended a b c d before after g rest (Ok Stop) w is m =
    (g, rest, group-done roles n many work at bytes ended a b c d before after g rest StopAsked w m.0 (m.1 ∙ ap (λ (j : ℕ). before ++ Checkpoint work (means_at roles.reader c).mark (counts many (many - j) j 1 0) at StopAsked ∷ []) is))
stepped roles n many work at k bytes ended a b c d before after g rest (Ok End) w is m =
    let P : List Coming → Type 0 = λ xs. GroupDone roles n work at a d before after g xs Go in
    inr (g, subst P (w.end m.2) (group-done roles n many work at bytes ended a b c d before after g rest Go w m.0 (m.1 ∙ ap (λ (j : ℕ). before ++ Checkpoint work (means_at roles.reader c).mark (counts many (many - j) j 1 0) at Go ∷ []) is)))
stepped roles n many work at k bytes ended a b c d before after g rest (Ok Fault) w is m =
    (m.1, inr (g, rest, group-lost roles n many bytes ended a b c d g rest w m.0, lost-by roles n many bytes ended a b c d g rest w m.2))
stepped roles n many work at k bytes ended a b c d before after g rest (Err e) w is m =
    (m.1, inr (g, rest, group-lost roles n many bytes ended a b c d g rest w (eq-holds c d m.0)))

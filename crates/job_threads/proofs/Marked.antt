-- The reader is asked for its mark, and the group is reported.
use Rattle.std.proofs.Common.{◌≡◌, ℕ, ◌++◌, List, [], ◌∷◌, ap, ◌∙◌, Ok, String, string_bytes}
use Rattle.std.specs.declared.alloc.Global.{Global}
use Rattle.job_threads.specs.declared.report.Report.{Report}
use Rattle.job_threads.specs.declared.report.Report.TheVariants.{Checkpoint}
use Rattle.batch_ids.specs.declared.metric_step.MetricStep.{MetricStep}
use Rattle.job_threads.specs.declared.report.Onward.{Onward}
use Rattle.job_threads.specs.Meaning.{Meaning, Known, means_at, put_at}
use Rattle.job_threads.specs.Calls.{Turned, Marking}
use Rattle.job_threads.specs.Kits.{HoldsSame}
use Rattle.job_threads.proofs.Turns.{put-same}

pub mark-told : (r : ℕ) (m : String Global) (a b : List Known) → Turned r (Marking (Ok m)) a b → (b ≡ a) × (string_bytes m ≡ (means_at r a).mark)
mark-told r m a b t = (t.2 ∙ (ap (λ (n : Meaning). put_at r n a) t.1.1 ∙ put-same r a), t.1.0)

pub holds-eq : (a b : List Known) → b ≡ a → HoldsSame a b
holds-eq a b e i = ap (λ (ks : List Known). (means_at i ks).holds) e

pub marked : (before after : List Report) (work at : ℕ) (counts counted : MetricStep) (m n : List ℕ) (o p : Onward) → after ≡ before ++ Checkpoint work n counts at p ∷ [] → counts ≡ counted → n ≡ m → p ≡ o → after ≡ before ++ Checkpoint work m counted at o ∷ []
marked before after work at counts counted m n o p e c f h = cc

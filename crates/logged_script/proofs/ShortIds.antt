-- The ids of a catalogue that was read are short.
use Rattle.std.proofs.Common.{◌≡◌, ◌∙◌, ◌<◌, ℕ, ◌||◌, Bool, true, false, cond, Option, Some, None, Result, Ok, Err, List, [], ◌∷◌, ◌++◌, length, refl, subst, arith, ltb-false}
use Rattle.std.specs.Prelude.{nat_lt}
use Rattle.batch_history.specs.Lists.{Each}
use Rattle.catalogue_laws.specs.Leaving.{AreShort, hidden_bytes}
use Rattle.catalogue_laws.proofs.OtherNames.{each-append}
use Rattle.jsl_json.specs.Catalogues.{catalogue_in, catalogue_of, entry_fault, job_at, jobs_of, or_fault, unless_in, with_job, with_jobs}
use Rattle.jsl_json.specs.Elements.{◌>>=◌}
use Rattle.jsl_json.specs.declared.fault.ReadFault.{ReadFault}
use Rattle.jsl_json.specs.declared.fault.ReadFault.TheVariants.{NotACatalogue, NotJson}
use Rattle.jsl_model.specs.Faults.{has_long_text, job_fault, tree_fault}
use Rattle.jsl_model.specs.Jobs.{JobTree}
use Rattle.jsl_model.specs.LongTexts.{element_has_long, is_long}
use Rattle.jsl_model.specs.Trees.{any_true}
use Rattle.jsl_model.specs.declared.job.JobFault.{JobFault}
use Rattle.jsl_model.specs.declared.job.JobFault.TheVariants.{TextTooLong}
use Rattle.json_members.specs.Members.{data_of}
use Rattle.script_engine.specs.Script.{catalogue_at}
use Rattle.script_lines.specs.declared.line.TheConstants.{MAX_LINE}
use Rattle.serde_json.specs.Data.{Data, Items, no_items, item}
use Rattle.std.specs.Prelude.{map}

abbrev IsShort : JobTree → Type 0
IsShort job = length job.id < hidden_bytes

-- a job that is not refused for a text has a short id
short-by : (job : JobTree) (long : Bool) → is_long job.id ≡ long → cond (long || any_true (map element_has_long job.elements)) (Some TextTooLong) (tree_fault job) ≡ None → IsShort job
short-by job true is faultless = cc
short-by job false is faultless = omega (arith, ltb-false 256 (length job.id) is)

short-if : (job : JobTree) → job_fault job ≡ None → IsShort job
short-if job faultless = short-by job (is_long job.id) refl faultless

entered-by : (held jobs : List JobTree) (job : JobTree) (n : ℕ) (twice : Option JobFault) → IsShort job → AreShort held → unless_in n twice (held ++ job ∷ []) ≡ Ok jobs → AreShort jobs
entered-by held jobs job n (Some fault) small short read = cc
entered-by held jobs job n None small short read = subst AreShort (cc read) (each-append IsShort held job short small)

entered : (held jobs : List JobTree) (job : JobTree) (n : ℕ) (fault : Option JobFault) → job_fault job ≡ fault → AreShort held
    → (unless_in n fault job >>= λ one. unless_in n (entry_fault held one) (held ++ one ∷ [])) ≡ Ok jobs → AreShort jobs
entered held jobs job n (Some fault) is short read = cc
entered held jobs job n None is short read = entered-by held jobs job n (entry_fault held job) (short-if job is) short read

read-one : (held jobs : List JobTree) (read : Result JobTree ReadFault) → AreShort held
    → (read >>= λ job. unless_in (length held) (job_fault job) job >>= λ one. unless_in (length held) (entry_fault held one) (held ++ one ∷ [])) ≡ Ok jobs → AreShort jobs
read-one held jobs (Err fault) short is = cc
read-one held jobs (Ok job) short is = entered held jobs job (length held) (job_fault job) refl short is

one-more : (held jobs : List JobTree) (d : Data) → AreShort held → with_job held d ≡ Ok jobs → AreShort jobs
unfolding with_job
one-more held jobs d short is = read-one held jobs (job_at (length held) d) short is

all-more : (held jobs : List JobTree) (ds : Items) → AreShort held → with_jobs held ds ≡ Ok jobs → AreShort jobs
all-more held jobs no_items short is = subst AreShort (cc is) short
all-more held jobs (item d ds) short is =
    (elim (with_job held d) as (λ (read : Result (List JobTree) ReadFault). with_job held d ≡ read → (read >>= λ more. with_jobs more ds) ≡ Ok jobs → AreShort jobs) [
      | Ok more ↦ λ read rest. all-more more jobs ds (one-more held more d short read) rest
      | Err fault ↦ λ read rest. cc
    ]) refl is

items-short : (jobs : List JobTree) (ds : Option Items) → (or_fault ds NotACatalogue >>= λ ds. with_jobs [] ds) ≡ Ok jobs → AreShort jobs
items-short jobs None is = cc
items-short jobs (Some ds) is = all-more [] jobs ds tt is

data-short : (jobs : List JobTree) (d : Data) → catalogue_in d ≡ Ok jobs → AreShort jobs
unfolding catalogue_in
data-short jobs d is = items-short jobs (jobs_of d) is

text-short : (jobs : List JobTree) (d : Option Data) → (or_fault d NotJson >>= λ d. catalogue_in d) ≡ Ok jobs → AreShort jobs
text-short jobs None is = cc
text-short jobs (Some d) is = data-short jobs d is

read-short : (jobs : List JobTree) (text : List ℕ) → catalogue_of text ≡ Ok jobs → AreShort jobs
unfolding catalogue_of
read-short jobs text is = text-short jobs (data_of text) is

line-short : (jobs : List JobTree) (line : List ℕ) (long : Bool) → cond long (Err NotACatalogue) (catalogue_of line) ≡ Ok jobs → AreShort jobs
line-short jobs line true is = cc
line-short jobs line false is = read-short jobs line is

-- the jobs of a catalogue's line have ids that lines can name
pub short_jobs : (line : List ℕ) (jobs : List JobTree) → catalogue_at line ≡ Ok jobs → AreShort jobs
short_jobs line jobs is = line-short jobs line (nat_lt MAX_LINE (length line)) is

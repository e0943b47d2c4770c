-- The histories for which a compacted log stands.
use Rattle.std.proofs.Common.{◌≡◌, ◌∙◌, ℕ, Bool, true, false, is_some, Result, Ok, Err, List, [], ◌∷◌, map, refl, sym, ap, subst}
use Rattle.std.specs.Str.{bytes_eq}
use Rattle.jsl_json.specs.declared.fault.ReadFault.{ReadFault}
use Rattle.jsl_model.specs.Jobs.{JobTree}
use Rattle.batch_history.specs.declared.rows.ExecutionRow.{ExecutionRow}
use Rattle.batch_history.specs.Legal.{most_numbered}
use Rattle.batch_history.specs.Lists.{Each}
use Rattle.batch_history.specs.Rows.{History, Rows, history, rows}
use Rattle.batch_history.specs.Walks.{job_named}
use Rattle.catalogue_laws.specs.Leaving.{AreNamed, AreShort, KeepsJobs, job_hidden, name_in_past, over_hidden, with_hidden}
use Rattle.catalogue_laws.specs.Renaming.{entry_renamed}
use Rattle.catalogue_laws.proofs.Leavers.{found-front, legal_without, rows_without}
use Rattle.catalogue_laws.proofs.OtherNames.{IsNamed, each-of}
use Rattle.script_engine.specs.ByRows.{rows_past}
use Rattle.script_engine.specs.Script.{catalogue_at}
use Rattle.script_log.specs.Runs.{History as LogHistory}
use Rattle.logged_script.proofs.ShortIds.{short_jobs}
use Rattle.logged_script.proofs.Standing.{stands}
use Rattle.logged_script.specs.Compactions.{IsCompactedOver}
use Rattle.logged_script.specs.Histories.{IsOfBase, history_at, jobs_at, jobs_read, rows_at, rows_begun}
use Rattle.logged_script.specs.Tags.{commands_in}

pub each-both : {X : Type 0} (P Q R : X → Type 0) (xs : List X) → ((x : X) → P x → Q x → R x) → Each P xs → Each Q xs → Each R xs
each-both P Q R [] f all both = tt
each-both P Q R (x ∷ xs) f all both = (f x all.0 both.0, each-both P Q R xs f all.1 both.1)

short-read : (line : List ℕ) (read : Result (List JobTree) ReadFault) → catalogue_at line ≡ read → AreShort (jobs_read read)
short-read line (Ok jobs) is = short_jobs line jobs is
short-read line (Err fault) is = tt

no-commands : (tags : Bool) → commands_in tags [] ≡ []
no-commands true = refl
no-commands false = refl

-- the rows of a log without lines are those of its base
rows-alone : (tags : Bool) (now : LogHistory) → now.lines ≡ [] → rows_begun now ≡ rows_at tags now
rows-alone tags now none = ap (rows_past most_numbered (rows_begun now)) (sym (ap (commands_in tags) none ∙ no-commands tags))

still-named : (r : Rows) (jobs : List JobTree) → KeepsJobs r jobs → AreNamed r → AreNamed (record r { catalogue = jobs })
still-named r jobs keeps named =
    each-both (λ (row : ExecutionRow). job_named jobs row.job ≡ job_named r.catalogue row.job) (IsNamed r.catalogue) (IsNamed jobs) r.executions
    (λ row kept some. ap is_some kept ∙ some) keeps named

-- the jobs of rows are kept also if jobs are hidden behind theirs
keeps-hidden : (hidden : List JobTree) (r : Rows) (jobs : List JobTree) → KeepsJobs r jobs → AreNamed r → KeepsJobs (over_hidden hidden r) jobs
keeps-hidden hidden r jobs keeps named =
    each-both (λ (row : ExecutionRow). job_named jobs row.job ≡ job_named r.catalogue row.job) (IsNamed r.catalogue)
    (λ (row : ExecutionRow). job_named jobs row.job ≡ job_named (with_hidden r.catalogue hidden) row.job) r.executions
    (λ row kept some. kept ∙ sym (found-front (λ (job : JobTree). bytes_eq job.id row.job) r.catalogue (map job_hidden hidden) some)) keeps named

pub over_same : (tags : Bool) (h now : LogHistory) (line : List ℕ) (g : History) → IsCompactedOver tags h line now → jobs_at now ≡ (rows_at tags h).catalogue → IsOfBase h g → IsOfBase now (history_at tags h g)
over_same tags h now line g compacted same from =
    let s = stands tags h g from in
    let r = rows_at tags h in
    let are : rows_begun now ≡ r = rows-alone tags now compacted.lines ∙ (compacted.rows ∙ (λ i. record r { catalogue = same i })) in
    record {
      hidden = from.hidden;
      stands = record { legal = s.legal; rows_are = s.rows_are ∙ ap (over_hidden from.hidden) (sym are); named = subst AreNamed (sym are) s.named };
    }

pub over_other : (tags : Bool) (h now : LogHistory) (line : List ℕ) (g : History) → IsCompactedOver tags h line now → IsOfBase h g
    → IsOfBase now (history (with_hidden (jobs_at now) (history_at tags h g).catalogue) (map (entry_renamed (name_in_past (rows (history_at tags h g)))) (history_at tags h g).log))
over_other tags h now line g compacted from =
    let s = stands tags h g from in
    let r = rows_at tags h in
    let past = history_at tags h g in
    let jobs = jobs_at now in
    let are : rows_begun now ≡ record r { catalogue = jobs } = rows-alone tags now compacted.lines ∙ compacted.rows in
    let short : AreShort jobs = short-read now.catalogue (catalogue_at now.catalogue) refl in
    let keeps : KeepsJobs (rows past) jobs = subst (λ (o : Rows). KeepsJobs o jobs) (sym s.rows_are) (keeps-hidden from.hidden r jobs compacted.keeps s.named) in
    record {
      hidden = past.catalogue;
      stands = record {
        legal = legal_without most_numbered past.catalogue jobs past.log short keeps s.legal;
        rows_are = rows_without most_numbered past.catalogue jobs past.log short keeps s.legal
            ∙ ((λ i. record (s.rows_are i) { catalogue = with_hidden jobs past.catalogue }) ∙ ap (over_hidden past.catalogue) (sym are));
        named = subst AreNamed (sym are) (still-named r jobs compacted.keeps s.named);
      };
    }

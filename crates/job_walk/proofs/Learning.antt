-- A walk that learns something of a work key that it shows.
use Rattle.std.proofs.Common.{◌≡◌, ℕ, true, List, [], ◌++◌, refl, sym, ◌∙◌, ap}
use Rattle.std.specs.List.{flat_map}
use Rattle.jsl_model.specs.Jobs.{JobTree}
use Rattle.jsl_model.specs.declared.element.Element.{Element}
use Rattle.walk_rules.specs.declared.facts.Fact.{Fact}
use Rattle.walk_rules.specs.declared.facts.Known.{Known}
use Rattle.job_walk.specs.declared.kept_list.KeptList.{KeptList}
use Rattle.job_walk.specs.declared.kept_list.ListChange.{ListChange}
use Rattle.job_plans.specs.declared.plan.Plan.{Plan}
use Rattle.job_plans.specs.Cursors.{CursorState, IsCursor, known_keys, known_at_first, value_in, put_fact, with_fact}
use Rattle.walk_rules.specs.Shown.{is_shown}
use Rattle.walk_rules.specs.declared.work_key.WorkKey.{WorkKey}
use Rattle.walk_rules.specs.Keys.{has_key}
use Rattle.job_plans.specs.Lists.{has_element}
use Rattle.job_plans.specs.Runnables.{all_leaves, all_keys}
use Rattle.job_walk.specs.KeptLists.{IsCursorWith, ChangesList, facts_after, first_shows, kept_of, put_all}
use Rattle.job_walk.specs.Changing.{kept_in}
use Rattle.walk_rules.specs.Walk.{fact_of}
use Rattle.job_plans.proofs.Beginning.{first-keys}
use Rattle.job_walk.proofs.Descent.{head_in}
use Rattle.job_walk.proofs.KeptAtFirst.{no-more}
use Rattle.job_plans.proofs.Newest.{put-keys}
use Rattle.job_walk.proofs.Reporting.{value_is_kept}

-- and something is known of it once more is learnt
pub still-known : (known new : List Known) (key other : WorkKey) (fact : Fact) → new ≡ put_fact known key fact
    → has_key (known_keys known) other ≡ true → has_key (known_keys new) other ≡ true
still-known known new key other fact is among = ap (λ keys. has_key keys other) (ap known_keys is ∙ put-keys known key fact) ∙ among

-- what is kept of the job's lists stands at hand
pub at-hand : (cursor : CursorState) (old lists : List KeptList) (elements : List Element) (known : List Known) → IsCursorWith old cursor → lists ≡ old → elements ≡ cursor.job.elements
    → known ≡ cursor.facts → lists ≡ kept_of (fact_of known) elements cursor.from ++ []
at-hand cursor old lists elements known kept these those same =
    these ∙ (kept.same ∙ (ap (λ es. kept_of (fact_of cursor.facts) es cursor.from) (sym those)
    ∙ (ap (λ ks. kept_of (fact_of ks) elements cursor.from) (sym same) ∙ sym (no-more (kept_of (fact_of known) elements cursor.from)))))

-- the job's own list shows what the walk shows
pub shown-first : (cursor : CursorState) (old lists : List KeptList) (key : WorkKey) → IsCursorWith old cursor → lists ≡ old → is_shown (value_in cursor) key ≡ true → first_shows key lists ≡ true
shown-first cursor old lists key kept these shown =
    let facts = fact_of cursor.facts in
    let es = cursor.job.elements in
    ap (first_shows key) (these ∙ kept.same)
    ∙ (ap (λ v. is_shown v key) (value_is_kept facts es cursor.from (kept_of facts es cursor.from) (head_in facts es cursor.from) refl).0 ∙ shown)

-- the changes make of what is kept what is kept then
pub learnt-lists : (cursor : CursorState) (old lists : List KeptList) (key : WorkKey) (fact : Fact) (others changes : List ListChange) (elements : List Element) (known : List Known) → IsCursorWith old cursor
    → lists ≡ old → elements ≡ cursor.job.elements → known ≡ cursor.facts → others ≡ []
    → ChangesList others changes 0 lists (fact_of known) (facts_after known key fact) elements
    → put_all changes (kept_in cursor) ≡ kept_in (with_fact cursor key fact)
learnt-lists cursor old lists key fact others changes elements known kept these those same none changed =
    let is = at-hand cursor old lists elements known kept these those same in
    let puts = changed cursor.from [] is [] [] refl in
    let later = kept_of (facts_after known key fact) elements cursor.from in
    ap (put_all changes) (sym kept.same ∙ (sym these ∙ is)) ∙ (puts ∙ (ap (λ xs. put_all xs (later ++ [])) none ∙ (no-more later
    ∙ (ap (λ ks. kept_of (fact_of (put_fact ks key fact)) elements cursor.from) same
    ∙ ap (λ es. kept_of (fact_of (put_fact cursor.facts key fact)) es cursor.from) those))))

-- with what is learnt put into what is kept, it is a walk as before
pub still-kept : (cursor : CursorState) (old new : List KeptList) (key : WorkKey) (fact : Fact) (changes : List ListChange) (now : List Known) → IsCursorWith old cursor
    → put_all changes (kept_in cursor) ≡ kept_in (with_fact cursor key fact)
    → now ≡ put_fact cursor.facts key fact → new ≡ put_all changes old
    → IsCursorWith new record { job = cursor.job; from = cursor.from; facts = now }
still-kept cursor old new key fact changes now kept changed learnt put = record {
  same = put ∙ (ap (put_all changes) kept.same ∙ (changed ∙ ap (λ ks. kept_of (fact_of ks) cursor.job.elements cursor.from) (sym learnt)));
  state = record { begins = kept.state.begins; each = (ap known_keys learnt ∙ put-keys cursor.facts key fact) ∙ kept.state.each };
}

-- a walk that begins
pub begins-walk : (plan : Plan) (told : List Known) (job : JobTree) (from : List ℕ) (known : List Known) (others : List Element)
    → others ≡ job.elements → known ≡ flat_map (known_at_first plan told) (all_leaves others) → has_element job.elements from ≡ true
    → IsCursor record { job = job; from = from; facts = known }
begins-walk plan told job from known others these made begins =
    record { begins = begins; each = ap known_keys made ∙ (first-keys plan told (all_leaves others) ∙ ap (λ es. all_keys (all_leaves es)) these) }

-- what is kept of it at first
pub kept-first : (job : JobTree) (from : List ℕ) (known shared : List Known) (elements : List Element) (before lists : List KeptList) → IsCursor record { job = job; from = from; facts = known }
    → shared ≡ known → elements ≡ job.elements → before ≡ [] → lists ≡ before ++ kept_of (fact_of shared) elements from → IsCursorWith lists record { job = job; from = from; facts = known }
kept-first job from known shared elements before lists state same those none made = record {
  same =
      made ∙ (ap (λ xs. xs ++ kept_of (fact_of shared) elements from) none ∙ (ap (λ ks. kept_of (fact_of ks) elements from) same ∙ ap (λ es. kept_of (fact_of known) es from) those));
  state = state;
}

-- The division of a chunk's items into groups, and the report of a group.
use Rattle.std.specs.Prelude.{ℕ, ◌-◌, ◌<◌, ◌≤◌, ◌≡◌, List, [], ◌∷◌, ◌++◌, map, length, Option, Some, None, option_map}
use Rattle.job_threads.specs.declared.report.Onward.{Onward}
use Rattle.job_threads.specs.declared.report.Onward.TheVariants.{Go}
use Rattle.batch_ids.specs.Metrics.{zero_step}
use Rattle.batch_ids.specs.declared.metric_step.MetricStep.{MetricStep}
use Rattle.job_threads.specs.declared.report.Report.{Report}
use Rattle.job_threads.specs.declared.report.Report.TheVariants.{Checkpoint}
use Rattle.job_threads.specs.Meaning.{Coming}

-- a group of at most n items, before the rest: it isn't empty, and only the last one may be shorter
pub record IsGroup (n : ℕ) (group rest : List Coming) : Type 0 where
  pub some : 0 < length group
  pub most : length group ≤ n
  pub last : length group < n → rest ≡ []

-- the items are these first groups, followed by the items that are left
abbrev pub FirstGroups : ℕ → List Coming → List (List Coming) → List Coming → Type 0
FirstGroups n items [] left = items ≡ left
FirstGroups n items (g ∷ gs) left = (rest : List Coming) × (items ≡ g ++ rest) × IsGroup n g rest × FirstGroups n rest gs left

abbrev pub listed : Option (List ℕ) → List (List ℕ) → List (List ℕ)
listed None xs = xs
listed (Some x) xs = x ∷ xs

-- the processed items of a group, without those filtered out
abbrev pub kept : (List ℕ → Option (List ℕ)) → List Coming → List (List ℕ)
kept gives [] = []
kept gives (c ∷ cs) = listed (gives c.item) (kept gives cs)

-- the reader's checkpoint after a group
abbrev pub mark_from : List ℕ → List Coming → List ℕ
mark_from mark [] = mark
mark_from mark (c ∷ cs) = mark_from c.mark cs

abbrev pub mark_after : List Coming → List ℕ
mark_after = mark_from []

-- the groups to write for these items: none if there are no items
abbrev pub unless_empty : List (List ℕ) → List (List (List ℕ))
unless_empty [] = []
unless_empty (x ∷ xs) = (x ∷ xs) ∷ []

-- the groups to write: those in which an item wasn't filtered out
abbrev pub written : (List ℕ → Option (List ℕ)) → List (List Coming) → List (List (List ℕ))
written gives [] = []
written gives (g ∷ gs) = unless_empty (kept gives g) ++ written gives gs

-- the groups that a writer has, if they are described, with more groups
abbrev pub grown : List (List (List ℕ)) → Option (List (List (List ℕ))) → Option (List (List (List ℕ)))
grown more holds = option_map (λ gs. gs ++ more) holds

-- a group that was reported, with the reply
pub record Done : Type 0 where
  pub group : List Coming
  pub reply : Onward

abbrev pub done : List Coming → Onward → Done
done g r = record { group = g; reply = r }

abbrev pub groups : List Done → List (List Coming)
groups ds = map (λ (d : Done). d.group) ds

abbrev pub counts : ℕ → ℕ → ℕ → ℕ → ℕ → MetricStep
counts read filtered written committed rolled_back =
    record zero_step { read_count = read; filter_count = filtered; write_count = written; commit_count = committed; rollback_count = rolled_back }

-- the report of a group
abbrev pub report_of : (List ℕ → Option (List ℕ)) → ℕ → ℕ → Done → Report
report_of gives work at d = Checkpoint work (mark_after d.group) (counts (length d.group) (length d.group - length (kept gives d.group)) (length (kept gives d.group)) 1 0) at d.reply

abbrev pub reports_of : (List ℕ → Option (List ℕ)) → ℕ → ℕ → List Done → List Report
reports_of gives work at ds = map (report_of gives work at) ds

-- all replies say to continue
abbrev pub AllGo : List Done → Type 0
AllGo [] = Unit {0}
AllGo (d ∷ ds) = (d.reply ≡ Go) × AllGo ds

-- What the faults of a job that was built say of the parts that it was built from.
use Rattle.std.proofs.Common.{◌≡◌, ℕ, ◌<◌, All, Bool, Bor, subst, false, Option, None, List, [], ◌∷◌, length, map, string_bytes, refl, sym, ◌∙◌, ap, arith}
use Rattle.jsl_model.specs.declared.element.Element.{Element}
use Rattle.jsl_model.specs.declared.job.JobFault.{JobFault}
use Rattle.jsl_model.specs.declared.parts.JobParts.{JobParts}
use Rattle.jsl_model.specs.Trees.{any_true, is_empty}
use Rattle.jsl_model.specs.Emptiness.{is_lacking, element_has_empty}
use Rattle.jsl_model.specs.LongTexts.{is_long, element_has_long}
use Rattle.jsl_model.specs.Jobs.{JobTree}
use Rattle.jsl_model.specs.Targets.{Item, outline, lists_of, HasRanks}
use Rattle.jsl_model.specs.Parts.{tree_of, element_of}
use Rattle.jsl_model.specs.Faults.{tree_fault, job_fault, IsChecked}

-- a job with a first fault, or none, behind texts that are short enough
pub short_fault : (job : JobTree) → is_long job.id ≡ false → any_true (map element_has_long job.elements) ≡ false → tree_fault job ≡ job_fault job
short_fault job id elements = cc

-- what was found of the built job is the first fault of the parts
pub found_fault : (parts : JobParts) (id : List ℕ) (elements : List Element) (found : Option JobFault)
    → id ≡ string_bytes parts.id → elements ≡ map element_of parts.elements
    → is_long (string_bytes parts.id) ≡ false → any_true (map element_has_long (map element_of parts.elements)) ≡ false
    → ((restartable : Bool) → found ≡ tree_fault record { id = id; restartable = restartable; elements = elements })
    → job_fault (tree_of parts) ≡ found
found_fault parts id elements found same_id same_elements short_id short_elements told =
    sym (short_fault (tree_of parts) short_id short_elements)
    ∙ (ap (λ (text : List ℕ). tree_fault record { id = text; restartable = parts.restartable; elements = map element_of parts.elements }) (sym same_id)
    ∙ (ap (λ (list : List Element). tree_fault record { id = id; restartable = parts.restartable; elements = list }) (sym same_elements)
    ∙ sym (told parts.restartable)))

-- a list from which something comes has a first element
filled : {X Y : Type 0} (f : X → Y) (xs : List X) → is_empty (map f xs) ≡ false → 0 < length xs
filled f [] none = cc
filled f (x ∷ xs) some = omega arith

-- a list that lacks nothing is not empty
not_lacking : (tests : List Bool) → is_lacking tests ≡ false → is_empty tests ≡ false
not_lacking [] none = cc
not_lacking (test ∷ tests) some = refl

-- a job in which nothing is empty has a list that lacks nothing
not_empty : (job : JobTree) → job_fault job ≡ None → is_lacking (map element_has_empty job.elements) ≡ false
not_empty job none = grind arith

-- what a job without a fault keeps
pub checked : (job : JobTree) → job_fault job ≡ None → All HasRanks (lists_of job.elements) → IsChecked job
checked job none ranked = record {
  faultless = none;
  ranked = ranked;
  has_elements = filled element_has_empty job.elements (not_lacking (map element_has_empty job.elements) (not_empty job none));
}

-- what is found of the lists that were collected holds of the lists of the job
pub ranked_lists : (lists : List (Bor (List Element))) (elements : List Element) (found : Bool)
    → map (λ (list : Bor (List Element)). outline list.now) lists ≡ lists_of elements
    → (found ≡ false → All HasRanks (map (λ (list : Bor (List Element)). outline list.now) lists))
    → found ≡ false → All HasRanks (lists_of elements)
ranked_lists lists elements found same ranked none = subst (λ (all : List (List Item)). All HasRanks all) same (ranked none)

-- equal lists of elements have the same ranks
pub same_ranked : (elements other : List Element) → elements ≡ other → All HasRanks (lists_of elements) → All HasRanks (lists_of other)
same_ranked elements other same ranked = subst (λ (list : List Element). All HasRanks (lists_of list)) same ranked

-- The line about a catalogue: the number of its jobs, or its fault and the place of the fault.
use Rattle.std.specs.Prelude.{◌≡◌, ◌⊎◌, ◌<◌, ◌≤◌, ℕ, List, [], ◌∷◌, length, codes, is_some, Option, Some, None, Result, Ok, Err}
use Rattle.serde_json.specs.Data.{Data, string, object, no_members}
use Rattle.serde_json.specs.Read.{read}
use Rattle.jsl_model.specs.Jobs.{JobTree}
use Rattle.jsl_json.specs.declared.fault.ReadFault.{ReadFault}
use Rattle.jsl_json.specs.declared.fault.ReadFault.TheVariants.{NotJson, NotACatalogue, BadElement, InJob, OutOfMemory}
use Rattle.jsl_json.specs.Faults.{read_fault_name}
use Rattle.script_lines.specs.declared.line.TheConstants.{MAX_LINE}
use Rattle.script_text.specs.Written.{one, count, count_or_null, with_members, line_of}
use Rattle.script_engine.specs.Script.{catalogue_at}
use Rattle.fault_places.specs.declared.place.Place.{Place}
use Rattle.fault_places.specs.Sites.{site_in, has_place}
use Rattle.fault_places.specs.PlacesOfFaults.{IsPlaceOf}
use Rattle.catalogue_checks.specs.MemberTexts.{member_text}

-- a catalogue without a fault, by the number of its jobs
abbrev pub good_data : ℕ → Data
good_data jobs = one (codes "jobs") (count jobs)

abbrev pub good_text : ℕ → List ℕ
good_text jobs = line_of (good_data jobs)

-- the members of the fault's line, as a script writes it
abbrev pub fault_members : ReadFault → List (List ℕ × Data)
fault_members NotJson = (codes "fault", string (read_fault_name NotJson)) ∷ []
fault_members NotACatalogue = (codes "fault", string (read_fault_name NotACatalogue)) ∷ []
fault_members (BadElement job element) =
    (codes "fault", string (read_fault_name (BadElement job element))) ∷ (codes "job", count job) ∷ (codes "element", count_or_null element) ∷ []
fault_members (InJob job fault) = (codes "fault", string (read_fault_name (InJob job fault))) ∷ (codes "job", count job) ∷ []
fault_members OutOfMemory = (codes "fault", string (read_fault_name OutOfMemory)) ∷ []

-- the byte and the member of a place
abbrev pub place_members : Option Place → List (List ℕ × Data)
place_members None = []
place_members (Some place) = (codes "byte", count place.byte) ∷ (codes "member", string (member_text place)) ∷ []

-- a catalogue with a fault, in rising order of the names
abbrev pub faulty_data : ReadFault → Option Place → Data
faulty_data fault place = object (with_members (with_members no_members (fault_members fault)) (place_members place))

abbrev pub faulty_text : ReadFault → Option Place → List ℕ
faulty_text fault place = line_of (faulty_data fault place)

-- the place of a fault in a line: it is the one of the fault's site, and is known of each fault that has a place
pub record HasPlace (line : List ℕ) (fault : ReadFault) (place : Option Place) : Type 0 where
  pub site : (d : Data) → read line ≡ Some d → IsPlaceOf line d (site_in fault d) place
  pub known : is_some place ≡ has_place fault

-- a line above the bound has no place
abbrev pub IsPlaceIn : List ℕ → ReadFault → Option Place → Type 0
IsPlaceIn line fault place = ((MAX_LINE < length line) × (place ≡ None)) ⊎ ((length line ≤ MAX_LINE) × HasPlace line fault place)

-- THE LINE ABOUT A CATALOGUE, and its fault, if it has one
abbrev pub IsVerdict : List ℕ → List ℕ → Result Unit ReadFault → Type 0
IsVerdict line text (Ok done) = (catalogue : List JobTree) × (catalogue_at line ≡ Ok catalogue) × (text ≡ good_text (length catalogue))
IsVerdict line text (Err fault) = (place : Option Place) × (catalogue_at line ≡ Err fault) × IsPlaceIn line fault place × (text ≡ faulty_text fault place)

-- How the code holds a site. Only private clauses cite it.
use Rattle.std.specs.Prelude.{◌≡◌, ℕ, ◌^◌, ◌<◌, List, length, map, false, Vec, Option, Some, None}
use Rattle.std.specs.declared.alloc.Global.{Global}
use Rattle.serde_json.specs.Data.{Data, Items}
use Rattle.json_members.specs.Members.{list_at}
use Rattle.json_places.specs.declared.path.Step.{Step}
use Rattle.jsl_json.specs.declared.fault.ReadFault.{ReadFault}
use Rattle.jsl_json.specs.declared.fault.ReadFault.TheVariants.{NotJson, NotACatalogue, BadElement, InJob, OutOfMemory}
use Rattle.fault_places.specs.declared.site.Site.{Site as Held}
use Rattle.catalogue_places.specs.declared.member.Member.TheVariants.{Elements}
use Rattle.catalogue_places.specs.Names.{name_of}
use Rattle.element_numbers.specs.Numbering.{Key, key_of, all_in}
use Rattle.fault_places.specs.Sites.{Site, job_of}

abbrev pub keys_of : Vec Step Global → List Key
keys_of path = map key_of path.items

abbrev pub site_view : Held → Site
site_view site = record { path = keys_of site.path; lacks = site.lacks }

-- a job has so few elements that each number is that of one
abbrev pub FewIn : Data → Type 0
FewIn job = (ds : Items) → list_at (name_of Elements) job ≡ Some ds → length (all_in false 0 ds) < 2 ^ 64

-- the job of the fault has so few elements
abbrev pub Few : ReadFault → Data → Type 0
Few NotJson d = Unit {0}
Few NotACatalogue d = Unit {0}
Few (BadElement n None) d = Unit {0}
Few (BadElement n (Some m)) d = (job : Data) → job_of n d ≡ Some job → FewIn job
Few (InJob n fault) d = Unit {0}
Few OutOfMemory d = Unit {0}

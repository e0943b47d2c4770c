-- The member of an element, of a flow of a split or of a job for which the job has a fault.
use Rattle.std.specs.Prelude.{ℕ, ◌+◌, ◌&&◌, Bool, true, false, not, length, nat_lt, is_some, Option, Some, None, List, option_map, option_and_then}
use Rattle.std.specs.Option.{option_or}
use Rattle.serde_json.specs.Data.{Data, Items, no_items, item}
use Rattle.json_members.specs.Members.{text_at, list_at}
use Rattle.jsl_model.specs.declared.job.JobFault.{JobFault}
use Rattle.jsl_model.specs.declared.job.JobFault.TheVariants.{TextTooLong, Empty, TooDeep, TooMany, DuplicateId, NoSuchTarget, Loop, RestartNotJobLevel, OutOfMemory}
use Rattle.jsl_model.specs.Trees.{is_empty}
use Rattle.catalogue_places.specs.declared.flaws.Inside.TheVariants.{Own}
use Rattle.rule_spots.specs.declared.texts.Part.{Part}
use Rattle.catalogue_places.specs.declared.member.Member.{Member}
use Rattle.catalogue_places.specs.declared.member.Member.TheVariants.{Id, Elements, Flows}
use Rattle.catalogue_places.specs.Names.{name_of}
use Rattle.rule_spots.specs.Rules.{is_name, is_target, is_restart, is_named}
use Rattle.rule_spots.specs.Texts.{part_if, texts_part}
use Rattle.rule_spots.specs.declared.hits.Hit.{Hit}

-- a member of the element itself, or in the item of this number of its list of elements
abbrev pub own_hit : Option Part → Option Hit
own_hit part = option_map (λ p. record { item = None; part = p }) part

abbrev pub item_hit : ℕ → Option Part → Option Hit
item_hit n part = option_map (λ p. record { item = Some n; part = p }) part

-- whether the text of a member breaks a rule

-- a text has at most 256 bytes
abbrev pub is_long : Member → List ℕ → Bool
is_long m text = nat_lt 256 (length text)

-- an id and the name of an artifact are not empty
abbrev pub is_empty_name : Member → List ℕ → Bool
is_empty_name m text = is_name m && is_empty text

-- `next` and `to` name an element of this list
abbrev pub is_no_target : Items → Member → List ℕ → Bool
is_no_target list m text = is_target m && not (is_named text list)

-- `restart` names an element of this list
abbrev pub is_no_restart : Items → Member → List ℕ → Bool
is_no_restart list m text = is_restart m && not (is_named text list)

-- a list without items

abbrev pub is_empty_list : Option Items → Bool
is_empty_list None = false
is_empty_list (Some no_items) = true
is_empty_list (Some (item d ds)) = false

abbrev pub list_part : Member → Data → Option Part
list_part m d = part_if (is_empty_list (list_at (name_of m) d)) Own m

-- the first empty name, or an empty list
abbrev pub empty_part : Data → Option Part
empty_part d = option_or (texts_part is_empty_name d) (option_or (list_part Elements d) (list_part Flows d))

-- the id, if it is a text
abbrev pub id_part : Data → Option Part
id_part d = part_if (is_some (text_at (name_of Id) d)) Own Id

-- the first `next` or `to` of a list that names no element of the list, from the item of this number on
abbrev pub target_hit_from : Items → ℕ → Items → Option Hit
target_hit_from list n no_items = None
target_hit_from list n (item d ds) = option_or (item_hit n (texts_part (is_no_target list) d)) (target_hit_from list (n + 1) ds)

abbrev pub target_hit : Data → Option Hit
target_hit d = option_and_then (λ list. target_hit_from list 0 list) (list_at (name_of Elements) d)

-- THE MEMBER FOR WHICH A JOB OF THESE ELEMENTS HAS THIS FAULT, if this element, flow of a split or job has it. Each may have
-- the id that another one has
abbrev pub hit_of : JobFault → Items → Data → Option Hit
hit_of TextTooLong elements d = own_hit (texts_part is_long d)
hit_of Empty elements d = own_hit (empty_part d)
hit_of NoSuchTarget elements d = target_hit d
hit_of RestartNotJobLevel elements d = own_hit (texts_part (is_no_restart elements) d)
hit_of TooDeep elements d = None
hit_of TooMany elements d = None
hit_of DuplicateId elements d = own_hit (id_part d)
hit_of Loop elements d = None
hit_of OutOfMemory elements d = None

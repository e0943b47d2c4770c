-- The rules for the texts of a job.
use Rattle.std.specs.Prelude.{ℕ, ◌&&◌, ◌||◌, Bool, true, false, not, List, length, nat_lt, codes}
use Rattle.serde_json.specs.Data.{Data, Items, no_items, item}
use Rattle.serde_json.specs.View.{items_view}
use Rattle.json_members.specs.Members.{is_text}
use Rattle.jsl_model.specs.Trees.{is_empty}
use Rattle.catalogue_places.specs.declared.member.Member.{Member}
use Rattle.catalogue_places.specs.declared.member.Member.TheVariants.{Jobs, Id, Restartable, Elements, Kind, Next, StartLimit, AllowStartIfComplete, Partitions, Batchlet, Chunk, Transitions, Flows, Ref, ItemCount, Reader, Processor, Writer, On, To, ExitStatus, Restart as RestartMember}
use Rattle.rule_spots.specs.declared.rules.TextRule.{TextRule}
use Rattle.rule_spots.specs.declared.rules.TextRule.TheVariants.{Short, Given, Target, Restart}

-- whether the member is an id or the name of an artifact
abbrev pub is_name : Member → Bool
is_name Jobs = false
is_name Id = true
is_name Restartable = false
is_name Elements = false
is_name Kind = false
is_name Next = false
is_name StartLimit = false
is_name AllowStartIfComplete = false
is_name Partitions = false
is_name Batchlet = false
is_name Chunk = false
is_name Transitions = false
is_name Flows = false
is_name Ref = true
is_name ItemCount = false
is_name Reader = false
is_name Processor = false
is_name Writer = false
is_name On = false
is_name To = false
is_name ExitStatus = false
is_name RestartMember = false

-- whether the member names the next element
abbrev pub is_target : Member → Bool
is_target Jobs = false
is_target Id = false
is_target Restartable = false
is_target Elements = false
is_target Kind = false
is_target Next = true
is_target StartLimit = false
is_target AllowStartIfComplete = false
is_target Partitions = false
is_target Batchlet = false
is_target Chunk = false
is_target Transitions = false
is_target Flows = false
is_target Ref = false
is_target ItemCount = false
is_target Reader = false
is_target Processor = false
is_target Writer = false
is_target On = false
is_target To = true
is_target ExitStatus = false
is_target RestartMember = false

-- whether the member names the element at which a restart begins
abbrev pub is_restart : Member → Bool
is_restart Jobs = false
is_restart Id = false
is_restart Restartable = false
is_restart Elements = false
is_restart Kind = false
is_restart Next = false
is_restart StartLimit = false
is_restart AllowStartIfComplete = false
is_restart Partitions = false
is_restart Batchlet = false
is_restart Chunk = false
is_restart Transitions = false
is_restart Flows = false
is_restart Ref = false
is_restart ItemCount = false
is_restart Reader = false
is_restart Processor = false
is_restart Writer = false
is_restart On = false
is_restart To = false
is_restart ExitStatus = false
is_restart RestartMember = true

-- whether an element of a list has this id
abbrev pub is_named : List ℕ → Items → Bool
is_named text no_items = false
is_named text (item d ds) = is_text (codes "id") text d || is_named text ds

-- whether the text of a member breaks a rule: a text has at most 256 bytes; an id and the name of an artifact are
-- not empty; `next` and `to`, or `restart`, name an element of a list
abbrev pub breaks : TextRule → Member → List ℕ → Bool
breaks Short m text = nat_lt 256 (length text)
breaks Given m text = is_name m && is_empty text
breaks (Target list) m text = is_target m && not (is_named text (items_view list.now))
breaks (Restart list) m text = is_restart m && not (is_named text (items_view list.now))

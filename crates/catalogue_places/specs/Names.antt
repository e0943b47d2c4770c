-- The names of the members of a catalogue's objects.
use Rattle.std.specs.Prelude.{ℕ, List, codes}
use Rattle.catalogue_places.specs.declared.member.Member.{Member}
use Rattle.catalogue_places.specs.declared.member.Member.TheVariants.{Jobs, Id, Restartable, Elements, Kind, Next, StartLimit, AllowStartIfComplete, Partitions, Batchlet, Chunk, Transitions, Flows, Ref, ItemCount, Reader, Processor, Writer, On, To, ExitStatus, Restart}

abbrev pub name_of : Member → List ℕ
name_of Jobs = codes "jobs"
name_of Id = codes "id"
name_of Restartable = codes "restartable"
name_of Elements = codes "elements"
name_of Kind = codes "kind"
name_of Next = codes "next"
name_of StartLimit = codes "start-limit"
name_of AllowStartIfComplete = codes "allow-start-if-complete"
name_of Partitions = codes "partitions"
name_of Batchlet = codes "batchlet"
name_of Chunk = codes "chunk"
name_of Transitions = codes "transitions"
name_of Flows = codes "flows"
name_of Ref = codes "ref"
name_of ItemCount = codes "item-count"
name_of Reader = codes "reader"
name_of Processor = codes "processor"
name_of Writer = codes "writer"
name_of On = codes "on"
name_of To = codes "to"
name_of ExitStatus = codes "exit-status"
name_of Restart = codes "restart"

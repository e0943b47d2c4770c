-- The texts of an element, a flow of a split or a job that break a rule, without the elements inside it. `wrong` says
-- whether the text of a member breaks the rule.
use Rattle.std.specs.Prelude.{ℕ, ◌+◌, List, Bool, Option, Some, None, option_and_then, if◌then◌else◌}
use Rattle.std.specs.Option.{option_or}
use Rattle.serde_json.specs.Data.{Data, Items, no_items, item}
use Rattle.json_members.specs.Members.{text_at, list_at, object_at}
use Rattle.catalogue_places.specs.declared.flaws.Inside.{Inside}
use Rattle.catalogue_places.specs.declared.flaws.Inside.TheVariants.{Own, In, InChunk, Transition}
use Rattle.rule_spots.specs.declared.texts.Part.{Part}
use Rattle.catalogue_places.specs.declared.member.Member.{Member}
use Rattle.catalogue_places.specs.declared.member.Member.TheVariants.{Id, Next, Batchlet, Chunk, Transitions, Ref, Reader, Processor, Writer, On, To, ExitStatus, Restart}
use Rattle.catalogue_places.specs.Names.{name_of}

-- a member of the object `inside`, if it breaks a rule
abbrev pub part_if : Bool → Inside → Member → Option Part
part_if broken inside m = if broken then Some (record { inside = inside; member = m }) else None

module _ (wrong : Member → List ℕ → Bool) where
  -- a text of an object
  abbrev pub text_part : Inside → Member → Data → Option Part
  text_part inside m d = option_and_then (λ text. part_if (wrong m text) inside m) (text_at (name_of m) d)

  -- the name of the artifact that is a member of an object
  abbrev pub artifact_text : Inside → Member → Data → Option Part
  artifact_text inside m d = option_and_then (text_part inside Ref) (object_at (name_of m) d)

  -- the names of the artifacts of a chunk
  abbrev pub part_texts : Data → Option Part
  part_texts chunk =
      option_or (artifact_text (InChunk Reader) Reader chunk)
      (option_or (artifact_text (InChunk Processor) Processor chunk) (artifact_text (InChunk Writer) Writer chunk))

  abbrev pub chunk_texts : Data → Option Part
  chunk_texts d = option_and_then part_texts (object_at (name_of Chunk) d)

  -- the texts of the transition element of this number
  abbrev pub transition_texts : ℕ → Data → Option Part
  transition_texts n d =
      option_or (text_part (Transition n) On d)
      (option_or (text_part (Transition n) To d) (option_or (text_part (Transition n) ExitStatus d) (text_part (Transition n) Restart d)))

  -- those of a list, from this number on
  abbrev pub transitions_from : ℕ → Items → Option Part
  transitions_from n no_items = None
  transitions_from n (item d ds) = option_or (transition_texts n d) (transitions_from (n + 1) ds)

  abbrev pub transitions_texts : Data → Option Part
  transitions_texts d = option_and_then (transitions_from 0) (list_at (name_of Transitions) d)

  -- THE FIRST TEXT THAT BREAKS THE RULE
  abbrev pub texts_part : Data → Option Part
  texts_part d =
      option_or (text_part Own Id d)
      (option_or (text_part Own Next d)
      (option_or (transitions_texts d)
      (option_or (artifact_text (In Batchlet) Batchlet d)
      (option_or (chunk_texts d) (text_part Own Ref d)))))

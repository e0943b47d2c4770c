-- No line about a catalogue has a number that is a float.
use Rattle.std.proofs.Common.{◌≡◌, ℕ, List, [], ◌∷◌, false, Less, Equal, Greater, nat_cmp, Option, Some, None, refl}
use Rattle.std.proofs.lemmas.Bool.{or_parts}
use Rattle.std.specs.Cmp.Lexicographic.{slice_cmp}
use Rattle.std.specs.Ordering.{match_ordering}
use Rattle.serde_json.specs.Data.{Data, Members, no_members, member, put}
use Rattle.serde_json.specs.Written.{has_float, members_have_float}
use Rattle.jsl_json.specs.declared.fault.ReadFault.{ReadFault}
use Rattle.jsl_json.specs.declared.fault.ReadFault.TheVariants.{NotJson, NotACatalogue, BadElement, InJob, OutOfMemory}
use Rattle.script_text.specs.Written.{with_members}
use Rattle.fault_places.specs.declared.place.Place.{Place}
use Rattle.catalogue_checks.specs.Verdicts.{fault_members, place_members, faulty_data}

-- where members have none, and a value has none, the members with it have none
put_has_none : (k : List ℕ) (d : Data) (ms : Members) → has_float d ≡ false → members_have_float ms ≡ false → members_have_float (put k d ms) ≡ false
put_has_none k d no_members none others = rw none refl
put_has_none k d (member l e ms) none others =
    let apart : (has_float e ≡ false) × (members_have_float ms ≡ false) = or_parts (has_float e) (members_have_float ms) others in
    elim (slice_cmp nat_cmp k l) as (λ o. members_have_float (match_ordering o (member k d (member l e ms)) (member l d ms) (member l e (put k d ms))) ≡ false) [
      | Less ↦ rw none others
      | Equal ↦ rw none apart.1
      | Greater ↦ rw apart.0 (put_has_none k d ms none apart.1)
    ]

-- these values have none
abbrev HaveNone : List (List ℕ × Data) → Type 0
HaveNone [] = Unit {0}
HaveNone (named ∷ rest) = (has_float named.1 ≡ false) × HaveNone rest

members_have_none : (ms : Members) (named : List (List ℕ × Data)) → HaveNone named → members_have_float ms ≡ false → members_have_float (with_members ms named) ≡ false
members_have_none ms [] none others = others
members_have_none ms (x ∷ xs) none others = members_have_none (put x.0 x.1 ms) xs none.1 (put_has_none x.0 x.1 ms none.0 others)

fault_has_none : (fault : ReadFault) → HaveNone (fault_members fault)
fault_has_none NotJson = (refl, tt)
fault_has_none NotACatalogue = (refl, tt)
fault_has_none (BadElement job None) = (refl, (refl, (refl, tt)))
fault_has_none (BadElement job (Some element)) = (refl, (refl, (refl, tt)))
fault_has_none (InJob job fault) = (refl, (refl, tt))
fault_has_none OutOfMemory = (refl, tt)

place_has_none : (place : Option Place) → HaveNone (place_members place)
place_has_none None = tt
place_has_none (Some place) = (refl, (refl, tt))

pub faulty_has_no_float : (fault : ReadFault) (place : Option Place) → has_float (faulty_data fault place) ≡ false
faulty_has_no_float fault place =
    members_have_none (with_members no_members (fault_members fault)) (place_members place) (place_has_none place)
    (members_have_none no_members (fault_members fault) (fault_has_none fault) refl)

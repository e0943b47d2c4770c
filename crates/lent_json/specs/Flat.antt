-- Objects that are read in one pass: their members are scalars, or objects of scalars.
use Rattle.std.specs.Prelude.{ℕ, List, [], ◌∷◌, bytes_eq, Option, None, Some, if◌then◌else◌}
use Rattle.std.specs.Borrow.{Bor}
use Rattle.std.specs.Option.{option_or, option_and_then}
use Rattle.serde_json.specs.Data.{Data, null, boolean, number, unsigned, string, object, Members, no_members, put}
use Rattle.serde_json.specs.Read.{number_of}
use Rattle.serde_json.specs.Find.{as_u64}
use Rattle.lent_json.specs.declared.flat.Scalar.{Scalar}
use Rattle.lent_json.specs.declared.flat.Scalar.TheVariants.{Null, Truth, Count, Text}
use Rattle.lent_json.specs.declared.member.Member.{Member}
use Rattle.lent_json.specs.declared.member.Member.TheVariants as members

-- the last of these members that has this name
abbrev pub last_named : {A : Type 0} → List ℕ → List (Bor (List ℕ) × A) → Option A
last_named name [] = None
last_named name (m ∷ ms) = option_or (last_named name ms) (if bytes_eq m.0.now name then Some m.1 else None)

-- members put into an object one after another, so that the last value of a name counts
abbrev pub put_all : {A : Type 0} → (A → Data) → List (Bor (List ℕ) × A) → Members → Members
put_all value [] found = found
put_all value (m ∷ ms) found = put_all value ms (put m.0.now (value m.1) found)

-- the value of a scalar
abbrev pub scalar_data : Scalar → Data
scalar_data Null = null
scalar_data (Truth b) = boolean b
scalar_data (Count n) = number (unsigned n)
scalar_data (Text text) = string text.now

-- the object of these scalars
abbrev pub scalars_data : List (Bor (List ℕ) × Scalar) → Data
scalars_data ms = object (put_all scalar_data ms no_members)

-- the value of a member
abbrev pub member_data : Member → Data
member_data (members.Scalar s) = scalar_data s
member_data (members.Counts ms) = scalars_data ms.members.items
member_data (members.Texts ms) = scalars_data ms.members.items

-- the object of these members
abbrev pub flat_data : List (Bor (List ℕ) × Member) → Data
flat_data ms = object (put_all member_data ms no_members)

-- the whole number in a number's text, 0 to 2^64 - 1
unfoldable pub count_in : List ℕ → Option ℕ
count_in text = option_and_then as_u64 (number_of text)

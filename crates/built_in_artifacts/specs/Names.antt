-- The names of the built-in artifacts, and the numbers in them.
use Rattle.std.specs.Prelude.{ℕ, ◌≡◌, ◌≤◌, ◌++◌, length, List, codes}
use Rattle.std.specs.Str.Parse.{IsNumeral, digits_value}
use Rattle.built_in_artifacts.specs.declared.built_in.BuiltIn.{BuiltIn}
use Rattle.built_in_artifacts.specs.declared.built_in.BuiltIn.TheVariants.{Complete, Fail, Exit, Count, Odd, Sink}

-- a text of 1 to 9 decimal digits, and its number
pub record IsNumber (text : List ℕ) (n : ℕ) : Type 0 where
  pub digits : IsNumeral 10 text
  pub few : length text ≤ 9
  pub value : n ≡ digits_value 10 text

-- a built-in artifact and a name of it
abbrev pub IsNameOf : BuiltIn → List ℕ → Type 0
IsNameOf Complete name = name ≡ codes "ok"
IsNameOf Fail name = name ≡ codes "fail"
IsNameOf (Exit exit) name = (name ≡ codes "exit:" ++ exit) × (length exit ≤ 256)
IsNameOf (Count last) name = (digits : List ℕ) × (name ≡ codes "count:" ++ digits) × IsNumber digits last
IsNameOf Odd name = name ≡ codes "odd"
IsNameOf Sink name = name ≡ codes "sink"

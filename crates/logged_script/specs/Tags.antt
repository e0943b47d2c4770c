-- The tags of lines, which no reply depends on.
use Rattle.std.specs.Prelude.{ℕ, ◌≡◌, ◌≤◌, ◌==◌, ◌+◌, ◌||◌, not, nat_lt, List, [], ◌∷◌, length, map, drop, position, Bool, true, false, Option, Some, None, if◌then◌else◌}
use Rattle.std.specs.List.{list_all}
use Rattle.script_lines.specs.declared.line.TheConstants.{MAX_LINE}
use Rattle.logged_script.specs.declared.tags.TheConstants.{MAX_TAG}

-- a line that begins with a brace has no tag
abbrev pub begins_object : List ℕ → Bool
begins_object [] = false
begins_object (byte ∷ rest) = byte == 123

-- a tag has at most 512 bytes, none of them a tab, and does not begin with a brace
pub record IsTag (tag : List ℕ) : Type 0 where
  pub short : length tag ≤ MAX_TAG
  pub no_tab : list_all (λ byte. not (byte == 9)) tag ≡ true
  pub no_object : begins_object tag ≡ false

-- what stands behind a tab at this place, unless more than 512 bytes stand before it
abbrev pub behind_tag : List ℕ → Option ℕ → List ℕ
behind_tag line None = line
behind_tag line (Some at) = if nat_lt MAX_TAG at then line else drop (at + 1) line

-- THE COMMAND OF A LINE that may have a tag: what stands behind its first tab. A line above the bound is no command, with or
-- without a tag
abbrev pub command_of : List ℕ → List ℕ
command_of line = if nat_lt MAX_LINE (length line) || begins_object line then line else behind_tag line (position (λ byte. byte == 9) line)

-- the commands of lines, with or without tags
abbrev pub command_in : Bool → List ℕ → List ℕ
command_in true line = command_of line
command_in false line = line

abbrev pub commands_in : Bool → List (List ℕ) → List (List ℕ)
commands_in true lines = map command_of lines
commands_in false lines = lines

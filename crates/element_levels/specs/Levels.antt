-- How deep an element is.
use Rattle.std.specs.Prelude.{ℕ, ◌-◌, length}
use Rattle.element_numbers.specs.Numbering.{Numbered}

-- how many steps fewer than these its path has, or 0
abbrev pub steps_left : ℕ → Numbered → ℕ
steps_left most e = most - length e.path

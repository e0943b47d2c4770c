use Rattle.std.proofs.Common.{◌≡◌, [], drop, map, string_bytes}
use Rattle.element_numbers.specs.Numbering.{key_of}
use Rattle.catalogue_checks.specs.MemberTexts.{path_text_from}
use Rattle.catalogue_checks.proofs.member_text.path_text.Given as goal

-- the text so far with the steps that are left is the whole text
abbrev pub invariant-loop-step : goal.invariant-loop-step
invariant-loop-step l = path_text_from (string_bytes l.text) (map key_of (drop l.step-index l.path)) ≡ path_text_from [] (map key_of l.path)

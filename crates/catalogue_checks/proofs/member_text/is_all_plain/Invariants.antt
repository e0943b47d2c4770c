use Rattle.std.proofs.Common.{◌≡◌, drop}
use Rattle.std.specs.List.{list_all}
use Rattle.catalogue_checks.specs.MemberTexts.{is_plain_byte}
use Rattle.catalogue_checks.proofs.member_text.is_all_plain.Given as goal

-- all bytes are plain exactly if those that are left are
abbrev pub invariant-loop-byte : goal.invariant-loop-byte
invariant-loop-byte l = list_all is_plain_byte (drop l.byte-index l.name) ≡ list_all is_plain_byte l.name

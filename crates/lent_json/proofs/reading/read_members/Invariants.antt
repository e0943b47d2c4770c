use Rattle.std.proofs.Common.{◌≡◌, ◌≤◌, ℕ, length}
use Rattle.serde_json.specs.Data.{no_members}
use Rattle.lent_json.specs.Flat.{member_data, put_all}
use Rattle.lent_json.specs.Reads.{members_read}
use Rattle.lent_json.specs.declared.reading.TheConstants.{DEPTH_INSIDE}
use Rattle.lent_json.proofs.reading.read_members.Given as goal

abbrev pub invariant-loop-found : goal.invariant-loop-found
invariant-loop-found l =
    (turns : ℕ) × (length l.reader ≤ turns)
    × (members_read DEPTH_INSIDE (length l.initial.reader) no_members l.initial.reader ≡ members_read DEPTH_INSIDE turns (put_all member_data l.found.items no_members) l.reader)
    × (length l.reader ≤ length l.initial.reader)

abbrev pub decreases-loop-found : goal.decreases-loop-found
decreases-loop-found l = length l.reader

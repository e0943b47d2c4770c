-- Calls that are not made.
use Rattle.std.specs.Prelude.{ℕ, zero, suc, ◌&&◌, nat_lt, List, [], ◌∷◌, Bool, true}
use Rattle.log_host.specs.Past.{Call, file_faults_after, listener_faults_after}

-- whether there is a cause for a call of this kind that was not made: for one of the file an earlier failure of the
-- file, for a piece one of the listener
abbrev pub is_caused : ℕ → List Call → Bool
is_caused zero calls = true
is_caused (suc zero) calls = true
is_caused (suc (suc zero)) calls = true
is_caused (suc (suc (suc zero))) calls = nat_lt 0 (file_faults_after calls)
is_caused (suc (suc (suc (suc kind)))) calls = nat_lt 0 (listener_faults_after calls)

-- whether each call that was not made has its cause
abbrev pub are_caused : List Call → Bool
are_caused [] = true
are_caused (call ∷ calls) = is_caused call.0 calls && are_caused calls

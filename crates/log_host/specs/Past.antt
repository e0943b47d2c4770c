-- The past calls of a file and a listener, and their effect.
use Rattle.std.specs.Prelude.{ℕ, zero, suc, ◌≡◌, ◌⊎◌, ◌+◌, ◌≤◌, List, [], ◌∷◌, ◌++◌, length, take, drop, Bool, true, false, refl}
use Rattle.std.specs.Coded.{Coded, code_by, coded×, coded_ℕ, coded_list}
use Rattle.log_host.specs.Host.{Outcomes, Torn, Hearing}

-- a call: its kind; its place, or how many bytes were sent; its bytes; and 1 if it succeeded. The kinds are: 0 a
-- write, 1 a sync, 2 sending to the listener, 3 a call of the file that was not made, 4 a piece that was not sent, and
-- from 5 on a call by which the file was opened or made
abbrev pub Call : Type 0
Call = ℕ × (ℕ × (List ℕ × ℕ))

-- the first bytes of the file, and the calls, the newest first
pub record Past : Type 0 where
  pub start : List ℕ
  pub calls : List Call

abbrev pub past_code : Coded Past
past_code = code_by (List ℕ × List Call) (coded× (coded_list coded_ℕ) (coded_list (coded× coded_ℕ (coded× coded_ℕ (coded× (coded_list coded_ℕ) coded_ℕ))))) (λ t. (t.start, t.calls)) (λ p. record { start = p.0; calls = p.1 }) (λ _. refl)

-- The bytes of the file

-- the bytes of the file after a call: its kind, its number, whether it succeeded, its bytes, and the file
-- before it
abbrev pub seen_by : ℕ → ℕ → ℕ → List ℕ → List ℕ → List ℕ
seen_by kind n zero bytes file = file
seen_by zero n (suc ok) bytes file = take n file ++ bytes ++ drop (n + length bytes) file
seen_by (suc kind) n (suc ok) bytes file = file

abbrev pub seen_after : List ℕ → List Call → List ℕ
seen_after start [] = start
seen_after start (call ∷ calls) = seen_by call.0 call.1.0 call.1.1.1 call.1.1.0 (seen_after start calls)

-- The bytes that the listener has heard

abbrev pub heard_by : ℕ → ℕ → ℕ → List ℕ → List ℕ → List ℕ
heard_by kind n zero bytes heard = heard
heard_by zero n (suc ok) bytes heard = heard
heard_by (suc zero) n (suc ok) bytes heard = heard
heard_by (suc (suc kind)) n (suc ok) bytes heard = heard ++ take n bytes

abbrev pub heard_after : List Call → List ℕ
heard_after [] = []
heard_after (call ∷ calls) = heard_by call.0 call.1.0 call.1.1.1 call.1.1.0 (heard_after calls)

-- Failures

-- whether no write and no sync has failed. After one has, a later sync that succeeds tells nothing of the bytes
-- written before it: the system may have given them up
abbrev pub sound_by : ℕ → ℕ → Bool → Bool
sound_by zero zero sound = false
sound_by zero (suc ok) sound = sound
sound_by (suc zero) zero sound = false
sound_by (suc zero) (suc ok) sound = sound
sound_by (suc (suc kind)) ok sound = sound

abbrev pub is_sound : List Call → Bool
is_sound [] = true
is_sound (call ∷ calls) = sound_by call.0 call.1.1.1 (is_sound calls)

abbrev pub file_faults_by : ℕ → ℕ → ℕ → ℕ
file_faults_by zero zero faults = faults + 1
file_faults_by zero (suc ok) faults = faults
file_faults_by (suc zero) zero faults = faults + 1
file_faults_by (suc zero) (suc ok) faults = faults
file_faults_by (suc (suc zero)) ok faults = faults
file_faults_by (suc (suc (suc zero))) ok faults = faults + 1
file_faults_by (suc (suc (suc (suc kind)))) ok faults = faults

-- the number of failures of the file
abbrev pub file_faults_after : List Call → ℕ
file_faults_after [] = 0
file_faults_after (call ∷ calls) = file_faults_by call.0 call.1.1.1 (file_faults_after calls)

abbrev pub listener_faults_by : ℕ → ℕ → ℕ → ℕ
listener_faults_by zero ok faults = faults
listener_faults_by (suc zero) ok faults = faults
listener_faults_by (suc (suc zero)) zero faults = faults + 1
listener_faults_by (suc (suc zero)) (suc ok) faults = faults
listener_faults_by (suc (suc (suc zero))) ok faults = faults
listener_faults_by (suc (suc (suc (suc kind)))) ok faults = faults + 1

-- the number of failures of the listener
abbrev pub listener_faults_after : List Call → ℕ
listener_faults_after [] = 0
listener_faults_after (call ∷ calls) = listener_faults_by call.0 call.1.1.1 (listener_faults_after calls)

-- The outcomes of a crash

-- what is known before a call: whether no call of the file has failed, the file, the bytes heard, and the outcomes
pub record Before : Type 1 where
  pub sound : Bool
  pub seen : List ℕ
  pub heard : List ℕ
  pub outcomes : Outcomes

-- the outcomes after a write at a place
abbrev pub leaves_written : ℕ → List ℕ → Before → Outcomes
leaves_written at bytes before c o = (d : List ℕ) × before.outcomes d o × Torn at (length bytes) d c

-- the outcomes after a sync, by whether it succeeded
abbrev pub leaves_synced : ℕ → Before → Outcomes
leaves_synced zero before c o = before.outcomes c o
leaves_synced (suc ok) before c o = before.outcomes c o × (before.sound ≡ true → c ≡ before.seen)

-- the outcomes after n bytes of a piece were sent, by whether that succeeded
abbrev pub leaves_told : ℕ → ℕ → List ℕ → Before → Outcomes
leaves_told n zero piece before c o = Hearing piece before.outcomes c o
leaves_told n (suc ok) piece before c o = Hearing piece before.outcomes c o × (o ≡ before.heard ++ take n piece) × ((p : List ℕ) × before.outcomes c p)

-- the outcomes after a call: its kind, its number, whether it succeeded, and its bytes
abbrev pub leaves_by : ℕ → ℕ → ℕ → List ℕ → Before → Outcomes
leaves_by zero n ok bytes before = leaves_written n bytes before
leaves_by (suc zero) n ok bytes before = leaves_synced ok before
leaves_by (suc (suc zero)) n ok bytes before = leaves_told n ok bytes before
leaves_by (suc (suc (suc kind))) n ok bytes before = before.outcomes

-- the outcomes after these calls: those after the last call, or the bytes that a read returns now
abbrev pub leaves_after : List ℕ → List Call → Outcomes
leaves_after start [] c o = (c ≡ start) × (o ≡ [])
leaves_after start (call ∷ calls) c o =
    leaves_by call.0 call.1.0 call.1.1.1 call.1.1.0 (record { sound = is_sound calls; seen = seen_after start calls; heard = heard_after calls; outcomes = leaves_after start calls }) c o
    ⊎ ((c ≡ seen_after start (call ∷ calls)) × (o ≡ heard_after (call ∷ calls)))

-- the outcomes that a crash has only during the call
abbrev pub in_call : ℕ → List ℕ → Outcomes → Outcomes
in_call zero bytes old c o = ⊥
in_call (suc zero) bytes old c o = ⊥
in_call (suc (suc zero)) bytes old c o = Hearing bytes old c o
in_call (suc (suc (suc kind))) bytes old c o = ⊥

-- the outcomes of a crash at some moment since the first `t` calls
abbrev pub left_after : List ℕ → List Call → ℕ → Outcomes
left_after start [] t c o = leaves_after start [] c o
left_after start (call ∷ calls) t c o = leaves_after start (call ∷ calls) c o
    ⊎ ((t ≤ length calls) × (in_call call.0 call.1.1.0 (leaves_after start calls) c o ⊎ left_after start calls t c o))

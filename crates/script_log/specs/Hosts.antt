-- The meaning of a host, and its states.
use Rattle.std.specs.Prelude.{ℕ, ◌≡◌, ◌≤◌, List}
use Rattle.log_host.specs.Host.{Outcomes, LeavesOnly}
use Rattle.log_host.specs.Past.{Past}
use Rattle.durable_log.specs.Format.{LogRecord}
use Rattle.durable_log.specs.Logs.{records_of, Unsealed}

-- THE MEANING OF A HOST: the members of its trait, by which contracts speak of it
pub record Hosting (D : Type 0) : Type 1 where
  pub seen : D → List ℕ
  pub heard : D → List ℕ
  pub may_leave : D → Outcomes
  pub moment : D → ℕ
  pub left_since : D → ℕ → Outcomes
  pub origin : D → Past
  pub file_faults : D → ℕ
  pub listener_faults : D → ℕ

abbrev pub hosting : {D : Type 0} → (D → List ℕ) → (D → List ℕ) → (D → Outcomes) → (D → ℕ) → (D → ℕ → Outcomes) → (D → Past) → (D → ℕ) → (D → ℕ) → Hosting D
hosting seen heard may_leave moment left_since origin file_faults listener_faults =
    record { seen = seen; heard = heard; may_leave = may_leave; moment = moment; left_since = left_since; origin = origin; file_faults = file_faults; listener_faults = listener_faults }

-- THE STATE OF A HOST: the bytes of its file, the bytes that its listener has heard, and how often each of the
-- two failed
pub record State : Type 0 where
  pub file : List ℕ
  pub heard : List ℕ
  pub file_faults : ℕ
  pub listener_faults : ℕ

abbrev pub state_of : {D : Type 0} → Hosting D → D → State
state_of d host = record { file = d.seen host; heard = d.heard host; file_faults = d.file_faults host; listener_faults = d.listener_faults host }

-- AN ACCOUNT: records, and the bytes that a listener has heard
pub record Account : Type 0 where
  pub records : List LogRecord
  pub heard : List ℕ

abbrev pub account : List LogRecord → List ℕ → Account
account records heard = record { records = records; heard = heard }

-- the records of the file, and the bytes that were heard
abbrev pub account_of : State → Account
account_of s = account (records_of s.file) s.heard

-- a host went on: it has its origin, and counts no fewer failures. At no moment meanwhile was its file sealed
pub record GoesOn {D : Type 0} (d : Hosting D) (old new : D) : Type 0 where
  pub file : d.file_faults old ≤ d.file_faults new
  pub listener : d.listener_faults old ≤ d.listener_faults new
  pub origin : d.origin new ≡ d.origin old
  pub unsealed : LeavesOnly d.moment d.left_since old new Unsealed

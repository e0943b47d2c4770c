-- A log at rest, and the state of an open log.
use Rattle.std.specs.Prelude.{ℕ, ◌<◌, ◌≤◌, ◌^◌, ◌≡◌, ◌⊎◌, List, [], ◌∷◌, ◌++◌, length, take}
use Rattle.log_host.specs.Host.{Outcomes, Only, Torn}
use Rattle.durable_log.specs.Format.{LogRecord, link_after, links_after, frame, read, shut, seal, blocks, next, End, Damaged, max_batch}
use Rattle.durable_log.specs.Files.{Opening, Ours, Later, Foreign, opening, first_link, link_behind, Holding, StandsFor}
use Rattle.durable_log.specs.declared.link.Link.{Link}
use Rattle.durable_log.specs.declared.log.Log.{Log}
use Rattle.durable_log.specs.declared.rest.Rest.{Rest}

-- the records of a file with this beginning
abbrev pub records_by : Opening → List LogRecord
records_by (Ours rest) = (read first_link rest).records
records_by Later = []
records_by Foreign = []

-- the records of a file
abbrev pub records_of : List ℕ → List LogRecord
records_of file = records_by (opening file)

-- the link of its records to the next
abbrev pub link_of : List ℕ → Link
link_of file = link_behind (records_of file)

-- the length of each line and the check of each reply fit into eight digits
abbrev pub AreSmall : List LogRecord → Type 0
AreSmall [] = Unit {0}
AreSmall (r ∷ records) = (length r.line < 2 ^ 32) × (r.reply_check < 2 ^ 32) × AreSmall records

-- the file ends with this gate at this place, and all bytes before it are its records
pub record EndsWith (gate file : List ℕ) (end : ℕ) : Type 0 where
  pub base : List ℕ
  pub split : file ≡ base ++ gate
  pub place : end ≡ length base
  pub holds : Holding (records_of file) base

-- the file is at rest: it ends with a shut gate
abbrev pub IsAtRest : List ℕ → ℕ → Type 0
IsAtRest file end = EndsWith shut file end

-- THE FILE IS SEALED: it ends with the seal. A run seals its log after all bytes of it are on the disk
abbrev pub IsSealed : List ℕ → ℕ → Type 0
IsSealed file end = EndsWith seal file end

-- the file is not sealed at any place
abbrev pub IsUnsealed : List ℕ → Type 0
IsUnsealed file = (end : ℕ) → IsSealed file end → ⊥

-- a crash leaves a file that is not sealed
abbrev pub Unsealed : Outcomes
Unsealed file o = IsUnsealed file

-- a file was sealed, and these are its bytes with a shut gate in place of the seal
pub record Reopens (file now : List ℕ) (end : ℕ) : Type 0 where
  pub base : List ℕ
  pub before : file ≡ base ++ seal
  pub after : now ≡ base ++ shut
  pub place : end ≡ length base

-- a crash leaves these bytes, but for any in place of the gate at their end; and the listener has heard these
abbrev pub ButForGate : List ℕ → ℕ → List ℕ → Outcomes
ButForGate file end heard c o = Torn end 3 file c × (o ≡ heard)

-- the file is at rest, and the log goes on there
pub record IsRest (file : List ℕ) (rest : Rest) : Type 0 where
  pub at : IsAtRest file rest.end
  pub link : rest.link ≡ link_of file

-- the bytes of records after the gate of the first: the other records have open gates, and a shut gate
-- follows
abbrev pub behind_gate : Link → List LogRecord → List ℕ
behind_gate link [] = []
behind_gate link (r ∷ records) = (frame link r ++ blocks (link_after link r) records) ++ shut

-- the records of the bytes after a gate, if that gate is open
abbrev pub batch_records : Link → List ℕ → List LogRecord
batch_records link batch = (read link (49 ∷ 49 ∷ 49 ∷ batch)).records

-- the bytes of one or more records after the gate of the first
pub record IsBatch (link : Link) (batch : List ℕ) : Type 0 where
  pub first : LogRecord
  pub others : List LogRecord
  pub records : batch_records link batch ≡ first ∷ others
  pub bytes : batch ≡ (frame link first ++ blocks (link_after link first) others) ++ shut
  pub small : AreSmall (first ∷ others)
  pub short : length batch ≤ max_batch

-- all records of the file are before this place, and the end is at this place
pub record EndsAt (file : List ℕ) (end : ℕ) : Type 0 where
  pub base : List ℕ
  pub tail : List ℕ
  pub split : file ≡ base ++ tail
  pub place : end ≡ length base
  pub holds : Holding (records_of file) base
  pub ends : next (link_of file) tail ≡ End

-- the record with this number, counted from 0, begins at this byte and is damaged; all records before it are
-- whole
pub record IsDamagedAt (file : List ℕ) (number byte : ℕ) : Type 0 where
  pub base : List ℕ
  pub tail : List ℕ
  pub split : file ≡ base ++ tail
  pub place : byte ≡ length base
  pub holds : Holding (records_of file) base
  pub damaged : next (link_of file) tail ≡ Damaged
  pub number_is : number ≡ length (records_of file)

-- the waiting records
abbrev pub waiting_in : {D : Type 0} → Log D → List LogRecord
waiting_in log = batch_records log.link log.waiting.items

-- the file is at rest, all of it is on the disk, and the waiting bytes are those of the waiting records
pub record IsSettled {D : Type 0} (seen heard : D → List ℕ) (may_leave : D → Outcomes) (log : Log D) : Type 0 where
  pub rest : IsAtRest (seen log.host) log.end
  pub link : log.link ≡ link_of (seen log.host)
  pub last : log.last ≡ links_after log.link (waiting_in log)
  pub waits : log.waiting.items ≡ behind_gate log.link (waiting_in log)
  pub small : AreSmall (waiting_in log)
  pub short : length log.waiting.items ≤ max_batch
  pub durable : Only (seen log.host) (heard log.host) (may_leave log.host)

-- a crash leaves these records, or these followed by the others; and the listener has heard these bytes
abbrev pub BeforeOrAfter : List LogRecord → List LogRecord → List ℕ → Outcomes
BeforeOrAfter records others heard file o = (StandsFor records file ⊎ StandsFor (records ++ others) file) × (o ≡ heard)

-- a crash leaves these records; and the listener has heard these bytes
abbrev pub Same : List LogRecord → List ℕ → Outcomes
Same records heard file o = StandsFor records file × (o ≡ heard)

-- a crash leaves these records; and the listener has heard these bytes, and a front of the piece
abbrev pub Told : List LogRecord → List ℕ → List ℕ → Outcomes
Told records heard piece file o = StandsFor records file × ((n : ℕ) × (o ≡ heard ++ take n piece))

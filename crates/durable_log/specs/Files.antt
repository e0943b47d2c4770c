-- The records of a file.
use Rattle.std.specs.Prelude.{ℕ, ◌≡◌, ◌==◌, ◌&&◌, List, [], ◌∷◌, ◌++◌, Bool, true, false}
use Rattle.durable_log.specs.declared.link.Link.{Link}
use Rattle.durable_log.specs.Format.{LogRecord, check_of, links_after, blocks, shut, seal, read, prepended, whole}

-- the beginning of a file: that of a log of this version, of a log of another version, or of no log
pub data Opening : Type 0 where
  Ours : List ℕ → Opening
  Later : Opening
  Foreign : Opening

-- the header of a log: bctlog2 and a line feed
abbrev pub header : List ℕ
header = 98 ∷ 99 ∷ 116 ∷ 108 ∷ 111 ∷ 103 ∷ 50 ∷ 10 ∷ []

-- the link of a header to the first record: its number, and the check of the header
abbrev pub first_link : Link
first_link = record { number = 0; check = check_of header }

-- the link of the first records of a file to the next
abbrev pub link_behind : List LogRecord → Link
link_behind records = links_after first_link records

abbrev pub is_known : ℕ → ℕ → ℕ → ℕ → ℕ → ℕ → ℕ → Bool
is_known a b c d e f h = a == 98 && (b == 99 && (c == 116 && (d == 108 && (e == 111 && (f == 103 && h == 10)))))

-- Version 1 had no release, so its files are no logs.
abbrev pub version_of : Bool → Bool → Bool → List ℕ → Opening
version_of false first ours rest = Foreign
version_of true true ours rest = Foreign
version_of true false false rest = Later
version_of true false true rest = Ours rest

abbrev pub opening : List ℕ → Opening
opening (a ∷ b ∷ c ∷ d ∷ e ∷ f ∷ g ∷ h ∷ rest) =
    version_of (is_known a b c d e f h) (g == 49) (g == 50) rest
opening short = Foreign

-- A LOG WITH THESE RECORDS: the header, each record after an open gate, and a shut gate
abbrev pub log_of : List LogRecord → List ℕ
log_of records = header ++ (blocks first_link records ++ shut)

-- the same log, sealed
abbrev pub sealed_log_of : List LogRecord → List ℕ
sealed_log_of records = header ++ (blocks first_link records ++ seal)

-- THE FILE HAS THESE RECORDS: it is a log of this version, and nothing after an open gate is damaged
abbrev pub StandsFor : List LogRecord → List ℕ → Type 0
StandsFor records file = (rest : List ℕ) × (opening file ≡ Ours rest) × (read first_link rest ≡ whole records)

-- a front of a file that has these records, whatever bytes follow it
abbrev pub Holding : List LogRecord → List ℕ → Type 0
Holding records front = (x : List ℕ) → (rest : List ℕ) × (opening (front ++ x) ≡ Ours rest) × (read first_link rest ≡ prepended records (read (link_behind records) x))

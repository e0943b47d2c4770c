-- The part of the bytes after a header that was read.
use Rattle.std.specs.Prelude.{ℕ, ◌≡◌, ◌+◌, List, ◌++◌, length}
use Rattle.durable_log.specs.Format.{LogRecord, read, prepended, next, End, Damaged}
use Rattle.durable_log.specs.Files.{first_link, link_behind}

-- these records were read so far, and these bytes are left
pub record IsRead (bytes : List ℕ) (records : List LogRecord) (rest : List ℕ) : Type 0 where
  pub base : List ℕ
  pub split : bytes ≡ base ++ rest
  pub reads : (x : List ℕ) → read first_link (base ++ x) ≡ prepended records (read (link_behind records) x)

-- all records were read, and the bytes that are left are the end
pub record IsPart (bytes : List ℕ) (records : List LogRecord) (rest : List ℕ) : Type 0 where
  pub so_far : IsRead bytes records rest
  pub ends : next (link_behind records) rest ≡ End

-- after this number of records, at this byte of the file, the bytes after an open gate are no record
pub record IsPartDamaged (bytes : List ℕ) (number byte : ℕ) : Type 0 where
  pub records : List LogRecord
  pub rest : List ℕ
  pub so_far : IsRead bytes records rest
  pub damaged : next (link_behind records) rest ≡ Damaged
  pub number_is : number ≡ length records
  pub place : byte + length rest ≡ length bytes + 8

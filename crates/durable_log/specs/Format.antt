-- The bytes of a file after its header: records, each on a line of its own after a gate.
use Rattle.std.specs.Prelude.{ℕ, zero, suc, ◌+◌, ◌*◌, ◌/◌, ◌%◌, ◌^◌, ◌==◌, ◌&&◌, ◌||◌, nat_lt, List, [], ◌∷◌, ◌++◌, length, get_or, take, drop, Bool, true, false, if◌then◌else◌}
use Rattle.crc32c.specs.Check.{check_after}
use Rattle.durable_log.specs.declared.link.Link.{Link}
pub use Rattle.crc32c.specs.Check.{check_of}

-- A RECORD: its mark, which is one byte, its line, and the check of the reply to that line
pub record LogRecord : Type 0 where
  pub mark : ℕ
  pub line : List ℕ
  pub reply_check : ℕ

-- Numbers

-- a written hexadecimal digit, in lower case
abbrev pub digit : ℕ → ℕ
digit d = if nat_lt d 10 then 48 + d else 87 + d

-- a number of 16 bits as four digits, the highest first
abbrev pub half_digits : ℕ → List ℕ
half_digits n = digit (n / 4096 % 16) ∷ digit (n / 256 % 16) ∷ digit (n / 16 % 16) ∷ digit (n % 16) ∷ []

-- a number of 32 bits as eight digits
abbrev pub digits : ℕ → List ℕ
digits n = half_digits (n / 65536) ++ half_digits (n % 65536)

-- a column: a number and a space, with the bytes after them
abbrev pub column : ℕ → List ℕ → List ℕ
column n rest = digits n ++ 32 ∷ rest

-- Links

-- the bytes that the check of a record covers: its mark, the written check of its reply, and its line
abbrev pub covered : LogRecord → List ℕ
covered r = r.mark ∷ (digits r.reply_check ++ r.line)

-- THE CHECK OF A RECORD: CRC-32C, begun from the check of the record before it
abbrev pub record_check : Link → LogRecord → ℕ
record_check link r = check_after link.check (covered r)

-- the link of a record to the next: the next number, modulo 2^32, and its check
abbrev pub link_after : Link → LogRecord → Link
link_after link r = record { number = (link.number + 1) % 2 ^ 32; check = record_check link r }

-- the link of records to the next
abbrev pub links_after : Link → List LogRecord → Link
links_after link [] = link
links_after link (r ∷ records) = links_after (link_after link r) records

-- Writing

-- the columns of a record: its mark, the length of its line twice, its number, its check, and the check of its reply
abbrev pub columns : ℕ → ℕ → ℕ → ℕ → ℕ → List ℕ → List ℕ
columns mark n number check reply_check rest = 32 ∷ mark ∷ 32 ∷ column n (column n (column number (column check (column reply_check rest))))

-- the bytes of a record after its gate: its columns, its line and a line feed
abbrev pub frame : Link → LogRecord → List ℕ
frame link r = columns r.mark (length r.line) link.number (record_check link r) r.reply_check (r.line ++ 10 ∷ [])

-- a gate is open if two of its bytes are 1's, so that one changed byte shuts no gate
abbrev pub is_open : ℕ → ℕ → ℕ → Bool
is_open a b c = if a == 49 then b == 49 || c == 49 else b == 49 && c == 49

-- records, each after an open gate
abbrev pub blocks : Link → List LogRecord → List ℕ
blocks link [] = []
blocks link (r ∷ records) = 49 ∷ 49 ∷ 49 ∷ (frame link r ++ blocks (link_after link r) records)

-- a shut gate
abbrev pub shut : List ℕ
shut = 48 ∷ 48 ∷ 48 ∷ []

-- the seal: the gate at the end of a log whose last run ended well. It is shut, too
abbrev pub seal : List ℕ
seal = 115 ∷ 115 ∷ 115 ∷ []

-- Reading

-- the value of a byte as a digit; a byte that is no digit has some value, too
abbrev pub value : ℕ → ℕ
value b = if nat_lt b 97 then b % 16 else (b + 9) % 16

-- the value of four bytes
abbrev pub half : ℕ → ℕ → ℕ → ℕ → ℕ
half a b c d = ((value a * 16 + value b) * 16 + value c) * 16 + value d

-- whether these are the digits of the number
abbrev pub is_half : ℕ → ℕ → ℕ → ℕ → ℕ → Bool
is_half n a b c d = a == digit (n / 4096 % 16) && (b == digit (n / 256 % 16) && (c == digit (n / 16 % 16) && d == digit (n % 16)))

-- whether these are eight digits with these values, and a space
abbrev pub is_column : ℕ → ℕ → ℕ → ℕ → ℕ → ℕ → ℕ → ℕ → ℕ → ℕ → ℕ → Bool
is_column high low a b c d e f g h space = is_half high a b c d && (is_half low e f g h && space == 32)

-- a column, if there is one
pub data Column : Type 0 where
  Absent : Column
  Number : ℕ → List ℕ → Column

abbrev pub column_by : ℕ → ℕ → ℕ → ℕ → ℕ → ℕ → ℕ → ℕ → ℕ → ℕ → ℕ → List ℕ → Column
column_by high low a b c d e f g h space rest = if is_column high low a b c d e f g h space then Number (high * 65536 + low) rest else Absent

abbrev pub column_of : List ℕ → Column
column_of (a ∷ b ∷ c ∷ d ∷ e ∷ f ∷ g ∷ h ∷ space ∷ rest) = column_by (half a b c d) (half e f g h) a b c d e f g h space rest
column_of short = Absent

-- the most bytes that a batch may have, which is written at once after the gate at the end
abbrev pub max_batch : ℕ
max_batch = 2 ^ 25 + 128

-- the contents of a place: the end; or damage, as bytes after an open gate that are no record; or a record, its link
-- to the next, and the bytes after it
pub data Next : Type 0 where
  End : Next
  Damaged : Next
  Found : LogRecord → Link → List ℕ → Next

abbrev pub record_by : ℕ → List ℕ → ℕ → LogRecord
record_by mark line reply_check = record { mark = mark; line = line; reply_check = reply_check }

-- whether the line has its line feed and its check
abbrev pub fits : Link → ℕ → ℕ → ℕ → ℕ → List ℕ → Bool
fits link mark n check reply_check body =
    nat_lt n (length body) && (get_or body n 0 == 10 && record_check link (record_by mark (take n body) reply_check) == check)

-- a record, its link to the next, and the bytes after it
abbrev pub found : Link → LogRecord → List ℕ → Next
found link r rest = Found r (link_after link r) rest

-- a record whose columns were read, and its line and what follows it are at hand
abbrev pub record_in : Link → ℕ → ℕ → ℕ → ℕ → List ℕ → Next
record_in link mark n check reply_check body =
    if fits link mark n check reply_check body then found link (record_by mark (take n body) reply_check) (drop (n + 1) body) else Damaged

-- the columns one by one, from the last: the check of the reply, the check, the number, and the length twice
abbrev pub with_reply_check : Link → ℕ → ℕ → ℕ → Column → Next
with_reply_check link mark n check Absent = Damaged
with_reply_check link mark n check (Number reply_check body) = record_in link mark n check reply_check body

abbrev pub with_check : Link → ℕ → ℕ → Column → Next
with_check link mark n Absent = Damaged
with_check link mark n (Number check rest) = with_reply_check link mark n check (column_of rest)

abbrev pub with_number : Link → ℕ → ℕ → Column → Next
with_number link mark n Absent = Damaged
with_number link mark n (Number number rest) = if number == link.number then with_check link mark n (column_of rest) else Damaged

abbrev pub with_again : Link → ℕ → ℕ → Column → Next
with_again link mark n Absent = Damaged
with_again link mark n (Number again rest) = if again == n then with_number link mark n (column_of rest) else Damaged

abbrev pub with_length : Link → ℕ → Column → Next
with_length link mark Absent = Damaged
with_length link mark (Number n rest) = with_again link mark n (column_of rest)

-- an open gate with nothing after it counts as the end, since a crash may leave it
abbrev pub after_front : Link → List ℕ → Next
after_front link [] = End
after_front link (space ∷ mark ∷ also ∷ rest) = if space == 32 && also == 32 then with_length link mark (column_of rest) else Damaged
after_front link short = Damaged

-- a gate, if three bytes are there
pub data Gate : Type 0 where
  NoGate : Gate
  Behind : Bool → List ℕ → Gate

abbrev pub gate_of : List ℕ → Gate
gate_of (a ∷ b ∷ c ∷ rest) = Behind (is_open a b c) rest
gate_of short = NoGate

-- A shut gate ends the records. A crash leaves no more bytes after it than those of one batch.
abbrev pub after_shut : List ℕ → Next
after_shut rest = if nat_lt max_batch (length rest) then Damaged else End

abbrev pub after_gate : Link → Gate → Next
after_gate link NoGate = End
after_gate link (Behind false rest) = after_shut rest
after_gate link (Behind true rest) = after_front link rest

unfoldable pub next : Link → List ℕ → Next
next link bytes = after_gate link (gate_of bytes)

-- the records up to the first gate that is not open, and whether all records after open gates are whole
pub record Reading : Type 0 where
  pub records : List LogRecord
  pub sound : Bool

abbrev pub whole : List LogRecord → Reading
whole records = record { records = records; sound = true }

abbrev pub with_record : LogRecord → Reading → Reading
with_record r reading = record { records = r ∷ reading.records; sound = reading.sound }

abbrev pub then_read : (Link → List ℕ → Reading) → Next → Reading
then_read more End = whole []
then_read more Damaged = record { records = []; sound = false }
then_read more (Found r link rest) = with_record r (more link rest)

-- the reading of at most `n` records
abbrev pub read_within : ℕ → Link → List ℕ → Reading
read_within zero link bytes = whole []
read_within (suc n) link bytes = then_read (read_within n) (next link bytes)

-- THE READING OF BYTES AFTER RECORDS with this link to the next
unfoldable pub read : Link → List ℕ → Reading
read link bytes = read_within (length bytes) link bytes

-- a reading, with records before it
abbrev pub prepended : List LogRecord → Reading → Reading
prepended records reading = record { records = records ++ reading.records; sound = reading.sound }

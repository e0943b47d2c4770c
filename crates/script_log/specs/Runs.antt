-- The replies of an engine to lines, and the records of these lines in its log.
use Rattle.std.specs.Prelude.{ℕ, ◌≡◌, ◌==◌, ◌||◌, List, [], ◌∷◌, ◌++◌, length, Bool, if◌then◌else◌}
use Rattle.durable_log.specs.Format.{LogRecord, check_of}
use Rattle.script_log.specs.declared.mark.TheConstants.{CATALOGUE_MARK, BASE_MARK, OPERATION_MARK}

-- the history that an engine represents: the catalogue's line, the lines of the base, and the recorded lines
pub record History : Type 0 where
  pub catalogue : List ℕ
  pub base : List (List ℕ)
  pub lines : List (List ℕ)

-- THE MEANING OF AN ENGINE: whether it records a line after a history, and its reply to the line
pub record Answering : Type 0 where
  pub keeps : History → List ℕ → Bool
  pub reply : History → List ℕ → List ℕ

abbrev pub answering : (History → List ℕ → Bool) → (History → List ℕ → List ℕ) → Answering
answering keeps reply = record { keeps = keeps; reply = reply }

-- the history after a line: it grows if the line is recorded
abbrev pub after : (History → List ℕ → Bool) → History → List ℕ → History
after keeps h line = if keeps h line then record h { lines = h.lines ++ line ∷ [] } else h

-- the history after lines, one after another
abbrev pub after_all : (History → List ℕ → Bool) → History → List (List ℕ) → History
after_all keeps h [] = h
after_all keeps h (line ∷ lines) = after_all keeps (after keeps h line) lines

-- the replies to lines, one after another
abbrev pub replies : (History → List ℕ → Bool) → (History → List ℕ → List ℕ) → History → List (List ℕ) → List ℕ
replies keeps reply h [] = []
replies keeps reply h (line ∷ lines) = reply h line ++ replies keeps reply (after keeps h line) lines

-- the record of a catalogue, which has no reply
abbrev pub catalogue_record : List ℕ → LogRecord
catalogue_record text = record { mark = CATALOGUE_MARK; line = text; reply_check = 0 }

-- the record of a line of the base, which has no reply
abbrev pub base_record : List ℕ → LogRecord
base_record line = record { mark = BASE_MARK; line = line; reply_check = 0 }

-- the record of a line, with the check of its reply
abbrev pub line_record : List ℕ → List ℕ → LogRecord
line_record line reply = record { mark = OPERATION_MARK; line = line; reply_check = check_of reply }

-- the record of a line, if the line is recorded
abbrev pub records_of_line : (History → List ℕ → Bool) → (History → List ℕ → List ℕ) → History → List ℕ → List LogRecord
records_of_line keeps reply h line = if keeps h line then line_record line (reply h line) ∷ [] else []

-- the records of lines, one after another
abbrev pub records_of_lines : (History → List ℕ → Bool) → (History → List ℕ → List ℕ) → History → List (List ℕ) → List LogRecord
records_of_lines keeps reply h [] = []
records_of_lines keeps reply h (line ∷ lines) = records_of_line keeps reply h line ++ records_of_lines keeps reply (after keeps h line) lines

-- whether a record is a catalogue
abbrev pub is_catalogue : LogRecord → Bool
is_catalogue r = r.mark == CATALOGUE_MARK

-- whether a record is one of the base
abbrev pub is_base : LogRecord → Bool
is_base r = r.mark == BASE_MARK

-- whether a record has no reply: a catalogue, or one of the base
abbrev pub has_no_reply : LogRecord → Bool
has_no_reply r = is_catalogue r || is_base r

-- the recorded lines: those of all records that have a reply
abbrev pub kept_lines : List LogRecord → List (List ℕ)
kept_lines [] = []
kept_lines (r ∷ records) = if has_no_reply r then kept_lines records else r.line ∷ kept_lines records

-- the lines of the base
abbrev pub base_lines : List LogRecord → List (List ℕ)
base_lines [] = []
base_lines (r ∷ records) = if is_base r then r.line ∷ base_lines records else base_lines records

-- the text of the last catalogue among records, or the given text if there is none
abbrev pub last_catalogue : List ℕ → List LogRecord → List ℕ
last_catalogue known [] = known
last_catalogue known (r ∷ records) = last_catalogue (if is_catalogue r then r.line else known) records

-- the history of records: the last catalogue, the lines of the base, and those of all other records
abbrev pub history_of : List LogRecord → History
history_of records = record { catalogue = last_catalogue [] records; base = base_lines records; lines = kept_lines records }

-- one of the records, with its number, counted from 0
pub record IsRecordAt (records : List LogRecord) (number : ℕ) : Type 0 where
  pub before : List LogRecord
  pub entry : LogRecord
  pub others : List LogRecord
  pub split : before ++ entry ∷ others ≡ records
  pub place : number ≡ length before

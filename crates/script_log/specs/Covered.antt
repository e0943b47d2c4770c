-- The outcomes of a crash during a run.
use Rattle.std.specs.Prelude.{ℕ, ◌≡◌, List, ◌++◌, Bool}
use Rattle.durable_log.specs.Format.{LogRecord}
use Rattle.durable_log.specs.Files.{StandsFor}
use Rattle.script_log.specs.Runs.{History, replies, records_of_lines, history_of}

-- after the bytes heard before, a beginning of the text was heard
abbrev pub Hears : List ℕ → List ℕ → List ℕ → Type 0
Hears heard text o = (front : List ℕ) × (rest : List ℕ) × (front ++ rest ≡ text) × (o ≡ heard ++ front)

-- THE OUTCOMES OF A CRASH: the file has the records from before and those of the first of the lines, and the
-- bytes heard since then are a beginning of the replies to those lines
pub record Covered (keeps : History → List ℕ → Bool) (reply : History → List ℕ → List ℕ) (records : List LogRecord) (lines : List (List ℕ)) (heard file o : List ℕ) : Type 0 where
  pub done : List (List ℕ)
  pub others : List (List ℕ)
  pub first : done ++ others ≡ lines
  pub stands : StandsFor (records ++ records_of_lines keeps reply (history_of records) done) file
  pub answers : Hears heard (replies keeps reply (history_of records) done) o

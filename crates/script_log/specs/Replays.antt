-- Replying to the lines of a log again.
use Rattle.std.specs.Prelude.{ℕ, ◌≡◌, List, [], ◌∷◌, ◌++◌, Bool, true, false, if◌then◌else◌}
use Rattle.durable_log.specs.Format.{LogRecord, check_of}
use Rattle.script_log.specs.Runs.{History, has_no_reply, kept_lines, base_lines, IsRecordAt}
use Rattle.script_log.specs.declared.replays.ReplayFault.{ReplayFault}
use Rattle.script_log.specs.declared.replays.ReplayFault.TheVariants as faults

-- the history with the line of a record; a record that has no reply adds no line
abbrev pub with_line : History → LogRecord → History
with_line h r = if has_no_reply r then h else record h { lines = h.lines ++ r.line ∷ [] }

-- the history with the lines of records, one after another
abbrev pub with_lines : History → List LogRecord → History
with_lines h records = record h { lines = h.lines ++ kept_lines records }

-- the history before the lines of records, for an engine that was made from this catalogue and their base
abbrev pub begun : List ℕ → List LogRecord → History
begun catalogue records = record { catalogue = catalogue; base = base_lines records; lines = [] }

-- the history after them
abbrev pub replayed : List ℕ → List LogRecord → History
replayed catalogue records = record { catalogue = catalogue; base = base_lines records; lines = kept_lines records }

module _ (keeps : History → List ℕ → Bool) (reply : History → List ℕ → List ℕ) where
  -- a record matches a history: its line is recorded after the history, and its reply has the check; a
  -- record that has no reply always matches
  abbrev pub IsAlikeBy : Bool → History → LogRecord → Type 0
  IsAlikeBy true h r = Unit {0}
  IsAlikeBy false h r = (keeps h r.line ≡ true) × (check_of (reply h r.line) ≡ r.reply_check)

  abbrev pub IsAlike : History → LogRecord → Type 0
  IsAlike h r = IsAlikeBy (has_no_reply r) h r

  -- each record matches the history of those before it
  abbrev pub AreAlike : History → List LogRecord → Type 0
  AreAlike h [] = Unit {0}
  AreAlike h (r ∷ records) = IsAlike h r × AreAlike (with_line h r) records

  -- the meaning of the result whether a record matches
  abbrev pub AnswersAlike : History → LogRecord → (History → Type 0) → Bool → Type 0
  AnswersAlike h r stands true = IsAlike h r × stands (with_line h r)
  AnswersAlike h r stands false = IsAlike h r → ⊥

  -- the record with this number, counted from 0, is the first that doesn't match
  pub record IsOtherReply (catalogue : List ℕ) (records : List LogRecord) (number : ℕ) : Type 0 where
    pub at : IsRecordAt records number
    pub alike : AreAlike (begun catalogue records) at.before
    pub differs : IsAlike (with_lines (begun catalogue records) at.before) at.entry → ⊥

  -- the reason why the lines of records could not be replied to again
  abbrev pub IsReplayFault : List ℕ → List LogRecord → ReplayFault → Type 0
  IsReplayFault catalogue records (faults.OtherReply number) = IsOtherReply catalogue records number
  IsReplayFault catalogue records faults.OutOfMemory = Unit {0}

-- Passing on the waiting records and replies.
use Rattle.std.specs.Prelude.{ℕ, ◌≡◌, ◌⊎◌, List, [], ◌++◌}
use Rattle.log_host.specs.Host.{Outcomes}
use Rattle.durable_log.specs.Format.{LogRecord}
use Rattle.durable_log.specs.Files.{StandsFor}
use Rattle.durable_log.specs.Logs.{records_of, waiting_in}
use Rattle.durable_log.specs.declared.log.Log.{Log}
use Rattle.script_log.specs.Covered.{Hears}

-- the records on the disk, the waiting records, the bytes that the listener has heard, and the waiting text
pub record Standing : Type 0 where
  pub records : List LogRecord
  pub waits : List LogRecord
  pub heard : List ℕ
  pub text : List ℕ

abbrev pub standing : {D : Type 0} (seen heard : D → List ℕ) → Log D → List ℕ → Standing
standing seen heard log text = record { records = records_of (seen log.host); waits = waiting_in log; heard = heard log.host; text = text }

-- the outcomes of a crash meanwhile: nothing was passed on; or all records were, and a beginning of the text
-- was heard
abbrev pub Passing : Standing → Outcomes
Passing s file o = (StandsFor s.records file × (o ≡ s.heard)) ⊎ (StandsFor (s.records ++ s.waits) file × Hears s.heard s.text o)

-- all records and a beginning of the text were passed on
pub record AreOnDisk (before after : Standing) : Type 0 where
  pub records : after.records ≡ before.records ++ before.waits
  pub waits : after.waits ≡ []
  pub front : List ℕ
  pub text : front ++ after.text ≡ before.text
  pub heard : after.heard ≡ before.heard ++ front

-- nothing was passed on; or all records and a beginning of the text were
abbrev pub IsPassedOn : Standing → Standing → Type 0
IsPassedOn before after = (after ≡ before) ⊎ AreOnDisk before after

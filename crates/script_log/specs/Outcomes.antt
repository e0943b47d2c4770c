-- The replies of a run.
use Rattle.std.specs.Prelude.{ℕ, ◌≡◌, ◌≤◌, List, ◌++◌, length, Result, OnOk, IfErr, Ok, Err}
use Rattle.script_lines.specs.Lines.{LinesRead, complete_lines}
use Rattle.script_log.specs.Runs.{Answering, replies, records_of_lines, history_of}
use Rattle.script_log.specs.Hosts.{State, Account, account_of}
use Rattle.script_log.specs.Reading.{Reading, lines_in, HasReadAll}
use Rattle.script_log.specs.Faults.{HasCause}
use Rattle.script_log.specs.declared.fault.RunFault.{RunFault}
use Rattle.script_log.specs.declared.fault.RunFault.TheVariants as faults

-- the account after the replies to these lines
pub record AreAnswered (e : Answering) (old : Account) (lines : List (List ℕ)) (new : Account) : Type 0 where
  pub records_are : new.records ≡ old.records ++ records_of_lines e.keeps e.reply (history_of old.records) lines
  pub heard_is : new.heard ≡ old.heard ++ replies e.keeps e.reply (history_of old.records) lines

-- these are the last of the lines
abbrev pub AreLastOf : List (List ℕ) → List (List ℕ) → Type 0
AreLastOf others lines = (first : List (List ℕ)) × (first ++ others ≡ lines)

-- the lines behind these: at most one is not at hand any more
pub record AreLeft (done : List (List ℕ)) (x : Reading) : Type 0 where
  pub wants : List (List ℕ)
  pub one : length wants ≤ 1
  pub others : List (List ℕ)
  pub split : done ++ (wants ++ others) ≡ lines_in x
  pub at_hand : AreLastOf others (complete_lines x.left.ended x.left.bytes)

-- WANT OF MEMORY: the lines before the one that wanted memory have had their replies. Of the others, at most
-- that one is not at hand any more
pub record HasWanted (e : Answering) (old : Account) (x : Reading) (new : Account) : Type 0 where
  pub done : List (List ℕ)
  pub answered : AreAnswered e old done new
  pub left : AreLeft done x

-- how a run ends
abbrev pub Ending : Type 0
Ending = Result Unit RunFault

module _ (e : Answering) (old : Account) (x : Reading) (new : Account) where
  -- the lines that have had their replies, by the result of a run: all, or with want of memory those before it;
  -- after a failure of the file or of the listener this is unspecified
  abbrev pub HasAnswered : Ending → Type 0
  HasAnswered (Ok u) = AreAnswered e old (lines_in x) new
  HasAnswered (Err faults.Read) = AreAnswered e old (lines_in x) new
  HasAnswered (Err faults.OutOfMemory) = HasWanted e old x new
  HasAnswered (Err fault) = Unit {0}

-- a run to an account and a state, by its result: what was read, the replies, and the cause of a fault
pub record RunsTo (e : Answering) (old : State) (x : Reading) (now : Account) (new : State) (result : Ending) : Type 0 where
  pub read : LinesRead x.from x.to x.before x.left
  pub answered : HasAnswered e (account_of old) x now result
  pub ended : OnOk result (HasReadAll x)
  pub cause : IfErr result (HasCause e old x new)

-- A RUN, by its result
abbrev pub HasRun : Answering → State → Reading → State → Ending → Type 0
HasRun e old x new result = RunsTo e old x (account_of new) new result

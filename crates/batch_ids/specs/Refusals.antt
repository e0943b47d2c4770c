-- The refusals' numbers and names.
use Rattle.std.specs.Prelude.{ℕ, Bool, true, false, List, codes}
use Rattle.batch_ids.specs.declared.refusal.Refusal.{Refusal}
use Rattle.batch_ids.specs.declared.refusal.Refusal.TheVariants.{JobStartException, NoSuchJobException, NoSuchJobInstanceException, NoSuchJobExecutionException, JobExecutionNotRunningException, JobExecutionIsRunningException, JobExecutionAlreadyCompleteException, JobExecutionNotMostRecentException, JobRestartException, NoSuchWork, WorkNotRunning, NotClaimer, NotStopping, WrongOutcome, TextTooLong, RepositoryFull, OutOfMemory}

-- the number of a refusal
abbrev pub refusal_number : Refusal → ℕ
refusal_number JobStartException = 1
refusal_number NoSuchJobException = 2
refusal_number NoSuchJobInstanceException = 3
refusal_number NoSuchJobExecutionException = 4
refusal_number JobExecutionNotRunningException = 5
refusal_number JobExecutionIsRunningException = 6
refusal_number JobExecutionAlreadyCompleteException = 7
refusal_number JobExecutionNotMostRecentException = 8
refusal_number JobRestartException = 9
refusal_number NoSuchWork = 10
refusal_number WorkNotRunning = 11
refusal_number NotClaimer = 12
refusal_number NotStopping = 13
refusal_number WrongOutcome = 14
refusal_number TextTooLong = 15
refusal_number RepositoryFull = 16
refusal_number OutOfMemory = 18

-- the printed name of a refusal
abbrev pub refusal_name : Refusal → List ℕ
refusal_name JobStartException = codes "JobStartException"
refusal_name NoSuchJobException = codes "NoSuchJobException"
refusal_name NoSuchJobInstanceException = codes "NoSuchJobInstanceException"
refusal_name NoSuchJobExecutionException = codes "NoSuchJobExecutionException"
refusal_name JobExecutionNotRunningException = codes "JobExecutionNotRunningException"
refusal_name JobExecutionIsRunningException = codes "JobExecutionIsRunningException"
refusal_name JobExecutionAlreadyCompleteException = codes "JobExecutionAlreadyCompleteException"
refusal_name JobExecutionNotMostRecentException = codes "JobExecutionNotMostRecentException"
refusal_name JobRestartException = codes "JobRestartException"
refusal_name NoSuchWork = codes "NoSuchWork"
refusal_name WorkNotRunning = codes "WorkNotRunning"
refusal_name NotClaimer = codes "NotClaimer"
refusal_name NotStopping = codes "NotStopping"
refusal_name WrongOutcome = codes "WrongOutcome"
refusal_name TextTooLong = codes "TextTooLong"
refusal_name RepositoryFull = codes "RepositoryFull"
refusal_name OutOfMemory = codes "OutOfMemory"

-- whether memory was refused
abbrev pub is_out_of_memory : Refusal → Bool
is_out_of_memory JobStartException = false
is_out_of_memory NoSuchJobException = false
is_out_of_memory NoSuchJobInstanceException = false
is_out_of_memory NoSuchJobExecutionException = false
is_out_of_memory JobExecutionNotRunningException = false
is_out_of_memory JobExecutionIsRunningException = false
is_out_of_memory JobExecutionAlreadyCompleteException = false
is_out_of_memory JobExecutionNotMostRecentException = false
is_out_of_memory JobRestartException = false
is_out_of_memory NoSuchWork = false
is_out_of_memory WorkNotRunning = false
is_out_of_memory NotClaimer = false
is_out_of_memory NotStopping = false
is_out_of_memory WrongOutcome = false
is_out_of_memory TextTooLong = false
is_out_of_memory RepositoryFull = false
is_out_of_memory OutOfMemory = true

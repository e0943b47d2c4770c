use Rattle.logged_script.proofs.Standing.{begun_at, kept_at, legal_at, reply_after, rows_of_log}
use Rattle.logged_script.proofs.law.logs_stand_for_legal_histories.Goals as goal

pub returns-clause-begun : goal.returns-clause-begun
returns-clause-begun c = begun_at

pub returns-clause-legal : goal.returns-clause-legal
returns-clause-legal c = legal_at

pub returns-clause-rows : goal.returns-clause-rows
returns-clause-rows c = rows_of_log

pub returns-clause-kept : goal.returns-clause-kept
returns-clause-kept c = kept_at

pub returns-clause-reply : goal.returns-clause-reply
returns-clause-reply c = reply_after

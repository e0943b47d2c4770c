use Rattle.batch_ids.proofs.LastGiven.{last-counts, one-given, rising-given}
use Rattle.batch_ids.proofs.law.the_value_given_last_counts.Goals as goal

pub returns-clause-values : goal.returns-clause-values
returns-clause-values c = last-counts

pub returns-clause-rising : goal.returns-clause-rising
returns-clause-rising c = rising-given

pub returns-clause-alone : goal.returns-clause-alone
returns-clause-alone c = one-given

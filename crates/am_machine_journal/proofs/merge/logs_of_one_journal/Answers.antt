use Rattle.am_machine_journal.proofs.OneJournal.{are_one, merged_is}
use Rattle.am_machine_journal.proofs.merge.logs_of_one_journal.Goals as goal

pub returns-clause-one : goal.returns-clause-one
returns-clause-one c = are_one

pub returns-clause-merged : goal.returns-clause-merged
returns-clause-merged c = merged_is

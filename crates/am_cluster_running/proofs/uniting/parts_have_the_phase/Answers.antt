use Rattle.am_cluster_running.proofs.Unite.{are_a_phase, have_all_logs, keep_calls, no_journal}
use Rattle.am_cluster_running.proofs.uniting.parts_have_the_phase.Goals as goal

pub returns-clause-journal : goal.returns-clause-journal
returns-clause-journal c = have_all_logs

pub returns-clause-good : goal.returns-clause-good
returns-clause-good c = are_a_phase

pub returns-clause-calls : goal.returns-clause-calls
returns-clause-calls c = keep_calls

pub returns-clause-none : goal.returns-clause-none
returns-clause-none c = no_journal

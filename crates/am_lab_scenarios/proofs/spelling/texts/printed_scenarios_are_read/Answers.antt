use Rattle.am_lab_scenarios.proofs.Spelled.{printed_is_read, printed_run_is_read}
use Rattle.am_lab_scenarios.proofs.spelling.texts.printed_scenarios_are_read.Goals as goal

pub returns-clause-scenarios : goal.returns-clause-scenarios
returns-clause-scenarios c = printed_is_read

pub returns-clause-runs : goal.returns-clause-runs
returns-clause-runs c = printed_run_is_read

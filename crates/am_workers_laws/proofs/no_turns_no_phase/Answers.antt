use Rattle.am_workers_laws.proofs.EndsDone.{empty_is_a_phase, no_turns_no_phase}
use Rattle.am_workers_laws.proofs.no_turns_no_phase.Goals as goal

pub returns-clause-none : goal.returns-clause-none
returns-clause-none c = no_turns_no_phase

pub returns-clause-good : goal.returns-clause-good
returns-clause-good c = empty_is_a_phase

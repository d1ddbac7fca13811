use Rattle.am_lab_scenarios.proofs.Replayed.{replay_is_read, steps_are_events}
use Rattle.am_lab_scenarios.proofs.Ranges.{replayable}
use Rattle.am_lab_scenarios.proofs.spelling.replay.replays_are_read.Goals as goal

pub returns-clause-read : goal.returns-clause-read
returns-clause-read c = replay_is_read

pub returns-clause-steps : goal.returns-clause-steps
returns-clause-steps c = steps_are_events

pub returns-clause-histories : goal.returns-clause-histories
returns-clause-histories c = replayable

use Rattle.am_lab_scenarios.proofs.Histories.{histories_stay, unstopped_stay}
use Rattle.am_lab_scenarios.proofs.Telling.{tells_the_same}
use Rattle.am_lab_scenarios.proofs.replays.callers_change_nothing.Goals as goal

pub returns-clause-history : goal.returns-clause-history
returns-clause-history c = histories_stay

pub returns-clause-unstopped : goal.returns-clause-unstopped
returns-clause-unstopped c = unstopped_stay

pub returns-clause-told : goal.returns-clause-told
returns-clause-told c = tells_the_same

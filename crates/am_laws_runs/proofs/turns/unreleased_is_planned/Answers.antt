use Rattle.am_laws_runs.proofs.Withheld.{unreleased_is_planned}
use Rattle.am_laws_runs.proofs.turns.unreleased_is_planned.Goals as goal

pub returns : goal.returns
returns c = unreleased_is_planned

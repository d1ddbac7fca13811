use Rattle.am_laws_runs.proofs.Drained.{cut_offs_are_short}
use Rattle.am_laws_runs.proofs.cut_offs_are_short.Goals as goal

pub returns : goal.returns
returns c = cut_offs_are_short

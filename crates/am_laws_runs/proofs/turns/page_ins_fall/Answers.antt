use Rattle.am_laws_runs.proofs.Falling.{page_ins_fall}
use Rattle.am_laws_runs.proofs.turns.page_ins_fall.Goals as goal

pub returns : goal.returns
returns c = page_ins_fall

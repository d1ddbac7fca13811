use Rattle.am_laws_runs.proofs.Enabled.{page_ins_may_follow}
use Rattle.am_laws_runs.proofs.turns.page_ins_may_follow.Goals as goal

pub returns : goal.returns
returns c = page_ins_may_follow

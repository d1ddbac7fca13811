use Rattle.am_main_run.proofs.CountsOneAnswer as law
use Rattle.am_main_run.proofs.counts.laws.counts_have_one_answer.Goals as goal

pub returns : goal.returns
returns c = law.counts_have_one_answer

use Rattle.am_library.proofs.Lawful.{each_run_has_one_reply}
use Rattle.am_library.proofs.laws.each_run_has_one_reply.Goals as goal

pub returns : goal.returns
returns c = each_run_has_one_reply

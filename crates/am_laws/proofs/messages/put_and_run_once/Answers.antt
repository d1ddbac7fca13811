use Rattle.am_laws.proofs.Delivered as laws
use Rattle.am_laws.proofs.messages.put_and_run_once.Goals as goal

pub returns : goal.returns
returns c = laws.put_and_run_once

use Rattle.am_lab.proofs.Statuses as statuses
use Rattle.am_lab.proofs.laws.answers_say.Goals as goal

pub returns : goal.returns
returns c = record { taken = statuses.taken; ends = statuses.ends; read_fault = statuses.read_fault; too_long = statuses.too_long_told }

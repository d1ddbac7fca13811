use Rattle.am_model_parts.proofs.Growing.{reads_own}
use Rattle.am_model_parts.proofs.readings_are_own.Goals as goal

pub returns : goal.returns
returns c = reads_own

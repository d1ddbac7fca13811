use Rattle.am_model_parts.proofs.Numbering.{next_emitted}
use Rattle.am_model_parts.proofs.emission_is_next.Goals as goal

pub returns : goal.returns
returns c = next_emitted

use Rattle.am_model_parts.proofs.Growing.{readings_push}
use Rattle.am_model_parts.proofs.readings_grow.Goals as goal

pub returns : goal.returns
returns c = readings_push

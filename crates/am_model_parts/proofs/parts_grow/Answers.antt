use Rattle.am_model_parts.proofs.Following.{parts_push}
use Rattle.am_model_parts.proofs.parts_grow.Goals as goal

pub returns : goal.returns
returns c = parts_push

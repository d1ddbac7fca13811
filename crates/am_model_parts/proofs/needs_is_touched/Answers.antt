use Rattle.am_model_parts.proofs.Touched.{needs_touched}
use Rattle.am_model_parts.proofs.needs_is_touched.Goals as goal

pub returns : goal.returns
returns c = needs_touched

use Rattle.am_model_parts.proofs.Granting.{bind_emission}
use Rattle.am_model_parts.proofs.Touched.{emission_told}
use Rattle.am_model_parts.proofs.emission_is_told.Goals as goal

pub returns-clause-others : goal.returns-clause-others
returns-clause-others c = emission_told

pub returns-clause-bind : goal.returns-clause-bind
returns-clause-bind c = bind_emission

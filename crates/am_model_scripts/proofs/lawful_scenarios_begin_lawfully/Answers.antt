use Rattle.am_model_scripts.proofs.Lawful.{lawful_layout}
use Rattle.am_model_scripts.proofs.lawful_scenarios_begin_lawfully.Goals as goal

pub returns : goal.returns
returns c = lawful_layout

use Rattle.am_model_parts.proofs.Settings.{interface_there, driver_there}
use Rattle.am_model_parts.proofs.parts_are_there.Goals as goal

pub returns-clause-interface : goal.returns-clause-interface
returns-clause-interface c = interface_there

pub returns-clause-driver : goal.returns-clause-driver
returns-clause-driver c = driver_there

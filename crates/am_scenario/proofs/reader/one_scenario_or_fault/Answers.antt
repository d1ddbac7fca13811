use Rattle.am_scenario.proofs.Lawfully.{exactly_one, spells_lawful}
use Rattle.am_scenario.proofs.reader.one_scenario_or_fault.Goals as goal

pub returns-clause-one : goal.returns-clause-one
returns-clause-one c = exactly_one

pub returns-clause-lawful : goal.returns-clause-lawful
returns-clause-lawful c = spells_lawful

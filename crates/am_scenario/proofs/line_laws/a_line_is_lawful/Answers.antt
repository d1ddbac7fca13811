use Rattle.am_scenario.proofs.Calling.{lines_are_lawful}
use Rattle.am_scenario.proofs.line_laws.a_line_is_lawful.Goals as goal

pub returns : goal.returns
returns c = lines_are_lawful

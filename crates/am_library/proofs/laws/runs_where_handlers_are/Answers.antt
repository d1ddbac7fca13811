use Rattle.am_library.proofs.Lawful.{runs_where_handlers_are}
use Rattle.am_library.proofs.laws.runs_where_handlers_are.Goals as goal

pub returns : goal.returns
returns c = runs_where_handlers_are

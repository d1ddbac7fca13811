use Rattle.am_library.proofs.Growing.{scripts_grow}
use Rattle.am_library.proofs.laws.scripts_grow.Goals as goal

pub returns : goal.returns
returns c = scripts_grow

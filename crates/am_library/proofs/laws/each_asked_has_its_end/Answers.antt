use Rattle.am_library.proofs.Lawful.{each_asked_has_its_end}
use Rattle.am_library.proofs.laws.each_asked_has_its_end.Goals as goal

pub returns : goal.returns
returns c = each_asked_has_its_end

use Rattle.am_wire_release.proofs.Releasing.{held_more, numbers_leave, packets_leave}
use Rattle.am_wire_release.proofs.laws.stages_release_the_shape.Goals as goal

pub returns-clause-packets : goal.returns-clause-packets
returns-clause-packets c = packets_leave

pub returns-clause-numbers : goal.returns-clause-numbers
returns-clause-numbers c = numbers_leave

pub returns-clause-held : goal.returns-clause-held
returns-clause-held c = held_more

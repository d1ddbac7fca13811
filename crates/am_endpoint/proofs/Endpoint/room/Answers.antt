use Rattle.am_endpoint.proofs.Logged.{same_log}
use Rattle.am_endpoint.proofs.Endpoint.room.Goals as goal

pub invariant_of-self : goal.invariant_of-self
invariant_of-self c = same_log c.self.inside c.reserve.new.self c.reserve.ensures.items c.self.invariant

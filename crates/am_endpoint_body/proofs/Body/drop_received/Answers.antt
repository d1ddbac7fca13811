use Rattle.am_endpoint_body.proofs.Filed.{received_gone}
use Rattle.am_endpoint_body.proofs.Body.drop_received.Goals as goal

pub returns : goal.returns
returns c = received_gone c.self.inside c.args.self.now c.free_front.new.block c.self.view_is c.free_front.ensures.freed

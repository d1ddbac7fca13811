use Rattle.am_endpoint_body.proofs.Filed.{notices_view}
use Rattle.am_endpoint_body.proofs.Body.drop_notice.Goals as goal

pub returns : goal.returns
returns c = notices_view c.self.inside c.args.self.now c.free_front.new.block c.self.view_is c.free_front.ensures.freed

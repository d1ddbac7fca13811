use Rattle.am_endpoint_body.proofs.Filed.{notice_view}
use Rattle.am_endpoint_body.proofs.Body.add_notice.Goals as goal

pub returns : goal.returns
returns c = notice_view c.self.inside c.args.self.now c.file_free.new.block _ c.self.view_is c.self.invariant c.file_free.ensures.filed c.requires

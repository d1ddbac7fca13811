use Rattle.am_endpoint_body.proofs.Refiled.{flight_at, noticed_view}
use Rattle.am_endpoint_body.proofs.Body.notice_flight.Goals as goal

pub refile-requires : goal.refile-requires
refile-requires c = (flight_at c.args.serial c.self.inside c.args.self.now c.args.slot.0 c.self.view_is c.self.invariant c.requires).within

pub returns : goal.returns
returns c = noticed_view c.args.serial c.self.inside c.args.self.now c.args.slot.0 c.self.view_is c.self.invariant c.requires c.refile.new.block c.args.why
    c.refile.ensures.refiled

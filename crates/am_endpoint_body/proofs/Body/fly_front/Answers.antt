use Rattle.am_endpoint_body.proofs.Refiled.{flown_view, some_first}
use Rattle.am_endpoint_body.proofs.Body.fly_front.Goals as goal

pub unreachable-requires : goal.unreachable-requires
unreachable-requires c = some_first c.self.inside c.args.self.now c.self.view_is c.requires c.in-None.ensures.slot

pub returns : goal.returns
returns c = flown_view c.self.inside c.self.invariant c.args.self.now c.refile.new.block c.in-Some.slot.0 c.self.view_is c.in-Some.ensures.slot
    c.refile.ensures.refiled

use Rattle.am_endpoint_body.proofs.Refiled.{flight_at, requeued_view}
use Rattle.am_endpoint_body.proofs.Body.requeue_flight.Goals as goal

pub get-requires : goal.get-requires
get-requires c = (flight_at c.args.serial c.self.inside c.args.self.now c.args.slot.0 c.self.view_is c.self.invariant c.requires).within

pub refile-requires : goal.refile-requires
refile-requires c = (flight_at c.args.serial c.self.inside c.args.self.now c.args.slot.0 c.self.view_is c.self.invariant c.requires).within

pub returns : goal.returns
returns c =
    requeued_view c.args.serial c.self.inside c.args.self.now c.args.slot.0 c.self.view_is c.self.invariant c.requires c.refile.new.block c.args.bounces
    c.get.result.now c.queue_of-queue.result c.get.ensures c.queue_of-queue.ensures c.refile.ensures.refiled

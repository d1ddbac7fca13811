use Rattle.am_endpoint.specs.View.{state_after}
use Rattle.am_iface.proofs.Flown.{landed}
use Rattle.am_iface.proofs.with.settle.Goals as goal
use Rattle.am_model.specs.Changes.{settled_in}

pub returns-clause-flights : goal.returns-clause-flights
returns-clause-flights c =
    let e = c.args.endpoint.now in
    landed (settled_in c.args.entry.now.event c.args.entry.now.outcome) c.args.serial (state_after e).body.in_flight e.flights c.settle.new.self.flights
    c.flight_slot.result c.in-Some.slot c.requires.serial c.flight_slot.ensures.slot c.in-Some.is c.settle.ensures.flights

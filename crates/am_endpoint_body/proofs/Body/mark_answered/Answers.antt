use Rattle.am_endpoint_body.proofs.Marked.{flight_answered}
use Rattle.am_endpoint_body.proofs.Body.mark_answered.Goals as goal

pub returns : goal.returns
returns c = flight_answered c.args.request c.self.inside c.args.self.now c.answer_flights.new.block c.self.view_is c.self.invariant
    c.answer_flights.ensures.answered

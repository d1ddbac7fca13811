-- The state that the parts of an endpoint stand for.
use Rattle.am_model.specs.Endpoint.{State}
use Rattle.am_endpoint.specs.declared.fields.Fields.{Fields}

abbrev pub state_in : Fields → State
state_in c = record { head = c.head; body = c.body.body }

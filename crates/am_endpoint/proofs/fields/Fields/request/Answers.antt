use Rattle.std.proofs.Common.{sym, ◌∙◌}
use Rattle.am_endpoint.specs.Seen.{state_in}
use Rattle.am_endpoint.proofs.Open.{request_made, request_refused, unknown_next}
use Rattle.am_endpoint.proofs.fields.Fields.request.Goals as goal

pub request-requires-clause-unknown : goal.request-requires-clause-unknown
request-requires-clause-unknown c = unknown_next c.args.self.now.body.pool c.args.e (state_in c.args.self.now) c.requires.order

pub request-requires-clause-within : goal.request-requires-clause-within
request-requires-clause-within c = c.requires.order.within

pub returns-in-Ok-clause-outcome : goal.returns-in-Ok-clause-outcome
returns-in-Ok-clause-outcome c =
    request_made c.args.self.now.body.pool c.args.e (state_in c.args.self.now) c.args.index c.args.handler c.args.words c.in-Ok.message (sym c.is_closed.ensures
    ∙ c.if-is_closed.false) c.in-Ok.ensures.refusal c.in-Ok.ensures.message

pub returns-in-Err-clause-outcome : goal.returns-in-Err-clause-outcome
returns-in-Err-clause-outcome c =
    request_refused c.args.self.now.body.pool c.args.e (state_in c.args.self.now) c.args.index c.args.handler c.args.words c.in-Err.refusal
    (sym c.is_closed.ensures ∙ c.if-is_closed.false) c.in-Err.ensures.refusal

use Rattle.std.proofs.Common.{sym, ap, ◌∙◌}
use Rattle.am_office_entries.specs.declared.Call.{Call}
use Rattle.am_model.specs.Calls.{outcome_of_call}
use Rattle.am_model.specs.Changes.{called}
use Rattle.am_endpoint.specs.Seen.{state_in}
use Rattle.am_endpoint.proofs.fields.Fields.call.Goals as goal

pub returns-in-Request-clause-outcome : goal.returns-in-Request-clause-outcome
returns-in-Request-clause-outcome c =
    c.request.ensures.outcome ∙ ap (λ (k : Call). outcome_of_call c.args.self.now.body.pool c.args.e (state_in c.args.self.now) k) (sym c.in-Request.is)

pub returns-in-Request-clause-state : goal.returns-in-Request-clause-state
returns-in-Request-clause-state c = c.request.ensures.state ∙ ap (λ (k : Call). called (state_in c.args.self.now) k c.request.result) (sym c.in-Request.is)

pub returns-in-Poll-clause-outcome : goal.returns-in-Poll-clause-outcome
returns-in-Poll-clause-outcome c =
    c.poll.ensures.outcome ∙ ap (λ (k : Call). outcome_of_call c.args.self.now.body.pool c.args.e (state_in c.args.self.now) k) (sym c.in-Poll.is)

pub returns-in-Poll-clause-state : goal.returns-in-Poll-clause-state
returns-in-Poll-clause-state c = c.poll.ensures.state ∙ ap (λ (k : Call). called (state_in c.args.self.now) k c.poll.result) (sym c.in-Poll.is)

pub returns-in-SetTag-clause-outcome : goal.returns-in-SetTag-clause-outcome
returns-in-SetTag-clause-outcome c =
    c.set_tag.ensures.outcome ∙ ap (λ (k : Call). outcome_of_call c.args.self.now.body.pool c.args.e (state_in c.args.self.now) k) (sym c.in-SetTag.is)

pub returns-in-SetTag-clause-state : goal.returns-in-SetTag-clause-state
returns-in-SetTag-clause-state c = c.set_tag.ensures.state ∙ ap (λ (k : Call). called (state_in c.args.self.now) k c.set_tag.result) (sym c.in-SetTag.is)

pub returns-in-Map-clause-outcome : goal.returns-in-Map-clause-outcome
returns-in-Map-clause-outcome c =
    c.map.ensures.outcome ∙ ap (λ (k : Call). outcome_of_call c.args.self.now.body.pool c.args.e (state_in c.args.self.now) k) (sym c.in-Map.is)

pub returns-in-Map-clause-state : goal.returns-in-Map-clause-state
returns-in-Map-clause-state c = c.map.ensures.state ∙ ap (λ (k : Call). called (state_in c.args.self.now) k c.map.result) (sym c.in-Map.is)

pub returns-in-Unmap-clause-outcome : goal.returns-in-Unmap-clause-outcome
returns-in-Unmap-clause-outcome c =
    c.unmap.ensures.outcome ∙ ap (λ (k : Call). outcome_of_call c.args.self.now.body.pool c.args.e (state_in c.args.self.now) k) (sym c.in-Unmap.is)

pub returns-in-Unmap-clause-state : goal.returns-in-Unmap-clause-state
returns-in-Unmap-clause-state c = c.unmap.ensures.state ∙ ap (λ (k : Call). called (state_in c.args.self.now) k c.unmap.result) (sym c.in-Unmap.is)

pub returns-in-SetHandler-clause-outcome : goal.returns-in-SetHandler-clause-outcome
returns-in-SetHandler-clause-outcome c =
    c.set_handler.ensures.outcome ∙ ap (λ (k : Call). outcome_of_call c.args.self.now.body.pool c.args.e (state_in c.args.self.now) k) (sym c.in-SetHandler.is)

pub returns-in-SetHandler-clause-state : goal.returns-in-SetHandler-clause-state
returns-in-SetHandler-clause-state c = c.set_handler.ensures.state ∙ ap (λ (k : Call). called (state_in c.args.self.now) k c.set_handler.result) (sym c.in-SetHandler.is)

pub returns-in-GiveUp-clause-outcome : goal.returns-in-GiveUp-clause-outcome
returns-in-GiveUp-clause-outcome c =
    c.give_up.ensures.outcome ∙ ap (λ (k : Call). outcome_of_call c.args.self.now.body.pool c.args.e (state_in c.args.self.now) k) (sym c.in-GiveUp.is)

pub returns-in-GiveUp-clause-state : goal.returns-in-GiveUp-clause-state
returns-in-GiveUp-clause-state c = c.give_up.ensures.state ∙ ap (λ (k : Call). called (state_in c.args.self.now) k c.give_up.result) (sym c.in-GiveUp.is)

pub returns-in-Close-clause-outcome : goal.returns-in-Close-clause-outcome
returns-in-Close-clause-outcome c =
    c.close.ensures.outcome ∙ ap (λ (k : Call). outcome_of_call c.args.self.now.body.pool c.args.e (state_in c.args.self.now) k) (sym c.in-Close.is)

pub returns-in-Close-clause-state : goal.returns-in-Close-clause-state
returns-in-Close-clause-state c = c.close.ensures.state ∙ ap (λ (k : Call). called (state_in c.args.self.now) k c.close.result) (sym c.in-Close.is)

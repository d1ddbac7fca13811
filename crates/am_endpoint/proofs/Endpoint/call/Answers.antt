use Rattle.std.proofs.Common.{◌≡◌, true, sym, ◌∙◌, subst}
use Rattle.am_model.specs.Allowed.{are_numbers_in_range}
use Rattle.am_model.specs.Calls.{outcome_of_call}
use Rattle.am_endpoint.specs.View.{state_by}
use Rattle.am_endpoint_body.specs.declared.settings.EndSettings.{EndSettings}
use Rattle.am_endpoint.proofs.Endpoint.call.Goals as goal

pub make-requires-clause-numbers : goal.make-requires-clause-numbers
make-requires-clause-numbers c = subst (λ (set : EndSettings). are_numbers_in_range set.pool c.args.call ≡ true) (sym c.in_ok-room.ensures.settings)
    c.requires.numbers

pub returns-clause-outcome : goal.returns-clause-outcome
returns-clause-outcome c =
    c.make.ensures.outcome
    ∙ (λ k. outcome_of_call (c.in_ok-room.ensures.settings k).pool (c.in_ok-room.ensures.settings k).id
    (state_by (c.in_ok-room.ensures.settings k) (c.in_ok-room.ensures.log k)) c.args.call)

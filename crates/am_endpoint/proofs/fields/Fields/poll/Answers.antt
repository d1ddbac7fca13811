use Rattle.std.proofs.Common.{ap, ◌∙◌}
use Rattle.am_office_entries.specs.declared.Call.TheVariants as Calls
use Rattle.am_model.specs.Changes.{called}
use Rattle.am_endpoint_body.specs.Views.{View}
use Rattle.am_endpoint.specs.Seen.{state_in}
use Rattle.am_endpoint.proofs.Open.{poll_same, polled}
use Rattle.am_endpoint.proofs.Told.{at_head}
use Rattle.am_endpoint.proofs.fields.Fields.poll.Goals as goal

pub returns-clause-outcome : goal.returns-clause-outcome
returns-clause-outcome c = c.poll-outcome.ensures.outcome ∙ poll_same c.args.e (state_in c.args.self.now) c.args.self.now.body.body.notices

pub returns-clause-state : goal.returns-clause-state
returns-clause-state c =
    let h = c.args.self.now.head in
    let b = c.args.self.now.body.body in
    let after = c.poll-outcome.new.self.body in
    let o = c.poll-outcome.result in
    ap state_in c.want_for.ensures ∙ ap (λ (v : View). at_head (called (at_head h after) Calls.Poll o).head v.body) c.poll-outcome.ensures.state
    ∙ polled h b after o

pub poll-outcome-requires-clause-within : goal.poll-outcome-requires-clause-within
poll-outcome-requires-clause-within c = c.requires.order.within

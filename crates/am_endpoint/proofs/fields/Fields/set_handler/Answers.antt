use Rattle.std.specs.Prelude.{Some}
use Rattle.std.proofs.Common.{refl, sym, ap, ◌∙◌, slice_set}
use Rattle.am_office_entries.specs.declared.Call.TheVariants as Calls
use Rattle.am_model.specs.Changes.{called}
use Rattle.am_endpoint.specs.Seen.{state_in}
use Rattle.am_endpoint.proofs.Open.{open_handler}
use Rattle.am_endpoint.proofs.Told.{done_flights, done_outcome, done_pool, done_state}
use Rattle.am_endpoint.proofs.fields.Fields.set_handler.Goals as goal

pub returns-clause-outcome : goal.returns-clause-outcome
returns-clause-outcome c =
    c.done.ensures ∙ done_outcome c.set_handler.result _ (c.set_handler.ensures.refusal
    ∙ open_handler (state_in c.args.self.now) c.args.index (sym c.is_closed.ensures ∙ c.if-is_closed.false))

pub returns-clause-state : goal.returns-clause-state
returns-clause-state c =
    done_state c.args.self.now.head c.args.self.now.body c.set_handler.new.self (record c.args.self.now.body.body {
      handlers =
          slice_set c.args.self.now.body.body.handlers c.args.index (Some c.args.kind);
    }) (Calls.SetHandler c.args.index c.args.kind) c.set_handler.result
    (record { yes = refl; no = λ r. refl }) c.set_handler.ensures.ok c.set_handler.ensures.err
    ∙ ap (called (state_in c.args.self.now) (Calls.SetHandler c.args.index c.args.kind)) (sym c.done.ensures)

pub returns-clause-pool : goal.returns-clause-pool
returns-clause-pool c = done_pool c.args.self.now.body c.set_handler.new.self (record c.args.self.now.body.body {
  handlers =
      slice_set c.args.self.now.body.body.handlers c.args.index (Some c.args.kind);
}) c.set_handler.result c.set_handler.ensures.ok c.set_handler.ensures.err

pub returns-clause-flights : goal.returns-clause-flights
returns-clause-flights c = done_flights c.args.self.now.body c.set_handler.new.self (record c.args.self.now.body.body {
  handlers =
      slice_set c.args.self.now.body.body.handlers c.args.index (Some c.args.kind);
}) c.set_handler.result c.set_handler.ensures.ok c.set_handler.ensures.err

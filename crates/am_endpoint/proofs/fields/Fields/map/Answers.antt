use Rattle.std.specs.Prelude.{Some}
use Rattle.std.proofs.Common.{refl, sym, ap, ◌∙◌}
use Rattle.am_office_entries.specs.declared.Call.TheVariants as Calls
use Rattle.am_model.specs.Changes.{called, with_mapped}
use Rattle.am_endpoint.specs.Seen.{state_in}
use Rattle.am_endpoint.proofs.Open.{open_map}
use Rattle.am_endpoint.proofs.Told.{done_flights, done_outcome, done_pool, done_state}
use Rattle.am_endpoint.proofs.fields.Fields.map.Goals as goal

pub returns-clause-outcome : goal.returns-clause-outcome
returns-clause-outcome c =
    c.done.ensures ∙ done_outcome c.map.result _ (c.map.ensures.refusal
    ∙ open_map c.args.self.now.body.pool (state_in c.args.self.now) c.args.index c.args.credits (sym c.is_closed.ensures ∙ c.if-is_closed.false))

pub returns-clause-state : goal.returns-clause-state
returns-clause-state c =
    done_state c.args.self.now.head c.args.self.now.body c.map.new.self (with_mapped c.args.self.now.body.body c.args.index (Some (record {
      name = c.args.name;
      tag = c.args.tag;
      credits = c.args.credits;
    }))) (Calls.Map c.args.index c.args.name c.args.tag c.args.credits) c.map.result (record {
      yes = refl;
      no = λ r. refl;
    }) c.map.ensures.ok c.map.ensures.err
    ∙ ap (called (state_in c.args.self.now) (Calls.Map c.args.index c.args.name c.args.tag c.args.credits)) (sym c.done.ensures)

pub returns-clause-pool : goal.returns-clause-pool
returns-clause-pool c = done_pool c.args.self.now.body c.map.new.self (with_mapped c.args.self.now.body.body c.args.index (Some (record {
  name = c.args.name;
  tag = c.args.tag;
  credits = c.args.credits;
}))) c.map.result c.map.ensures.ok c.map.ensures.err

pub returns-clause-flights : goal.returns-clause-flights
returns-clause-flights c = done_flights c.args.self.now.body c.map.new.self (with_mapped c.args.self.now.body.body c.args.index
    (Some (record { name = c.args.name; tag = c.args.tag; credits = c.args.credits }))) c.map.result c.map.ensures.ok c.map.ensures.err

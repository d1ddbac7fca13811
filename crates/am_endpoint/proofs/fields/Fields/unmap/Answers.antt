use Rattle.std.specs.Prelude.{None}
use Rattle.std.proofs.Common.{refl, sym, ap, ◌∙◌}
use Rattle.am_office_entries.specs.declared.Call.TheVariants as Calls
use Rattle.am_model.specs.Changes.{called, with_mapped}
use Rattle.am_endpoint.specs.Seen.{state_in}
use Rattle.am_endpoint.proofs.Open.{open_unmap}
use Rattle.am_endpoint.proofs.Told.{done_flights, done_outcome, done_pool, done_state}
use Rattle.am_endpoint.proofs.fields.Fields.unmap.Goals as goal

pub returns-clause-outcome : goal.returns-clause-outcome
returns-clause-outcome c =
    c.done.ensures ∙ done_outcome c.unmap.result _ (c.unmap.ensures.refusal ∙ open_unmap (state_in c.args.self.now) c.args.index (sym c.is_closed.ensures
    ∙ c.if-is_closed.false))

pub returns-clause-state : goal.returns-clause-state
returns-clause-state c =
    done_state c.args.self.now.head c.args.self.now.body c.unmap.new.self (with_mapped c.args.self.now.body.body c.args.index None) (Calls.Unmap c.args.index)
    c.unmap.result (record { yes = refl; no = λ r. refl }) c.unmap.ensures.ok c.unmap.ensures.err
    ∙ ap (called (state_in c.args.self.now) (Calls.Unmap c.args.index)) (sym c.done.ensures)

pub returns-clause-pool : goal.returns-clause-pool
returns-clause-pool c = done_pool c.args.self.now.body c.unmap.new.self (with_mapped c.args.self.now.body.body c.args.index None) c.unmap.result
    c.unmap.ensures.ok c.unmap.ensures.err

pub returns-clause-flights : goal.returns-clause-flights
returns-clause-flights c = done_flights c.args.self.now.body c.unmap.new.self (with_mapped c.args.self.now.body.body c.args.index None) c.unmap.result
    c.unmap.ensures.ok c.unmap.ensures.err

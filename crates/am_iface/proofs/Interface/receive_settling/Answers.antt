use Rattle.std.proofs.Common.{◌∷◌, [], ◌++◌, List, ◌∙◌, ap, refl, sym}
use Rattle.am_names.specs.declared.Packet.TheVariants as Packets
use Rattle.am_office_entries.specs.declared.Entry.{Entry}
use Rattle.am_model_parts.specs.declared.work.Work.TheVariants as Works
use Rattle.am_model.specs.History.{settle_by}
use Rattle.am_iface.proofs.Settling as settling
use Rattle.am_iface.proofs.Flown.{lands_from}
use Rattle.am_iface.proofs.TurningWith as turning
use Rattle.am_iface.proofs.Interface.receive_settling.Goals as goal

pub enter_with-requires-clause-made : goal.enter_with-requires-clause-made
enter_with-requires-clause-made c =
    settling.settling_made c.args.self.now c.args.endpoint.now c.args.p.now c.ends-ends.result c.answer.new.ends c.args.flight.now c.in-Done.bound
    c.in-Done.verdict (settle_by c.args.self.now.settings.bounces c.in-Done.bound.message c.args.flight.now.bounces c.in-Done.verdict) c.args.stamp
    c.args.self.now.settings.node c.settling_entry-entry.result
    (record {
      needs = c.requires.needs;
      counted = c.ends-ends.ensures;
      flight_is = c.requires.flight;
      done = sym c.answer.ensures.answer ∙ c.in-Done.is;
      result = refl;
    })
    c.answer.ensures.after refl c.settling_entry-entry.ensures

pub settle-requires-clause-allowed : goal.settle-requires-clause-allowed
settle-requires-clause-allowed c =
    let entry = settling.settling_entry c.args.self.now c.args.endpoint.now c.args.p.now c.ends-ends.result c.args.flight.now c.in-Done.bound c.in-Done.verdict
    (settle_by c.args.self.now.settings.bounces c.in-Done.bound.message c.args.flight.now.bounces c.in-Done.verdict) c.args.stamp
    c.args.self.now.settings.node c.settling_entry-entry.result
    (record {
      needs = c.requires.needs;
      counted = c.ends-ends.ensures;
      flight_is = c.requires.flight;
      done = sym c.answer.ensures.answer ∙ c.in-Done.is;
      result = refl;
    })
    refl c.settling_entry-entry.ensures in
    settling.settling_allowed c.args.self.now c.args.endpoint.now c.enter_with.new.endpoint c.args.p.now c.args.flight.now c.args.stamp
    c.settling_entry-entry.result c.requires.needs c.requires.packet c.requires.bounces c.requires.flight entry
    (record { settings = c.enter_with.ensures.settings; log = c.enter_with.ensures.log })

pub returns-in-Ok : goal.returns-in-Ok
returns-in-Ok c =
    let entry = settling.settling_entry c.args.self.now c.args.endpoint.now c.args.p.now c.ends-ends.result c.args.flight.now c.in-Done.bound c.in-Done.verdict
    (settle_by c.args.self.now.settings.bounces c.in-Done.bound.message c.args.flight.now.bounces c.in-Done.verdict) c.args.stamp
    c.args.self.now.settings.node c.settling_entry-entry.result
    (record {
      needs = c.requires.needs;
      counted = c.ends-ends.ensures;
      flight_is = c.requires.flight;
      done = sym c.answer.ensures.answer ∙ c.in-Done.is;
      result = refl;
    })
    refl c.settling_entry-entry.ensures in
    turning.turns_with c.args.self.now c.enter_with.new.self c.args.endpoint.now c.settle.new.endpoint c.args.stamp
    (Works.Receive (Packets.Answer c.args.p.now)) c.settling_entry-entry.result _ entry
    (record { logged = c.in-Ok.ensures.logged; enabled = c.in-Ok.ensures.enabled; full = c.in-Ok.ensures.full; err = tt })
    (record {
      same = c.settle.ensures.settings ∙ c.enter_with.ensures.settings;
      there = c.settle.ensures.log
          ∙ ap (λ (xs : List Entry). xs ++ c.settling_entry-entry.result ∷ []) c.enter_with.ensures.log;
      flies = lands_from c.args.endpoint.now c.enter_with.new.endpoint c.settle.new.endpoint c.settling_entry-entry.result
          (record { settings = c.enter_with.ensures.settings; log = c.enter_with.ensures.log; flights = c.enter_with.ensures.flights }) c.settle.ensures.flights;
      err = tt;
      err_flights = tt;
      kept = tt;
    })

pub returns-in-Err : goal.returns-in-Err
returns-in-Err c =
    let entry = settling.settling_entry c.args.self.now c.args.endpoint.now c.args.p.now c.ends-ends.result c.args.flight.now c.in-Done.bound c.in-Done.verdict
    (settle_by c.args.self.now.settings.bounces c.in-Done.bound.message c.args.flight.now.bounces c.in-Done.verdict) c.args.stamp
    c.args.self.now.settings.node c.settling_entry-entry.result
    (record {
      needs = c.requires.needs;
      counted = c.ends-ends.ensures;
      flight_is = c.requires.flight;
      done = sym c.answer.ensures.answer ∙ c.in-Done.is;
      result = refl;
    })
    refl c.settling_entry-entry.ensures in
    turning.turns_with c.args.self.now c.enter_with.new.self c.args.endpoint.now c.enter_with.new.endpoint c.args.stamp
    (Works.Receive (Packets.Answer c.args.p.now)) c.settling_entry-entry.result _ entry
    (record { logged = tt; enabled = c.in-Err.ensures.enabled; full = c.in-Err.ensures.full; err = c.in-Err.ensures.err })
    (record {
      same = c.enter_with.ensures.settings;
      there = tt;
      flies = tt;
      err = c.enter_with.ensures.log;
      err_flights = c.enter_with.ensures.flights;
      kept = c.in-Err.ensures.kept;
    })

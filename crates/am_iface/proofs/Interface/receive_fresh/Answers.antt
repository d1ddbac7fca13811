use Rattle.std.proofs.Common.{◌∷◌, [], ◌++◌, List, ◌∙◌, refl, ap}
use Rattle.am_names.specs.declared.NodeId.{NodeId}
use Rattle.am_names.specs.declared.Packet.TheVariants as Packets
use Rattle.am_office_entries.specs.declared.Event.TheVariants as Events
use Rattle.am_office_entries.specs.declared.Received.{Received}
use Rattle.am_office_entries.specs.declared.Outcome.TheVariants as Out
use Rattle.am_office_entries.specs.declared.Entry.{Entry}
use Rattle.am_model_parts.specs.Interface.{channel_in}
use Rattle.am_model_parts.specs.declared.work.Work.TheVariants as Works
use Rattle.am_endpoint.specs.View.{state_after}
use Rattle.am_iface.specs.View.{own}
use Rattle.am_iface.proofs.Flown.{arrives}
use Rattle.am_iface.proofs.Fresh as fresh
use Rattle.am_iface.proofs.Telling as telling
use Rattle.am_iface.proofs.TurningWith as turning
use Rattle.am_iface.proofs.Interface.receive_fresh.Goals as goal

pub enter_with-requires-clause-made : goal.enter_with-requires-clause-made
enter_with-requires-clause-made c =
    let p = c.args.p.now in
    let came = fresh.came_is c.args.self.now c.args.endpoint.now p c.ends-ends.result c.next_number.result c.verdict-verdict.result c.decided-came.result
    (record {
      needs = c.requires.needs;
      counted = c.ends-ends.ensures;
      number = c.next_number.ensures;
      verdict = c.verdict-verdict.ensures;
      decided = c.decided-came.ensures;
    }) in
    telling.fresh_made (channel_in (own c.args.self.now) p.from p.channel) c.args.self.now.log (state_after c.args.endpoint.now) p c.ends-ends.result
    c.decide.new.ends c.next_number.result c.verdict-verdict.result c.parcel_receipt-entry.result c.ends-ends.ensures refl c.verdict-verdict.ensures
    c.decide.ensures
    (ap (λ (x : Entry). x.event) c.parcel_receipt-entry.ensures ∙ ap (λ (n : NodeId). Events.Receive n p.from p.number) c.node.ensures)
    (ap (λ (x : Entry). x.outcome) c.parcel_receipt-entry.ensures ∙ ap (λ (r : Received). Out.Received p.channel p.seq p.attempt r) came)

pub put-requires-clause-allowed : goal.put-requires-clause-allowed
put-requires-clause-allowed c =
    let p = c.args.p.now in
    let entry = fresh.fresh_entry c.args.self.now c.args.endpoint.now p c.ends-ends.result c.next_number.result c.verdict-verdict.result c.decided-came.result
    c.args.stamp c.node.result c.parcel_receipt-entry.result
    (record {
      needs = c.requires.needs;
      counted = c.ends-ends.ensures;
      number = c.next_number.ensures;
      verdict = c.verdict-verdict.ensures;
      decided = c.decided-came.ensures;
    })
    c.node.ensures c.parcel_receipt-entry.ensures in
    fresh.fresh_arrives c.args.self.now c.args.endpoint.now c.enter_with.new.endpoint p c.args.stamp c.parcel_receipt-entry.result c.requires.fits
    c.requires.needs c.requires.packet entry
    (record { settings = c.enter_with.ensures.settings; log = c.enter_with.ensures.log })

pub returns-in-Ok : goal.returns-in-Ok
returns-in-Ok c =
    let p = c.args.p.now in
    let entry = fresh.fresh_entry c.args.self.now c.args.endpoint.now p c.ends-ends.result c.next_number.result c.verdict-verdict.result c.decided-came.result
    c.args.stamp c.node.result c.parcel_receipt-entry.result
    (record {
      needs = c.requires.needs;
      counted = c.ends-ends.ensures;
      number = c.next_number.ensures;
      verdict = c.verdict-verdict.ensures;
      decided = c.decided-came.ensures;
    })
    c.node.ensures c.parcel_receipt-entry.ensures in
    turning.turns_with c.args.self.now c.enter_with.new.self c.args.endpoint.now c.put.new.self c.args.stamp (Works.Receive (Packets.Parcel p))
    c.parcel_receipt-entry.result _ entry
    (record { logged = c.in-Ok.ensures.logged; enabled = c.in-Ok.ensures.enabled; full = c.in-Ok.ensures.full; err = tt })
    (record {
      same = c.put.ensures.settings ∙ c.enter_with.ensures.settings;
      there = c.put.ensures.log
          ∙ ap (λ (xs : List Entry). xs ++ c.parcel_receipt-entry.result ∷ []) c.enter_with.ensures.log;
      flies = arrives c.args.endpoint.now c.enter_with.new.endpoint c.put.new.self p c.node.result c.args.stamp c.next_number.result c.verdict-verdict.result
          c.decided-came.result c.parcel_receipt-entry.result c.decided-came.ensures c.parcel_receipt-entry.ensures c.enter_with.ensures.flights
          c.put.ensures.flights;
      err = tt;
      err_flights = tt;
      kept = tt;
    })

pub returns-in-Err : goal.returns-in-Err
returns-in-Err c =
    let p = c.args.p.now in
    let entry = fresh.fresh_entry c.args.self.now c.args.endpoint.now p c.ends-ends.result c.next_number.result c.verdict-verdict.result c.decided-came.result
    c.args.stamp c.node.result c.parcel_receipt-entry.result
    (record {
      needs = c.requires.needs;
      counted = c.ends-ends.ensures;
      number = c.next_number.ensures;
      verdict = c.verdict-verdict.ensures;
      decided = c.decided-came.ensures;
    })
    c.node.ensures c.parcel_receipt-entry.ensures in
    turning.turns_with c.args.self.now c.enter_with.new.self c.args.endpoint.now c.enter_with.new.endpoint c.args.stamp (Works.Receive (Packets.Parcel p))
    c.parcel_receipt-entry.result _ entry
    (record { logged = tt; enabled = c.in-Err.ensures.enabled; full = c.in-Err.ensures.full; err = c.in-Err.ensures.err })
    (record {
      same = c.enter_with.ensures.settings;
      there = tt;
      flies = tt;
      err = c.enter_with.ensures.log;
      err_flights = c.enter_with.ensures.flights;
      kept = c.in-Err.ensures.kept;
    })

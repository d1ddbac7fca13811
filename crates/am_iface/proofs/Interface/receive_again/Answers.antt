use Rattle.std.proofs.Common.{◌≡◌, None, ◌∙◌, refl, ap}
use Rattle.am_names.specs.declared.NodeId.{NodeId}
use Rattle.am_office_entries.specs.declared.Event.TheVariants as Events
use Rattle.am_office_entries.specs.declared.Entry.{Entry}
use Rattle.am_office_entries.specs.declared.Received.{Received}
use Rattle.am_office_entries.specs.declared.Outcome.TheVariants as Out
use Rattle.am_model.specs.Channels.{arrival}
use Rattle.am_model_parts.specs.Interface.{channel_in, needs_arrival}
use Rattle.am_model_parts.specs.declared.work.Work.TheVariants as Works
use Rattle.am_names.specs.declared.Packet.TheVariants as Packets
use Rattle.am_model.specs.Channels.{Mark}
use Rattle.am_iface.specs.View.{own}
use Rattle.am_iface.proofs.Telling as telling
use Rattle.am_iface.proofs.Turning as turning
use Rattle.am_iface.proofs.Interface.receive_again.Goals as goal

pub enter-requires-clause-made : goal.enter-requires-clause-made
enter-requires-clause-made c =
    let known : needs_arrival c.args.p.now.message.dest (arrival c.ends-ends.result.receiving c.args.p.now.seq c.args.p.now.attempt) ≡ None =
    ap (λ (mark : Mark). needs_arrival c.args.p.now.message.dest (arrival mark c.args.p.now.seq c.args.p.now.attempt)) c.ends-ends.ensures.mark
    ∙ c.requires.known in
    telling.repeat_made (channel_in (own c.args.self.now) c.args.p.now.from c.args.p.now.channel) c.args.self.now.log telling.some_state c.args.p.now
    c.ends-ends.result c.next_number-answer.result c.parcel_receipt-entry.result c.ends-ends.ensures refl known
    (ap (λ (x : Entry). x.event) c.parcel_receipt-entry.ensures ∙ ap (λ (n : NodeId). Events.Receive n c.args.p.now.from c.args.p.now.number) c.node.ensures)
    (ap (λ (x : Entry). x.outcome) c.parcel_receipt-entry.ensures
    ∙ ap (λ (r : Received). Out.Received c.args.p.now.channel c.args.p.now.seq c.args.p.now.attempt r) (c.repeat-came.ensures telling.some_state))

pub returns : goal.returns
returns c s =
    turning.turns_by_entering c.args.self.now c.enter.new.self s c.args.stamp (Works.Receive (Packets.Parcel c.args.p.now)) c.parcel_receipt-entry.result
    c.enter.result
    (record {
      event = ap (λ (x : Entry). x.event) c.parcel_receipt-entry.ensures
          ∙ ap (λ (n : NodeId). Events.Receive n c.args.p.now.from c.args.p.now.number) c.node.ensures;
      outcome =
          ap (λ (x : Entry). x.outcome) c.parcel_receipt-entry.ensures
          ∙ ap (λ (r : Received). Out.Received c.args.p.now.channel c.args.p.now.seq c.args.p.now.attempt r) (c.repeat-came.ensures s)
          ∙ telling.parcel_outcome (own c.args.self.now) s c.args.p.now c.ends-ends.result c.next_number-answer.result c.ends-ends.ensures
          c.next_number-answer.ensures;
      stamped = ap (λ (x : Entry). x.stamp) c.parcel_receipt-entry.ensures;
      enabled = refl;
    })
    (record { logged = c.enter.ensures.logged; enabled = c.enter.ensures.enabled; full = c.enter.ensures.full; err = c.enter.ensures.err })

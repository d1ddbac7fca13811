use Rattle.std.proofs.Common.{◌∙◌, refl, ap}
use Rattle.am_names.specs.declared.NodeId.{NodeId}
use Rattle.am_office_entries.specs.declared.Event.TheVariants as Events
use Rattle.am_office_entries.specs.declared.Entry.{Entry}
use Rattle.am_model_parts.specs.Interface.{channel_in}
use Rattle.am_model_parts.specs.declared.work.Work.TheVariants as Works
use Rattle.am_names.specs.declared.Packet.TheVariants as Packets
use Rattle.am_iface.specs.View.{own}
use Rattle.am_iface.proofs.Telling as telling
use Rattle.am_iface.proofs.Turning as turning
use Rattle.am_iface.proofs.Interface.receive_nothing.Goals as goal

pub enter-requires-clause-made : goal.enter-requires-clause-made
enter-requires-clause-made c =
    telling.nothing_made (own c.args.self.now) (channel_in (own c.args.self.now) c.args.p.now.from c.args.p.now.channel) c.args.p.now c.ends-ends.result
    c.answer_receipt-entry.result c.ends-ends.ensures refl c.requires.nothing
    (ap (λ (x : Entry). x.event) c.answer_receipt-entry.ensures ∙ ap (λ (n : NodeId). Events.Receive n c.args.p.now.from c.args.p.now.number) c.node.ensures)
    (ap (λ (x : Entry). x.outcome) c.answer_receipt-entry.ensures)

pub returns : goal.returns
returns c s =
    turning.turns_by_entering c.args.self.now c.enter.new.self s c.args.stamp (Works.Receive (Packets.Answer c.args.p.now)) c.answer_receipt-entry.result
    c.enter.result
    (record {
      event = ap (λ (x : Entry). x.event) c.answer_receipt-entry.ensures
          ∙ ap (λ (n : NodeId). Events.Receive n c.args.p.now.from c.args.p.now.number) c.node.ensures;
      outcome = ap (λ (x : Entry). x.outcome) c.answer_receipt-entry.ensures ∙ telling.nothing_outcome (own c.args.self.now) s c.args.p.now c.requires.nothing;
      stamped = ap (λ (x : Entry). x.stamp) c.answer_receipt-entry.ensures;
      enabled = refl;
    })
    (record { logged = c.enter.ensures.logged; enabled = c.enter.ensures.enabled; full = c.enter.ensures.full; err = c.enter.ensures.err })

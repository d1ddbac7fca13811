use Rattle.std.proofs.Common.{sym, subst}
use Rattle.am_names.specs.declared.Packet.{Packet}
use Rattle.am_model_parts.specs.declared.work.Work.TheVariants as Works
use Rattle.am_iface.specs.With.{TurnsWith}
use Rattle.am_iface.proofs.Interface.receive_with.Goals as goal

pub returns-in-Parcel : goal.returns-in-Parcel
returns-in-Parcel c =
    subst (λ (p : Packet). TurnsWith c.args.self.now c.receive_fresh.new.self c.args.endpoint.now c.receive_fresh.new.endpoint c.args.stamp (Works.Receive p)
    c.receive_fresh.result) (sym c.in-Parcel.is) c.receive_fresh.ensures

pub returns-in-Answer : goal.returns-in-Answer
returns-in-Answer c =
    subst (λ (p : Packet). TurnsWith c.args.self.now c.receive_answer.new.self c.args.endpoint.now c.receive_answer.new.endpoint c.args.stamp (Works.Receive p)
    c.receive_answer.result) (sym c.in-Answer.is) c.receive_answer.ensures

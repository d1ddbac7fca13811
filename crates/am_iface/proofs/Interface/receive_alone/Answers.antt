use Rattle.std.proofs.Common.{sym, subst}
use Rattle.am_names.specs.declared.Packet.{Packet}
use Rattle.am_model_parts.specs.declared.work.Work.TheVariants as Works
use Rattle.am_iface.specs.Turns.{Turns}
use Rattle.am_iface.proofs.Interface.receive_alone.Goals as goal

pub returns-in-Parcel : goal.returns-in-Parcel
returns-in-Parcel c =
    λ s. subst (λ (p : Packet). Turns c.args.self.now c.receive_again.new.self s c.args.stamp (Works.Receive p) c.receive_again.result) (sym c.in-Parcel.is)
    (c.receive_again.ensures s)

pub returns-in-Answer : goal.returns-in-Answer
returns-in-Answer c =
    λ s. subst (λ (p : Packet). Turns c.args.self.now c.receive_nothing.new.self s c.args.stamp (Works.Receive p) c.receive_nothing.result) (sym c.in-Answer.is)
    (c.receive_nothing.ensures s)

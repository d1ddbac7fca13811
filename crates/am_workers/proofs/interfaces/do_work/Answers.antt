use Rattle.std.proofs.Common.{◌≡◌, ◌++◌, Option, refl, sym, subst}
use Rattle.am_names.specs.declared.Packet.{Packet}
use Rattle.am_model.specs.Channels.{emitted}
use Rattle.am_workers.specs.Turns.Servers.{sent_to}
use Rattle.am_workers.specs.AtWork.{sent_by, taken_by}
use Rattle.am_workers.proofs.Turned.{sends_all}
use Rattle.am_workers.proofs.interfaces.do_work.Goals as goal

pub returns-clause-serves : goal.returns-clause-serves
returns-clause-serves c =
    let w = c.args.worker.now in let t = c.serve-turn in let i = w.interface in let sent = c.send-worker in
    record {
      idle = t.ensures.idle;
      seat = t.ensures.seat;
      settings = t.ensures.settings;
      set = refl;
      outs = sent.ensures.same;
      spared = sent.ensures.room;
      ins = refl;
      from_node = refl;
      works = λ s turns of works. t.ensures.works s turns (sent_by w.outs.items) (sent_by sent.new.outs.items) (taken_by w.ins.items) of works
          (sends_all i.settings.node i.log t.new.interface.log w.outs.items sent.new.outs.items c.out_of-out.result works.emits sent.ensures.sent
          (λ to. subst (λ (o : Option Packet). emitted i.settings.node to t.new.interface.log ≡ emitted i.settings.node to i.log ++ sent_to to o)
          (sym c.out_of-out.ensures) (t.ensures.sends to)));
    }

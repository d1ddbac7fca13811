use Rattle.am_lab_picture.proofs.Finding.{emitters_push, received_push}
use Rattle.am_lab_picture.proofs.tables.JournalTable.learn.Goals as goal

pub returns : goal.returns
returns c = λ past at are.
    let t = c.args.self.now in
    record {
      fates = c.in_ok-learn.ensures past are.fates;
      emitters = emitters_push t.emitters c.note_emitter.new.places past c.args.entry.now c.args.place at are.emitters c.in_ok-note_emitter.ensures;
      received = received_push t.received c.note_received.new.set past c.args.entry.now are.received c.in_ok-note_received.ensures;
    }

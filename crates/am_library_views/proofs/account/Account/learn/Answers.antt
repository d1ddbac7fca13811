use Rattle.std.proofs.Common.{Bool, Option, ◌||◌, ap, ◌∙◌}
use Rattle.std.specs.Option.{option_or}
use Rattle.am_names.specs.declared.Cause.{Cause}
use Rattle.am_names.specs.declared.Message.{Message}
use Rattle.am_names.specs.declared.Serial.{Serial}
use Rattle.am_names.specs.Names.{has_serial}
use Rattle.am_office_entries.specs.Entries.{is_serial, passes}
use Rattle.am_office_entries.specs.Fates.{cause_for}
use Rattle.am_library_views.specs.Accounts.{answer_of, cause_in, has, reply_for, reply_in}
use Rattle.am_library_views.proofs.Accounting.{learned}
use Rattle.am_library_views.proofs.account.Account.learn.Goals as goal

pub returns : goal.returns
returns c = λ past are.
    let t = c.args.self.now in
    learned t (record {
      accepted = c.note.new.set;
      returned = c.note_return.new.causes;
      unknown = c.note-2.new.set;
      ran = c.note-3.new.set;
      replies = c.note_reply.new.replies;
    }) past c.args.entry.now
    (record {
      accepted = λ (s : Serial). c.in_ok-note.ensures s ∙ ap (λ (b : Bool). has t.accepted s || b) (c.serial_of-accepted.ensures s
          ∙ ap (passes (has_serial s)) c.accepted_of.ensures);
      returned = λ (s : Serial). c.in_ok-note_return.ensures s
          ∙ ap (λ (r : Option (Serial × Cause)). option_or (cause_in t.returned s) (cause_for s r)) c.return_of.ensures;
      unknown = λ (s : Serial). c.in_ok-note-2.ensures s ∙ ap (λ (u : Option Serial). has t.unknown s || is_serial s u) c.unknown_of.ensures;
      ran = λ (s : Serial). c.in_ok-note-3.ensures s ∙ ap (λ (b : Bool). has t.ran s || b) (c.serial_of-ran.ensures s
          ∙ ap (passes (has_serial s)) c.run_of-message.ensures);
      replies = λ (s : Serial). c.in_ok-note_reply.ensures s
          ∙ ap (λ (r : Option (Serial × Message)). option_or (reply_in t.replies s) (reply_for s r)) (c.answer_of-answer.ensures
          ∙ ap answer_of c.run_of-message.ensures);
    })
    are

use Rattle.am_office_text.proofs.Appended.{ran_words}
use Rattle.am_office_text.proofs.entry_lines.lines.put_ran.Goals as goal

pub returns-clause-ok : goal.returns-clause-ok
returns-clause-ok c =
    ran_words _ _ _ _ _ _ c.in_ok-put_message.ensures.ok c.put_handler.ensures.ok

use Rattle.am_office_text.proofs.Extended.{appended_words}
use Rattle.am_office_text.proofs.entry_lines.lines.put_message_with.Goals as goal

pub returns-clause-ok : goal.returns-clause-ok
returns-clause-ok c =
    appended_words _ _ _ _ _ _ c.in_ok-put_message.ensures.ok c.put_spaced.ensures.ok

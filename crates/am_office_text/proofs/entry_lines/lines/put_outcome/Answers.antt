use Rattle.std.proofs.Common.{codes}
use Rattle.am_office_text.specs.EntryLines.Lines.{outcome}
use Rattle.am_office_text.specs.Words.{spaced}
use Rattle.am_office_text.proofs.Extended.{appended_words}
use Rattle.am_office_text.proofs.Appended.{refused_words, whole_text}
use Rattle.am_office_text.proofs.entry_lines.lines.put_outcome.Goals as goal

pub returns-in_ok-put_word-in-Refused-clause-ok : goal.returns-in_ok-put_word-in-Refused-clause-ok
unfolding outcome
returns-in_ok-put_word-in-Refused-clause-ok c =
    rw c.in-Refused.is (refused_words _ _ _ _ _ c.in_ok-put_word-in-Refused.ensures.ok c.put_refusal.ensures.ok)

pub returns-in_ok-put_ran-in-Ran-clause-ok : goal.returns-in_ok-put_ran-in-Ran-clause-ok
unfolding outcome
returns-in_ok-put_ran-in-Ran-clause-ok c =
    rw c.in-Ran.is (appended_words _ _ _ _ _ _ c.in_ok-put_ran-in-Ran.ensures.ok c.put_sends.ensures.ok)

pub returns-in-Done-clause-ok : goal.returns-in-Done-clause-ok
unfolding outcome spaced
returns-in-Done-clause-ok c = rw c.in-Done.is c.put_word.ensures.ok

pub returns-in-Blocked-clause-ok : goal.returns-in-Blocked-clause-ok
unfolding outcome spaced
returns-in-Blocked-clause-ok c = rw c.in-Blocked.is c.put_word-in-Blocked.ensures.ok

pub returns-in-Empty-clause-ok : goal.returns-in-Empty-clause-ok
unfolding outcome spaced
returns-in-Empty-clause-ok c = rw c.in-Empty.is c.put_word-in-Empty.ensures.ok

pub returns-in-Ready-clause-ok : goal.returns-in-Ready-clause-ok
unfolding outcome spaced
returns-in-Ready-clause-ok c = rw c.in-Ready.is c.put_word-in-Ready.ensures.ok

pub returns-in-Quiet-clause-ok : goal.returns-in-Quiet-clause-ok
unfolding outcome spaced
returns-in-Quiet-clause-ok c = rw c.in-Quiet.is c.put_word-in-Quiet.ensures.ok

pub returns-in-Failed-clause-ok : goal.returns-in-Failed-clause-ok
unfolding outcome spaced
returns-in-Failed-clause-ok c = rw c.in-Failed.is c.put_word-in-Failed.ensures.ok

pub returns-in-Requested-clause-ok : goal.returns-in-Requested-clause-ok
unfolding outcome spaced
returns-in-Requested-clause-ok c = rw c.in-Requested.is (whole_text _ _ _ (codes " -> ok") _ c.put_message.ensures.ok)

pub returns-in-Accepted-clause-ok : goal.returns-in-Accepted-clause-ok
unfolding outcome spaced
returns-in-Accepted-clause-ok c = rw c.in-Accepted.is (whole_text _ _ _ (codes " -> accepted") _ c.put_message-in-Accepted.ensures.ok)

pub returns-in-Delivered-clause-ok : goal.returns-in-Delivered-clause-ok
unfolding outcome spaced
returns-in-Delivered-clause-ok c = rw c.in-Delivered.is (whole_text _ _ _ (codes " -> delivered") _ c.put_message-in-Delivered.ensures.ok)

pub returns-in-Unknown-clause-ok : goal.returns-in-Unknown-clause-ok
unfolding outcome spaced
returns-in-Unknown-clause-ok c = rw c.in-Unknown.is (whole_text _ _ _ (codes " -> unknown") _ c.put_message-in-Unknown.ensures.ok)

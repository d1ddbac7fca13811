use Rattle.std.proofs.Common.{[], ◌∷◌, codes}
use Rattle.std.specs.Fmt.{decimal}
use Rattle.am_office_text.specs.EntryLines.Lines.{call}
use Rattle.am_office_text.specs.Words.{spaced}
use Rattle.am_office_text.proofs.Extended.{appended_words}
use Rattle.am_office_text.proofs.Appended.{whole_text}
use Rattle.am_office_text.proofs.entry_lines.lines.put_call.Goals as goal

pub returns-in_ok-put_spaced-in-SetHandler-clause-ok :
    goal.returns-in_ok-put_spaced-in-SetHandler-clause-ok
unfolding call
returns-in_ok-put_spaced-in-SetHandler-clause-ok c =
    let words = rw (c.small-own.ensures, c.small-in-SetHandler.ensures) at c.in_ok-put_spaced-in-SetHandler.ensures.ok in
    rw c.in-SetHandler.is (appended_words _ _ _ _ _ _ words c.put_handler_kind.ensures.ok)

pub returns-in-Poll-clause-ok : goal.returns-in-Poll-clause-ok
unfolding call spaced
returns-in-Poll-clause-ok c =
    let counted = rw c.from.ensures at c.put_counted.ensures.ok in
    rw c.in-Poll.is (whole_text _ _ _ (codes " poll") (spaced (decimal c.args.end.0 ∷ [])) counted)

pub returns-in-SetTag-clause-ok : goal.returns-in-SetTag-clause-ok
unfolding call
returns-in-SetTag-clause-ok c =
    let words = rw c.small-own.ensures at c.put_spaced.ensures.ok in
    rw c.in-SetTag.is words

pub returns-in-Unmap-clause-ok : goal.returns-in-Unmap-clause-ok
unfolding call
returns-in-Unmap-clause-ok c =
    let words = rw (c.small-own.ensures, c.small-in-Unmap.ensures) at c.put_spaced-in-Unmap.ensures.ok in
    rw c.in-Unmap.is words

pub returns-in-GiveUp-clause-ok : goal.returns-in-GiveUp-clause-ok
unfolding call
returns-in-GiveUp-clause-ok c =
    let words = rw c.small-own.ensures at c.put_spaced-in-GiveUp.ensures.ok in
    rw c.in-GiveUp.is words

pub returns-in-Close-clause-ok : goal.returns-in-Close-clause-ok
unfolding call
returns-in-Close-clause-ok c =
    let words = rw c.small-own.ensures at c.put_spaced-in-Close.ensures.ok in
    rw c.in-Close.is words

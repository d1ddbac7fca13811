use Rattle.am_office_text.specs.EntryLines.Lines.{refusal}
use Rattle.am_office_text.proofs.entry_lines.lines.put_refusal.Goals as goal

pub returns-in-Closed-clause-ok : goal.returns-in-Closed-clause-ok
unfolding refusal
returns-in-Closed-clause-ok c = rw c.in-Closed.is c.put_spaced.ensures.ok

pub returns-in-OwnTagNone-clause-ok : goal.returns-in-OwnTagNone-clause-ok
unfolding refusal
returns-in-OwnTagNone-clause-ok c = rw c.in-OwnTagNone.is c.put_spaced-in-OwnTagNone.ensures.ok

pub returns-in-BadIndex-clause-ok : goal.returns-in-BadIndex-clause-ok
unfolding refusal
returns-in-BadIndex-clause-ok c = rw c.in-BadIndex.is c.put_spaced-in-BadIndex.ensures.ok

pub returns-in-NotMapped-clause-ok : goal.returns-in-NotMapped-clause-ok
unfolding refusal
returns-in-NotMapped-clause-ok c = rw c.in-NotMapped.is c.put_spaced-in-NotMapped.ensures.ok

pub returns-in-NoCredit-clause-ok : goal.returns-in-NoCredit-clause-ok
unfolding refusal
returns-in-NoCredit-clause-ok c = rw c.in-NoCredit.is c.put_spaced-in-NoCredit.ensures.ok

pub returns-in-TableFull-clause-ok : goal.returns-in-TableFull-clause-ok
unfolding refusal
returns-in-TableFull-clause-ok c = rw c.in-TableFull.is c.put_spaced-in-TableFull.ensures.ok

pub returns-in-SendFull-clause-ok : goal.returns-in-SendFull-clause-ok
unfolding refusal
returns-in-SendFull-clause-ok c = rw c.in-SendFull.is c.put_spaced-in-SendFull.ensures.ok

pub returns-in-InUse-clause-ok : goal.returns-in-InUse-clause-ok
unfolding refusal
returns-in-InUse-clause-ok c = rw c.in-InUse.is c.put_spaced-in-InUse.ensures.ok

pub returns-in-Reserved-clause-ok : goal.returns-in-Reserved-clause-ok
unfolding refusal
returns-in-Reserved-clause-ok c = rw c.in-Reserved.is c.put_spaced-in-Reserved.ensures.ok

pub returns-in-NoRequest-clause-ok : goal.returns-in-NoRequest-clause-ok
unfolding refusal
returns-in-NoRequest-clause-ok c = rw c.in-NoRequest.is c.put_spaced-in-NoRequest.ensures.ok

pub returns-in-OverShare-clause-ok : goal.returns-in-OverShare-clause-ok
unfolding refusal
returns-in-OverShare-clause-ok c =
    let words = rw c.small.ensures at c.put_spaced-in-OverShare.ensures.ok in
    rw c.in-OverShare.is words

pub returns-in-Outstanding-clause-ok : goal.returns-in-Outstanding-clause-ok
unfolding refusal
returns-in-Outstanding-clause-ok c =
    let words = rw c.small-in-Outstanding.ensures at c.put_spaced-in-Outstanding.ensures.ok in
    rw c.in-Outstanding.is words

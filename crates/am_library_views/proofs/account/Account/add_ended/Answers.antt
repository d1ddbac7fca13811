use Rattle.std.proofs.Common.{sym}
use Rattle.std.proofs.lemmas.List.{append-nil}
use Rattle.am_office_entries.specs.Logged.Behind.{entries_behind}
use Rattle.am_library_views.specs.Accounts.{IsAccountOf}
use Rattle.am_library_views.proofs.Endwise.{ended_done, ended_next}
use Rattle.am_library_views.proofs.account.Account.add_ended.Goals as goal

pub loop-entry-init : goal.loop-entry-init
loop-entry-init c = λ (are : IsAccountOf (entries_behind c.entries-entries.result.now) c.args.self.now). sym (append-nil c.args.list.now.items)

pub loop-entry-preserved : goal.loop-entry-preserved
loop-entry-preserved c =
    λ (are : IsAccountOf (entries_behind c.entries-entries.result.now) c.args.self.now).
    ended_next (entries_behind c.entries-entries.result.now) c.args.ending c.entries-entries.result.now c.loop-entry.entry-index _ c.ended_in.result
    c.args.list.now.items c.loop-entry.list.items c.put_words.new.list.items c.loop-entry-test.true (c.loop-entry.invariant are)
    (c.ended_in.ensures (entries_behind c.entries-entries.result.now) are) c.in_ok-put_words.ensures

pub returns : goal.returns
returns c =
    ended_done c.args.journal.now c.args.ending c.args.self.now c.entries-entries.result.now c.loop-entry.entry-index c.args.list.now.items
    c.loop-entry.list.items c.entries-entries.ensures c.loop-entry-test.false c.loop-entry.invariant

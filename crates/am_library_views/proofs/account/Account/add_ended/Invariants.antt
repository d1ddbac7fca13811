use Rattle.std.proofs.Common.{◌≡◌, ◌++◌, filter_map, take}
use Rattle.am_office_entries.specs.Logged.Behind.{entries_behind}
use Rattle.am_library_views.specs.Accounts.{IsAccountOf}
use Rattle.am_library_views.specs.Ends.{ended_in}
use Rattle.am_library_views.proofs.account.Account.add_ended.Given as goal

abbrev pub invariant-loop-entry : goal.invariant-loop-entry
invariant-loop-entry l =
    IsAccountOf (entries_behind l.entries) l.self →
    l.list.items ≡ l.initial.list.items ++ filter_map (ended_in (entries_behind l.entries) l.ending) (take l.entry-index (entries_behind l.entries))

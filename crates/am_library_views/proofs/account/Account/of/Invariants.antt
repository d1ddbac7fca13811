use Rattle.std.proofs.Common.{take}
use Rattle.am_office_entries.specs.Logged.Behind.{entries_behind}
use Rattle.am_library_views.specs.Accounts.{IsAccountOf}
use Rattle.am_library_views.proofs.account.Account.of.Given as goal

abbrev pub invariant-loop-entry : goal.invariant-loop-entry
invariant-loop-entry l = IsAccountOf (take l.entry-index (entries_behind l.entries)) l.account

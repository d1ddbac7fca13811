use Rattle.std.proofs.Common.{◌≡◌, take}
use Rattle.am_office_entries.specs.Logged.Behind.{entries_behind}
use Rattle.am_library_views.specs.Views.{runs_at}
use Rattle.am_library_views.proofs.runs.runs_at.Given as goal

abbrev pub invariant-loop-entry : goal.invariant-loop-entry
invariant-loop-entry l = l.runs.items ≡ runs_at (take l.entry-index (entries_behind l.entries)) l.end

use Rattle.std.proofs.Common.{map, take}
use Rattle.am_office_entries.specs.Logged.Behind.{entries_behind}
use Rattle.am_cluster_scripted.specs.Links.{AreFed, IsSpared, released_in}
use Rattle.am_cluster_scripted.proofs.emissions.links_after.Given as goal

abbrev pub invariant-loop-entry : goal.invariant-loop-entry
invariant-loop-entry l = record { fed : AreFed l.scenario.plan (take l.entry-index (entries_behind l.entries)) (map released_in l.links.all.items); spared : IsSpared l.links }

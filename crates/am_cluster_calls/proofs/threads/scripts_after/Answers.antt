use Rattle.std.proofs.Common.{map, take}
use Rattle.am_office_entries.specs.Logged.Behind.{entries_behind}
use Rattle.am_cluster_calls.specs.Threads.{scripted_in}
use Rattle.am_cluster_calls.proofs.Counting.{threads_distinct}
use Rattle.am_cluster_calls.proofs.CallSteps.{called_step, small_at}
use Rattle.am_cluster_calls.proofs.threads.scripts_after.Goals as goal

pub count_event-requires-clause-distinct : goal.count_event-requires-clause-distinct
count_event-requires-clause-distinct c = threads_distinct c.args.scenario.now (take c.loop-entry.entry-index (entries_behind c.args.entries.now))
    (map scripted_in c.loop-entry.threads.items) c.requires.lawful c.loop-entry.invariant

pub count_event-requires-clause-small : goal.count_event-requires-clause-small
count_event-requires-clause-small c =
    small_at c.args.scenario.now c.args.entries.now c.loop-entry.entry-index _ c.loop-entry-test.true c.requires.short c.requires.lawful.settings.log.1
    c.loop-entry.invariant

pub loop-entry-preserved : goal.loop-entry-preserved
loop-entry-preserved c =
    called_step c.args.scenario.now c.args.entries.now c.loop-entry.entry-index _ _ _ c.loop-entry-test.true c.loop-entry.invariant c.count_event.ensures

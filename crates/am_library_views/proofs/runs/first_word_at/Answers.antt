use Rattle.am_library_views.proofs.Ran.{first_found, none_found, none_yet}
use Rattle.am_library_views.proofs.runs.first_word_at.Goals as goal

pub returns-in-Some : goal.returns-in-Some
returns-in-Some c =
    first_found c.entries-entries.result.now c.args.journal.now c.args.end c.loop-entry.entry-index _ c.run_at.result c.in-Some.run'
    c.entries-entries.ensures c.loop-entry-test.true c.loop-entry.invariant c.run_at.ensures c.in-Some.is

pub loop-entry-preserved : goal.loop-entry-preserved
loop-entry-preserved c =
    none_yet c.entries-entries.result.now c.args.end c.loop-entry.entry-index _ c.run_at.result c.loop-entry-test.true c.loop-entry.invariant
    c.run_at.ensures c.in_default.is

pub returns : goal.returns
returns c =
    none_found c.entries-entries.result.now c.args.journal.now c.args.end c.loop-entry.entry-index c.entries-entries.ensures
    c.loop-entry-test.false c.loop-entry.invariant

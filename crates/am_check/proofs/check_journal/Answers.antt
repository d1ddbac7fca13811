use Rattle.std.proofs.Common.{ℕ, List, drop, subst}
use Rattle.am_lexer.specs.Text.{lines_of}
use Rattle.am_scenario_types.specs.Lists.{ScenarioLists}
use Rattle.am_check.specs.Verdict.{StopsJournal}
use Rattle.am_check.proofs.Stopping.{stops_report}
use Rattle.am_check.proofs.check_journal.Goals as goal

pub returns-in-Err : goal.returns-in-Err
returns-in-Err g c =
    let f = g.F.Follower in
    let bytes = c.args.bytes.now in
    let count = c.in-Some.count in
    let stop = c.in-Err.stop in
    stops_report f.form c.args.scenario.now bytes count stop c.in-Some.ensures.0
    (subst (λ (s : ScenarioLists). StopsJournal f.form s count (drop 2 (lines_of bytes)) stop) c.requires.scenario
    (subst (λ (lines : List (List ℕ)). StopsJournal f.form (f.scenario c.args.follower.now) count lines stop) c.in-Some.ensures.1 c.in-Err.ensures.stops))

use Rattle.std.proofs.Common.{◌≡◌, ◌<◌, ◌+◌, ◌∷◌, ◌++◌, ℕ, List, length, map, sym, ap, subst, ◌∙◌}
use Rattle.am_check_lines.specs.Grammar.{printed}
use Rattle.am_lexer.specs.Text.{lines_of}
use Rattle.am_scenario_types.specs.Lists.{ScenarioLists}
use Rattle.am_check.specs.declared.faults.CheckStop.{CheckStop}
use Rattle.am_check.specs.Lines.{PassesLine, StopsLine}
use Rattle.am_check.specs.Verdict.{StopsJournal, number_of}
use Rattle.am_check.proofs.Passing.{one_on}
use Rattle.am_check.proofs.Stopping.{stops_at}
use Rattle.am_check.proofs.lines.check_lines.Goals as goal

pub returns-in-Err-clause-stops : goal.returns-in-Err-clause-stops
returns-in-Err-clause-stops g c =
    let f = g.F.Follower in
    let s = f.scenario c.args.follower.now in
    let lines = lines_of c.args.lines.now in
    let past = f.journal c.loop-place.follower in
    let line = c.in-Some.line.now in
    let left = lines_of c.in-Some.after.now in
    let is : lines ≡ map printed past ++ line ∷ left = c.loop-place.invariant.lines
    ∙ ap (λ (l : List (List ℕ)). map printed past ++ l) c.in-Some.ensures.first in
    let count : length past ≡ c.loop-place.place = c.loop-place.invariant.count in
    let below : c.loop-place.place < c.args.count = c.loop-place-test.true in
    let more : length past < c.args.count = subst (λ (n : ℕ). n < c.args.count) (sym count) below in
    let number = c.line_number-number.ensures ∙ ap (λ (n : ℕ). number_of (n + 3)) (sym count) in
    let stopped = subst (λ (t : ScenarioLists). StopsLine f.form t past line c.in-Err.stop) c.loop-place.invariant.scenario c.in-Err.ensures.stops in
    subst (λ (r : CheckStop). StopsJournal f.form s c.args.count lines r) (sym c.at_line.ensures)
    (stops_at f.form s c.args.count lines past line left c.line_number-number.result c.in-Err.stop (record {
      begun = c.loop-place.invariant.begun;
      lines' = is;
    }) more number stopped)

pub loop-place-preserved : goal.loop-place-preserved
loop-place-preserved g c =
    let f = g.F.Follower in
    let s = f.scenario c.args.follower.now in
    let lines = lines_of c.args.lines.now in
    let past = f.journal c.loop-place.follower in
    let line = c.in-Some.line.now in
    let left = lines_of c.in-Some.after.now in
    let is : lines ≡ map printed past ++ line ∷ left = c.loop-place.invariant.lines
    ∙ ap (λ (l : List (List ℕ)). map printed past ++ l) c.in-Some.ensures.first in
    let new = f.journal c.check_line.new.follower in
    let passed = subst (λ (t : ScenarioLists). PassesLine f.form t past line new) c.loop-place.invariant.scenario c.in_default-check_line.ensures.passes in
    let on = one_on f.form s lines past new line left c.loop-place.invariant.begun is passed in
    record {
      scenario = c.in_default-check_line.ensures.scenario ∙ c.loop-place.invariant.scenario;
      count = on.count ∙ ap (λ (n : ℕ). n + 1) c.loop-place.invariant.count;
      begun = on.begun;
      lines = on.lines';
    }

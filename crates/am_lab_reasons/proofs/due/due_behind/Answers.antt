use Rattle.std.proofs.Common.{subst}
use Rattle.am_check.specs.Verdict.{StopsReport}
use Rattle.am_check.specs.declared.faults.CheckStop.TheVariants as Stops
use Rattle.am_scenario.specs.Grammar.{grammar}
use Rattle.am_scenario_types.specs.Lists.{ScenarioLists}
use Rattle.am_lab_reasons.proofs.StoppedDue.{same_scenario, told_behind}
use Rattle.am_lab_reasons.proofs.due.due_behind.Goals as goal

pub due_of-requires-clause-stopped : goal.due_of-requires-clause-stopped
due_of-requires-clause-stopped c =
    let a = c.args in
    let p = c.requires.stopped in
    subst (λ (t : ScenarioLists). StopsReport a.form t a.bytes.now (Stops.Fault a.line a.what))
    (same_scenario p.0 c.in-Ok.scenario (grammar a.form a.front.now) p.1 c.in-Ok.ensures.exact) p.2

pub returns-in-Ok : goal.returns-in-Ok
returns-in-Ok c =
    let a = c.args in
    told_behind a.form a.front.now a.bytes.now a.line a.what c.in-Ok.scenario c.due_of.result c.in-Ok.ensures.exact c.due_of.ensures

use Rattle.std.proofs.Common.{sym, subst}
use Rattle.am_model_scripts.specs.Layout.{layout_of}
use Rattle.am_scenario_types.specs.declared.parts.Form.TheVariants.{Run}
use Rattle.am_machine.proofs.Applied.{enabled_of}
use Rattle.am_cluster_scripted.specs.Scripted.{cluster_of}
use Rattle.am_check.specs.declared.faults.LineStop.{LineStop}
use Rattle.am_check.specs.Lines.{StopsEvent}
use Rattle.am_check.proofs.Early.{early_stops}
use Rattle.am_check.proofs.runs.ScriptedClusterFollower.make.Goals as goal

pub returns-in-Ok-clause-stops : goal.returns-in-Ok-clause-stops
returns-in-Ok-clause-stops c =
    let free = enabled_of (layout_of c.args.self.now.scenario) c.args.self.now.journal c.args.event c.in-Ok.ensures.applies.0 in
    (free, (c.is_early-early.ensures free).0 c.if-early.true)

pub returns-in-Err-clause-stops : goal.returns-in-Err-clause-stops
returns-in-Err-clause-stops c =
    let s = c.args.self.now.scenario in
    let past = c.args.self.now.journal in
    subst (λ (why : LineStop). StopsEvent Run s past c.args.event why) (sym c.stop_in_run.ensures)
    (early_stops s past (cluster_of c.step.new.self) c.args.event c.is_early-early.result c.in-Err.fault c.is_early-early.ensures c.in-Err.ensures.applies)

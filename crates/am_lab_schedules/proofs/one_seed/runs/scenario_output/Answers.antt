use Rattle.am_lab_schedules.proofs.Ordered.{seed_told}
use Rattle.am_lab_schedules.proofs.one_seed.runs.scenario_output.Goals as goal

pub returns : goal.returns
returns c =
    let run = c.run_scheduled-ended.ensures in
    seed_told c.args.scenario.now c.args.seed c.ended_output.result c.run_scheduled-ended.result run.done run.whole run.obeys run.stopped run.ordered
    c.ended_output.ensures.answers c.ended_output.ensures.told

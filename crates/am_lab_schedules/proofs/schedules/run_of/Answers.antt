use Rattle.am_lab_schedules.proofs.Ordered.{kept_whole}
use Rattle.am_lab_schedules.proofs.schedules.run_of.Goals as goal

pub returns-in-Ok-clause-made : goal.returns-in-Ok-clause-made
returns-in-Ok-clause-made c =
    let run = c.in-Ok.ensures in
    kept_whole c.args.scenario.now c.args.seed c.in-Ok.field-0 c.kept.result run.done run.whole run.obeys run.ordered c.kept.ensures

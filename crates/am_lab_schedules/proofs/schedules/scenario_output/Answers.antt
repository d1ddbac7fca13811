use Rattle.am_lab_schedules.proofs.Seeds.{all_told}
use Rattle.am_lab_schedules.proofs.schedules.scenario_output.Goals as goal

pub returns : goal.returns
returns c =
    let are = c.in_ok-telling.ensures in
    all_told c.args.faults c.args.scenario c.args.from c.args.to c.in_ok-telling.telling are c.output.result (c.output.ensures are.runs are.tells)

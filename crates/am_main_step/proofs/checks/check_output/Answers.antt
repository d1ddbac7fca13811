use Rattle.am_main_step.proofs.CheckAnswers.{given_full, given_line, given_scenario}
use Rattle.am_main_step.proofs.checks.check_output.Goals as goal

pub returns-in-Err-Scenario : goal.returns-in-Err-Scenario
returns-in-Err-Scenario c =
    let verdict = rw c.in-Err-Scenario.field-0-is at c.in-Err-Scenario.ensures in
    given_scenario c.fault_output.result c.args.form c.args.bytes.now c.in-Err-Scenario.fault verdict c.fault_output.ensures

pub returns-in-Err-Fault : goal.returns-in-Err-Fault
returns-in-Err-Fault c =
    let verdict = rw c.in-Err-Fault.field-0-is at c.in-Err-Fault.ensures in
    given_line c.line_output.result c.args.form c.args.bytes.now c.in-Err-Fault.line c.in-Err-Fault.what verdict c.line_output.ensures

pub returns-in-Err-LogFull : goal.returns-in-Err-LogFull
returns-in-Err-LogFull c =
    let verdict = rw c.in-Err-LogFull.field-0-is at c.in-Err-LogFull.ensures in
    given_full c.full_output.result c.args.form c.args.bytes.now c.in-Err-LogFull.part verdict c.full_output.ensures

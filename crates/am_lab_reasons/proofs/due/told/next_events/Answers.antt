use Rattle.am_lab_reasons.proofs.StoppedDue.{might_told}
use Rattle.am_lab_reasons.proofs.due.told.next_events.Goals as goal

pub returns : goal.returns
returns c =
    let run = c.in_ok-run.run' in
    let at = c.in_ok-run.ensures.at in
    might_told c.choices_text.result c.args.scenario.now run.scenario c.args.bytes.now c.args.line run.journal at.0 at.1 c.in_ok-run.ensures.scenario
    c.choices_text.ensures

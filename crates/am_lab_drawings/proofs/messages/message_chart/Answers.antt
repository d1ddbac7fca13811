use Rattle.am_lab_drawings.proofs.Drawable.{message_drawable}
use Rattle.am_lab_drawings.proofs.Picturing.{charted}
use Rattle.am_lab_drawings.proofs.messages.message_chart.Goals as goal

pub drawn-requires-clause-order : goal.drawn-requires-clause-order
drawn-requires-clause-order c =
    (message_drawable c.one_scenario_or_fault.ensures.lawful c.args.form c.args.bytes.now c.args.serial c.in_ok-picture.picture c.in_ok-picture.ensures).0

pub drawn-requires-clause-lanes : goal.drawn-requires-clause-lanes
drawn-requires-clause-lanes c =
    (message_drawable c.one_scenario_or_fault.ensures.lawful c.args.form c.args.bytes.now c.args.serial c.in_ok-picture.picture c.in_ok-picture.ensures).1

pub returns : goal.returns
returns c = charted c.args.form c.args.bytes.now c.args.serial c.in_ok-picture.picture c.drawn.result c.in_ok-picture.ensures c.drawn.ensures

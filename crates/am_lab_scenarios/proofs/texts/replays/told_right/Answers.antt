use Rattle.am_main_lines.specs.Lines.{answer_in}
use Rattle.am_lab_scenarios.proofs.Replaying.{replays_right}
use Rattle.am_lab_scenarios.proofs.texts.replays.told_right.Goals as goal

pub told_text-requires-clause-right : goal.told_text-requires-clause-right
told_text-requires-clause-right c = c.requires.checks.exactly.0 c.requires.right

pub returns : goal.returns
returns c = replays_right c.args.bytes.now (answer_in c.args.checked.now) c.told_text.result c.requires.checks c.requires.right c.told_text.ensures

use Rattle.am_main_lines.specs.Lines.{answer_in}
use Rattle.am_lab_shiviz.proofs.Told.{shiviz_right}
use Rattle.am_lab_shiviz.proofs.command.told_right.Goals as goal

pub checked_text-requires-clause-checked : goal.checked_text-requires-clause-checked
checked_text-requires-clause-checked c = (c.yes_is_true.ensures c.args.form c.args.bytes.now).1 (c.requires.checks.exactly.0 c.requires.right)

pub returns : goal.returns
returns c =
    let k = (c.yes_is_true.ensures c.args.form c.args.bytes.now).1 (c.requires.checks.exactly.0 c.requires.right) in
    shiviz_right c.args.form c.args.bytes.now (answer_in c.args.checked.now) c.in_ok-text.text.items c.requires.checks c.requires.right k
    (c.in_ok-text.ensures k)

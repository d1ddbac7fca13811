use Rattle.am_lab_drawings.proofs.charts.told_right.Goals as goal

pub drawn-requires-clause-checked : goal.drawn-requires-clause-checked
drawn-requires-clause-checked c =
    (c.yes_is_true.ensures c.args.form c.args.bytes.now).1 (c.requires.checks.exactly.0 c.requires.right)

use Rattle.am_lab_state.proofs.answers.told_right.Goals as goal

pub told_text-requires-clause-checked : goal.told_text-requires-clause-checked
told_text-requires-clause-checked c = (c.yes_is_true.ensures c.args.form c.args.bytes.now).1 (c.requires.checks.exactly.0 c.requires.right)

use Rattle.am_lab_page.proofs.json.told_right.Goals as goal

pub checked_text-requires-clause-checked : goal.checked_text-requires-clause-checked
checked_text-requires-clause-checked c = (c.yes_is_true.ensures c.args.form c.args.bytes.now).1 (c.requires.checks.exactly.0 c.requires.right)

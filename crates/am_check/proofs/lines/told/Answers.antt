use Rattle.am_check.proofs.lines.told.Goals as goal

pub returns-in_default-clause-stops : goal.returns-in_default-clause-stops
returns-in_default-clause-stops g c = c.parse_line.ensures.none c.in_default.is

use Rattle.std.proofs.Common.{sym, ◌∙◌}
use Rattle.am_check_lines.proofs.Lines.{none_is_read}
use Rattle.am_check_lines.proofs.parse_line.Goals as goal

pub returns-in-None-clause-none : goal.returns-in-None-clause-none
returns-in-None-clause-none c = λ _ e l. none_is_read c.args.line.now (sym c.event_of.ensures ∙ c.in-None.is) e l

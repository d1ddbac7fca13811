use Rattle.std.proofs.Common.{inr}
use Rattle.am_main_lines.specs.Lines.{answer_in}
use Rattle.am_lab.proofs.Saying.{is_checked}
use Rattle.am_lab.proofs.charts.drawn.Goals as goal

pub message_chart-requires-clause-checked : goal.message_chart-requires-clause-checked
message_chart-requires-clause-checked c =
    is_checked c.yes_is_true.ensures c.args.form c.args.bytes.now (answer_in c.args.checked.now) c.requires.checks c.requires.right

pub returns : goal.returns
returns c =
    record {
      checked = answer_in c.args.checked.now;
      checks = c.requires.checks;
      more = inr (inr (record { right = c.requires.right; declared = c.requires.declared; drawn = c.in_ok-output.ensures }));
    }

use Rattle.std.proofs.Common.{inl, inr}
use Rattle.am_main_lines.specs.Lines.{answer_in}
use Rattle.am_lab.proofs.charts.undrawn.Goals as goal

pub returns-in-Ok : goal.returns-in-Ok
returns-in-Ok c =
    record {
      checked = answer_in c.args.checked.now;
      checks = c.requires.checks;
      more = inr (inl (record { right = c.requires.right; undeclared = c.requires.undeclared; answer' = c.in-Ok.ensures }));
    }

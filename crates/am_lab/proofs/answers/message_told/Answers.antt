use Rattle.std.proofs.Common.{inr, refl}
use Rattle.am_main_lines.specs.Lines.{answer_in}
use Rattle.am_lab.proofs.Saying.{is_checked}
use Rattle.am_lab.proofs.answers.message_told.Goals as goal

pub why-requires-clause-checked : goal.why-requires-clause-checked
why-requires-clause-checked c =
    is_checked c.yes_is_true.ensures c.args.form c.args.bytes.now (answer_in c.args.checked.now) c.requires.checks c.requires.right

pub returns : goal.returns
returns c =
    record {
      checked = answer_in c.args.checked.now;
      checks = c.requires.checks;
      more = inr (inr (record {
        right = c.requires.right;
        declared = c.requires.declared;
        out = c.in_ok-text.text.items;
        tells = c.in_ok-text.ensures;
        answer' = refl;
      }));
    }

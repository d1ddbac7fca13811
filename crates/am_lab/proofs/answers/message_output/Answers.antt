use Rattle.std.specs.Prelude.{Bool}
use Rattle.std.proofs.Common.{subst}
use Rattle.am_lab_reasons.specs.Reasons.{IsDeclared}
use Rattle.am_lab_reasons.proofs.Parted.{has_report}
use Rattle.am_main_lines.specs.Lines.{answer_in}
use Rattle.am_lab.proofs.Saying.{is_checked}
use Rattle.am_lab.proofs.answers.message_output.Goals as goal

pub is_declared-requires : goal.is_declared-requires
is_declared-requires c =
    record {
      report = has_report c.args.form c.args.bytes.now
          (is_checked c.yes_is_true.ensures c.args.form c.args.bytes.now (answer_in c.args.checked.now) c.requires.checks c.requires.right);
    }

pub message_told-requires-clause-declared : goal.message_told-requires-clause-declared
message_told-requires-clause-declared c =
    subst (λ (b : Bool). IsDeclared c.args.form c.args.bytes.now c.args.serial.source b) c.if-declared.true c.in_ok-declared.ensures

pub endpoint_lacking-requires-clause-undeclared : goal.endpoint_lacking-requires-clause-undeclared
endpoint_lacking-requires-clause-undeclared c =
    subst (λ (b : Bool). IsDeclared c.args.form c.args.bytes.now c.args.serial.source b) c.if-declared.false c.in_ok-declared.ensures

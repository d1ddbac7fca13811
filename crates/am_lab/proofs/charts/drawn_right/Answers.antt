use Rattle.std.specs.Prelude.{Bool}
use Rattle.std.proofs.Common.{subst}
use Rattle.am_lab_reasons.specs.Reasons.{IsDeclared}
use Rattle.am_lab.proofs.charts.drawn_right.Goals as goal

pub drawn-requires-clause-declared : goal.drawn-requires-clause-declared
drawn-requires-clause-declared c =
    subst (λ (b : Bool). IsDeclared c.args.form c.args.bytes.now c.args.serial.source b) c.if-declared.true c.in_ok-declared.ensures

pub undrawn-requires-clause-undeclared : goal.undrawn-requires-clause-undeclared
undrawn-requires-clause-undeclared c =
    subst (λ (b : Bool). IsDeclared c.args.form c.args.bytes.now c.args.serial.source b) c.if-declared.false c.in_ok-declared.ensures

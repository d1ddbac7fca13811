use Rattle.std.proofs.Common.{IfOk, subst, sym}
use Rattle.am_lab_shrink.specs.declared.reports.Making.{Making}
use Rattle.am_lab_shrink.specs.Reports.{IsOnly}
use Rattle.am_lab_shrink.proofs.OnlyAnswers.{only_of_drain, only_of_steps}
use Rattle.am_lab_shrink.proofs.reports.answer_of.Goals as goal
use Rattle.am_main_lines.specs.Lines.{answer_in}
use Rattle.am_main_lines.specs.declared.outputs.Output.{Output}

pub returns-in-Steps-clause-only : goal.returns-in-Steps-clause-only
returns-in-Steps-clause-only c =
    subst (λ (making : Making). IfOk c.step_output.result (λ (output : Output). IsOnly making c.args.text.now (answer_in output))) (sym c.in-Steps.is)
    (only_of_steps c.step_has_one_answer.ensures c.args.text.now c.step_output.result c.step_output.ensures)

pub returns-in-Drain-clause-only : goal.returns-in-Drain-clause-only
returns-in-Drain-clause-only c =
    subst (λ (making : Making). IfOk c.drain_output.result (λ (output : Output). IsOnly making c.args.text.now (answer_in output))) (sym c.in-Drain.is)
    (only_of_drain c.have_one_answer.ensures c.args.text.now c.drain_output.result c.drain_output.ensures)

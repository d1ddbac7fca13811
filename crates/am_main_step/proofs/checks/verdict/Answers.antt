use Rattle.am_main_step.proofs.CheckAnswers.{verdict_is}
use Rattle.am_main_step.proofs.checks.verdict.Goals as goal

pub returns : goal.returns
returns c = verdict_is c.yes_is_true.ensures c.args.form c.args.bytes.now c.check.result c.check.ensures.answer c.check.ensures.exact c.check.ensures.only

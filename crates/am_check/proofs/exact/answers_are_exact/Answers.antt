use Rattle.am_check.proofs.Answering.{exact, one_answer}
use Rattle.am_check.proofs.exact.answers_are_exact.Goals as goal

pub returns : goal.returns
returns c = record { exact = exact c.one_scenario_or_fault.ensures.lawful; one = one_answer c.one_scenario_or_fault.ensures.lawful }

use Rattle.am_main_step.proofs.Made.{Walks}
use Rattle.am_lab_reasons.proofs.stops.make_steps.Given as goal

abbrev pub invariant-loop-step : goal.invariant-loop-step
invariant-loop-step l = Walks l.fn.cluster.layout l.cluster.layout l.steps l.step-index l.cluster.journal

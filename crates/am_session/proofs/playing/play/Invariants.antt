use Rattle.am_session.proofs.Walking.{Walks}
use Rattle.am_session.proofs.playing.play.Given as goal

abbrev pub invariant-loop-step : goal.invariant-loop-step
invariant-loop-step l = Walks l.script l.step-index l.session l.entries.items

use Rattle.am_workers.proofs.Working.{IsSameDriver}
use Rattle.am_workers.proofs.drivers.work_as_driver.Given as goal

abbrev pub invariant-loop-turn : goal.invariant-loop-turn
invariant-loop-turn g l = IsSameDriver l.scenario l.places.board.shared.table_id l.places.ids.items l.initial.worker.node l.turn l.initial.worker l.worker

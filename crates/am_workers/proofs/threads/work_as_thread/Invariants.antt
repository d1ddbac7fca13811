use Rattle.am_workers.proofs.Working.{IsSameThread}
use Rattle.am_workers.proofs.threads.work_as_thread.Given as goal

abbrev pub invariant-loop-turn : goal.invariant-loop-turn
invariant-loop-turn g l = IsSameThread l.scenario l.places.board.shared.table_id l.places.ids.items l.turn l.initial.worker l.worker

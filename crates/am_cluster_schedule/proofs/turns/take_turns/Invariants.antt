use Rattle.std.proofs.Common.{◌≡◌}
use Rattle.am_cluster_opening.specs.Crews.{AreLinked}
use Rattle.am_cluster_schedule.specs.InTurn.{AreInTurn}
use Rattle.am_cluster_schedule.specs.Order.{scheduled}
use Rattle.am_cluster_schedule.specs.Schedules.{TakesTurns}
use Rattle.am_cluster_schedule.proofs.turns.take_turns.Given as goal

abbrev pub invariant-loop-turn : goal.invariant-loop-turn
invariant-loop-turn l = record {
  generator : l.order.generator ≡ (scheduled l.scenario l.seed l._turn).generator;
  next : l.order.next.items ≡ (scheduled l.scenario l.seed l._turn).next;
  in_turn : AreInTurn l.scenario l.order.next.items l.crews.items;
  linked : AreLinked l.crews.items;
  turns : TakesTurns (scheduled l.scenario l.seed l._turn).taken l.fn.crews.items l.crews.items;
}

use Rattle.am_cluster_tests.proofs.Driving.{crew_can}
use Rattle.am_cluster_tests.proofs.devices.turn_with.Goals as goal

pub driver_turn-requires-clause-can : goal.driver_turn-requires-clause-can
driver_turn-requires-clause-can c =
    crew_can c.args.scenario.now c.args.node 0 c.args.crew.now _ c.in-Some.line c.requires.crew c.in-Some.ensures (c.held.ensures.none.0 c.in-None.is)

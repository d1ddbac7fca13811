use Rattle.am_lab_schedules.specs.Finds.{NoneIsWanted}
use Rattle.am_lab_schedules.specs.Trials.{StandsFor}
use Rattle.am_lab_schedules.proofs.finds.find_seed.Given as goal

abbrev pub invariant-loop-seed : goal.invariant-loop-seed
invariant-loop-seed l = record {
  none : NoneIsWanted l.faults l.fn.scenario l.wanted l.given l.from l.seed;
  stands : StandsFor l.faults l.fn.scenario l.scenario;
}

use Rattle.am_lab_schedules.specs.Told.{AreTold}
use Rattle.am_lab_schedules.specs.Trials.{StandsFor}
use Rattle.am_lab_schedules.proofs.schedules.told_runs.Given as goal

abbrev pub invariant-loop-seed : goal.invariant-loop-seed
invariant-loop-seed l = record {
  told : AreTold l.faults l.fn.scenario l.from l.seed l.telling;
  stands : StandsFor l.faults l.fn.scenario l.scenario;
}

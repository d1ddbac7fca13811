use Rattle.std.proofs.Common.{arith}
use Rattle.am_lab_schedules.specs.Finds.{IsPassed}
use Rattle.am_lab_schedules.proofs.Finding.{none_at_all, none_more, none_yet, where_none}
use Rattle.am_lab_schedules.proofs.Trying.{stands_further, stands_itself}
use Rattle.am_lab_schedules.proofs.finds.find_seed.Goals as goal

pub loop-seed-init : goal.loop-seed-init
loop-seed-init c = record {
  none = none_yet c.args.faults c.args.scenario.now c.args.wanted c.args.given.now c.args.from;
  stands = stands_itself c.args.faults c.args.scenario.now c.requires.lawful c.requires.of_form;
}

pub loop-seed-preserved : goal.loop-seed-preserved
loop-seed-preserved c =
    let s = c.args.scenario.now in
    let other = c.loop-seed.scenario in
    let so_far = c.loop-seed.invariant in
    let run = c.in_ok-of_run.ensures in
    let passed = where_none (IsPassed c.args.faults other c.args.wanted c.args.given.now c.loop-seed.seed) c.in_ok-of_run.field-0 c.in_default.not-Some run.passed in
    record {
      none = none_more c.args.faults s other c.args.wanted c.args.given.now c.args.from c.loop-seed.seed so_far.stands so_far.none passed;
      stands = stands_further c.args.faults s other c.wanted_run.new.scenario so_far.stands run.stands;
    }

pub returns-clause-none : goal.returns-clause-none
returns-clause-none c =
    none_at_all c.args.faults c.args.scenario.now c.args.wanted c.args.given.now c.args.from c.args.to c.loop-seed.seed (omega arith)
    c.loop-seed.invariant.none

use Rattle.std.proofs.Common.{◌≡◌, ℕ, arith, subst}
use Rattle.am_lab_schedules.specs.Told.{AreTold}
use Rattle.am_lab_schedules.proofs.Trying.{made_alike, stands_further}
use Rattle.am_lab_schedules.proofs.schedules.told_runs.Goals as goal

pub returns : goal.returns
returns c =
    let end : c.loop-seed.seed ≡ c.args.to = omega arith in
    subst (λ (n : ℕ). AreTold c.args.faults c.args.scenario.now c.args.from n c.loop-seed.telling) end c.loop-seed.invariant.told

pub loop-seed-init : goal.loop-seed-init
loop-seed-init c = record {
  told = c.in_ok-telling.ensures c.args.faults c.args.scenario.now c.args.from c.in_ok-first.ensures.seed c.in_ok-first.ensures.made;
  stands = c.in_ok-first.ensures.stands;
}

pub loop-seed-preserved : goal.loop-seed-preserved
loop-seed-preserved c =
    let s = c.args.scenario.now in
    let stands = c.loop-seed.invariant.stands in
    let made = made_alike c.args.faults s c.loop-seed.scenario c.in_ok-run.run' stands c.in_ok-run.ensures.made in
    record {
      told = c.in_ok-next.ensures c.args.faults s c.args.from c.loop-seed.seed (omega arith) c.in_ok-run.ensures.seed made c.loop-seed.invariant.told;
      stands = stands_further c.args.faults s c.loop-seed.scenario c.trial_of-in-loop-seed.new.scenario stands c.in_ok-run.ensures.stands;
    }

use Rattle.std.proofs.Common.{rules, ◌≤◌, length, arith}
use Rattle.am_workers.proofs.Linking.{kept_itself, kept_then}
use Rattle.am_workers.proofs.Looking.{whole_all}
use Rattle.am_workers.proofs.ways.pump_all.Goals as goal

pub loop-at-init : goal.loop-at-init
loop-at-init c = record { kept = kept_itself c.args.outs.now.items; whole = λ k o low at. absurd (omega (arith, low)); room = λ room. room }

pub loop-at-preserved : goal.loop-at-preserved
loop-at-preserved c =
    record {
      kept = kept_then c.args.outs.now.items c.loop-at.outs.items c.pump_at.new.outs.items c.loop-at.invariant.kept c.pump_at.ensures.kept;
      whole = c.pump_at.ensures.whole c.loop-at.invariant.whole;
      room = λ room. c.pump_at.ensures.room (c.loop-at.invariant.room room);
    }

pub returns-clause-whole : goal.returns-clause-whole
returns-clause-whole c =
    let all : length c.loop-at.outs.items ≤ c.loop-at.at = search rules in whole_all c.loop-at.outs.items c.loop-at.at all c.loop-at.invariant.whole

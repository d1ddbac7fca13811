use Rattle.std.proofs.Common.{take, arith}
use Rattle.std.proofs.lemmas.List.{length-take-le}
use Rattle.am_lab_shiviz.proofs.Knowing.{few_known}
use Rattle.am_lab_shiviz.proofs.knowledge.clocks.Goals as goal

pub learn-requires : goal.learn-requires
learn-requires c =
    let at = c.loop-happening.happening-index in
    let happenings = c.args.happenings.now in
    let less = c.loop-happening-test.true in
    let long = length-take-le at happenings (omega (arith, less)) in
    let few = c.requires in
    few_known c.loop-happening.known (take at happenings) _ c.loop-happening.invariant (omega (arith, long, less, few))

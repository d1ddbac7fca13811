use Rattle.std.proofs.Common.{ℕ, List, ap, arith}
use Rattle.am_lab_shiviz.specs.declared.knowledge.Clock.{Clock}
use Rattle.am_lab_shiviz.proofs.Joining.{all_greater}
use Rattle.am_lab_shiviz.proofs.knowledge.Clock.joined.Goals as goal

pub returns : goal.returns
returns c =
    let with : List ℕ → Clock = λ counts. record { counts = counts } in
    let size = c.loop-node.invariant.size in
    let end = c.loop-node-test.false in
    ap with (all_greater c.loop-node.counts c.args.other.counts c.loop-node.node _ (omega (arith, size, end)) c.loop-node.invariant.counts)

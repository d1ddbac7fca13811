use Rattle.std.proofs.Common.{◌+◌, ℕ, sym, subst, ◌∙◌}
use Rattle.std.proofs.Math.Nat.{le_antisymm}
use Rattle.am_machine.specs.Presets.{AreOpenedUpTo}
use Rattle.am_machine.proofs.Presets.{opened_more}
use Rattle.am_machine.proofs.swaps.open_swaps.Goals as goal

pub loop-node-preserved : goal.loop-node-preserved
loop-node-preserved c =
    subst (AreOpenedUpTo c.args.faults.now c.args.lines.now (c.loop-node.node + 1)) (sym c.in-Ok.ensures.items)
    (opened_more c.args.faults.now c.args.lines.now c.loop-node.node c.loop-node.all.items c.in_ok-swap.swap c.loop-node.invariant c.in_ok-swap.ensures)

pub returns : goal.returns
returns c =
    subst (λ (n : ℕ). AreOpenedUpTo c.args.faults.now c.args.lines.now n c.loop-node.all.items)
    (le_antisymm c.loop-node.auto.node-end c.loop-node-test.false ∙ c.interfaces_of-count.ensures) c.loop-node.invariant

use Rattle.std.proofs.Common.{◌+◌, ℕ, sym, subst, ◌∙◌}
use Rattle.std.proofs.Math.Nat.{le_antisymm}
use Rattle.am_machine.specs.Homes.{AreFreshUpTo}
use Rattle.am_machine.proofs.Homes.{fresh_more}
use Rattle.am_machine.proofs.interfaces.open_interfaces.Goals as goal

pub loop-node-preserved : goal.loop-node-preserved
loop-node-preserved c =
    subst (AreFreshUpTo c.args.settings.now c.args.lines.now (c.loop-node.node + 1)) (sym c.in-Ok.ensures.items)
    (fresh_more c.args.settings.now c.args.lines.now c.loop-node.node c.loop-node.all.items c.in_ok-interface.interface c.loop-node.invariant
    c.in_ok-interface.ensures)

pub returns : goal.returns
returns c =
    subst (λ (n : ℕ). AreFreshUpTo c.args.settings.now c.args.lines.now n c.loop-node.all.items)
    (le_antisymm c.loop-node.auto.node-end c.loop-node-test.false ∙ c.interfaces_of-count.ensures) c.loop-node.invariant

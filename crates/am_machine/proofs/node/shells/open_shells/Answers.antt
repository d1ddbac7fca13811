use Rattle.std.proofs.Common.{ℕ, ◌≡◌, ◌+◌, ◌∷◌, [], sym, subst, arith, length-append}
use Rattle.std.proofs.Math.Nat.{le_antisymm}
use Rattle.am_model.specs.Layout.{node_at}
use Rattle.am_machine.specs.Node.Shells.{AreShells, IsShell}
use Rattle.am_machine.specs.declared.node.shells.Shell.{Shell}
use Rattle.am_machine.proofs.Pushed.{each_more}
use Rattle.am_machine.proofs.node.shells.open_shells.Goals as goal

pub open_shell-requires-clause-small : goal.open_shell-requires-clause-small
open_shell-requires-clause-small c = c.requires.small c.loop-node.node c.loop-node-test.true

pub loop-node-preserved : goal.loop-node-preserved
loop-node-preserved c past is =
    let before = c.loop-node.invariant past is in
    let all = before.all in
    subst (AreShells c.args.ends.now past c.args.nodes (c.loop-node.node + 1)) (sym c.in_ok-push.ensures.items)
    (record {
      all = (let longer = length-append c.loop-node.shells.items (c.in_ok-shell.shell ∷ []) in omega (arith, longer, all));
      each = each_more (λ k (s : Shell). IsShell c.args.ends.now past c.args.nodes (node_at k) s) c.loop-node.shells.items c.in_ok-shell.shell c.loop-node.node
          all before.each (c.in_ok-shell.ensures past is);
    })

pub returns : goal.returns
returns c past is =
    let all : c.loop-node.node ≡ c.args.nodes = le_antisymm c.loop-node.auto.node-end c.loop-node-test.false in
    subst (λ (n : ℕ). AreShells c.args.ends.now past c.args.nodes n c.loop-node.shells.items) all (c.loop-node.invariant past is)

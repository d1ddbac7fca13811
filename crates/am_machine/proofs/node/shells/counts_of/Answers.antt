use Rattle.std.proofs.Common.{◌≡◌, ◌+◌, ◌∷◌, [], ℕ, sym, subst, arith, length-append}
use Rattle.std.proofs.Math.Nat.{le_antisymm}
use Rattle.am_model.specs.Layout.{node_at}
use Rattle.am_machine_journal.specs.Index.View.{receipts}
use Rattle.am_machine.specs.Node.Shells.{AreCounts}
use Rattle.am_machine.proofs.Pushed.{each_more}
use Rattle.am_machine.proofs.node.shells.counts_of.Goals as goal

pub loop-from-preserved : goal.loop-from-preserved
loop-from-preserved c past is =
    let before = c.loop-from.invariant past is in
    let all = before.all in
    subst (AreCounts past c.args.to (c.loop-from.from + 1)) (sym c.in_ok-push.ensures.items)
    (record {
      all = (let longer = length-append c.loop-from.counts.items (c.received.result ∷ []) in omega (arith, longer, all));
      each = each_more (λ k (n : ℕ). n ≡ receipts (node_at k) c.args.to past) c.loop-from.counts.items c.received.result c.loop-from.from all before.each
          (c.received.ensures.receipts past is);
    })

pub returns : goal.returns
returns c past is =
    let all : c.loop-from.from ≡ c.args.nodes = le_antisymm c.loop-from.auto.from-end c.loop-from-test.false in
    subst (λ (n : ℕ). AreCounts past c.args.to n c.loop-from.counts.items) all (c.loop-from.invariant past is)

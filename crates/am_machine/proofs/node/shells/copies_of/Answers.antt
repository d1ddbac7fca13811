use Rattle.std.proofs.Common.{ℕ, ◌≡◌, ◌+◌, ◌∷◌, [], ◌∙◌, sym, subst, arith, length-append}
use Rattle.std.proofs.Math.Nat.{le_antisymm}
use Rattle.std.specs.Global.{Vec}
use Rattle.am_names.specs.declared.Packet.{Packet}
use Rattle.am_model.specs.Channels.{emitted}
use Rattle.am_model.specs.Layout.{node_at}
use Rattle.am_machine.specs.Node.Shells.{AreCopies}
use Rattle.am_machine.proofs.Pushed.{each_more}
use Rattle.am_machine.proofs.node.shells.copies_of.Goals as goal

pub loop-to-preserved : goal.loop-to-preserved
loop-to-preserved c past is =
    let before = c.loop-to.invariant past is in
    let all = before.all in
    subst (AreCopies past c.args.from (c.loop-to.to + 1)) (sym c.in_ok-push.ensures.items)
    (record {
      all = (let longer = length-append c.loop-to.copies.items (c.in_ok-copy.copy ∷ []) in omega (arith, longer, all));
      each = each_more (λ k (ps : Vec Packet). ps.items ≡ emitted c.args.from (node_at k) past) c.loop-to.copies.items c.in_ok-copy.copy c.loop-to.to all
          before.each (c.in_ok-copy.ensures.items ∙ c.emitted.ensures past is);
    })

pub returns : goal.returns
returns c past is =
    let all : c.loop-to.to ≡ c.args.nodes = le_antisymm c.loop-to.auto.to-end c.loop-to-test.false in
    subst (λ (n : ℕ). AreCopies past c.args.from n c.loop-to.copies.items) all (c.loop-to.invariant past is)

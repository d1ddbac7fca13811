use Rattle.std.proofs.Common.{ap, ◌∙◌, arith, replicate}
use Rattle.am_block.specs.Places.{somes}
use Rattle.am_block.specs.Nodes.{links_of}
use Rattle.am_block_row.specs.Ownership.{place_at}
use Rattle.am_block.specs.contracts.nodes.Node.{the_row as node_row}
use Rattle.am_block.proofs.Filled.{copies, somes-map}
use Rattle.am_block.proofs.GoodNodes.{good_copies, view-copies}
use Rattle.am_block.proofs.nodes.Nodes.new.Goals as goal

pub invariant_of-result : goal.invariant_of-result
invariant_of-result c =
    let cs = c.loop-slot.row.places in
    let i = c.loop-slot.invariant in
    let made = c.in_ok-base.ensures in
    let all = copies c.args.len cs _ i.len (λ k lt. i.done k (omega arith)) in
    record {
      at = i.at;
      good = good_copies c.loop-slot.row.at c.args.len cs _ all i.len (record {
        points = c.pointer.ensures
            ∙ ap (λ p. place_at node_row p 0) (made.row.0 ∙ i.at);
        within = omega (arith, c.requires);
      }) (record {
        points = c.pointer.ensures
            ∙ ap (λ p. place_at node_row p 0) (made.row.0 ∙ i.at);
        within = omega (arith, c.requires);
      });
      deed_at = made.deed.0;
      deed_len = made.deed.1;
      deed_alloc = made.deed.2;
      few = omega (arith, c.ranges.len.fits);
    }

pub returns : goal.returns
returns c =
    let cs = c.loop-slot.row.places in
    let i = c.loop-slot.invariant in
    ap (λ ds. links_of (somes ds)) (copies c.args.len cs _ i.len (λ k lt. i.done k (omega arith))) ∙ ap links_of (somes-map (replicate c.args.len _))
    ∙ view-copies c.args.len _

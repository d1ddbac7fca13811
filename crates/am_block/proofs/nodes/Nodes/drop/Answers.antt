use Rattle.std.proofs.Common.{ap, ◌∙◌, sym, arith, length, None}
use Rattle.am_block.proofs.Filled.{filled, length-somes, all_same, emptied-done, emptied-rest}
use Rattle.std.proofs.Math.ListN.{length-set}
use Rattle.am_block.proofs.nodes.Nodes.drop.Goals as goal

pub loop-slot-init : goal.loop-slot-init
loop-slot-init c =
    let i = c.self.invariant in
    let n = length-somes c.self.inside.row.places i.good.full in
    let m = i.good.len in
    record {
      at = i.at;
      len = i.good.len;
      done = λ k lt. absurd (omega arith);
      rest = λ k _ lt. filled c.self.inside.row.places k i.good.full (omega arith);
    }

pub loop-slot-preserved : goal.loop-slot-preserved
loop-slot-preserved c =
    let i = c.loop-slot.invariant in
    let e = c.read.ensures.row in
    record {
      at = i.at ∙ sym e.0;
      len = ap length e.1 ∙ length-set c.loop-slot.row.places c.loop-slot.slot None ∙ i.len;
      done = emptied-done _ _ _ e.1 (omega (arith, i.len)) i.done;
      rest = emptied-rest _ _ _ c.self.inside.len e.1 i.rest;
    }

pub deallocate-requires : goal.deallocate-requires
deallocate-requires c =
    let i = c.loop-slot.invariant in
    let own = c.self.invariant in
    (sym i.at, all_same c.self.inside.len c.loop-slot.row.places None i.len (λ k lt. i.done k (omega arith)), own.deed_at, own.deed_len, own.deed_alloc)

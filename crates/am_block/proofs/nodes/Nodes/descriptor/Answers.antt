use Rattle.std.proofs.Common.{◌∙◌, sym, ap, arith, length, slice_get}
use Rattle.am_block.proofs.GoodNodes.{good_filled, seen, descriptor_read}
use Rattle.am_block.proofs.nodes.Nodes.descriptor.Goals as goal

pub get-requires : goal.get-requires
get-requires c =
    let n = ap (λ v. length v.next) c.self.view_is in
    let m = seen c.self.inside.row.at c.self.inside.len c.self.inside.row.places c.self.invariant.good in
    (c.self.invariant.at, good_filled c.self.inside.row.at c.self.inside.len c.self.inside.row.places c.self.invariant.good c.args.slot (omega arith))

pub returns : goal.returns
returns c = ap (λ v. slice_get v.descriptors c.args.slot) (sym c.self.view_is)
    ∙ descriptor_read c.self.inside.row.at c.self.inside.len c.self.inside.row.places c.self.invariant.good c.args.slot c.get.result.now c.get.ensures

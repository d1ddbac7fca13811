use Rattle.std.proofs.Common.{◌∙◌, sym, ap, arith, length, get_or}
use Rattle.am_block.proofs.GoodNodes.{good_filled, seen, next_linked, next_read}
use Rattle.am_block.proofs.nodes.Nodes.next.Goals as goal

pub get-requires : goal.get-requires
get-requires c =
    let n = ap (λ v. length v.next) c.self.view_is in
    let m = seen c.self.inside.row.at c.self.inside.len c.self.inside.row.places c.self.invariant.good in
    (c.self.invariant.at, good_filled c.self.inside.row.at c.self.inside.len c.self.inside.row.places c.self.invariant.good c.args.slot (omega arith))

pub returns : goal.returns
returns c = sym (next_read c.self.inside.row.at c.self.inside.len c.self.inside.row.places c.self.invariant.good c.args.slot c.get.result.now c.get.ensures)
    ∙ ap (λ v. get_or v.next c.args.slot 0) c.self.view_is

pub overflow_cast-result : goal.overflow_cast-result
overflow_cast-result c =
    let link = next_linked c.self.inside.row.at c.self.inside.len c.self.inside.row.places c.self.invariant.good c.args.slot c.get.result.now c.get.ensures in
    omega (arith, link.within, c.self.invariant.few)

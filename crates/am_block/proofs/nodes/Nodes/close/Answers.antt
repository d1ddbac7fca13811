use Rattle.std.proofs.Common.{ap, arith, length, ◌∙◌}
use Rattle.am_block.specs.Links.{closed}
use Rattle.am_block.specs.Nodes.{IsLink}
use Rattle.am_block.proofs.GoodNodes.{good_filled, good_set, seen, all_written}
use Rattle.am_block.proofs.nodes.Nodes.close.Goals as goal

pub get_mut-node-requires : goal.get_mut-node-requires
get_mut-node-requires c =
    let at = c.self.inside.row.at in
    let n = c.self.inside.len in
    let cs = c.self.inside.row.places in
    let i = c.self.invariant in
    let w = ap (λ v. length v.next) c.self.view_is in
    let m = seen at n cs i.good in
    let here = c.requires in
    (i.at, good_filled at n cs i.good c.args.head (omega arith))

pub invariant_of-self : goal.invariant_of-self
invariant_of-self c =
    let at = c.self.inside.row.at in
    let n = c.self.inside.len in
    let cs = c.self.inside.row.places in
    let i = c.self.invariant in
    let w = ap (λ v. length v.next) c.self.view_is in
    let m = seen at n cs i.good in
    let here = c.requires in
    let kh : IsLink at n (record { node = c.pointer.result; slot = c.args.head }) = record { points = c.pointer.ensures; within = omega arith } in
    record {
      at = i.at;
      good = good_set at n cs i.good c.args.head (record c.get_mut-node.result.now {
        prev = record { node = c.pointer.result; slot = c.args.head };
        next = record { node = c.pointer.result; slot = c.args.head };
        list = c.args.list;
      }) kh kh;
      deed_at = i.deed_at;
      deed_len = i.deed_len;
      deed_alloc = i.deed_alloc;
      few = i.few;
    }

pub returns : goal.returns
returns c =
    let at = c.self.inside.row.at in
    let n = c.self.inside.len in
    let cs = c.self.inside.row.places in
    let i = c.self.invariant in
    let w = ap (λ v. length v.next) c.self.view_is in
    let m = seen at n cs i.good in
    let here = c.requires in
    all_written at n cs i.good c.args.head c.get_mut-node.result.now c.get_mut-node.ensures.value (record {
      node = c.pointer.result;
      slot = c.args.head;
    }) (record { node = c.pointer.result; slot = c.args.head }) c.args.list
    ∙ ap (λ v. closed v c.args.head c.args.list) c.self.view_is

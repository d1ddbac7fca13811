use Rattle.std.proofs.Common.{ap, arith, length, ◌∙◌}
use Rattle.am_block.specs.Links.{inserted}
use Rattle.am_block.specs.Nodes.{IsLink}
use Rattle.am_block.proofs.Appends.{cs1, cs2, good1, good2, good3, last_linked, appended3}
use Rattle.am_block.proofs.GoodNodes.{good_filled, seen}
use Rattle.am_block.proofs.nodes.Nodes.append.Goals as goal

pub get-requires : goal.get-requires
get-requires c =
    let at = c.self.inside.row.at in
    let n = c.self.inside.len in
    let cs = c.self.inside.row.places in
    let i = c.self.invariant in
    let w = ap (λ v. length v.next) c.self.view_is in
    let m = seen at n cs i.good in
    let here = c.requires in
    (i.at, good_filled at n cs i.good c.args.head (omega arith))

pub follow_mut-requires : goal.follow_mut-requires
follow_mut-requires c =
    let at = c.self.inside.row.at in
    let n = c.self.inside.len in
    let cs = c.self.inside.row.places in
    let i = c.self.invariant in
    let w = ap (λ v. length v.next) c.self.view_is in
    let m = seen at n cs i.good in
    let here = c.requires in
    let ks : IsLink at n (record { node = c.pointer.result; slot = c.args.slot }) = record { points = c.pointer.ensures; within = omega arith } in
    let kh : IsLink at n (record { node = c.pointer-2.result; slot = c.args.head }) = record { points = c.pointer-2.ensures; within = omega arith } in
    let k = last_linked at n cs i.good c.args.slot c.args.head c.args.list c.pointer.result c.pointer-2.result ks kh c.get.result.now c.get.ensures in
    (k.points, good_filled at n cs i.good c.get.result.now.prev.slot k.within)

pub get_mut-node-requires : goal.get_mut-node-requires
get_mut-node-requires c =
    let at = c.self.inside.row.at in
    let n = c.self.inside.len in
    let cs = c.self.inside.row.places in
    let i = c.self.invariant in
    let w = ap (λ v. length v.next) c.self.view_is in
    let m = seen at n cs i.good in
    let here = c.requires in
    let ks : IsLink at n (record { node = c.pointer.result; slot = c.args.slot }) = record { points = c.pointer.ensures; within = omega arith } in
    let kh : IsLink at n (record { node = c.pointer-2.result; slot = c.args.head }) = record { points = c.pointer-2.ensures; within = omega arith } in
    let g1 = good1 at n cs i.good c.args.slot c.args.head c.args.list c.pointer.result c.pointer-2.result ks kh c.get.result.now c.get.ensures
    c.follow_mut.result.now c.follow_mut.ensures.value in (
      i.at,
      good_filled at n (cs1 at n cs i.good c.args.slot c.args.head c.args.list c.pointer.result c.pointer-2.result ks kh c.get.result.now c.get.ensures
          c.follow_mut.result.now c.follow_mut.ensures.value) g1 c.args.slot ks.within,
    )

pub get_mut-requires : goal.get_mut-requires
get_mut-requires c =
    let at = c.self.inside.row.at in
    let n = c.self.inside.len in
    let cs = c.self.inside.row.places in
    let i = c.self.invariant in
    let w = ap (λ v. length v.next) c.self.view_is in
    let m = seen at n cs i.good in
    let here = c.requires in
    let ks : IsLink at n (record { node = c.pointer.result; slot = c.args.slot }) = record { points = c.pointer.ensures; within = omega arith } in
    let kh : IsLink at n (record { node = c.pointer-2.result; slot = c.args.head }) = record { points = c.pointer-2.ensures; within = omega arith } in
    let g2 = good2 at n cs i.good c.args.slot c.args.head c.args.list c.pointer.result c.pointer-2.result ks kh c.get.result.now c.get.ensures
    c.follow_mut.result.now c.follow_mut.ensures.value c.get_mut-node.result.now c.get_mut-node.ensures.value in (
      i.at,
      good_filled at n (cs2 at n cs i.good c.args.slot c.args.head c.args.list c.pointer.result c.pointer-2.result ks kh c.get.result.now c.get.ensures
          c.follow_mut.result.now c.follow_mut.ensures.value c.get_mut-node.result.now c.get_mut-node.ensures.value) g2 c.args.head kh.within,
    )

pub invariant_of-self : goal.invariant_of-self
invariant_of-self c =
    let at = c.self.inside.row.at in
    let n = c.self.inside.len in
    let cs = c.self.inside.row.places in
    let i = c.self.invariant in
    let w = ap (λ v. length v.next) c.self.view_is in
    let m = seen at n cs i.good in
    let here = c.requires in
    let ks : IsLink at n (record { node = c.pointer.result; slot = c.args.slot }) = record { points = c.pointer.ensures; within = omega arith } in
    let kh : IsLink at n (record { node = c.pointer-2.result; slot = c.args.head }) = record { points = c.pointer-2.ensures; within = omega arith } in
    record {
      at = i.at;
      good = good3 at n cs i.good c.args.slot c.args.head c.args.list c.pointer.result c.pointer-2.result ks kh c.get.result.now c.get.ensures
          c.follow_mut.result.now c.follow_mut.ensures.value c.get_mut-node.result.now c.get_mut-node.ensures.value c.get_mut.result.now
          c.get_mut.ensures.value;
      deed_at = i.deed_at;
      deed_len = i.deed_len;
      deed_alloc = i.deed_alloc;
      few = i.few;
    }

pub returns : goal.returns
returns c =
    let at = c.self.inside.row.at in
    let n = c.self.inside.len in
    let cs = c.self.inside.row.places in
    let i = c.self.invariant in
    let w = ap (λ v. length v.next) c.self.view_is in
    let m = seen at n cs i.good in
    let here = c.requires in
    let ks : IsLink at n (record { node = c.pointer.result; slot = c.args.slot }) = record { points = c.pointer.ensures; within = omega arith } in
    let kh : IsLink at n (record { node = c.pointer-2.result; slot = c.args.head }) = record { points = c.pointer-2.ensures; within = omega arith } in
    appended3 at n cs i.good c.args.slot c.args.head c.args.list c.pointer.result c.pointer-2.result ks kh c.get.result.now c.get.ensures
    c.follow_mut.result.now c.follow_mut.ensures.value c.get_mut-node.result.now c.get_mut-node.ensures.value c.get_mut.result.now c.get_mut.ensures.value
    ∙ ap (λ v. inserted v c.args.slot c.args.head c.args.list) c.self.view_is

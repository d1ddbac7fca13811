use Rattle.std.proofs.Common.{◌∙◌, sym, ap, arith, length, Some}
use Rattle.std.proofs.Math.ListN.{set}
use Rattle.am_block.specs.Links.{Links, joined}
use Rattle.am_block.specs.Places.{somes}
use Rattle.am_block.specs.Nodes.{links_of}
use Rattle.am_block.proofs.GoodNodes.{good_filled, seen, next_read, prev_read, next_linked, prev_linked, next_good, prev_good, next_written, prev_written}
use Rattle.am_block.proofs.nodes.Nodes.take_out.Goals as goal

pub get-node-requires : goal.get-node-requires
get-node-requires c =
    let n = ap (λ v. length v.next) c.self.view_is in
    let m = seen c.self.inside.row.at c.self.inside.len c.self.inside.row.places c.self.invariant.good in
    (c.self.invariant.at, good_filled c.self.inside.row.at c.self.inside.len c.self.inside.row.places c.self.invariant.good c.args.slot (omega arith))

pub follow_mut-requires : goal.follow_mut-requires
follow_mut-requires c =
    let at = c.self.inside.row.at in
    let n = c.self.inside.len in
    let cs = c.self.inside.row.places in
    let g = c.self.invariant.good in
    let x = c.get-node.result.now in
    let kp = prev_linked at n cs g c.args.slot x c.get-node.ensures in
    (kp.points, good_filled at n cs g x.prev.slot kp.within)

pub follow_mut-requires-2 : goal.follow_mut-requires-2
follow_mut-requires-2 c =
    let at = c.self.inside.row.at in
    let n = c.self.inside.len in
    let cs = c.self.inside.row.places in
    let g = c.self.invariant.good in
    let x = c.get-node.result.now in
    let kn = next_linked at n cs g c.args.slot x c.get-node.ensures in
    let y1 = c.follow_mut.result.now in
    let cs1 = set cs x.prev.slot (Some (record y1 { next = x.next })) in
    let g1 = next_good at n cs g x.prev.slot y1 c.follow_mut.ensures.value x.next kn in
    (kn.points, good_filled at n cs1 g1 x.next.slot kn.within)

pub invariant_of-self : goal.invariant_of-self
invariant_of-self c =
    let at = c.self.inside.row.at in
    let n = c.self.inside.len in
    let cs = c.self.inside.row.places in
    let i = c.self.invariant in
    let x = c.get-node.result.now in
    let kp = prev_linked at n cs i.good c.args.slot x c.get-node.ensures in
    let kn = next_linked at n cs i.good c.args.slot x c.get-node.ensures in
    let y1 = c.follow_mut.result.now in
    let cs1 = set cs x.prev.slot (Some (record y1 { next = x.next })) in
    let g1 = next_good at n cs i.good x.prev.slot y1 c.follow_mut.ensures.value x.next kn in
    record {
      at = i.at;
      good = prev_good at n cs1 g1 x.next.slot c.follow_mut-2.result.now c.follow_mut-2.ensures.value x.prev kp;
      deed_at = i.deed_at;
      deed_len = i.deed_len;
      deed_alloc = i.deed_alloc;
      few = i.few;
    }

pub returns : goal.returns
returns c =
    let at = c.self.inside.row.at in
    let n = c.self.inside.len in
    let cs = c.self.inside.row.places in
    let g = c.self.invariant.good in
    let x = c.get-node.result.now in
    let kn = next_linked at n cs g c.args.slot x c.get-node.ensures in
    let y1 = c.follow_mut.result.now in
    let cs1 = set cs x.prev.slot (Some (record y1 { next = x.next })) in
    let g1 = next_good at n cs g x.prev.slot y1 c.follow_mut.ensures.value x.next kn in
    let k = links_of (somes cs) in
    let p = prev_read at n cs g c.args.slot x c.get-node.ensures in
    let q = next_read at n cs g c.args.slot x c.get-node.ensures in
    prev_written at n cs1 g1 x.next.slot c.follow_mut-2.result.now c.follow_mut-2.ensures.value x.prev
    ∙ ap {A = Links} (λ v. record v { prev = set v.prev x.next.slot x.prev.slot }) (next_written at n cs g x.prev.slot y1 c.follow_mut.ensures.value x.next)
    ∙ sym (λ j. record k { next = set k.next (p j) (q j); prev = set k.prev (q j) (p j) })
    ∙ ap (λ v. joined v c.args.slot) c.self.view_is

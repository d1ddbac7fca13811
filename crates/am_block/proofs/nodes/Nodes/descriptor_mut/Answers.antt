use Rattle.std.proofs.Common.{◌∙◌, sym, ap, arith, length, slice_get, refl}
use Rattle.am_block.proofs.GoodNodes.{good_filled, seen, descriptor_read, descriptor_written, good_set, next_linked, prev_linked}
use Rattle.am_block.specs.Links.{with_descriptor}
use Rattle.am_block.proofs.nodes.Nodes.descriptor_mut.Goals as goal

pub get_mut-requires : goal.get_mut-requires
get_mut-requires c =
    let n = ap (λ v. length v.next) c.self.view_is in
    let m = seen c.self.inside.row.at c.self.inside.len c.self.inside.row.places c.self.invariant.good in
    (c.self.invariant.at, good_filled c.self.inside.row.at c.self.inside.len c.self.inside.row.places c.self.invariant.good c.args.slot (omega arith))

pub invariant_of-self-lent : goal.invariant_of-self-lent
invariant_of-self-lent c = λ w.
    let i = c.self.invariant in
    record {
      at = i.at;
      good =
          good_set c.self.inside.row.at c.self.inside.len c.self.inside.row.places i.good c.args.slot (record c.get_mut.result.now { descriptor = w })
          (prev_linked c.self.inside.row.at c.self.inside.len c.self.inside.row.places c.self.invariant.good c.args.slot c.get_mut.result.now
          c.get_mut.ensures.value)
          (next_linked c.self.inside.row.at c.self.inside.len c.self.inside.row.places c.self.invariant.good c.args.slot c.get_mut.result.now
          c.get_mut.ensures.value);
      deed_at = i.deed_at;
      deed_len = i.deed_len;
      deed_alloc = i.deed_alloc;
      few = i.few;
    }

pub returns : goal.returns
returns c = (
  (
    refl,
    λ w. descriptor_written c.self.inside.row.at c.self.inside.len c.self.inside.row.places c.self.invariant.good c.args.slot c.get_mut.result.now
        c.get_mut.ensures.value w ∙ ap (λ v. with_descriptor v c.args.slot w) c.self.view_is,
  ),
  record {
    writes_back = tt;
    value = ap (λ v. slice_get v.descriptors c.args.slot) (sym c.self.view_is)
        ∙ descriptor_read c.self.inside.row.at c.self.inside.len c.self.inside.row.places c.self.invariant.good c.args.slot c.get_mut.result.now
        c.get_mut.ensures.value;
  },
)

use Rattle.std.proofs.Common.{◌≡◌, ℕ, arith, ◌∙◌, refl, subst}
use Rattle.am_block.specs.Lengths.{pools, head, IsSound}
use Rattle.am_block.specs.Ring.{Ring}
use Rattle.am_block.specs.Pools.{slots, IsFresh}
use Rattle.am_block.specs.declared.lengths.Lengths.{Lengths}
use Rattle.am_block.specs.declared.List.{List as Which}
use Rattle.am_block.proofs.Shifts.{Tagged}
use Rattle.am_block.proofs.Filling.{partly, filled-sound, fill-rings, fill-tags, fill-lengths}
use Rattle.am_block.proofs.Block.make.Goals as goal

abbrev lengths : ℕ → Lengths
lengths n = record { free = n; requests = 0; replies = 0; in_flight = 0; notices = 0; received = 0 }

pub loop-slot-preserved : goal.loop-slot-preserved
loop-slot-preserved c =
    let k = c.loop-slot.nodes in
    let m = c.append.new.self in
    let i = c.loop-slot.invariant in
    let e = c.append.ensures in
    let ls = fill-lengths k m c.args.size c.loop-slot.slot e in
    record {
      next = ls.0 ∙ i.next;
      prev = ls.1 ∙ i.prev;
      lists = ls.2 ∙ i.lists;
      descriptors = ls.3 ∙ i.descriptors;
      rings = fill-rings k m c.args.size c.loop-slot.slot e (omega arith) i.next i.prev i.rings;
      tags = fill-tags k m c.args.size c.loop-slot.slot e (omega arith) i.lists i.tags;
    }

done : (c : goal.After-loop-slot) → IsFresh (pools c.loop-slot.nodes c.args.size (lengths c.args.size)) c.args.size × IsSound c.loop-slot.nodes c.args.size
    (lengths c.args.size)
done c =
    let i = c.loop-slot.invariant in
    let last : c.loop-slot.slot ≡ c.args.size = omega arith in
    filled-sound c.loop-slot.nodes c.args.size (lengths c.args.size) c.requires.1 refl refl refl refl refl refl
    i.next i.prev i.lists i.descriptors
    (subst (λ (m : ℕ). (w : Which) → Ring c.loop-slot.nodes.next c.loop-slot.nodes.prev (head c.args.size w) (slots (partly m) w)) last i.rings)
    (subst (λ (m : ℕ). Tagged c.loop-slot.nodes.lists (partly m)) last i.tags)

pub invariant_of-result : goal.invariant_of-result
invariant_of-result c = (done c).1

pub returns-clause-fresh : goal.returns-clause-fresh
returns-clause-fresh c = (done c).0

pub returns-clause-block : goal.returns-clause-block
returns-clause-block c = (done c).1.block

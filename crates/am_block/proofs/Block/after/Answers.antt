use Rattle.std.proofs.Common.{ap, ◌∙◌, arith, Some}
use Rattle.am_block.specs.Pools.{behind, slots, home, size}
use Rattle.am_block.proofs.Chains.{size-pools}
use Rattle.am_block.proofs.Afters.{after_some, after_none}
use Rattle.am_block.specs.Lengths.{pools}
use Rattle.am_block.proofs.Moves.{behind_none}
use Rattle.am_block.proofs.Block.after.Goals as goal

pub returns-then-next-self-clause-slot : goal.returns-then-next-self-clause-slot
returns-then-next-self-clause-slot c =
    let n = ap size c.self.view_is in
    let m = size-pools c.self.inside.nodes c.self.inside.size c.self.inside.lengths c.self.invariant in
    let e = c.next-next.ensures in
    ap (λ x. Some x) e ∙ after_some c.self.inside.nodes c.self.inside.size c.self.inside.lengths c.self.invariant c.args.slot.0 (omega arith) (omega arith)
    ∙ ap (λ p. behind c.args.slot.0 (slots p (home p c.args.slot.0))) c.self.view_is

pub returns-else-next-self-clause-slot : goal.returns-else-next-self-clause-slot
returns-else-next-self-clause-slot c =
    let n = ap size c.self.view_is in
    let m = size-pools c.self.inside.nodes c.self.inside.size c.self.inside.lengths c.self.invariant in
    let e = c.next-next.ensures in
    after_none c.self.inside.nodes c.self.inside.size c.self.inside.lengths c.self.invariant c.args.slot.0 (omega arith) (omega arith)
    ∙ ap (λ p. behind c.args.slot.0 (slots p (home p c.args.slot.0))) c.self.view_is

pub returns-then-next-self-clause-none : goal.returns-then-next-self-clause-none
returns-then-next-self-clause-none c =
    behind_none (pools c.self.inside.nodes c.self.inside.size c.self.inside.lengths) c.args.self.now c.args.slot.0 _ c.self.invariant.block c.self.view_is
    c.requires (returns-then-next-self-clause-slot c)

pub returns-else-next-self-clause-none : goal.returns-else-next-self-clause-none
returns-else-next-self-clause-none c =
    behind_none (pools c.self.inside.nodes c.self.inside.size c.self.inside.lengths) c.args.self.now c.args.slot.0 _ c.self.invariant.block c.self.view_is
    c.requires (returns-else-next-self-clause-slot c)

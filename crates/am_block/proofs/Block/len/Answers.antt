use Rattle.std.proofs.Common.{ap, sym, ◌∙◌, length}
use Rattle.am_block.specs.Pools.{slots}
use Rattle.am_block.proofs.Chains.{length_slots}
use Rattle.am_block.proofs.Block.len.Goals as goal

pub returns-clause-value : goal.returns-clause-value
returns-clause-value c =
    c.of.ensures ∙ sym (length_slots c.self.inside.nodes c.self.inside.size c.self.inside.lengths c.args.list)
    ∙ ap (λ p. length (slots p c.args.list)) c.self.view_is

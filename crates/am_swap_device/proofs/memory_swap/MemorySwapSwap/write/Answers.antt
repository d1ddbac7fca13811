use Rattle.std.proofs.Common.{List, ap, ◌∙◌}
use Rattle.am_swap_device.specs.Memory.{HeldImage, Store, held_for, held_instead}
use Rattle.am_swap_device.proofs.Held.{holds_instead}
use Rattle.am_swap_device.proofs.memory_swap.MemorySwapSwap.write.Goals as goal

pub returns-in-Ok-clause-held : goal.returns-in-Ok-clause-held
returns-in-Ok-clause-held c =
    λ other. ap (λ (s : Store). held_for s.held other) c.count.ensures
    ∙ ap (λ (held : List HeldImage). held_for held other) (c.in-Ok.ensures ∙ ap (λ (s : Store). held_instead c.args.key c.args.bytes.now s.held) c.self.view_is)
    ∙ holds_instead c.args.key c.args.bytes.now c.args.self.now.held other

use Rattle.std.proofs.Common.{◌≡◌, subst}
use Rattle.am_swap_device.specs.Memory.{Store, failed_among}
use Rattle.am_swap_device.proofs.memory_swap.MemorySwap.tallied.Goals as goal

pub returns : goal.returns
returns c = subst (λ (s : Store). s.faults ≡ failed_among s.fails s.calls) c.self.view_is c.self.inside.tallied

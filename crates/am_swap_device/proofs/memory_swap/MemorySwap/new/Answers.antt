use Rattle.am_swap_device.proofs.Tallies.{none_failed}
use Rattle.am_swap_device.proofs.memory_swap.MemorySwap.new.Goals as goal

pub invariant_of-result : goal.invariant_of-result
invariant_of-result c = (none_failed c.args.fails.items, tt)

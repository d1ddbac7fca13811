use Rattle.std.proofs.Common.{arith}
use Rattle.am_swap_device.specs.Causes.{one_more}
use Rattle.am_swap_device.proofs.Tallies.{all_low}
use Rattle.am_swap_device.proofs.memory_swap.is_low.Goals as goal

pub returns : goal.returns
returns c = all_low c.args.fails.now (one_more c.args.calls) (λ i. omega (arith, c.type_inv.fails i)) c.requires

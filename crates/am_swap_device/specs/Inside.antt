-- What the fields of a swap in memory stand for.
use Rattle.am_swap_device.specs.Memory.{HeldImage, Store}
use Rattle.am_swap_device.specs.declared.kept.Kept.TheInside as kept
use Rattle.am_swap_device.specs.declared.memory_swap.MemorySwap.TheInside as swap

abbrev pub held_in : kept.Inside → HeldImage
held_in k = record { key = k.key; bytes = k.bytes.items }

abbrev pub store_in : swap.Inside → Store
store_in s = record { held = s.kept.items; fails = s.fails.items; calls = s.calls; faults = s.faults }

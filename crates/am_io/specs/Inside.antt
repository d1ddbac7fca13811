-- What the fields of a source and a sink in memory stand for.
use Rattle.std.specs.Prelude.{◌≤◌, ◌<◌, drop, vec_len}
use Rattle.am_io.specs.Memory.{Supply, Store}
use Rattle.am_io.specs.declared.memory_source.MemorySource.TheInside as source
use Rattle.am_io.specs.declared.memory_sink.MemorySink.TheInside as sink

abbrev pub supply_in : source.Inside → Supply
supply_in s = record { left = drop s.at s.bytes.items; most = s.most; fails = s.fails.items; calls = s.calls; faults = s.faults; ended = s.ended }

pub record Supplies (s : source.Inside) : Type 0 where
  pub in_range : s.at ≤ vec_len s.bytes
  pub gives : 0 < s.most

abbrev pub store_in : sink.Inside → Store
store_in s = record { held = s.bytes.items; most = s.most; fails = s.fails.items; calls = s.calls; faults = s.faults; shortages = s.shortages }

abbrev pub Stores : sink.Inside → Type 0
Stores s = 0 < s.most

use Rattle.std.proofs.Common.{◌≡◌, ◌-◌, length}
use mathlib.Core.List.{IsPrefix}
use Rattle.am_wire_relay.specs.Relays.{SameOut, emitted, pumped, spare, store}
use Rattle.am_wire_relay.proofs.sending.RelayOut.pump.Given as goal

abbrev pub invariant-loop-self : goal.invariant-loop-self
invariant-loop-self g l = record {
  same : SameOut l.initial.self l.self;
  emitted_same : emitted l.self ≡ emitted l.initial.self;
  store_same : store l.self ≡ store l.initial.self;
  spare_same : spare l.self ≡ spare l.initial.self;
  moved : IsPrefix (pumped l.initial.self) (pumped l.self);
}

abbrev pub decreases-loop-self : goal.decreases-loop-self
decreases-loop-self g l = length l.self.released.items - l.self.pumped

-- A relay without faults, and items that bear no stamp.
use Rattle.std.specs.Prelude.{◌≡◌, ℕ, None}
use Rattle.am_wire_relay.specs.declared.stamping.Stamping.{Ghosts}
use Rattle.am_wire_relay.specs.declared.sending.RelayOut.{RelayOut}
use Rattle.am_wire_relay.specs.Relays.{faults_of}

module _ {X : Type 0} where
  -- every item counts as stamped with 0
  abbrev pub no_stamp : X → ℕ
  no_stamp x = 0

  -- no emission changes what leaves with it
  abbrev pub unchanged : ℕ → X → X
  unchanged stamp x = x

module _ {X S : Type 0} {g : Ghosts S X} where
  -- nothing is said of any item
  abbrev pub IsFaultless : RelayOut X S g → Type 0
  IsFaultless o = (place : ℕ) → faults_of o place ≡ None

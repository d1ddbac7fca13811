-- What contracts see of the two ends of a relay.
use Rattle.std.specs.Prelude.{◌≡◌, ℕ, ◌+◌, ◌-◌, min, Option, List, length, drop, vec_len, vec_capacity}
use Rattle.am_scenario_plan.specs.declared.plan.LinkFault.{LinkFault}
use Rattle.am_wire_release.specs.Faults.{said}
use Rattle.rtrb.specs.Ring as ring
use Rattle.am_wire_relay.specs.declared.stamping.Stamping.{Ghosts}
use Rattle.am_wire_relay.specs.declared.sending.RelayOut.{RelayOut}
use Rattle.am_wire_relay.specs.declared.receiving.RelayIn.{RelayIn}

module _ {X : Type 0} where
  -- ---- the end that receives

  -- what was received, in order
  abbrev pub received : RelayIn X → List X
  received i = ring.received i.consumer

  -- the items of which this end knows that they were pumped, and that were not received: `next` gives the first of them
  abbrev pub known : RelayIn X → List X
  known i = ring.known_items i.consumer

  abbrev pub SameIn : RelayIn X → RelayIn X → Type 0
  SameIn i j = ring.SameConsumer i.consumer j.consumer

module _ {X S : Type 0} {g : Ghosts S X} where
  -- ---- the end that emits

  -- what is said of the item at a place
  abbrev pub faults_of : RelayOut X S g → ℕ → Option LinkFault
  faults_of o = said o.faults

  -- what was emitted, in order
  abbrev pub emitted : RelayOut X S g → List X
  emitted o = o.emitted.items

  -- what was put into the ring, in order
  abbrev pub pumped : RelayOut X S g → List X
  pumped o = ring.sent o.producer

  -- what was released and not put into the ring, in order
  abbrev pub waiting : RelayOut X S g → List X
  waiting o = drop o.pumped o.released.items

  -- how many places of the ring are known to be free
  abbrev pub free_places : RelayOut X S g → ℕ
  free_places o = ring.known_free o.producer

  -- how many items the relay has places for outside its ring, taken and free
  abbrev pub store : RelayOut X S g → ℕ
  store o = vec_capacity o.emitted + vec_capacity o.released + o.stage.store

  -- there is room for one more emission where this is at least 1
  abbrev pub spare : RelayOut X S g → ℕ
  spare o =
      min (vec_capacity o.emitted - vec_len o.emitted)
      (min o.stage.spare (vec_capacity o.released - (vec_len o.released + 1 + length o.stage.held)))

  -- the same end of the same ring
  abbrev pub IsOnRing : RelayOut X S g → RelayOut X S g → Type 0
  IsOnRing o p = ring.SameProducer o.producer p.producer

  -- the same end of the same relay, with the same faults
  pub record SameOut (o p : RelayOut X S g) : Type 0 where
    pub faults : p.faults ≡ o.faults
    pub ring : IsOnRing o p

  -- ---- both

  -- the two ends of one relay
  abbrev pub AreEnds : RelayOut X S g → RelayIn X → Type 0
  AreEnds o i = ring.IsPair o.producer i.consumer

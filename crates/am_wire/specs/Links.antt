-- What contracts see of the two ends of a link.
use Rattle.std.specs.Prelude.{◌≡◌, ℕ, List}
use Rattle.am_names.specs.declared.NodeId.{NodeId}
use Rattle.am_names.specs.declared.Packet.{Packet}
use Rattle.am_scenario_plan.specs.declared.plan.PlanLine.{PlanLine}
use Rattle.am_scenario_plan.specs.Shape.{shape}
use Rattle.am_wire_relay.specs.Relays as relay
use Rattle.am_wire.specs.declared.sending.LinkOut.{LinkOut}
use Rattle.am_wire.specs.declared.receiving.LinkIn.{LinkIn}

-- ---- the end that emits

-- what was emitted, in order
abbrev pub emitted : LinkOut → List Packet
emitted o = relay.emitted o.relay

-- what the emissions released: the shape of what was emitted
abbrev pub released : LinkOut → List Packet
released o = shape o.plan.items o.from o.to (emitted o)

-- what was put into the ring, in order
abbrev pub pumped : LinkOut → List Packet
pumped o = relay.pumped o.relay

-- what was released and not put into the ring, in order
abbrev pub waiting : LinkOut → List Packet
waiting o = relay.waiting o.relay

-- how many places of the ring are known to be free
abbrev pub free_places : LinkOut → ℕ
free_places o = relay.free_places o.relay

-- how many packets the link has places for outside its ring, taken and free
abbrev pub store : LinkOut → ℕ
store o = relay.store o.relay

-- there is room for one more emission where this is at least 1
abbrev pub spare : LinkOut → ℕ
spare o = relay.spare o.relay

-- a link of this plan from a node to a node
pub record IsOf (plan : List PlanLine) (from to : NodeId) (o : LinkOut) : Type 0 where
  pub plan_is : o.plan.items ≡ plan
  pub from_is : o.from ≡ from
  pub to_is : o.to ≡ to

-- the same end of the same link, of the same plan and nodes
pub record SameLink (o p : LinkOut) : Type 0 where
  pub plan : p.plan ≡ o.plan
  pub from : p.from ≡ o.from
  pub to : p.to ≡ o.to
  pub ring : relay.IsOnRing o.relay p.relay

-- ---- the end that receives

-- what was received, in order
abbrev pub received : LinkIn → List Packet
received i = relay.received i.relay

-- the packets of which this end knows that they were pumped, and that were not received: `next` gives the first of them
abbrev pub known : LinkIn → List Packet
known i = relay.known i.relay

abbrev pub SameEnd : LinkIn → LinkIn → Type 0
SameEnd i j = relay.SameIn i.relay j.relay

-- the two ends of one link
abbrev pub IsLink : LinkOut → LinkIn → Type 0
IsLink o i = relay.AreEnds o.relay i.relay

-- Packets that are held back, each with the emission that releases it.
use Rattle.std.specs.Prelude.{ℕ, ◌+◌, ◌==◌, List, [], ◌∷◌, ◌++◌, if◌then◌else◌, Option, Some, None}
use Rattle.am_names.specs.declared.Packet.{Packet}
use Rattle.am_scenario_plan.specs.declared.plan.LinkFault.{LinkFault}
use Rattle.am_scenario_plan.specs.declared.plan.LinkFault.TheVariants.{Lose, Repeat, Late}
use Rattle.am_scenario_plan.specs.declared.shape_of.LatePacket.{LatePacket}
use Rattle.am_scenario_plan.specs.Shape.{stamped}

-- what is held back of the packet at a place
abbrev pub held_back : Option LinkFault → ℕ → Packet → List LatePacket
held_back (Some (Late by)) place p = record { due = place + by; packet = p } ∷ []
held_back (Some Lose) place p = []
held_back (Some Repeat) place p = []
held_back None place p = []

-- what is held back of the packets, where the first of them has this place
abbrev pub all_held : (ℕ → Option LinkFault) → ℕ → List Packet → List LatePacket
all_held fault place [] = []
all_held fault place (p ∷ ps) = held_back (fault place) place p ++ all_held fault (place + 1) ps

-- what the emission `now` releases of a packet that is held back
abbrev pub falls_due : ℕ → ℕ → LatePacket → List Packet
falls_due now stamp held = if held.due == now then stamped stamp held.packet ∷ [] else []

-- The shape of a link: what its emissions release, one after the other.
use Rattle.std.specs.Prelude.{◌≡◌, ℕ, ◌+◌, Bool, false, ◌==◌, ◌&&◌, Option, Some, None, List, [], ◌∷◌, ◌++◌, map, length, find, if◌then◌else◌}
use Rattle.am_names.specs.declared.NodeId.{NodeId}
use Rattle.am_names.specs.declared.Packet.{Packet}
pub use Rattle.am_names.specs.Packets.{number_of, stamp_of, restamped as stamped}
use Rattle.am_scenario_plan.specs.declared.plan.LinkFault.{LinkFault}
use Rattle.am_scenario_plan.specs.declared.plan.LinkFault.TheVariants.{Lose, Repeat, Late}
use Rattle.am_scenario_plan.specs.declared.plan.PlanLine.{PlanLine}

abbrev pub is_line_of : NodeId → NodeId → ℕ → PlanLine → Bool
is_line_of from to place line = (from.0 == line.from.0) && (to.0 == line.to.0) && (place == line.number)

abbrev pub fault_in : Option PlanLine → Option LinkFault
fault_in None = None
fault_in (Some line) = Some line.fault

-- what the plan says of a packet, by its place among those that were emitted on the link
abbrev pub fault_at : List PlanLine → NodeId → NodeId → ℕ → Option LinkFault
fault_at plan from to place = fault_in (find (is_line_of from to place) plan)

-- what a packet's own emission releases of it
abbrev pub at_once : Option LinkFault → Packet → List Packet
at_once None p = p ∷ []
at_once (Some Repeat) p = p ∷ p ∷ []
at_once (Some Lose) p = []
at_once (Some (Late by)) p = []

-- whether the packet at this place is late until the emission `now`
abbrev pub is_late_until : ℕ → ℕ → Option LinkFault → Bool
is_late_until now place (Some (Late by)) = place + by == now
is_late_until now place (Some Lose) = false
is_late_until now place (Some Repeat) = false
is_late_until now place None = false

-- the packets that are late until the emission `now`, where the first of them has this place
abbrev pub late_from : (ℕ → Option LinkFault) → ℕ → ℕ → List Packet → List Packet
late_from fault now place [] = []
late_from fault now place (p ∷ ps) =
    if is_late_until now place (fault place) then p ∷ late_from fault now (place + 1) ps else late_from fault now (place + 1) ps

-- what the emission of p releases, after the emissions of `before`
abbrev pub released_by : (ℕ → Option LinkFault) → List Packet → Packet → List Packet
released_by fault before p =
    at_once (fault (length before + 1)) p ++ map (stamped (stamp_of p)) (late_from fault (length before + 1) 1 before)

-- what the emissions release that come after those of `before`
abbrev pub shape_after : (ℕ → Option LinkFault) → List Packet → List Packet → List Packet
shape_after fault before [] = []
shape_after fault before (p ∷ ps) = released_by fault before p ++ shape_after fault (before ++ p ∷ []) ps

-- what the emissions on a link release
abbrev pub shape : List PlanLine → NodeId → NodeId → List Packet → List Packet
shape plan from to emitted = shape_after (fault_at plan from to) [] emitted

-- one more emission releases its part after all that was released before
abbrev pub OnePacketMore : Type 0
OnePacketMore =
    (plan : List PlanLine) (from to : NodeId) (emitted : List Packet) (p : Packet) → shape plan from to (emitted ++ p ∷ []) ≡ shape plan from to emitted ++ released_by (fault_at plan from to) emitted p

-- the shape of a beginning is a beginning of the shape
abbrev pub BeginsAlike : Type 0
BeginsAlike =
    (plan : List PlanLine) (from to : NodeId) (emitted more : List Packet) → shape plan from to (emitted ++ more) ≡ shape plan from to emitted ++ shape_after (fault_at plan from to) emitted more

-- What a drawn plan says of each packet.
use Rattle.std.specs.Prelude.{◌≡◌, ℕ, ◌+◌, ◌-◌, ◌*◌, ◌<◌, ◌≤◌, Option, Some, None, [], length, if◌then◌else◌}
use Rattle.am_names.specs.declared.NodeId.{NodeId}
use Rattle.am_scenario_generator.specs.Words.{steps, word}
use Rattle.am_scenario_plan.specs.Shape.{fault_at}
use Rattle.am_scenario_plan.specs.declared.plan.LinkFault.{LinkFault}
use Rattle.am_lab_scenarios.specs.Faults.Plans.{drawn_plan, fault_of, is_drawn, seeded}

-- how many packets stand before this one in the row of those that are asked about
abbrev pub packets_before : (nodes packets : ℕ) → (from to : NodeId) → (number : ℕ) → ℕ
packets_before nodes packets from to number = (from.0 * nodes + to.0) * packets + (number - 1)

-- what a word says of its packet, if it says something
abbrev pub said : (percent w : ℕ) → Option LinkFault
said percent w = if is_drawn percent w then Some (fault_of w) else None

-- Of each of a link's first packets the plan says what the packet's own word says. Each has a word of its own.
abbrev pub EachHasItsWord : Type 0
EachHasItsWord =
    (seed percent nodes packets : ℕ) (from to : NodeId) (number : ℕ) → from.0 < nodes → to.0 < nodes → 1 ≤ number → number ≤ packets →
    fault_at (drawn_plan seed percent nodes packets) from to number
    ≡ said percent (word (steps (seeded seed) (packets_before nodes packets from to number)))

-- of the packets behind these it says nothing
abbrev pub OthersPass : Type 0
OthersPass =
    (seed percent nodes packets : ℕ) (from to : NodeId) (number : ℕ) → packets < number →
    fault_at (drawn_plan seed percent nodes packets) from to number ≡ None

-- what a plan says of a packet, that of the same seed and more in a hundred says too
abbrev pub MoreKeepWhatFewerSay : Type 0
MoreKeepWhatFewerSay =
    (seed percent more nodes packets : ℕ) (from to : NodeId) (number : ℕ) (fault : LinkFault) → percent ≤ more →
    from.0 < nodes → to.0 < nodes → 1 ≤ number →
    fault_at (drawn_plan seed percent nodes packets) from to number ≡ Some fault →
    fault_at (drawn_plan seed more nodes packets) from to number ≡ Some fault

-- of none in a hundred the plan is empty; of all it has a line for each packet that is asked about
abbrev pub NoneHasNoLine : Type 0
NoneHasNoLine = (seed nodes packets : ℕ) → drawn_plan seed 0 nodes packets ≡ []

abbrev pub AllHaveTheirLine : Type 0
AllHaveTheirLine = (seed nodes packets : ℕ) → length (drawn_plan seed 100 nodes packets) ≡ nodes * nodes * packets

-- The plan that a seed draws: which of the first packets of each link are lost, repeated or late.
use Rattle.std.specs.Prelude.{ℕ, zero, suc, ◌+◌, ◌*◌, ◌/◌, ◌%◌, min, nat_lt, Bool, ◌==◌, List, [], ◌∷◌, ◌++◌, length, if◌then◌else◌}
use Rattle.rand_pcg.specs.Lcg.{Lcg, started, increment_of}
use Rattle.rand_pcg.specs.Pcg.{multiplier_64}
use Rattle.am_scenario_generator.specs.Words.{steps, word}
use Rattle.am_scenario_plan.specs.declared.plan.LinkFault.{LinkFault}
use Rattle.am_scenario_plan.specs.declared.plan.LinkFault.TheVariants.{Lose, Repeat, Late}
use Rattle.am_scenario_plan.specs.declared.plan.PlanLine.{PlanLine}
use Rattle.am_scenario_types.specs.Lists.{ScenarioLists}

-- the generator of a seed, before its first word; its stream is 55
abbrev pub seeded : ℕ → Lcg
seeded seed = started 64 multiplier_64 seed (increment_of 64 55)

-- a word says something of its packet in so many of a hundred cases
abbrev pub is_drawn : (percent w : ℕ) → Bool
is_drawn percent w = nat_lt (w % 100) percent

-- what it says: each of the three in a third of the cases
abbrev pub fault_of : ℕ → LinkFault
fault_of w =
    if w / 100 % 3 == 0 then Lose else
    if w / 100 % 3 == 1 then Repeat else Late (1 + w / 300 % 16)

-- The packets that are asked about stand in a row, link by link: the links by the node that sends, and then by the one that receives;
-- of each link its first packets, so many. This is the line of the packet at a place of the row, counted from 0.
abbrev pub line_at : (nodes packets place w : ℕ) → PlanLine
line_at nodes packets place w = record {
  from = record { 0 = place / packets / nodes };
  to = record { 0 = place / packets % nodes };
  number = place % packets + 1;
  fault = fault_of w;
}

-- the lines of the first packets of the row, with a word each
unfoldable pub drawn_lines : Lcg → (percent nodes packets places : ℕ) → List PlanLine
drawn_lines g percent nodes packets zero = []
drawn_lines g percent nodes packets (suc place) =
    if is_drawn percent (word (steps g place))
    then drawn_lines g percent nodes packets place ++ line_at nodes packets place (word (steps g place)) ∷ []
    else drawn_lines g percent nodes packets place

-- the plan of a seed, for the links from each node to each node, of so many packets of each
abbrev pub drawn_plan : (seed percent nodes packets : ℕ) → List PlanLine
drawn_plan seed percent nodes packets = drawn_lines (seeded seed) percent nodes packets (nodes * nodes * packets)

-- how many packets of each link are asked about: twice as many as there are calls, or as many as have room in a plan of 4,096 lines
abbrev pub packets_asked : (nodes calls : ℕ) → ℕ
packets_asked nodes calls = min (2 * calls) (4096 / (nodes * nodes))

-- the scenario with that plan in place of its own
abbrev pub with_drawn_plan : (seed percent : ℕ) → ScenarioLists → ScenarioLists
with_drawn_plan seed percent s = record s { plan = drawn_plan seed percent s.nodes (packets_asked s.nodes (length s.script)) }

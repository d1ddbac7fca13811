-- What is said of the packets of one link, by their places.
use Rattle.std.specs.Prelude.{◌≡◌, ℕ, Option, List}
use Rattle.std.specs.Ordering.{is_eq, nat_cmp}
use Rattle.std.specs.Map.{lookup}
use Rattle.am_names.specs.declared.NodeId.{NodeId}
use Rattle.am_scenario_plan.specs.declared.plan.LinkFault.{LinkFault}
use Rattle.am_scenario_plan.specs.declared.plan.PlanLine.{PlanLine}
use Rattle.am_scenario_plan.specs.Shape.{fault_at}

-- what is said of the packet at a place
abbrev pub said : List (ℕ × LinkFault) → ℕ → Option LinkFault
said faults place = lookup (λ other. is_eq (nat_cmp place other)) faults

-- what is said is what the plan says of the link
abbrev pub SaysOf : List PlanLine → NodeId → NodeId → List (ℕ × LinkFault) → Type 0
SaysOf plan from to faults = (place : ℕ) → said faults place ≡ fault_at plan from to place

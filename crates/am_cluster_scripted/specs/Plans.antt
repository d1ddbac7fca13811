-- What a plan says of the packets of each link.
use Rattle.std.specs.Prelude.{◌≡◌, ℕ, ◌+◌, ◌*◌, ◌<◌, Some, List, All, length, slice_get}
use Rattle.am_model.specs.Layout.{node_at}
use Rattle.am_scenario_plan.specs.declared.plan.LinkFault.{LinkFault}
use Rattle.am_scenario_plan.specs.declared.plan.PlanLine.{PlanLine}
use Rattle.am_wire_release.specs.Faults.{SaysOf}
use Rattle.am_cluster_scripted.specs.declared.plan_index.PlanIndex.TheInside.{Inside}

-- the lines are of links between 16 nodes
abbrev pub AreOfLinks : List PlanLine → Type 0
AreOfLinks lines = All (λ (line : PlanLine). (line.from.0 < 16) × (line.to.0 < 16)) lines

-- what is said of each link, sixteen to a node, is what the lines say of it
pub record HasFaults (lines : List PlanLine) (links : List (List (ℕ × LinkFault))) : Type 0 where
  pub all : length links ≡ 256
  pub each : (from to : ℕ) (faults : List (ℕ × LinkFault)) → to < 16 → slice_get links (16 * from + to) ≡ Some faults → SaysOf lines (node_at from) (node_at to) faults

abbrev pub lines_of : Inside → List PlanLine
lines_of p = p.lines.now

abbrev pub IsIndexed : Inside → Type 0
IsIndexed p = HasFaults p.lines.now p.faults.items

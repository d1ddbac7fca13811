-- A packet that a link releases is one that was emitted there, with the stamp of the emission that releases it.
use Rattle.std.specs.Prelude.{◌≡◌, ℕ, ◌≤◌, Some, List, slice_get}
use Rattle.am_names.specs.declared.NodeId.{NodeId}
use Rattle.am_names.specs.declared.Packet.{Packet}
use Rattle.am_model.specs.Layout.{AllAre}
use Rattle.am_scenario_plan.specs.declared.plan.PlanLine.{PlanLine}
use Rattle.am_scenario_plan.specs.Shape.{shape, stamp_of, stamped}

-- the packets are stamped in the order in which they were emitted
abbrev pub AreInTime : List Packet → Type 0
AreInTime sent = (j k : ℕ) (p q : Packet) → slice_get sent j ≡ Some p → slice_get sent k ≡ Some q → j ≤ k → stamp_of p ≤ stamp_of q

pub record WasReleased (sent : List Packet) (p : Packet) : Type 0 where
  pub place : ℕ
  pub stamp : ℕ
  pub at : slice_get sent place ≡ Some (stamped stamp p)
  pub earlier : stamp ≤ stamp_of p

abbrev pub ReleasedWasSent : Type 0
ReleasedWasSent = (plan : List PlanLine) (from to : NodeId) (sent : List Packet) → AreInTime sent → AllAre (WasReleased sent) (shape plan from to sent)

-- The shape of a relay of packets is the shape of a link.
use Rattle.std.proofs.Common.{◌≡◌, ℕ, List, [], ◌∷◌, ◌++◌, refl, ap, ◌∙◌}
use Rattle.std.specs.Prelude.{Option}
use Rattle.am_names.specs.declared.NodeId.{NodeId}
use Rattle.am_names.specs.declared.Packet.{Packet}
use Rattle.am_scenario_plan.specs.declared.plan.LinkFault.{LinkFault}
use Rattle.am_scenario_plan.specs.declared.plan.PlanLine.{PlanLine}
use Rattle.am_scenario_plan.specs.Shape.{fault_at, shape, shape_after, stamp_of, stamped}
use Rattle.am_wire_release.proofs.Releasing.{packets_leave}
use Rattle.am_wire_relay.specs.Shapes.{shape as relay_shape, shape_after as relay_shape_after}

same_after : (faults : ℕ → Option LinkFault) (before sent : List Packet) →
    relay_shape_after stamp_of stamped faults before sent ≡ shape_after faults before sent
same_after faults before [] = refl
same_after faults before (p ∷ ps) = λ i. packets_leave faults before p i ++ same_after faults (before ++ p ∷ []) ps i

pub same_shape : (plan : List PlanLine) (from to : NodeId) (faults : ℕ → Option LinkFault) → ((place : ℕ) → faults place ≡ fault_at plan from to place) →
    (sent : List Packet) → relay_shape stamp_of stamped faults sent ≡ shape plan from to sent
same_shape plan from to faults says sent = (λ i. relay_shape_after stamp_of stamped (λ place. says place i) [] sent)
    ∙ same_after (fault_at plan from to) [] sent

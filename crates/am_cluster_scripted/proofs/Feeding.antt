-- What a link has after one emission more.
use Rattle.std.proofs.Common.{◌≡◌, ℕ, ◌+◌, List, [], ◌∷◌, ◌++◌, length, sym, ◌∙◌, ap}
use Rattle.std.specs.Prelude.{Option, map}
use Rattle.std.proofs.lemmas.List.{length-map, map-append}
use Rattle.am_names.specs.declared.NodeId.{NodeId}
use Rattle.am_names.specs.declared.Packet.{Packet}
use Rattle.am_scenario_plan.specs.declared.plan.PlanLine.{PlanLine}
use Rattle.am_scenario_plan.specs.declared.plan.LinkFault.{LinkFault}
use Rattle.am_scenario_plan.specs.Shape.{fault_at, number_of, released_by, shape}
use Rattle.am_scenario_plan.proofs.Shapes.{one_packet_more}
use Rattle.am_wire_release.specs.Stages.{freed, held_after, held_then}
use Rattle.am_wire_release.proofs.Releasing.{held_more, numbers_leave}
use Rattle.am_cluster_scripted.specs.Links.{fed, released_of}

pub fed_more : (plan : List PlanLine) (from to : NodeId) (sent : List Packet) (p : Packet)
    → fed (length sent + 1) (fault_at plan from to (length sent + 1)) (number_of p) (released_of plan from to sent) ≡ released_of plan from to (sent ++ p ∷ [])
fed_more plan from to sent p = λ i. record { numbers = numbers i; held = held i }
  where
    faults : ℕ → Option LinkFault
    faults = fault_at plan from to

    numbers : map number_of (shape plan from to sent) ++ freed (length sent + 1) (faults (length sent + 1)) (number_of p)
        (held_after faults (map number_of sent)) ≡ map number_of (shape plan from to (sent ++ p ∷ []))
    numbers =
        ap (λ (l : List ℕ). map number_of (shape plan from to sent) ++ l) (numbers_leave faults sent p)
        ∙ (sym (map-append number_of (shape plan from to sent) (released_by faults sent p))
        ∙ ap (map number_of) (sym (one_packet_more plan from to sent p)))

    held : held_then (length sent + 1) (faults (length sent + 1)) (number_of p) (held_after faults (map number_of sent)) ≡ held_after faults
        (map number_of (sent ++ p ∷ []))
    held =
        ap (λ (n : ℕ). held_then (n + 1) (faults (n + 1)) (number_of p) (held_after faults (map number_of sent))) (sym (length-map sent number_of))
        ∙ (held_more faults (map number_of sent) (number_of p)
        ∙ ap (held_after faults) (sym (map-append number_of sent (p ∷ []))))

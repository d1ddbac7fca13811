use Rattle.std.proofs.Common.{◌≡◌, map, take}
use Rattle.am_endpoint.specs.View.{EndpointView}
use Rattle.am_cluster_opening.proofs.node.ends.ids_of.Given as goal

abbrev pub invariant-loop-end : goal.invariant-loop-end
invariant-loop-end l = l.ids.items ≡ map (λ (e : EndpointView). e.settings.id) (take l.end-index l.ends)

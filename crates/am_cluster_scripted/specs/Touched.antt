-- What an entry touches: endpoints, and a pair of nodes.
use Rattle.std.specs.Prelude.{Option, Some, None, List, [], ◌∷◌, ◌++◌}
use Rattle.am_names.specs.declared.EndpointId.{EndpointId}
use Rattle.am_office_entries.specs.declared.Event.{Event}
use Rattle.am_office_entries.specs.declared.Event.TheVariants as Events
use Rattle.am_office_entries.specs.declared.Outcome.{Outcome}
use Rattle.am_office_entries.specs.declared.Outcome.TheVariants as Out
use Rattle.am_office_entries.specs.Entries.{touched_by_result}
use Rattle.am_cluster_drainer.specs.declared.NodePair.{NodePair}

-- one endpoint, or none
abbrev pub listed : Option EndpointId → List EndpointId
listed None = []
listed (Some e) = e ∷ []

-- two endpoints at the most
abbrev pub both : Option EndpointId → Option EndpointId → List EndpointId
both a b = listed a ++ listed b

-- the endpoint that the outcome of a receipt touches
abbrev pub touched_by_receipt : Outcome → List EndpointId
touched_by_receipt (Out.Received channel seq attempt result) = touched_by_result result
touched_by_receipt outcome = []

-- the nodes of a bind that was sent, of a time-out and of a receipt
abbrev pub pair_touched : Event → Outcome → Option NodePair
pair_touched (Events.Bind node end) (Out.Sent m peer channel seq attempt number) = Some (record { node = node; peer = peer })
pair_touched (Events.Expire node peer channel) outcome = Some (record { node = node; peer = peer })
pair_touched (Events.Receive node peer number) outcome = Some (record { node = node; peer = peer })
pair_touched event outcome = None

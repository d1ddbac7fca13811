-- Where the packet of a work goes.
use Rattle.std.specs.Prelude.{◌≡◌, Option, Some, None, List, find, if◌then◌else◌}
use Rattle.std.specs.Option.{option_map}
use Rattle.am_names.specs.declared.EndpointId.{EndpointId}
use Rattle.am_names.specs.declared.NodeId.{NodeId}
use Rattle.am_model.specs.declared.Queued.{Queued}
use Rattle.am_model.specs.Endpoint.{State, front, is_on_disk}
use Rattle.am_model_parts.specs.declared.work.Work.{Work}
use Rattle.am_model_parts.specs.declared.work.Work.TheVariants as Works
use Rattle.am_model_parts.specs.Interface.{InterfaceLog, emits_to, failing_at, home_of_front}
use Rattle.am_endpoint.specs.View.{EndpointView, state_after}
use Rattle.am_iface.specs.View.{InterfaceView, own}
use Rattle.am_machine.specs.Ends.{is_of}

-- the node of the endpoint with this number, if it is one of these
abbrev pub node_of : EndpointId → List EndpointView → Option NodeId
node_of id vs = option_map (λ (v : EndpointView). v.settings.node) (find (is_of id) vs)

-- the node of the message's destination, if there is a message
abbrev pub dest_node : List EndpointView → Option Queued → Option NodeId
dest_node vs None = None
dest_node vs (Some q) = node_of q.message.dest vs

-- the node of the front message's destination, where the endpoint isn't on disk
abbrev pub front_node : List EndpointView → EndpointView → Option NodeId
front_node vs v = if is_on_disk (state_after v).head.place then None else dest_node vs (front (state_after v))

-- the node that a work which touches this endpoint sends a packet to, if it can be done and sends one
abbrev pub way : InterfaceView → List EndpointView → EndpointView → Work → Option NodeId
way i vs v (Works.Receive p) = emits_to (own i) (Works.Receive p)
way i vs v (Works.Bind end) = front_node vs v
way i vs v (Works.Expire peer channel) = emits_to (own i) (Works.Expire peer channel)

-- where the work can be done, its packet goes there
abbrev pub GoesTo : InterfaceLog → State → Work → Option NodeId → Type 0
GoesTo i s (Works.Receive p) to = to ≡ emits_to i (Works.Receive p)
GoesTo i s (Works.Bind end) to = failing_at i s (Works.Bind end) ≡ None → to ≡ home_of_front i (front s)
GoesTo i s (Works.Expire peer channel) to = to ≡ emits_to i (Works.Expire peer channel)

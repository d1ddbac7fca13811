-- What the interface of a node may be given in a cluster.
use Rattle.std.specs.Prelude.{nat_le, nat_lt, not, slice_get, slice_index_or}
use Rattle.std.specs.List.{filter}
use Rattle.std.proofs.Common.{◌≡◌, ℕ, Bool, [], ◌∷◌, lt-ltb, ◌+◌, ◌-◌, ◌<◌, ◌≤◌, true, false, ◌&&◌, List, map, length, Option, Some, None, refl, sym, ap, ◌∙◌}
use Rattle.std.proofs.Common.{subst, arith, ltb-true, leb-true}
use Rattle.std.proofs.lemmas.Bool.{and_parts}
use Rattle.am_lemmas.proofs.Lists.{slice_get-None}
use Rattle.std.proofs.lemmas.Option.{slice_get-get_or}
use Rattle.am_names.specs.declared.EndpointId.{EndpointId}
use Rattle.am_names.specs.declared.NodeId.{NodeId}
use Rattle.am_names.specs.declared.Packet.{Packet}
use Rattle.am_names.specs.declared.Packet.TheVariants as Packets
use Rattle.am_names.specs.declared.Message.{Message}
use Rattle.am_office_entries.specs.declared.Condition.TheVariants as Needs
use Rattle.am_office_entries.specs.declared.Place.TheVariants.{Host}
use Rattle.am_office_entries.specs.declared.Event.TheVariants as Events
use Rattle.am_office_entries.specs.declared.Entry.{Entry}
use Rattle.am_office_entries.specs.Entries.{touches_node}
use Rattle.am_model.specs.Channels.{Again, Arrival, Fresh, Stale, bound_message, emitted}
use Rattle.am_model.specs.Endpoint.{State, fresh}
use Rattle.am_model.specs.Choice.{first_holding}
use Rattle.am_model.specs.Layout.{Layout, declared}
use Rattle.am_model.specs.History.{IsHistory, state_of, failing, is_in_range, is_packet_before, is_four_bytes, is_taken_before}
use Rattle.am_model.specs.Steps.{NotEnabled, full_log, stop, stop_by}
use Rattle.am_model_parts.specs.declared.work.Work.{Work}
use Rattle.am_model_parts.specs.declared.work.Work.TheVariants as Works
use Rattle.am_model_parts.specs.Interface.{arrival_in, channel_in, event_of, failing_at, has_try_left, needs, needs_arrival, needs_bound, settles, stamp_in}
use Rattle.am_model_parts.specs.Together.{IsState}
use Rattle.am_model.specs.Packets.{from_of, number_of}
use Rattle.am_model_parts.proofs.Outcomes.{same_ends, received_event}
use Rattle.am_model_parts.proofs.Numbering.{history_numbered, numbered_place}
use Rattle.am_laws_cluster.proofs.PacketsFit.{bound_aloft, packets_fit}
use Rattle.am_model_drain.proofs.Entries.{entry_may_follow}
use Rattle.am_machine_journal.specs.Index.View.{IsIndexOf, Readings, greatest_stamp}
use Rattle.am_scenario_types.specs.declared.parts.FaultLine.{FaultLine}
use Rattle.am_endpoint.specs.View.{EndpointView}
use Rattle.am_iface.specs.View.{FitsInterface, InterfaceView, own}
use Rattle.am_model.specs.Parts.{last_stamp}
use Rattle.am_swap_device.specs.Memory.{Store}
use Rattle.am_machine.specs.declared.settings.Settings.{Settings}
use Rattle.am_driver_moves.specs.Logs.{kept}
use Rattle.am_machine.specs.Kept.{IsKept, layout_in}
use Rattle.am_machine.specs.View.{ClusterView}
use Rattle.am_machine.specs.Turned.{CanTurn, IsOfCluster, IsTaken}
use Rattle.am_machine.proofs.Applied.{all_below, below_filter, last_below, seen}
use Rattle.am_machine.proofs.Few.{counts_fit, stamp_fits}
use Rattle.am_machine.proofs.Joint as joint
use Rattle.am_machine.proofs.Joint.{Joint, interface_in, joint_failing}

-- ---- ranges

pub range_receive : (layout : Layout) (node peer : NodeId) (number : ℕ) → is_in_range layout (Events.Receive node peer number) ≡ true →
    (node.0 < layout.nodes) × (peer.0 < layout.nodes) × (1 ≤ number)
range_receive layout node peer number h =
    let abc = (and_parts (nat_lt node.0 layout.nodes && nat_lt peer.0 layout.nodes && nat_le 1 number) (is_four_bytes number) h).0 in
    let ab = and_parts (nat_lt node.0 layout.nodes && nat_lt peer.0 layout.nodes) (nat_le 1 number) abc in
    let a = and_parts (nat_lt node.0 layout.nodes) (nat_lt peer.0 layout.nodes) ab.0 in
    (ltb-true node.0 layout.nodes a.0, ltb-true peer.0 layout.nodes a.1, leb-true 1 number ab.1)

pub range_expire : (layout : Layout) (node peer : NodeId) (channel : ℕ) → is_in_range layout (Events.Expire node peer channel) ≡ true →
    (node.0 < layout.nodes) × (peer.0 < layout.nodes) × (channel < layout.channels)
range_expire layout node peer channel h =
    let ab = and_parts (nat_lt node.0 layout.nodes && nat_lt peer.0 layout.nodes) (nat_lt channel layout.channels) h in
    let a = and_parts (nat_lt node.0 layout.nodes) (nat_lt peer.0 layout.nodes) ab.0 in
    (ltb-true node.0 layout.nodes a.0, ltb-true peer.0 layout.nodes a.1, ltb-true channel layout.channels ab.1)

pub range_bind : (layout : Layout) (node : NodeId) (end : EndpointId) → is_in_range layout (Events.Bind node end) ≡ true →
    (declared layout end ≡ true) × (node.0 < layout.nodes)
range_bind layout node end h =
    let a = and_parts (declared layout end) (nat_lt node.0 layout.nodes) h in
    (a.0, ltb-true node.0 layout.nodes a.1)

pub node_there : (layout : Layout) (node : NodeId) (w : Work) → is_in_range layout (event_of node w) ≡ true → node.0 < layout.nodes
node_there layout node (Works.Receive (Packets.Parcel p)) h = (range_receive layout node p.from p.number h).0
node_there layout node (Works.Receive (Packets.Answer p)) h = (range_receive layout node p.from p.number h).0
node_there layout node (Works.Bind end) h = (range_bind layout node end h).1
node_there layout node (Works.Expire peer channel) h = (range_expire layout node peer channel h).0

pub there_for : (s : Settings) (faults : List FaultLine) (ends : List EndpointView) (journal : List Entry) (interfaces : List InterfaceView)
    (swaps : List Store) (v : ClusterView) (node : NodeId) (work : Work) →
    IsKept (layout_in s faults (map kept ends)) (map kept ends) journal interfaces swaps → seen s faults (map kept ends) journal ≡ v → v.layout.direct ≡ false →
    is_in_range v.layout (event_of node work) ≡ true → node.0 < length interfaces
there_for s faults ends journal interfaces swaps v node work kept' is packet range =
    joint.interface_there (layout_in s faults (map kept ends)) journal interfaces node kept'.interfaces' (ap (λ (w : ClusterView). w.layout.direct) is ∙ packet)
    (node_there (layout_in s faults (map kept ends)) node work (ap (λ (w : ClusterView). is_in_range w.layout (event_of node work)) is ∙ range))

-- the state of the endpoint that a work touches, if it touches one
abbrev pub state_for : Layout → List Entry → Option EndpointId → State
state_for layout past None = fresh (record { 0 = 0 }) Host
state_for layout past (Some e) = state_of layout past e

pub state_read : (layout : Layout) (past : List Entry) (o : Option EndpointId) → IsState layout past (state_for layout past o) o
state_read layout past None = tt
state_read layout past (Some e) = refl

-- a work in a cluster that is seen so, of the interface that was read at the node's place
abbrev pub joint_at : (s : Settings) (faults : List FaultLine) (ends : List EndpointView) (journal : List Entry) (interfaces : List InterfaceView)
    (swaps : List Store) (v : ClusterView) (node : NodeId) (one : InterfaceView) (work : Work) →
    IsKept (layout_in s faults (map kept ends)) (map kept ends) journal interfaces swaps → seen s faults (map kept ends) journal ≡ v → v.layout.direct ≡ false →
    is_in_range v.layout (event_of node work) ≡ true → one ≡ slice_index_or interfaces node.0 one → IsTaken v.journal node work → Joint
joint_at s faults ends journal interfaces swaps v node one work kept' is packet range value taken =
    joint.joint_in s faults ends journal interfaces swaps v node one (state_for (layout_in s faults (map kept ends)) journal (needs (own one) work)) work kept'
    is packet range
    (slice_get-get_or interfaces node.0 one (there_for s faults ends journal interfaces swaps v node work kept' is packet range)
    ∙ ap (λ (i : InterfaceView). Some i) (sym value)) taken
    (state_read (layout_in s faults (map kept ends)) journal (needs (own one) work))

-- ---- the work

pub joint_fits : (j : Joint) → FitsInterface j.one j.work
joint_fits j = by_work j.work j.in_range j.taken
  where
    by_work : (w : Work) → is_in_range (joint.layout_of j) (event_of j.node w) ≡ true → IsTaken j.journal j.node w → FitsInterface j.one w
    by_work (Works.Receive (Packets.Parcel p)) range at =
        let is = interface_in j in
        let history = j.kept'.tied.history in
        let fit = packets_fit (joint.layout_of j) j.journal history p.from j.node (p.number - 1) (Packets.Parcel p) at in
        let placed = numbered_place j.journal (history_numbered (joint.layout_of j) j.journal history) p.from j.node (p.number - 1) (Packets.Parcel p) at in
        let peer = (range_receive (joint.layout_of j) j.node p.from p.number range).1 in
        let channel = fit.channel in
        let nodes = is.nodes in
        let channels = is.channels in
        record {
          to = placed.to ∙ sym is.is_node;
          on = record { peer = omega (arith, peer, nodes); channel = omega (arith, channel, channels) };
          seq = fit.seq;
          formed = fit.formed;
        }
    by_work (Works.Receive (Packets.Answer p)) range at =
        let is = interface_in j in
        let history = j.kept'.tied.history in
        let channel = packets_fit (joint.layout_of j) j.journal history p.from j.node (p.number - 1) (Packets.Answer p) at in
        let placed = numbered_place j.journal (history_numbered (joint.layout_of j) j.journal history) p.from j.node (p.number - 1) (Packets.Answer p) at in
        let peer = (range_receive (joint.layout_of j) j.node p.from p.number range).1 in
        let nodes = is.nodes in
        let channels = is.channels in
        record {
          to = placed.to ∙ sym is.is_node;
          on = record { peer = omega (arith, peer, nodes); channel = omega (arith, channel, channels) };
        }
    by_work (Works.Bind end) range at = tt
    by_work (Works.Expire peer channel) range at =
        let is = interface_in j in
        let r = range_expire (joint.layout_of j) j.node peer channel range in
        let to = r.1 in
        let on = r.2 in
        let nodes = is.nodes in
        let channels = is.channels in
        record { peer = omega (arith, to, nodes); channel = omega (arith, on, channels) }

-- a packet is older than the next entry
packet_before : (j : Joint) (p : Packet) (peer : NodeId) (number : ℕ) → is_in_range (joint.layout_of j) (Events.Receive j.node peer number) ≡ true →
    failing (joint.layout_of j) j.journal (Events.Receive j.node peer number) ≡ None →
    is_packet_before (greatest_stamp j.journal + 1) (slice_get (emitted peer j.node j.journal) (number - 1)) ≡ true
packet_before j p peer number range enabled =
    (and_parts _ (is_taken_before (greatest_stamp j.journal + 1) j.journal (Events.Receive j.node peer number))
    (entry_may_follow (joint.layout_of j) j.journal (Events.Receive j.node peer number) range enabled).later).1

pub joint_packet : (j : Joint) → stamp_in j.work ≤ greatest_stamp j.journal
joint_packet j = by_work j.work j.in_range j.taken (joint_failing j)
  where
    by_work : (w : Work) → is_in_range (joint.layout_of j) (event_of j.node w) ≡ true → IsTaken j.journal j.node w →
        failing (joint.layout_of j) j.journal (event_of j.node w) ≡ failing_at (own j.one) j.state w → stamp_in w ≤ greatest_stamp j.journal
    by_work (Works.Receive (Packets.Parcel p)) range at enabled =
        let before = ltb-true p.stamp (greatest_stamp j.journal + 1) (ap (is_packet_before (greatest_stamp j.journal + 1)) (sym at)
        ∙ packet_before j (Packets.Parcel p) p.from p.number range enabled) in
        omega (arith, before)
    by_work (Works.Receive (Packets.Answer p)) range at enabled =
        let before = ltb-true p.stamp (greatest_stamp j.journal + 1) (ap (is_packet_before (greatest_stamp j.journal + 1)) (sym at)
        ∙ packet_before j (Packets.Answer p) p.from p.number range enabled) in
        omega (arith, before)
    by_work (Works.Bind end) range at enabled = omega arith
    by_work (Works.Expire peer channel) range at enabled = omega arith

pub joint_last : (j : Joint) → last_stamp j.one.log ≤ greatest_stamp j.journal
joint_last j =
    subst (λ (xs : List Entry). last_stamp xs ≤ greatest_stamp j.journal) (sym (interface_in j).part)
    (last_below (greatest_stamp j.journal) (filter (touches_node j.node) j.journal) (below_filter (greatest_stamp j.journal + 1) (touches_node j.node) j.journal
    (all_below j.journal)))

pub joint_nodes : (j : Joint) → IsOfCluster j.one
joint_nodes j =
    let is = interface_in j in
    let nodes = is.nodes in
    let node = ap (λ (n : NodeId). n.0) is.is_node in
    let there = node_there (joint.layout_of j) j.node j.work j.in_range in
    let few = j.kept'.tied.lawful.nodes.1 in
    (omega (arith, node, there, few), omega (arith, nodes, few))

-- where the index is that of the journal
pub joint_can : (j : Joint) (r : Readings) → IsIndexOf j.journal r → CanTurn j.one r j.work
joint_can j r index =
    let late = joint_last j in
    let packet = joint_packet j in
    record {
      fits = joint_fits j;
      stamp = stamp_fits (joint.layout_of j) (map kept j.ends) j.journal j.interfaces j.swaps r refl j.kept' index;
      counts = counts_fit (joint.layout_of j) (map kept j.ends) j.journal j.interfaces j.swaps r refl j.kept' index;
      last = omega (arith, late, index.greatest);
      packet = omega (arith, packet, index.greatest);
      nodes = joint_nodes j;
    }

-- ---- the packet of a receipt

-- the packet with this number on the link
pub picked : (layout : Layout) (journal : List Entry) (node peer : NodeId) (number : ℕ) (p : Packet) → IsHistory layout journal → 1 ≤ number →
    slice_get (emitted peer node journal) (number - 1) ≡ Some p →
    IsTaken journal node (Works.Receive p) × (event_of node (Works.Receive p) ≡ Events.Receive node peer number)
picked layout journal node peer number p history least at =
    let placed = numbered_place journal (history_numbered layout journal history) peer node (number - 1) p at in
    let from : from_of p ≡ peer = placed.from in
    let next : number - 1 + 1 ≡ number = omega (arith, least) in
    let place : number_of p ≡ number = placed.number ∙ next in
    ((λ i. slice_get (emitted (from i) node journal) (place i - 1)) ∙ at, received_event node p ∙ λ i. Events.Receive node (from i) (place i))

pub no_packet : (layout : Layout) (journal : List Entry) (node peer : NodeId) (number : ℕ) → layout.direct ≡ false → 1 ≤ number →
    slice_get (emitted peer node journal) (number - 1) ≡ None → stop layout journal (Events.Receive node peer number) ≡ Some (NotEnabled Needs.NoPacket)
no_packet layout journal node peer number packet least none =
    let past = slice_get-None (emitted peer node journal) (number - 1) none in
    let far : nat_lt (length (emitted peer node journal)) number ≡ true = lt-ltb (length (emitted peer node journal)) number (omega (arith, past, least)) in
    λ i. stop_by (first_holding ((packet i, Needs.NotPacket) ∷ (far i, Needs.NoPacket) ∷ [])) (full_log layout journal (Events.Receive node peer number))

-- ---- the endpoint that a work touches is declared

bound_declared : (j : Joint) (peer : NodeId) (channel : ℕ) (m : Option Message) (ends : Bool) (end : EndpointId) →
    bound_message (channel_in (own j.one) peer channel) j.one.log ≡ m → needs_bound m ends ≡ Some end → declared (joint.layout_of j) end ≡ true
bound_declared j peer channel None ends end is needed = absurd (cc)
bound_declared j peer channel (Some m) false end is needed = absurd (cc)
bound_declared j peer channel (Some m) true end is needed =
    let source : m.serial.source ≡ end = cc in
    let bound = (same_ends (joint.layout_of j) j.journal (own j.one) (joint.joint_part j) peer channel).bound ∙ is in
    ap (declared (joint.layout_of j)) (sym source)
    ∙ (bound_aloft (joint.layout_of j) j.journal j.packet j.kept'.tied.history (channel_in (own j.one) peer channel) m bound).source

arrival_declared : (layout : Layout) (dest end : EndpointId) (a : Arrival) → declared layout dest ≡ true → needs_arrival dest a ≡ Some end →
    declared layout end ≡ true
arrival_declared layout dest end Stale is needed = absurd (cc)
arrival_declared layout dest end (Again v) is needed = absurd (cc)
arrival_declared layout dest end Fresh is needed = let same : dest ≡ end = cc in ap (declared layout) (sym same) ∙ is

pub needed_declared : (j : Joint) (end : EndpointId) → needs (own j.one) j.work ≡ Some end → declared (joint.layout_of j) end ≡ true
needed_declared j end needed = by_work j.work j.in_range j.taken needed
  where
    by_work : (w : Work) → is_in_range (joint.layout_of j) (event_of j.node w) ≡ true → IsTaken j.journal j.node w → needs (own j.one) w ≡ Some end →
        declared (joint.layout_of j) end ≡ true
    by_work (Works.Receive (Packets.Parcel p)) range at is =
        arrival_declared (joint.layout_of j) p.message.dest end (arrival_in (own j.one) p.from p.channel p.seq p.attempt)
        (packets_fit (joint.layout_of j) j.journal j.kept'.tied.history p.from j.node (p.number - 1) (Packets.Parcel p) at).dest is
    by_work (Works.Receive (Packets.Answer p)) range at is =
        bound_declared j p.from p.channel (bound_message (channel_in (own j.one) p.from p.channel) j.one.log)
        (settles (own j.one) (channel_in (own j.one) p.from p.channel) p) end refl is
    by_work (Works.Bind e) range at is = let same : e ≡ end = cc in ap (declared (joint.layout_of j)) (sym same)
        ∙ (range_bind (joint.layout_of j) j.node e range).0
    by_work (Works.Expire peer channel) range at is =
        bound_declared j peer channel (bound_message (channel_in (own j.one) peer channel) j.one.log)
        (not (has_try_left (own j.one) (channel_in (own j.one) peer channel))) end refl is

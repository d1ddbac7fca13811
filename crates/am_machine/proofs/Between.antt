-- Packets go between nodes of the layout.
use Rattle.std.specs.Prelude.{if◌then◌else◌, nat_lt}
use Rattle.std.proofs.Common.{◌≡◌, ℕ, ◌+◌, ◌<◌, Bool, true, false, ◌&&◌, List, length, Option, Some, None, refl, subst, ltb-true}
use Rattle.std.proofs.lemmas.Bool.{and_parts}
use Rattle.am_names.specs.declared.NodeId.{NodeId}
use Rattle.am_names.specs.declared.Message.{Message}
use Rattle.am_names.specs.declared.Packet.{Packet}
use Rattle.am_names.specs.declared.Packet.TheVariants as Packets
use Rattle.am_names.specs.declared.Verdict.{Verdict}
use Rattle.am_office_entries.specs.declared.Event.{Event}
use Rattle.am_office_entries.specs.declared.Event.TheVariants as Events
use Rattle.am_office_entries.specs.declared.Outcome.{Outcome}
use Rattle.am_office_entries.specs.declared.Outcome.TheVariants as Out
use Rattle.am_office_entries.specs.declared.Entry.{Entry}
use Rattle.am_office_entries.specs.Entries.{answer_by, answer_packet, emitted_in, parcel}
use Rattle.am_model.specs.declared.Queued.{Queued}
use Rattle.am_model.specs.Channels.{attempt, bound_message, emitted, sequence}
use Rattle.am_model.specs.Endpoint.{front}
use Rattle.am_model.specs.History.{bind, bind_to, channel_for, channel_to, expire, is_answered, is_in_range, outcome_of, sent, state_of}
use Rattle.am_model.specs.Changes.{flying_of}
use Rattle.am_model.specs.Layout.{IsLawful, Layout, declared, home}
use Rattle.am_model.specs.Packets.{receiver_of, from_of}
use Rattle.am_laws_cluster.proofs.HomesKept.{home_below}

pub record IsBetween (layout : Layout) (p : Packet) : Type 0 where
  pub from : (from_of p).0 < layout.nodes
  pub to : (receiver_of p).0 < layout.nodes

abbrev pub AllBetween : Layout → Option Packet → Type 0
AllBetween layout o = (p : Packet) → o ≡ Some p → IsBetween layout p

none_between : (layout : Layout) → AllBetween layout None
none_between layout p h = absurd (cc)

parcel_between : (layout : Layout) (node peer : NodeId) (stamp channel seq attempt number : ℕ) (m : Message) → node.0 < layout.nodes → peer.0 < layout.nodes →
    AllBetween layout (parcel node stamp (Out.Sent m peer channel seq attempt number))
parcel_between layout node peer stamp channel seq attempt number m from to p h =
    subst (λ (q : Packet). IsBetween layout q) (let same : Packets.Parcel (record {
      from = node;
      to = peer;
      channel = channel;
      seq = seq;
      attempt = attempt;
      number = number;
      stamp = stamp;
      message = m;
    }) ≡ p = cc in same) (record { from = from; to = to })

bind_between : (layout : Layout) (past : List Entry) (node : NodeId) (stamp : ℕ) (f : Option Queued) → IsLawful layout → node.0 < layout.nodes →
    AllBetween layout (parcel node stamp (bind layout node past f))
bind_between layout past node stamp None ok from = none_between layout
bind_between layout past node stamp (Some q) ok from = by_peer (home layout q.message.dest) refl (channel_for layout node past (Some q))
  where
    by_peer : (peer : Option NodeId) → home layout q.message.dest ≡ peer → (channel : Option ℕ) →
        AllBetween layout (parcel node stamp (bind_to node past q peer channel))
    by_peer None is channel = none_between layout
    by_peer (Some peer) is None = none_between layout
    by_peer (Some peer) is (Some channel) =
        parcel_between layout node peer stamp channel (sequence (channel_to node peer channel) past + 1) 0 (length (emitted node peer past) + 1) q.message from
        (home_below layout ok q.message.dest peer is)

expire_between : (layout : Layout) (past : List Entry) (node peer : NodeId) (channel stamp : ℕ) (m : Option Message) → node.0 < layout.nodes →
    peer.0 < layout.nodes → AllBetween layout (parcel node stamp (expire layout node peer channel past m))
expire_between layout past node peer channel stamp None from to = none_between layout
expire_between layout past node peer channel stamp (Some m) from to =
    by_tries (nat_lt (attempt (channel_to node peer channel) past + 1) layout.tries) (is_answered
    (flying_of m.serial (state_of layout past m.serial.source).body.in_flight))
  where
    by_tries : (more done : Bool) → AllBetween layout (parcel node stamp (if more then sent node peer channel past m
        (sequence (channel_to node peer channel) past) (attempt (channel_to node peer channel) past + 1) else
        (if done then Out.Delivered m.serial else Out.Unknown m.serial)))
    by_tries true done = parcel_between layout node peer stamp channel (sequence (channel_to node peer channel) past)
        (attempt (channel_to node peer channel) past + 1) (length (emitted node peer past) + 1) m from to
    by_tries false true = none_between layout
    by_tries false false = none_between layout

answer_between : (layout : Layout) (node peer : NodeId) (channel seq tries stamp : ℕ) (a : Option (ℕ × Verdict)) → node.0 < layout.nodes →
    peer.0 < layout.nodes → AllBetween layout (answer_packet node peer channel seq tries stamp a)
answer_between layout node peer channel seq tries stamp None from to p h = absurd (cc)
answer_between layout node peer channel seq tries stamp (Some (number, verdict)) from to p h =
    subst (λ (q : Packet). IsBetween layout q) (let same : Packets.Answer (record {
      from = node;
      to = peer;
      channel = channel;
      seq = seq;
      attempt = tries;
      number = number;
      stamp = stamp;
      verdict = verdict;
    }) ≡ p = cc in same) (record { from = from; to = to })

receipt_between : (layout : Layout) (node peer : NodeId) (number stamp : ℕ) (o : Outcome) → node.0 < layout.nodes → peer.0 < layout.nodes →
    AllBetween layout (emitted_in stamp (Events.Receive node peer number) o)
receipt_between layout node peer number stamp (Out.Received channel seq attempt r) from to =
    answer_between layout node peer channel seq attempt stamp (answer_by r) from to
receipt_between layout node peer number stamp o from to = none_between layout

pub emits_between : (layout : Layout) (past : List Entry) (stamp : ℕ) (event : Event) → IsLawful layout → is_in_range layout event ≡ true →
    AllBetween layout (emitted_in stamp event (outcome_of layout past event))
emits_between layout past stamp (Events.Bind node end) ok ranged =
    let node' = and_parts (declared layout end) (nat_lt node.0 layout.nodes) ranged in
    bind_between layout past node stamp (front (state_of layout past end)) ok (ltb-true node.0 layout.nodes node'.1)
emits_between layout past stamp (Events.Expire node peer channel) ok ranged =
    let all = and_parts (nat_lt node.0 layout.nodes && nat_lt peer.0 layout.nodes) (nat_lt channel layout.channels) ranged in
    let nodes = and_parts (nat_lt node.0 layout.nodes) (nat_lt peer.0 layout.nodes) all.0 in
    expire_between layout past node peer channel stamp (bound_message (channel_to node peer channel) past) (ltb-true node.0 layout.nodes nodes.0)
    (ltb-true peer.0 layout.nodes nodes.1)
emits_between layout past stamp (Events.Receive node peer number) ok ranged =
    let some = and_parts _ _ ranged in
    let all = and_parts _ _ some.0 in
    let nodes = and_parts (nat_lt node.0 layout.nodes) (nat_lt peer.0 layout.nodes) all.0 in
    receipt_between layout node peer number stamp (outcome_of layout past (Events.Receive node peer number)) (ltb-true node.0 layout.nodes nodes.0)
    (ltb-true peer.0 layout.nodes nodes.1)
emits_between layout past stamp event ok ranged = none_between layout

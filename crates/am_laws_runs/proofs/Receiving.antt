-- A receipt leaves less work: a released packet less is left.
use Rattle.std.proofs.Common.{◌≡◌, ℕ, ◌+◌, ◌-◌, ◌<◌, ◌≤◌, Bool, true, false, List, [], ◌∷◌, ◌++◌, length, Option, Some, None, refl, sym, ap, ◌∙◌, subst, arith}
use Rattle.std.proofs.Common.{ltb-true, if◌then◌else◌}
use Rattle.std.specs.Prelude.{◌==◌, ◌&&◌, nat_lt, slice_get}
use Rattle.std.proofs.lemmas.Bool.{and_parts}
use Rattle.std.proofs.lemmas.List.Sums.{sum_by_push}
use Rattle.am_names.specs.Rules.{is_transient}
use Rattle.am_names.specs.declared.EndpointId.{EndpointId}
use Rattle.am_names.specs.declared.NodeId.{NodeId}
use Rattle.am_names.specs.declared.Serial.{Serial}
use Rattle.am_names.specs.declared.Cause.{Cause}
use Rattle.am_names.specs.declared.Cause.TheVariants.{NotResident}
use Rattle.am_names.specs.declared.Verdict.{Verdict}
use Rattle.am_names.specs.declared.Verdict.TheVariants as Verdicts
use Rattle.am_names.specs.declared.Why.TheVariants as Whys
use Rattle.am_names.specs.declared.Message.{Message}
use Rattle.am_names.specs.declared.AnswerPacket.{AnswerPacket}
use Rattle.am_names.specs.declared.Packet.{Packet}
use Rattle.am_names.specs.declared.Packet.TheVariants as Packets
use Rattle.am_names.specs.Names.{is_request, has_serial}
use Rattle.am_office_entries.specs.declared.Event.{Event}
use Rattle.am_office_entries.specs.declared.Event.TheVariants as Events
use Rattle.am_office_entries.specs.declared.Received.{Received}
use Rattle.am_office_entries.specs.declared.Received.TheVariants as Got
use Rattle.am_office_entries.specs.declared.Outcome.TheVariants as Out
use Rattle.am_office_entries.specs.declared.Entry.{Entry}
use Rattle.am_office_entries.specs.Entries.{answer_by, answer_packet}
use Rattle.am_model.specs.declared.Flying.{Flying}
use Rattle.am_model.specs.Endpoint.{State, verdict}
use Rattle.am_model.specs.Changes.{flying_of, without_flight, received as received_state, settled_by}
use Rattle.am_model.specs.Cluster.{InFlightIsBound, IsFlying, in_flight}
use Rattle.am_model.specs.Layout.{declared}
use Rattle.am_model.specs.Channels.{Channel, Arrival, Stale, Again, Fresh, same_channel, bound_message, frees_by, arrival, mark, emitted, attempt, sequence}
use Rattle.am_model.specs.History.{state_of, channel_to, next_number, decided, arrive, settle_by, counts, settle, receive}
use Rattle.am_model.proofs.Ends.{bound_push}
use Rattle.am_model.proofs.Names.{same_serial-is}
use Rattle.am_model.proofs.Chosen.{flying_of-has_serial}
use Rattle.am_laws.proofs.Alls.{all_found}
use Rattle.am_laws_cluster.specs.Packets.Packets.{FitsReceiver}
use Rattle.am_laws_cluster.proofs.PacketsFit.{packets_fit, bound_aloft}
use Rattle.am_laws_cluster.proofs.Bound.{in_flight_bound}
use Rattle.am_scenario_plan.specs.Shape.{shape}
use Rattle.am_scenario_types.specs.Lists.{ScenarioLists}
use Rattle.am_model_scripts.specs.Layout.{layout_of}
use Rattle.am_model_scripts.proofs.Lawful.{lawful_layout}
use Rattle.am_model_scripts.specs.Links.{due, receipt, receipt_at, next_receipt, received}
use Rattle.am_model_scripts.proofs.Lists.{some_mapped}
use Rattle.am_model_drain.specs.declared.Turn.{Turn}
use Rattle.am_model_drain.specs.declared.Turn.TheVariants.{Once}
use Rattle.am_model_drain.specs.Made.{next_stamp, after_event}
use Rattle.am_model_drain.proofs.TurnKinds.{Maybe, is_so}
use Rattle.am_laws_runs.specs.Turns.Enabled.{IsOfRun}
use Rattle.am_laws_runs.specs.Turns.Work.{bindings, copy_of, packet_copy, queued_work, received_work, request_copy, reply_copy, new_reply, bounces_flown}
use Rattle.am_laws_runs.specs.Turns.Work.{channel_work, work}
use Rattle.am_laws_runs.proofs.Enabled.{of_packets, nodes_so}
use Rattle.am_laws_runs.specs.Ends.Falls.{Falls, ReceiptsFall}
use Rattle.am_laws_runs.proofs.Flights.{StaysAloft}
use Rattle.am_laws_runs.proofs.Links.{taken_by, links_emit, links_still, links_take, IsNextDue, due_is}
use Rattle.am_laws_runs.proofs.EndStates.{ends_work, body_work, work_at, entry_ends, entry_none, requeued_work, notice_one}
use Rattle.am_laws_runs.proofs.EndChannels.{never, bindings_least, at_bound, at_free, channels_change, channels_fewer, channel_self, others_stay}
use Rattle.am_laws_runs.proofs.Parts.{acted_less, links_left, channels_work}
use Rattle.am_laws_runs.proofs.TimeOuts.{IsChannel}

-- ---- the entry, and the packet that it takes

abbrev got : ℕ → NodeId → NodeId → ℕ → ℕ → ℕ → ℕ → Received → Entry
got stamp node peer number channel seq attempt r =
    record { stamp = stamp; event = Events.Receive node peer number; outcome = Out.Received channel seq attempt r }

-- the packet that is due on a link
record Takes (s : ScenarioLists) (past : List Entry) (node peer : NodeId) (copy : ℕ) : Type 0 where
  node' : node.0 < s.nodes
  peer' : peer.0 < s.nodes
  packet : Packet
  copy' : packet_copy s packet ≡ copy
  due' : slice_get (shape s.plan peer node (emitted peer node past)) (length (received peer node past)) ≡ Some packet

-- without an answer
took : (s : ScenarioLists) (past : List Entry) (stamp : ℕ) (node peer : NodeId) (number channel seq attempt copy : ℕ) (r : Received) →
    Takes s past node peer copy → answer_by r ≡ None → links_left s (past ++ got stamp node peer number channel seq attempt r ∷ []) + copy ≤ links_left s past
took s past stamp node peer number channel seq attempt copy r k none =
    let x : Entry = got stamp node peer number channel seq attempt r in
    omega (
      arith,
      links_still s past x (taken_by (past ++ x ∷ [])) (ap (answer_packet node peer channel seq attempt stamp) none),
      links_take s past x node peer number k.packet refl k.peer' k.node' k.due',
      k.copy',
    )

-- and with one, of which two copies come out at most
took_answered : (s : ScenarioLists) (past : List Entry) (stamp : ℕ) (node peer : NodeId) (number channel seq attempt copy : ℕ) (r : Received)
    (a : ℕ × Verdict) → Takes s past node peer copy → answer_by r ≡ Some a →
    links_left s (past ++ got stamp node peer number channel seq attempt r ∷ []) + copy ≤ links_left s past + 2
took_answered s past stamp node peer number channel seq attempt copy r a k is =
    let x : Entry = got stamp node peer number channel seq attempt r in
    let p : Packet = Packets.Answer (record {
      from = node;
      to = peer;
      channel = channel;
      seq = seq;
      attempt = attempt;
      number = a.0;
      stamp = stamp;
      verdict = a.1;
    }) in
    omega (
      arith,
      links_emit s past x p (taken_by (past ++ x ∷ [])) (ap (answer_packet node peer channel seq attempt stamp) is) k.node' k.peer',
      links_take s past x node peer number k.packet refl k.peer' k.node' k.due',
      k.copy',
    )

-- an entry that frees no channel
unfreed : (s : ScenarioLists) (past : List Entry) (stamp : ℕ) (node peer : NodeId) (number channel seq attempt : ℕ) (r : Received) → frees_by r ≡ false →
    settled_by r ≡ None → channels_work s (past ++ got stamp node peer number channel seq attempt r ∷ []) ≤ channels_work s past
unfreed s past stamp node peer number channel seq attempt r none stays =
    let x : Entry = got stamp node peer number channel seq attempt r in
    channels_fewer s past x tt
    (λ (d : Channel). record {
      bound' = ap (λ (b : Bool). b && same_channel d node peer channel) none;
      sent' = refl;
      stays = λ n other u e same. never u (sym stays ∙ e);
    })

-- ---- a parcel

copy_is : (s : ScenarioLists) (m : Message) → copy_of s m ≡ 3 + received_work s m
copy_is s m = by_test (is_request m)
  where
    by_test : (b : Bool) → (if b then request_copy s else reply_copy) ≡ 3 + (if b then 1 + new_reply s else 1)
    by_test true = omega arith
    by_test false = omega arith

refused_body : (e : EndpointId) (st : State) (m : Message) (cause : Cause) (answer : ℕ) → (received_state e st (Got.Refused m cause answer)).body ≡ st.body
refused_body e st m NotResident answer = refl
refused_body e st m cause answer = refl

decide_falls : (s : ScenarioLists) (past : List Entry) (stamp : ℕ) (node peer : NodeId) (number channel seq attempt : ℕ) (m : Message) (answer : ℕ)
    (v : Verdict) → IsOfRun s past → declared (layout_of s) m.dest ≡ true → Takes s past node peer (copy_of s m) →
    work s (past ++ got stamp node peer number channel seq attempt (decided m answer v) ∷ []) < work s past
decide_falls s past stamp node peer number channel seq attempt m answer Verdicts.Accepted run known k =
    let x : Entry = got stamp node peer number channel seq attempt (Got.Accepted m answer) in
    let ends : ends_work s (past ++ x ∷ []) + 0 ≤ ends_work s past + received_work s m =
    entry_ends s past x m.dest 0 (received_work s m) (lawful_layout s run.lawful) known refl
    (omega (arith, sum_by_push (received_work s) (state_of (layout_of s) past m.dest).body.received m)) in
    acted_less s past x tt refl
    (omega (
      arith,
      ends,
      copy_is s m,
      took_answered s past stamp node peer number channel seq attempt (copy_of s m) (Got.Accepted m answer) (
        answer,
        Verdicts.Accepted,
      ) k refl,
      unfreed s past stamp node peer number channel seq attempt (Got.Accepted m answer) refl refl,
    ))
decide_falls s past stamp node peer number channel seq attempt m answer (Verdicts.Refused cause) run known k =
    let x : Entry = got stamp node peer number channel seq attempt (Got.Refused m cause answer) in
    let same : body_work s (received_state m.dest (state_of (layout_of s) past m.dest) (Got.Refused m cause answer)).body ≡ work_at s past m.dest =
    ap (body_work s) (refused_body m.dest (state_of (layout_of s) past m.dest) m cause answer) in
    let ends : ends_work s (past ++ x ∷ []) + 0 ≤ ends_work s past + 0 =
    entry_ends s past x m.dest 0 0 (lawful_layout s run.lawful) known refl (omega (arith, same)) in
    acted_less s past x tt refl
    (omega (
      arith,
      ends,
      copy_is s m,
      took_answered s past stamp node peer number channel seq attempt (copy_of s m) (Got.Refused m cause answer) (
        answer,
        Verdicts.Refused cause,
      ) k refl,
      unfreed s past stamp node peer number channel seq attempt (Got.Refused m cause answer) refl refl,
    ))

arrive_falls : (s : ScenarioLists) (past : List Entry) (stamp : ℕ) (node peer : NodeId) (number channel seq attempt : ℕ) (m : Message) (answer : ℕ)
    (a : Arrival) → IsOfRun s past → declared (layout_of s) m.dest ≡ true → Takes s past node peer (copy_of s m) →
    work s (past ++ got stamp node peer number channel seq attempt (arrive (layout_of s) past m answer a) ∷ []) < work s past
arrive_falls s past stamp node peer number channel seq attempt m answer Stale run known k =
    let x : Entry = got stamp node peer number channel seq attempt Got.Stale in
    acted_less s past x tt refl
    (omega (
      arith,
      entry_none s past x refl,
      copy_is s m,
      took s past stamp node peer number channel seq attempt (copy_of s m) Got.Stale k refl,
      unfreed s past stamp node peer number channel seq attempt Got.Stale refl refl,
    ))
arrive_falls s past stamp node peer number channel seq attempt m answer (Again v) run known k =
    let x : Entry = got stamp node peer number channel seq attempt (Got.Again m.serial v answer) in
    acted_less s past x tt refl
    (omega (
      arith,
      entry_none s past x refl,
      copy_is s m,
      took_answered s past stamp node peer number channel seq attempt (copy_of s m)
          (Got.Again m.serial v answer) (answer, v) k refl,
      unfreed s past stamp node peer number channel seq attempt (Got.Again m.serial v answer) refl refl,
    ))
arrive_falls s past stamp node peer number channel seq attempt m answer Fresh run known k =
    decide_falls s past stamp node peer number channel seq attempt m answer (verdict (state_of (layout_of s) past m.dest) m) run known k

-- ---- an answer

nothing_falls : (s : ScenarioLists) (past : List Entry) (stamp : ℕ) (node peer : NodeId) (number channel seq attempt : ℕ) → Takes s past node peer 1 →
    work s (past ++ got stamp node peer number channel seq attempt Got.Nothing ∷ []) < work s past
nothing_falls s past stamp node peer number channel seq attempt k =
    let x : Entry = got stamp node peer number channel seq attempt Got.Nothing in
    acted_less s past x tt refl
    (omega (
      arith,
      entry_none s past x refl,
      took s past stamp node peer number channel seq attempt 1 Got.Nothing k refl,
      unfreed s past stamp node peer number channel seq attempt Got.Nothing refl refl,
    ))

-- a message that is bound to a channel, on which an answer counts
record Settles (s : ScenarioLists) (past : List Entry) (node peer : NodeId) (channel : ℕ) (m : Message) : Type 0 where
  run : IsOfRun s past
  on : IsChannel s node peer channel
  is : bound_message (channel_to node peer channel) past ≡ Some m
  takes' : Takes s past node peer 1

flies_of : (s : ScenarioLists) (past : List Entry) → IsOfRun s past → InFlightIsBound (layout_of s) past
flies_of s past run = in_flight_bound (layout_of s) (lawful_layout s run.lawful) past run.history

source_known : (s : ScenarioLists) (past : List Entry) (node peer : NodeId) (channel : ℕ) (m : Message) → Settles s past node peer channel m →
    declared (layout_of s) m.serial.source ≡ true
source_known s past node peer channel m k = (bound_aloft (layout_of s) past (of_packets s k.run.packet) k.run.history (channel_to node peer channel) m
    k.is).source

-- the channel is free then
lands : (s : ScenarioLists) (past : List Entry) (stamp : ℕ) (node peer : NodeId) (number channel seq attempt a : ℕ) (m : Message) (r : Received) →
    Settles s past node peer channel m → frees_by r ≡ true → settled_by r ≡ Some m.serial → a ≤ channel_work s past (channel_to node peer channel) →
    channels_work s (past ++ got stamp node peer number channel seq attempt r ∷ []) + a ≤ channels_work s past
lands s past stamp node peer number channel seq attempt a m r k frees' lands' least =
    let x : Entry = got stamp node peer number channel seq attempt r in
    let own : (frees_by r && same_channel (channel_to node peer channel) node peer channel) ≡ true =
    ap (λ (b : Bool). b && same_channel (channel_to node peer channel) node peer channel) frees' ∙ channel_self node peer channel in
    let none : bound_message (channel_to node peer channel) (past ++ x ∷ []) ≡ None = bound_push (channel_to node peer channel) past x true own in
    let less = channels_change s past x node peer channel a 0 tt k.on.node' k.on.peer' k.on.number'
    (λ (d : Channel) apart. record {
      bound' = ap (λ (b : Bool). b && same_channel d node peer channel) frees' ∙ apart;
      sent' = refl;
      stays = λ n other. subst (λ (o : Option Serial). StaysAloft n.serial o) (sym lands')
          (others_stay (layout_of s) past node peer channel d m n (flies_of s past k.run) k.is apart other);
    })
    (omega (arith, at_free s (past ++ x ∷ []) (channel_to node peer channel) none, least)) in
    omega (arith, less)

least_bound : (s : ScenarioLists) (past : List Entry) (node peer : NodeId) (channel : ℕ) (m : Message) →
    bound_message (channel_to node peer channel) past ≡ Some m →
    bindings s.tries (copy_of s m) (s.bounces - bounces_flown s past m) ≤ channel_work s past (channel_to node peer channel)
least_bound s past node peer channel m is = omega (arith, at_bound s past (channel_to node peer channel) m is)

deliver_falls : (s : ScenarioLists) (past : List Entry) (stamp : ℕ) (node peer : NodeId) (number channel seq attempt : ℕ) (m : Message) →
    Settles s past node peer channel m → work s (past ++ got stamp node peer number channel seq attempt (Got.Delivered m.serial) ∷ []) < work s past
deliver_falls s past stamp node peer number channel seq attempt m k =
    let x : Entry = got stamp node peer number channel seq attempt (Got.Delivered m.serial) in
    let ends : ends_work s (past ++ x ∷ []) + 0 ≤ ends_work s past + 0 =
    entry_ends s past x m.serial.source 0 0 (lawful_layout s k.run.lawful) (source_known s past node peer channel m k) refl (omega arith) in
    acted_less s past x tt refl
    (omega (
      arith,
      ends,
      took s past stamp node peer number channel seq attempt 1 (Got.Delivered m.serial) k.takes' refl,
      lands s past stamp node peer number channel seq attempt 0 m (Got.Delivered m.serial) k refl refl (omega arith),
    ))

return_falls : (s : ScenarioLists) (past : List Entry) (stamp : ℕ) (node peer : NodeId) (number channel seq attempt : ℕ) (m : Message) (cause : Cause) →
    Settles s past node peer channel m → work s (past ++ got stamp node peer number channel seq attempt (Got.Returned m.serial cause) ∷ []) < work s past
return_falls s past stamp node peer number channel seq attempt m cause k =
    let x : Entry = got stamp node peer number channel seq attempt (Got.Returned m.serial cause) in
    let st : State = state_of (layout_of s) past m.serial.source in
    let ends : ends_work s (past ++ x ∷ []) + 0 ≤ ends_work s past + 1 =
    entry_ends s past x m.serial.source 0 1 (lawful_layout s k.run.lawful) (source_known s past node peer channel m k) refl
    (omega (
      arith,
      notice_one (Whys.Refused cause) (flying_of m.serial (state_of (layout_of s) past m.serial.source).body.in_flight)
          (state_of (layout_of s) past m.serial.source).body.notices,
    )) in
    acted_less s past x tt refl
    (omega (
      arith,
      ends,
      took s past stamp node peer number channel seq attempt 1 (Got.Returned m.serial cause) k.takes' refl,
      lands s past stamp node peer number channel seq attempt 2 m (Got.Returned m.serial cause) k refl refl
          (omega (arith, least_bound s past node peer channel m k.is, bindings_least s.tries (copy_of s m) (s.bounces - bounces_flown s past m))),
    ))

requeue_falls : (s : ScenarioLists) (past : List Entry) (stamp : ℕ) (node peer : NodeId) (number channel seq attempt : ℕ) (m : Message) (cause : Cause) →
    Settles s past node peer channel m → bounces_flown s past m < s.bounces →
    work s (past ++ got stamp node peer number channel seq attempt (Got.Requeued m.serial cause (bounces_flown s past m + 1)) ∷ []) < work s past
requeue_falls s past stamp node peer number channel seq attempt m cause k low =
    acted_less s past x tt refl
    (omega (
      arith,
      ends,
      took s past stamp node peer number channel seq attempt 1 (Got.Requeued m.serial cause (bounces_flown s past m + 1)) k.takes' refl,
      lands s past stamp node peer number channel seq attempt left m (Got.Requeued m.serial cause (bounces_flown s past m + 1)) k refl refl
          (least_bound s past node peer channel m k.is),
    ))
  where
    x : Entry
    x = got stamp node peer number channel seq attempt (Got.Requeued m.serial cause (bounces_flown s past m + 1))

    left : ℕ
    left = bindings s.tries (copy_of s m) (s.bounces - bounces_flown s past m)

    again : queued_work s (record { message = m; bounces = bounces_flown s past m + 1 }) ≡ left
    again =
        let same : s.bounces - (bounces_flown s past m + 1) + 1 ≡ s.bounces - bounces_flown s past m = omega (arith, low) in
        ap (bindings s.tries (copy_of s m)) same

    own : (g : Flying) → flying_of m.serial (state_of (layout_of s) past m.serial.source).body.in_flight ≡ Some g → g.message ≡ m
    own g is =
        let fly : IsFlying (layout_of s) past (channel_to node peer channel) m = (flies_of s past k.run).flies (channel_to node peer channel) m k.is in
        all_found (λ (f : Flying). f.message.serial ≡ m.serial →
        f.message ≡ m) (λ (f : Flying). has_serial m.serial f.message) (in_flight (layout_of s) past m.serial.source) g is fly.message
        (sym (same_serial-is m.serial g.message.serial (flying_of-has_serial m.serial (in_flight (layout_of s) past m.serial.source) g is)))

    ends : ends_work s (past ++ x ∷ []) + 0 ≤ ends_work s past + left
    ends =
        entry_ends s past x m.serial.source 0 left (lawful_layout s k.run.lawful) (source_known s past node peer channel m k) refl
        (omega (
          arith,
          again,
          requeued_work s m (bounces_flown s past m + 1) (without_flight m.serial (state_of (layout_of s) past m.serial.source).body)
              (flying_of m.serial (state_of (layout_of s) past m.serial.source).body.in_flight) own,
        ))

settle_falls : (s : ScenarioLists) (past : List Entry) (stamp : ℕ) (node peer : NodeId) (number channel seq attempt : ℕ) (m : Message) (v : Verdict) →
    Settles s past node peer channel m → work s (past ++ got stamp node peer number channel seq attempt (settle_by s.bounces m (bounces_flown s past m) v) ∷ [])
    < work s past
settle_falls s past stamp node peer number channel seq attempt m Verdicts.Accepted k = deliver_falls s past stamp node peer number channel seq attempt m k
settle_falls s past stamp node peer number channel seq attempt m (Verdicts.Refused cause) k =
    by_test (is_transient cause && nat_lt (bounces_flown s past m) s.bounces) refl
  where
    by_test : (b : Bool) → (is_transient cause && nat_lt (bounces_flown s past m) s.bounces) ≡ b →
        work s (past ++ got stamp node peer number channel seq attempt (if b then Got.Requeued m.serial cause (bounces_flown s past m + 1) else Got.Returned
        m.serial cause) ∷ []) < work s past
    by_test true is =
        requeue_falls s past stamp node peer number channel seq attempt m cause k
        (ltb-true (bounces_flown s past m) s.bounces (and_parts (is_transient cause) (nat_lt (bounces_flown s past m) s.bounces) is).1)
    by_test false is = return_falls s past stamp node peer number channel seq attempt m cause k

answer_falls : (s : ScenarioLists) (past : List Entry) (stamp : ℕ) (node peer : NodeId) (number : ℕ) (p : AnswerPacket) (o : Option Message) → IsOfRun s past →
    IsChannel s node peer p.channel → Takes s past node peer 1 → bound_message (channel_to node peer p.channel) past ≡ o →
    work s (past ++ got stamp node peer number p.channel p.seq p.attempt (settle (layout_of s) (channel_to node peer p.channel) past p o) ∷ []) < work s past
answer_falls s past stamp node peer number p None run on k is = nothing_falls s past stamp node peer number p.channel p.seq p.attempt k
answer_falls s past stamp node peer number p (Some m) run on k is =
    by_test ((p.seq == sequence (channel_to node peer p.channel) past) && counts p.verdict (p.attempt == attempt (channel_to node peer p.channel) past))
  where
    by_test : (b : Bool) → work s (past ++ got stamp node peer number p.channel p.seq p.attempt
        (if b then settle_by s.bounces m (bounces_flown s past m) p.verdict else Got.Nothing) ∷ []) < work s past
    by_test true = settle_falls s past stamp node peer number p.channel p.seq p.attempt m p.verdict (record { run = run; on = on; is = is; takes' = k })
    by_test false = nothing_falls s past stamp node peer number p.channel p.seq p.attempt k

-- ---- the receipt that is due

packet_falls : (s : ScenarioLists) (past : List Entry) (stamp : ℕ) (node peer : NodeId) (number : ℕ) (q : Packet) → IsOfRun s past →
    slice_get (emitted peer node past) (number - 1) ≡ Some q → Takes s past node peer (packet_copy s q) →
    work s (past ++ record { stamp = stamp; event = Events.Receive node peer number; outcome = receive (layout_of s) node peer past (Some q) } ∷ []) < work s
    past
packet_falls s past stamp node peer number (Packets.Parcel p) run at k =
    let fits : FitsReceiver (layout_of s) (Packets.Parcel p) = packets_fit (layout_of s) past run.history peer node (number - 1) (Packets.Parcel p) at in
    arrive_falls s past stamp node peer number p.channel p.seq p.attempt p.message (next_number node peer past)
    (arrival (mark (channel_to node peer p.channel) past) p.seq p.attempt) run fits.dest k
packet_falls s past stamp node peer number (Packets.Answer p) run at k =
    let fits : FitsReceiver (layout_of s) (Packets.Answer p) = packets_fit (layout_of s) past run.history peer node (number - 1) (Packets.Answer p) at in
    answer_falls s past stamp node peer number p (bound_message (channel_to node peer p.channel) past) run (record {
      node' = k.node';
      peer' = k.peer';
      number' = fits;
    }) k refl

receipt_falls : (s : ScenarioLists) (past : List Entry) (node peer : NodeId) (number : ℕ) → IsOfRun s past → node.0 < s.nodes → peer.0 < s.nodes →
    due s peer node past ≡ Some number → work s (after_event (layout_of s) (Events.Receive node peer number) past) < work s past
receipt_falls s past node peer number run on from e =
    let d : IsNextDue s peer node (emitted peer node past) (length (received peer node past)) number =
    due_is s (layout_of s) past peer node (length (received peer node past)) number run.history e in
    subst (λ (o : Option Packet). work s (past ++ record {
      stamp = next_stamp past;
      event = Events.Receive node peer number;
      outcome = receive (layout_of s) node peer past o;
    } ∷ []) < work s past) (sym d.got)
    (packet_falls s past (next_stamp past) node peer number d.emitted' run d.got (record {
      node' = on;
      peer' = from;
      packet = d.released';
      copy' = sym d.copy;
      due' = d.at;
    }))

abbrev EventFalls : ScenarioLists → List Entry → Event → Type 0
EventFalls s past event = work s (after_event (layout_of s) event past) < work s past

pub receipts_fall : ReceiptsFall
receipts_fall s past t run e =
    let found = some_mapped Once (next_receipt s past) t e in
    subst (λ (u : Turn). Falls s past u) found.2
    (is_so (EventFalls s past) (next_receipt s past) found.0 (nodes_so (EventFalls s past) s (receipt_at s past)
    (λ (node : NodeId) on. nodes_so (EventFalls s past) s (λ (peer : NodeId). receipt node peer (due s peer node past))
    (λ (peer : NodeId) from. due_so node peer on from (due s peer node past) refl))) found.1)
  where
    due_so : (node peer : NodeId) → node.0 < s.nodes → peer.0 < s.nodes → (o : Option ℕ) → due s peer node past ≡ o →
        Maybe (EventFalls s past) (receipt node peer o)
    due_so node peer on from None is = tt
    due_so node peer on from (Some n) is = receipt_falls s past node peer n run on from is

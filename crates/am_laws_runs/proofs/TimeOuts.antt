-- A time-out leaves less work: its channel has a try less, or is free.
use Rattle.std.proofs.Common.{◌≡◌, ℕ, ◌+◌, ◌-◌, ◌*◌, ◌<◌, ◌≤◌, Bool, true, false, List, [], ◌∷◌, ◌++◌, Option, Some, None, refl, sym, ap, ◌∙◌, subst, arith}
use Rattle.std.proofs.Common.{ltb-true, if◌then◌else◌}
use Rattle.std.specs.Prelude.{nat_lt, is_some}
use Rattle.am_names.specs.declared.NodeId.{NodeId}
use Rattle.am_names.specs.declared.Message.{Message}
use Rattle.am_names.specs.declared.Packet.{Packet}
use Rattle.am_names.specs.declared.Packet.TheVariants as Packets
use Rattle.am_names.specs.declared.Why.TheVariants as Whys
use Rattle.am_office_entries.specs.declared.Event.TheVariants as Events
use Rattle.am_office_entries.specs.declared.Outcome.{Outcome}
use Rattle.am_office_entries.specs.declared.Outcome.TheVariants as Out
use Rattle.am_office_entries.specs.declared.Entry.{Entry}
use Rattle.am_model.specs.Changes.{flying_of}
use Rattle.am_model.specs.Cluster.{InFlightIsBound}
use Rattle.am_model.specs.Layout.{IsLawful}
use Rattle.am_model.specs.Channels.{Channel, bound_message, attempt, sequence}
use Rattle.am_model.specs.History.{state_of, channel_to, is_answered, next_number, sent, expire}
use Rattle.am_model.proofs.Ends.{bound_push, attempt_push}
use Rattle.am_laws_cluster.proofs.PacketsFit.{bound_aloft}
use Rattle.am_laws_cluster.proofs.Bound.{in_flight_bound}
use Rattle.am_scenario_types.specs.Lists.{ScenarioLists}
use Rattle.am_model_scripts.specs.Layout.{layout_of}
use Rattle.am_model_scripts.proofs.Lawful.{lawful_layout}
use Rattle.am_model_drain.specs.declared.Turn.TheVariants.{Once}
use Rattle.am_model_drain.specs.Made.{next_stamp, after_event}
use Rattle.am_model_drain.specs.Rules.{time_out, time_out_to, time_out_at, next_time_out}
use Rattle.am_model_drain.proofs.TurnKinds.{Maybe, is_so}
use Rattle.am_laws_runs.specs.Turns.Enabled.{IsOfRun}
use Rattle.am_laws_runs.specs.Turns.Work.{time_outs, copy_of, bounces_flown, channel_work, work}
use Rattle.am_laws_runs.proofs.Enabled.{of_packets, nodes_so, range_so}
use Rattle.am_laws_runs.specs.Ends.Falls.{Falls, TimeOutsFall}
use Rattle.am_laws_runs.proofs.Flights.{flights_kept}
use Rattle.am_laws_runs.proofs.Links.{sent_by, taken_by, links_emit, links_still, links_untaken}
use Rattle.am_laws_runs.proofs.EndStates.{ends_work, entry_ends, entry_none, notice_one}
use Rattle.am_laws_runs.proofs.EndChannels.{never, bindings_least, bindings_less, time_outs_next, at_bound, at_free, channels_change, channel_self}
use Rattle.am_laws_runs.proofs.EndChannels.{others_stay}
use Rattle.am_laws_runs.proofs.Parts.{acted_less, links_left, channels_work}

-- ---- a channel of the scenario, where a message is bound

pub record IsChannel (s : ScenarioLists) (node peer : NodeId) (number : ℕ) : Type 0 where
  pub node' : node.0 < s.nodes
  pub peer' : peer.0 < s.nodes
  pub number' : number < s.channels

abbrev timed : ℕ → NodeId → NodeId → ℕ → Outcome → Entry
timed stamp node peer channel o = record { stamp = stamp; event = Events.Expire node peer channel; outcome = o }

-- ---- the packet goes out again

resend_falls : (s : ScenarioLists) (past : List Entry) (stamp : ℕ) (node peer : NodeId) (channel : ℕ) (m : Message) (seq number : ℕ) →
    IsChannel s node peer channel → bound_message (channel_to node peer channel) past ≡ Some m → attempt (channel_to node peer channel) past + 1 < s.tries →
    work s (past ++ timed stamp node peer channel (Out.Sent m peer channel seq (attempt (channel_to node peer channel) past + 1) number) ∷ []) < work s past
resend_falls s past stamp node peer channel m seq number at is low =
    acted_less s past x tt refl (omega (arith, ends, links, channels))
  where
    used : ℕ
    used = attempt (channel_to node peer channel) past + 1

    x : Entry
    x = timed stamp node peer channel (Out.Sent m peer channel seq used number)

    p : Packet
    p = Packets.Parcel (record { from = node; to = peer; channel = channel; seq = seq; attempt = used; number = number; stamp = stamp; message = m })

    ends : ends_work s (past ++ x ∷ []) ≤ ends_work s past
    ends = entry_none s past x refl

    links : links_left s (past ++ x ∷ []) ≤ links_left s past + 2 * copy_of s m
    links = omega (arith, links_emit s past x p (taken_by (past ++ x ∷ [])) refl at.node' at.peer', links_untaken s past x (sent_by past) (λ from to. refl))

    here : channel_work s (past ++ x ∷ []) (channel_to node peer channel) + (1 + 2 * copy_of s m) ≤ channel_work s past (channel_to node peer channel) + 0
    here =
        let bound' : bound_message (channel_to node peer channel) (past ++ x ∷ []) ≡ Some m = bound_push (channel_to node peer channel) past x false refl
        ∙ is in
        let tried : attempt (channel_to node peer channel) (past ++ x ∷ []) ≡ used =
        attempt_push (channel_to node peer channel) past x true (channel_self node peer channel) in
        let flown : bounces_flown s past m ≤ bounces_flown s (past ++ x ∷ []) m = flights_kept (layout_of s) past x m.serial tt (λ u e same. never u e) in
        let less = bindings_less s.tries (copy_of s m) (s.bounces - bounces_flown s (past ++ x ∷ []) m) (s.bounces - bounces_flown s past m)
        (omega (arith, flown)) in
        let again : time_outs (copy_of s m) (s.tries - 1 - attempt (channel_to node peer channel) (past ++ x ∷ [])) ≡ time_outs (copy_of s m)
        (s.tries - 1 - used) = ap (λ (n : ℕ). time_outs (copy_of s m) (s.tries - 1 - n)) tried in
        let tries = time_outs_next (copy_of s m) (s.tries - 1 - used) (s.tries - 1 - attempt (channel_to node peer channel) past) (omega (arith, low)) in
        omega (
          arith,
          at_bound s (past ++ x ∷ []) (channel_to node peer channel) m bound',
          at_bound s past (channel_to node peer channel) m is,
          less,
          again,
          tries,
        )

    channels : channels_work s (past ++ x ∷ []) + (1 + 2 * copy_of s m) ≤ channels_work s past + 0
    channels =
        channels_change s past x node peer channel (1 + 2 * copy_of s m) 0 tt at.node' at.peer' at.number'
        (λ (d : Channel) apart. record { bound' = refl; sent' = apart; stays = λ n other u e same. never u e }) here

-- ---- the tries are over

-- the channel is free, and what it was to cause is gone
freed : (s : ScenarioLists) (past : List Entry) (x : Entry) (node peer : NodeId) (channel : ℕ) (m : Message) →
    bound_message (channel_to node peer channel) past ≡ Some m → bound_message (channel_to node peer channel) (past ++ x ∷ []) ≡ None →
    channel_work s (past ++ x ∷ []) (channel_to node peer channel) + 2 ≤ channel_work s past (channel_to node peer channel) + 0
freed s past x node peer channel m is none =
    omega (
      arith,
      at_free s (past ++ x ∷ []) (channel_to node peer channel) none,
      at_bound s past (channel_to node peer channel) m is,
      bindings_least s.tries (copy_of s m) (s.bounces - bounces_flown s past m),
    )

deliver_falls : (s : ScenarioLists) (past : List Entry) (stamp : ℕ) (node peer : NodeId) (channel : ℕ) (m : Message) → IsOfRun s past →
    IsChannel s node peer channel → bound_message (channel_to node peer channel) past ≡ Some m →
    work s (past ++ timed stamp node peer channel (Out.Delivered m.serial) ∷ []) < work s past
deliver_falls s past stamp node peer channel m run at is = acted_less s past x tt refl (omega (arith, ends, links, channels))
  where
    x : Entry
    x = timed stamp node peer channel (Out.Delivered m.serial)

    ok : IsLawful (layout_of s)
    ok = lawful_layout s run.lawful

    flies : InFlightIsBound (layout_of s) past
    flies = in_flight_bound (layout_of s) ok past run.history

    ends : ends_work s (past ++ x ∷ []) + 0 ≤ ends_work s past + 0
    ends = entry_ends s past x m.serial.source 0 0 ok (bound_aloft (layout_of s) past (of_packets s run.packet) run.history (channel_to node peer channel) m
        is).source refl (omega arith)

    links : links_left s (past ++ x ∷ []) ≤ links_left s past
    links = omega (arith, links_still s past x (taken_by (past ++ x ∷ [])) refl, links_untaken s past x (sent_by past) (λ from to. refl))

    channels : channels_work s (past ++ x ∷ []) + 2 ≤ channels_work s past + 0
    channels =
        channels_change s past x node peer channel 2 0 tt at.node' at.peer' at.number'
        (λ (d : Channel) apart. record {
          bound' = apart;
          sent' = refl;
          stays = λ n other. others_stay (layout_of s) past node peer channel d m n flies is apart other;
        })
        (freed s past x node peer channel m is (bound_push (channel_to node peer channel) past x true (channel_self node peer channel)))

give_up_falls : (s : ScenarioLists) (past : List Entry) (stamp : ℕ) (node peer : NodeId) (channel : ℕ) (m : Message) → IsOfRun s past →
    IsChannel s node peer channel → bound_message (channel_to node peer channel) past ≡ Some m →
    work s (past ++ timed stamp node peer channel (Out.Unknown m.serial) ∷ []) < work s past
give_up_falls s past stamp node peer channel m run at is = acted_less s past x tt refl (omega (arith, ends, links, channels))
  where
    x : Entry
    x = timed stamp node peer channel (Out.Unknown m.serial)

    ok : IsLawful (layout_of s)
    ok = lawful_layout s run.lawful

    flies : InFlightIsBound (layout_of s) past
    flies = in_flight_bound (layout_of s) ok past run.history

    ends : ends_work s (past ++ x ∷ []) + 0 ≤ ends_work s past + 1
    ends =
        entry_ends s past x m.serial.source 0 1 ok (bound_aloft (layout_of s) past (of_packets s run.packet) run.history (channel_to node peer channel) m
        is).source refl
        (omega (
          arith,
          notice_one Whys.Unknown (flying_of m.serial (state_of (layout_of s) past m.serial.source).body.in_flight)
              (state_of (layout_of s) past m.serial.source).body.notices,
        ))

    links : links_left s (past ++ x ∷ []) ≤ links_left s past
    links = omega (arith, links_still s past x (taken_by (past ++ x ∷ [])) refl, links_untaken s past x (sent_by past) (λ from to. refl))

    channels : channels_work s (past ++ x ∷ []) + 2 ≤ channels_work s past + 0
    channels =
        channels_change s past x node peer channel 2 0 tt at.node' at.peer' at.number'
        (λ (d : Channel) apart. record {
          bound' = apart;
          sent' = refl;
          stays = λ n other. others_stay (layout_of s) past node peer channel d m n flies is apart other;
        })
        (freed s past x node peer channel m is (bound_push (channel_to node peer channel) past x true (channel_self node peer channel)))

-- ---- the time-out that the drain names

expire_falls : (s : ScenarioLists) (past : List Entry) (node peer : NodeId) (channel : ℕ) (m : Message) → IsOfRun s past → IsChannel s node peer channel →
    bound_message (channel_to node peer channel) past ≡ Some m → work s (after_event (layout_of s) (Events.Expire node peer channel) past) < work s past
expire_falls s past node peer channel m run at is =
    subst (λ (o : Option Message). work s (past ++ timed (next_stamp past) node peer channel (expire (layout_of s) node peer channel past o) ∷ []) < work s
    past) (sym is)
    (by_tests (nat_lt (attempt (channel_to node peer channel) past + 1) s.tries) (is_answered
    (flying_of m.serial (state_of (layout_of s) past m.serial.source).body.in_flight)) refl)
  where
    again : Outcome
    again = sent node peer channel past m (sequence (channel_to node peer channel) past) (attempt (channel_to node peer channel) past + 1)

    by_tests : (a b : Bool) → nat_lt (attempt (channel_to node peer channel) past + 1) s.tries ≡ a →
        work s (past ++ timed (next_stamp past) node peer channel (if a then again else (if b then Out.Delivered m.serial else Out.Unknown m.serial)) ∷ []) <
        work s past
    by_tests true b low = resend_falls s past (next_stamp past) node peer channel m (sequence (channel_to node peer channel) past) (next_number node peer past)
        at is (ltb-true (attempt (channel_to node peer channel) past + 1) s.tries low)
    by_tests false true over = deliver_falls s past (next_stamp past) node peer channel m run at is
    by_tests false false over = give_up_falls s past (next_stamp past) node peer channel m run at is

pub time_outs_fall : TimeOutsFall
time_outs_fall s past t run e =
    is_so (Falls s past) (next_time_out s past) t
    (nodes_so (Falls s past) s (time_out_at s past) (λ (node : NodeId) n. nodes_so (Falls s past) s (time_out_to s past node)
    (λ (peer : NodeId) p. range_so (Falls s past) (time_out node peer past) 0 s.channels
    (λ (channel : ℕ) c. by_message node peer channel (record {
      node' = n;
      peer' = p;
      number' = omega (arith, c);
    }) (bound_message (channel_to node peer channel) past) refl)))) e
  where
    by_message : (node peer : NodeId) (channel : ℕ) → IsChannel s node peer channel → (o : Option Message) →
        bound_message (channel_to node peer channel) past ≡ o → Maybe (Falls s past) (time_out node peer past channel)
    by_message node peer channel at None is = subst (λ (o : Option Message). Maybe (Falls s past)
        (if is_some o then Some (Once (Events.Expire node peer channel)) else None)) (sym is) tt
    by_message node peer channel at (Some m) is =
        subst (λ (o : Option Message). Maybe (Falls s past) (if is_some o then Some (Once (Events.Expire node peer channel)) else None)) (sym is)
        (expire_falls s past node peer channel m run at is)

-- An endpoint may be given what its node's interface and driver give it.
use Rattle.std.specs.Prelude.{not, nat_lt, is_some, is_none, length}
use Rattle.std.proofs.Common.{◌≡◌, ◌⊎◌, inl, inr, ℕ, ◌+◌, ◌==◌, Bool, true, false, ◌&&◌, List, [], ◌∷◌, Option, Some, None, refl, sym, ap, ◌∙◌, subst}
use Rattle.std.proofs.Common.{true≢false, eqb-true, if◌then◌else◌}
use Rattle.std.specs.List.{list_any}
use Rattle.std.proofs.lemmas.Bool.{not-false}
use Rattle.am_names.specs.Rules.{is_transient}
use Rattle.am_names.specs.Names.{same_end}
use Rattle.am_names.specs.declared.EndpointId.{EndpointId}
use Rattle.am_names.specs.declared.NodeId.{NodeId}
use Rattle.am_names.specs.declared.Serial.{Serial}
use Rattle.am_names.specs.declared.Message.{Message}
use Rattle.am_names.specs.declared.Parcel.{Parcel}
use Rattle.am_names.specs.declared.AnswerPacket.{AnswerPacket}
use Rattle.am_names.specs.declared.Verdict.{Verdict}
use Rattle.am_names.specs.declared.Verdict.TheVariants as Verdicts
use Rattle.am_names.specs.declared.Packet.TheVariants as Packets
use Rattle.am_office_entries.specs.declared.Condition.{Condition}
use Rattle.am_office_entries.specs.declared.Condition.TheVariants as Needs
use Rattle.am_office_entries.specs.declared.Event.{Event}
use Rattle.am_office_entries.specs.declared.Event.TheVariants as Events
use Rattle.am_office_entries.specs.declared.Received.TheVariants as Got
use Rattle.am_office_entries.specs.declared.Outcome.{Outcome}
use Rattle.am_office_entries.specs.declared.Outcome.TheVariants as Out
use Rattle.am_office_entries.specs.declared.Entry.{Entry}
use Rattle.am_office_entries.specs.Entries.{emitted_in, parcel}
use Rattle.am_model.specs.Tables.{tries_ended}
use Rattle.am_model.specs.declared.Flying.{Flying}
use Rattle.am_model.specs.declared.Queued.{Queued}
use Rattle.am_office_entries.specs.declared.Place.{Place}
use Rattle.am_office_entries.specs.declared.Place.TheVariants.{Direct, Disk, Frame, Host}
use Rattle.am_model.specs.Endpoint.{State, front, is_direct, is_in_a_frame, is_on_disk, is_on_host, is_resident, verdict}
use Rattle.am_model.specs.Allowed.{EndsFlight, MayArrive, MayBind, MayDrain, MayLoad, MayPageIn, MayPageOut, MaySettle, MayUnload, arrival_verdict}
use Rattle.am_model.specs.Allowed.{arrived_message, is_carry_from, is_network_of, message_in, verdict_in}
use Rattle.am_model.specs.Changes.{flying_of}
use Rattle.am_model.specs.Channels.{Arrival, Stale, Again, Fresh, attempt, bound_message, sequence}
use Rattle.am_model.specs.History.{bind_to, bounced, decided, is_answered, next_number, sent, settle_by}
use Rattle.am_model.specs.Order.{KeepsOrder}
use Rattle.am_model.proofs.Names.{same_end-refl, same_serial-is}
use Rattle.am_model.proofs.Order.{order_arrived, order_bound, order_drained, order_loaded, order_paged_in, order_paged_out, order_settled, order_unloaded}
use Rattle.am_model.proofs.Chosen.{flying_of-has_serial}
use Rattle.am_model_parts.specs.declared.work.Work.{Work}
use Rattle.am_model_parts.specs.declared.work.Work.TheVariants as Works
use Rattle.am_model_parts.specs.Driver.{DriverLog, end_moved, failing_move, is_end_of, is_frame_held_by, outcome_move, page_at, page_number}
use Rattle.am_model.specs.Parts.{driver_of}
use Rattle.am_model.proofs.PlaceKinds.{resident_is_framed}
use Rattle.am_model_parts.specs.Granted.{IsInFlight, IsMoveOf, IsWorkAt, MayDo, MayMove}
use Rattle.am_model_parts.specs.Interface.{InterfaceLog, arrival_in, arrive_at, bind_at, channel_by_home, channel_in, channel_of_front, event_of, expire_at}
use Rattle.am_model_parts.specs.Interface.{failing_at, has_try_left, home_in, home_of_front, is_home_in, needs_arrival, needs_bound, outcome_at, receiver}
use Rattle.am_model_parts.specs.Interface.{settle_at, settles}
use Rattle.am_model_parts.proofs.Frames.{none_holds}

-- what is resident on the packet network lies in a frame
-- ---- arrivals

arrives : (i : InterfaceLog) (e : EndpointId) (s : State) (p : Parcel) (x : Entry) → IsWorkAt i e s (Works.Receive (Packets.Parcel p)) x → MayArrive e s x
arrives i e s p x w = by_arrival (arrival_in i p.from p.channel p.seq p.attempt) w.needs w.outcome
  where
    event : Event
    event = Events.Receive i.settings.node p.from p.number

    answer : ℕ
    answer = next_number i.settings.node p.from i.log

    told : (v : Verdict) → message_in (decided p.message answer v) ≡ Some p.message
    told Verdicts.Accepted = refl
    told (Verdicts.Refused cause) = refl

    given : (v : Verdict) → verdict_in (decided p.message answer v) ≡ Some v
    given Verdicts.Accepted = refl
    given (Verdicts.Refused cause) = refl

    by_arrival : (a : Arrival) → needs_arrival p.message.dest a ≡ Some e → x.outcome ≡ Out.Received p.channel p.seq p.attempt (arrive_at s p.message answer a) →
        MayArrive e s x
    by_arrival Stale need is = absurd (cc)
    by_arrival (Again v) need is = absurd (cc)
    by_arrival Fresh need is =
        let dest : p.message.dest ≡ e = cc in
        record {
          message = p.message;
          is_message = (λ k. arrived_message (w.event k) (is k)) ∙ told (verdict s p.message);
          judged = (λ k. arrival_verdict (w.event k) (is k)) ∙ given (verdict s p.message);
          here = ap (λ (d : EndpointId). same_end e d) dest ∙ same_end-refl e;
          network = ap (λ (v : Event). is_network_of v s.head.place) w.event ∙ ap not w.packet;
          formed = w.fits;
          elsewhere = ap (is_carry_from e) w.event;
        }

-- ---- flights that end

-- a flight of the message
pub record IsFlightOf (s : State) (m : Message) (f : Flying) : Type 0 where
  pub found : flying_of m.serial s.body.in_flight ≡ Some f
  pub same : m.serial ≡ f.message.serial

flight : (s : State) (m : Message) → is_some (flying_of m.serial s.body.in_flight) ≡ true → (f : Flying) × IsFlightOf s m f
flight s m there = by_flight (flying_of m.serial s.body.in_flight) refl there
  where
    by_flight : (g : Option Flying) → flying_of m.serial s.body.in_flight ≡ g → is_some g ≡ true → (f : Flying) × IsFlightOf s m f
    by_flight None is there = absurd (true≢false (sym there))
    by_flight (Some f) is there = (
      f,
      record {
        found = is;
        same =
            same_serial-is m.serial f.message.serial (flying_of-has_serial m.serial s.body.in_flight f is);
      },
    )

settled_serial : (limit : ℕ) (m n : Message) (bounces : ℕ) (v : Verdict) → m.serial ≡ n.serial → settle_by limit m bounces v ≡ settle_by limit n bounces v
settled_serial limit m n bounces Verdicts.Accepted same = ap Got.Delivered same
settled_serial limit m n bounces (Verdicts.Refused cause) same =
    λ k. if is_transient cause && nat_lt bounces limit then Got.Requeued (same k) cause (bounces + 1) else Got.Returned (same k) cause

-- the flight of a message that ends so
settles_so : (limit : ℕ) (e : EndpointId) (s : State) (x : Entry) (m : Message) (f : Flying) → IsFlightOf s m f → m.serial.source ≡ e →
    EndsFlight limit f x.event x.outcome → MaySettle limit e s x
settles_so limit e s x m f at own ends =
    record {
      flight = f;
      own = ap (λ (t : Serial). same_end e t.source) (sym at.same) ∙ ap (same_end e) own ∙ same_end-refl e;
      in_flight = ap (λ (t : Serial). flying_of t s.body.in_flight) (sym at.same) ∙ at.found;
      ends = ends;
    }

ends_here : (limit : ℕ) (f : Flying) (x : Entry) (event : Event) (o : Outcome) → x.event ≡ event → x.outcome ≡ o → EndsFlight limit f event o →
    EndsFlight limit f x.event x.outcome
ends_here limit f x event o event_is outcome_is ends =
    subst (λ (v : Event). EndsFlight limit f v x.outcome) (sym event_is) (subst (λ (w : Outcome). EndsFlight limit f event w) (sym outcome_is) ends)

settles_answer : (i : InterfaceLog) (e : EndpointId) (s : State) (p : AnswerPacket) (x : Entry) → IsWorkAt i e s (Works.Receive (Packets.Answer p)) x →
    MaySettle i.settings.bounces e s x
settles_answer i e s p x w = by_bound (bound_message (channel_in i p.from p.channel) i.log) w.needs w.fits w.outcome
  where
    by_settling : (m : Message) (b : Bool) → needs_bound (Some m) b ≡ Some e → IsInFlight s (Some m) →
        x.outcome ≡ Out.Received p.channel p.seq p.attempt (if b then settle_by i.settings.bounces m (bounced (flying_of m.serial s.body.in_flight)) p.verdict
        else Got.Nothing) → MaySettle i.settings.bounces e s x
    by_settling m false need there is = absurd (cc)
    by_settling m true need there is =
        let own : m.serial.source ≡ e = cc in
        let f = flight s m there in
        settles_so i.settings.bounces e s x m f.0 f.1 own
        (ends_here i.settings.bounces f.0 x (Events.Receive i.settings.node p.from p.number)
        (Out.Received p.channel p.seq p.attempt (settle_by i.settings.bounces m (bounced (flying_of m.serial s.body.in_flight)) p.verdict)) w.event is (
          p.verdict,
          ap (λ (g : Option Flying). settle_by i.settings.bounces m (bounced g) p.verdict) f.1.found
              ∙ settled_serial i.settings.bounces m f.0.message f.0.bounces p.verdict f.1.same,
        ))

    by_bound : (m : Option Message) → needs_bound m (settles i (channel_in i p.from p.channel) p) ≡ Some e → IsInFlight s m →
        x.outcome ≡ Out.Received p.channel p.seq p.attempt (settle_at i s (channel_in i p.from p.channel) p m) → MaySettle i.settings.bounces e s x
    by_bound None need there is = absurd (cc)
    by_bound (Some m) need there is = by_settling m (settles i (channel_in i p.from p.channel) p) need there is

gives_up : (i : InterfaceLog) (e : EndpointId) (s : State) (peer : NodeId) (channel : ℕ) (x : Entry) → IsWorkAt i e s (Works.Expire peer channel) x →
    MaySettle i.settings.bounces e s x
gives_up i e s peer channel x w = by_bound (bound_message (channel_in i peer channel) i.log) w.needs w.fits w.outcome
  where
    again : Message → Outcome
    again m = sent i.settings.node peer channel i.log m (sequence (channel_in i peer channel) i.log) (attempt (channel_in i peer channel) i.log + 1)

    ended : Option Flying → Message → Outcome
    ended g m = tries_ended m.serial (is_answered g)

    by_tries : (m : Message) (b : Bool) → needs_bound (Some m) (not b) ≡ Some e → IsInFlight s (Some m) →
        x.outcome ≡ (if b then again m else ended (flying_of m.serial s.body.in_flight) m) → MaySettle i.settings.bounces e s x
    by_tries m true need there is = absurd (cc)
    by_tries m false need there is =
        let own : m.serial.source ≡ e = cc in
        let f = flight s m there in
        settles_so i.settings.bounces e s x m f.0 f.1 own
        (ends_here i.settings.bounces f.0 x (Events.Expire i.settings.node peer channel) (ended (flying_of m.serial s.body.in_flight) m) w.event is
        (ap (λ (g : Option Flying). ended g m) f.1.found ∙ λ k. tries_ended (f.1.same k) f.0.answered))

    by_bound : (m : Option Message) → needs_bound m (not (has_try_left i (channel_in i peer channel))) ≡ Some e → IsInFlight s m →
        x.outcome ≡ expire_at i s peer channel m → MaySettle i.settings.bounces e s x
    by_bound None need there is = absurd (cc)
    by_bound (Some m) need there is = by_tries m (has_try_left i (channel_in i peer channel)) need there is

-- ---- binds

-- a message goes out on a free channel to its destination's node
pub record GoesOut (i : InterfaceLog) (q : Queued) (o : Outcome) : Type 0 where
  pub peer : NodeId
  pub channel : ℕ
  pub seq : ℕ
  pub number : ℕ
  pub home : home_in i q.message.dest ≡ Some peer
  pub outcome : o ≡ Out.Sent q.message peer channel seq 0 number

goes_out : (i : InterfaceLog) (q : Queued) → is_none (channel_of_front i (Some q)) ≡ false → GoesOut i q (bind_at i (Some q))
goes_out i q free = by_home (home_in i q.message.dest) refl free
  where
    by_channel : (peer : NodeId) (c : Option ℕ) → home_in i q.message.dest ≡ Some peer → is_none c ≡ false →
        GoesOut i q (bind_to i.settings.node i.log q (Some peer) c)
    by_channel peer None at free = absurd (true≢false free)
    by_channel peer (Some channel) at free =
        record {
          peer = peer;
          channel = channel;
          seq = sequence (channel_in i peer channel) i.log + 1;
          number = next_number i.settings.node peer i.log;
          home = at;
          outcome = refl;
        }

    by_home : (h : Option NodeId) → home_in i q.message.dest ≡ h → is_none (channel_by_home i h) ≡ false →
        GoesOut i q (bind_to i.settings.node i.log q h (channel_by_home i h))
    by_home None at free = absurd (true≢false free)
    by_home (Some peer) at free = by_channel peer (channel_by_home i (Some peer)) at free

-- an endpoint from which a bind is made
pub record IsReadyToBind (i : InterfaceLog) (s : State) : Type 0 where
  pub resident : is_resident s.head.place ≡ true
  pub undrained : s.head.draining ≡ false
  pub message : is_none (front s) ≡ false
  pub channel : is_none (channel_of_front i (front s)) ≡ false

ready_to_bind : (i : InterfaceLog) (s : State) (e : EndpointId) → failing_at i s (Works.Bind e) ≡ None → IsReadyToBind i s
ready_to_bind i s e on =
    let no_channel : List (Bool × Condition) = (is_none (channel_of_front i (front s)), Needs.NoChannel) ∷ [] in
    let no_message : List (Bool × Condition) = (is_none (front s), Needs.NoMessage) ∷ no_channel in
    let draining : List (Bool × Condition) = (s.head.draining, Needs.Draining) ∷ no_message in
    let grounded : List (Bool × Condition) = (not (is_resident s.head.place), Needs.NotResident) ∷ draining in
    let a = none_holds (not (is_home_in i e)) Needs.OtherNode grounded on in
    let b = none_holds (not (is_resident s.head.place)) Needs.NotResident draining a.1 in
    let c = none_holds s.head.draining Needs.Draining no_message b.1 in
    let d = none_holds (is_none (front s)) Needs.NoMessage no_channel c.1 in
    let f = none_holds (is_none (channel_of_front i (front s))) Needs.NoChannel [] d.1 in
    record { resident = not-false (is_resident s.head.place) b.0; undrained = c.0; message = d.0; channel = f.0 }

binds_front : (i : InterfaceLog) (e end : EndpointId) (s : State) (x : Entry) → IsWorkAt i e s (Works.Bind end) x → MayBind i.settings.node e s x
binds_front i e end s x w = by_front (front s) refl (ready_to_bind i s end w.enabled).message (ready_to_bind i s end w.enabled).channel w.outcome
  where
    ready : IsReadyToBind i s
    ready = ready_to_bind i s end w.enabled

    same : end ≡ e
    same = let need : Some end ≡ Some e = w.needs in cc

    by_front : (q : Option Queued) → front s ≡ q → is_none q ≡ false → is_none (channel_of_front i q) ≡ false → x.outcome ≡ bind_at i q →
        MayBind i.settings.node e s x
    by_front None at there free is = absurd (true≢false there)
    by_front (Some q) at there free is =
        let goes = goes_out i q free in
        record {
          queued = q;
          peer = goes.peer;
          channel = goes.channel;
          seq = goes.seq;
          number = goes.number;
          event = w.event ∙ ap (Events.Bind i.settings.node) same;
          framed = resident_is_framed s.head.place ready.resident w.packet;
          undrained = ready.undrained;
          is_front = at;
          outcome = is ∙ goes.outcome;
        }

-- ---- works

pub work_granted : (i : InterfaceLog) (e : EndpointId) (s : State) (w : Work) (x : Entry) → IsWorkAt i e s w x → MayDo i e s w x
work_granted i e s (Works.Receive (Packets.Parcel p)) x at = arrives i e s p x at
work_granted i e s (Works.Receive (Packets.Answer p)) x at = settles_answer i e s p x at
work_granted i e s (Works.Bind end) x at = binds_front i e end s x at
work_granted i e s (Works.Expire peer channel) x at = gives_up i e s peer channel x at

pub work_keeps : (i : InterfaceLog) (pool : Option ℕ) (e : EndpointId) (s : State) (w : Work) (x : Entry) → IsWorkAt i e s w x →
    KeepsOrder i.settings.bounces pool e s x
work_keeps i pool e s (Works.Receive (Packets.Parcel p)) x at = order_arrived i.settings.bounces pool e s x (arrives i e s p x at)
work_keeps i pool e s (Works.Receive (Packets.Answer p)) x at = order_settled i.settings.bounces pool e s x (settles_answer i e s p x at)
work_keeps i pool e s (Works.Bind end) x at = order_bound i.settings.bounces pool i.settings.node e s x (binds_front i e end s x at)
work_keeps i pool e s (Works.Expire peer channel) x at = order_settled i.settings.bounces pool e s x (gives_up i e s peer channel x at)

-- ---- moves

page_ends : (d : DriverLog) → (page_at d ≡ Out.Done) ⊎ (page_at d ≡ Out.Failed)
page_ends d = by_test (list_any (λ (number : ℕ). number == page_number d) d.settings.faults)
  where
    by_test : (b : Bool) → ((if b then Out.Failed else Out.Done) ≡ Out.Done) ⊎ ((if b then Out.Failed else Out.Done) ≡ Out.Failed)
    by_test true = inr refl
    by_test false = inl refl

pub move_granted : (d : DriverLog) (e : EndpointId) (s : State) (x : Entry) → IsMoveOf d e s x → MayMove d.settings.node e s x x.event
move_granted d e s x m = by_event x.event refl m.driver m.end m.enabled m.outcome
  where
    node : NodeId
    node = d.settings.node

    drains : (at : NodeId) (end : EndpointId) → x.event ≡ Events.Drain at end → at ≡ node → end ≡ e → failing_move d s (Events.Drain at end) ≡ None →
        x.outcome ≡ Out.Silent → MayDrain node e s x
    drains at end is by of on o =
        let rest : List (Bool × Condition) = (s.head.draining, Needs.Draining) ∷ [] in
        let a = none_holds (not (is_end_of d end)) Needs.OtherNode ((not (is_resident s.head.place), Needs.NotResident) ∷ rest) on in
        let b = none_holds (not (is_resident s.head.place)) Needs.NotResident rest a.1 in
        let c = none_holds s.head.draining Needs.Draining [] b.1 in
        record {
          event = is ∙ λ k. Events.Drain (by k) (of k);
          outcome = o;
          framed = resident_is_framed s.head.place (not-false (is_resident s.head.place) b.0) m.packet;
          undrained = c.0;
        }

    unloads : (at : NodeId) (end : EndpointId) → x.event ≡ Events.Unload at end → at ≡ node → end ≡ e → failing_move d s (Events.Unload at end) ≡ None →
        x.outcome ≡ Out.Silent → MayUnload node e s x
    unloads at end is by of on o =
        let aloft : List (Bool × Condition) = (not (length s.body.in_flight == 0), Needs.InFlight) ∷ [] in
        let undrained : List (Bool × Condition) = (not s.head.draining, Needs.NotDraining) ∷ aloft in
        let a = none_holds (not (is_end_of d end)) Needs.OtherNode ((not (is_resident s.head.place), Needs.NotResident) ∷ undrained) on in
        let b = none_holds (not (is_resident s.head.place)) Needs.NotResident undrained a.1 in
        let c = none_holds (not s.head.draining) Needs.NotDraining aloft b.1 in
        let f = none_holds (not (length s.body.in_flight == 0)) Needs.InFlight [] c.1 in
        record {
          event = is ∙ λ k. Events.Unload (by k) (of k);
          outcome = o;
          framed = resident_is_framed s.head.place (not-false (is_resident s.head.place) b.0) m.packet;
          draining = not-false s.head.draining c.0;
          none_in_flight = eqb-true (length s.body.in_flight) 0 (not-false (length s.body.in_flight == 0) f.0);
        }

    loads : (at : NodeId) (end : EndpointId) (frame : ℕ) → x.event ≡ Events.Load at end frame → at ≡ node → end ≡ e →
        failing_move d s (Events.Load at end frame) ≡ None → x.outcome ≡ Out.Silent → MayLoad node e s x
    loads at end frame is by of on o =
        let held : List (Bool × Condition) = (is_frame_held_by d frame, Needs.FrameHeld) ∷ [] in
        let closed : List (Bool × Condition) = (s.head.closed, Needs.Closed) ∷ held in
        let a = none_holds (not (is_end_of d end)) Needs.OtherNode ((not (is_on_host s.head.place), Needs.NotOnHost) ∷ closed) on in
        let b = none_holds (not (is_on_host s.head.place)) Needs.NotOnHost closed a.1 in
        let c = none_holds s.head.closed Needs.Closed held b.1 in
        record {
          frame = frame;
          event = is ∙ λ k. Events.Load (by k) (of k) frame;
          outcome = o;
          on_host = not-false (is_on_host s.head.place) b.0;
          unclosed = c.0;
        }

    pages_out : (at : NodeId) (end : EndpointId) → x.event ≡ Events.PageOut at end → at ≡ node → end ≡ e → failing_move d s (Events.PageOut at end) ≡ None →
        x.outcome ≡ page_at d → MayPageOut node e s x
    pages_out at end is by of on o =
        let closed : List (Bool × Condition) = (s.head.closed, Needs.Closed) ∷ [] in
        let a = none_holds (not (is_end_of d end)) Needs.OtherNode ((not (is_on_host s.head.place), Needs.NotOnHost) ∷ closed) on in
        let b = none_holds (not (is_on_host s.head.place)) Needs.NotOnHost closed a.1 in
        let c = none_holds s.head.closed Needs.Closed [] b.1 in
        record {
          event = is ∙ λ k. Events.PageOut (by k) (of k);
          outcome = subst (λ (v : Outcome). (v ≡ Out.Done) ⊎ (v ≡ Out.Failed)) (sym o) (page_ends d);
          on_host = not-false (is_on_host s.head.place) b.0;
          unclosed = c.0;
        }

    pages_in : (at : NodeId) (end : EndpointId) → x.event ≡ Events.PageIn at end → at ≡ node → end ≡ e → failing_move d s (Events.PageIn at end) ≡ None →
        MayPageIn x.outcome node e s x
    pages_in at end is by of on =
        let a = none_holds (not (is_end_of d end)) Needs.OtherNode ((not (is_on_disk s.head.place), Needs.NotOnDisk) ∷ []) on in
        let b = none_holds (not (is_on_disk s.head.place)) Needs.NotOnDisk [] a.1 in
        record { event = is ∙ λ k. Events.PageIn (by k) (of k); is_outcome = refl; on_disk = not-false (is_on_disk s.head.place) b.0 }

    node_is : (at : NodeId) → Some at ≡ Some node → at ≡ node
    node_is at is = cc

    end_is : (end : EndpointId) → Some end ≡ Some e → end ≡ e
    end_is end is = cc

    by_event : (v : Event) → x.event ≡ v → driver_of v ≡ Some node → end_moved v ≡ Some e → failing_move d s v ≡ None → x.outcome ≡ outcome_move d v →
        MayMove node e s x v
    by_event (Events.Drain at end) is by of on o = drains at end is (node_is at by) (end_is end of) on o
    by_event (Events.Unload at end) is by of on o = unloads at end is (node_is at by) (end_is end of) on o
    by_event (Events.Load at end frame) is by of on o = loads at end frame is (node_is at by) (end_is end of) on o
    by_event (Events.PageOut at end) is by of on o = pages_out at end is (node_is at by) (end_is end of) on o
    by_event (Events.PageIn at end) is by of on o = pages_in at end is (node_is at by) (end_is end of) on
    by_event v is by of on o = absurd (cc)

keeps_by : (limit : ℕ) (pool : Option ℕ) (node : NodeId) (e : EndpointId) (s : State) (x : Entry) (v : Event) → MayMove node e s x v →
    KeepsOrder limit pool e s x
keeps_by limit pool node e s x (Events.Drain at end) may = order_drained limit pool node e s x may
keeps_by limit pool node e s x (Events.Unload at end) may = order_unloaded limit pool node e s x may
keeps_by limit pool node e s x (Events.Load at end frame) may = order_loaded limit pool node e s x may
keeps_by limit pool node e s x (Events.PageOut at end) may = order_paged_out limit pool node e s x may
keeps_by limit pool node e s x (Events.PageIn at end) may = order_paged_in limit pool x.outcome node e s x may
keeps_by limit pool node e s x v may = absurd may

pub move_keeps : (d : DriverLog) (limit : ℕ) (pool : Option ℕ) (e : EndpointId) (s : State) (x : Entry) → IsMoveOf d e s x → KeepsOrder limit pool e s x
move_keeps d limit pool e s x m = keeps_by limit pool d.settings.node e s x x.event (move_granted d e s x m)

-- a bind that can be made emits a packet to the node of the front message's destination
pub bind_emission : (i : InterfaceLog) (s : State) (end : EndpointId) (stamp : ℕ) → failing_at i s (Works.Bind end) ≡ None →
    receiver (emitted_in stamp (event_of i.settings.node (Works.Bind end)) (outcome_at i s (Works.Bind end))) ≡ home_of_front i (front s)
bind_emission i s end stamp on = by_front (front s) (ready_to_bind i s end on).message (ready_to_bind i s end on).channel
  where
    by_front : (q : Option Queued) → is_none q ≡ false → is_none (channel_of_front i q) ≡ false →
        receiver (parcel i.settings.node stamp (bind_at i q)) ≡ home_of_front i q
    by_front None there free = absurd (true≢false there)
    by_front (Some q) there free =
        let goes = goes_out i q free in ap (λ (o : Outcome). receiver (parcel i.settings.node stamp o)) goes.outcome ∙ sym goes.home

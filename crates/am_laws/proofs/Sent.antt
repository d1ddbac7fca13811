-- What holds of each message that an endpoint accepts holds of each that it is to send, or has in flight.
use Rattle.std.specs.Prelude.{is_none, nat_lt, not}
use Rattle.std.proofs.Common.{◌≡◌, ℕ, ◌+◌, Bool, true, false, ◌&&◌, List, [], ◌∷◌, Option, Some, None, refl, sym, ap, subst, if◌then◌else◌}
use Rattle.std.specs.List.{list_any}
use Rattle.am_names.specs.Rules.{is_transient}
use Rattle.am_names.specs.declared.EndpointId.{EndpointId}
use Rattle.am_names.specs.declared.Serial.{Serial}
use Rattle.am_names.specs.declared.Message.{Message}
use Rattle.am_names.specs.declared.Cause.TheVariants.{NotResident}
use Rattle.am_names.specs.declared.Verdict.{Verdict}
use Rattle.am_names.specs.declared.Verdict.TheVariants as Verdicts
use Rattle.am_office_entries.specs.declared.Call.{Call}
use Rattle.am_office_entries.specs.declared.Call.TheVariants as Calls
use Rattle.am_office_entries.specs.declared.Condition.TheVariants as Needs
use Rattle.am_office_entries.specs.declared.Event.{Event}
use Rattle.am_office_entries.specs.declared.Event.TheVariants as Events
use Rattle.am_office_entries.specs.declared.Received.{Received}
use Rattle.am_office_entries.specs.declared.Received.TheVariants as Got
use Rattle.am_office_entries.specs.declared.Outcome.{Outcome}
use Rattle.am_office_entries.specs.declared.Outcome.TheVariants as Out
use Rattle.am_office_entries.specs.declared.Entry.{Entry}
use Rattle.am_names.specs.Names.{same_end, has_serial, is_request, is_reply}
use Rattle.am_model.specs.declared.Queued.{Queued}
use Rattle.am_model.specs.declared.Flying.{Flying}
use Rattle.am_model.specs.Endpoint.{State, Body, front, front_of, is_resident}
use Rattle.am_model.specs.Changes.{called, left, reached, queued, appended, requests_left, without_front, paged_out, paged_in, changed, put, received, expired}
use Rattle.am_model.specs.Changes.{bound, flying_of, without_flight, requeued_flight, with_marked}
use Rattle.am_office_entries.specs.Entries.{accepted_by, accepted_in, ends_touched, touches}
use Rattle.am_model.specs.Layout.{Layout, AllAre}
use Rattle.am_model.specs.History.{state_of, judged, MayFollow, failing, outcome_of, is_home, channel_for}
use Rattle.am_model.proofs.Received.{one_touched}
use Rattle.am_model.proofs.Books.{carry_judged, second_fails}
use Rattle.am_model.proofs.Queues.{Judged}
use Rattle.am_model.proofs.Alls.{all_push}
use Rattle.am_model.proofs.Names.{same_end-is}
use Rattle.am_laws.proofs.Waiting.{IsFront}
use Rattle.am_laws.proofs.OrderedPackets.{bind_front, last_fails}
use Rattle.am_laws.proofs.Alls.{all_tail, all_found, all_without}

-- a carry judges the front message of its source, and a bind sends it
abbrev pub FitsSend : EndpointId → State → Event → Outcome → Type 0
FitsSend e s (Events.Carry end) o = same_end e end ≡ true → Judged s o
FitsSend e s (Events.Bind node end) o = IsFront s o
FitsSend e s event o = Unit {0}

pub fits_send : (layout : Layout) (past : List Entry) (e : EndpointId) (x : Entry) → MayFollow layout past x → touches e x ≡ true →
    FitsSend e (state_of layout past e) x.event x.outcome
fits_send layout past e x may at = by_event x.event x.outcome may.enabled may.outcome at
  where
    by_event : (event : Event) (o : Outcome) → failing layout past event ≡ None → o ≡ outcome_of layout past event →
        list_any (same_end e) (ends_touched event o) ≡ true → FitsSend e (state_of layout past e) event o
    by_event (Events.Carry end) o on is t =
        λ (h : same_end e end ≡ true).
        let same : end ≡ e = sym (same_end-is e end h) in
        carry_judged layout past (state_of layout past e) o (front (state_of layout past end))
        (ap (λ (w : EndpointId). front (state_of layout past w)) (sym same)) (second_fails (not layout.direct) (is_none (front (state_of layout past end)))
        Needs.NotDirect Needs.NoMessage on) is
    by_event (Events.Bind node end) o on is t =
        let same : end ≡ e = sym (same_end-is e end (one_touched (same_end e end) t)) in
        let no' = last_fails layout.direct (not (is_home layout end node)) (not (is_resident (state_of layout past end).head.place))
        (state_of layout past end).head.draining (is_none (front (state_of layout past end)))
        (is_none (channel_for layout node past (front (state_of layout past end)))) Needs.NotPacket Needs.OtherNode Needs.NotResident Needs.Draining
        Needs.NoMessage Needs.NoChannel on in
        subst (λ (v : Outcome). IsFront (state_of layout past e) v) (sym is)
        (bind_front layout past node (state_of layout past e) (front (state_of layout past end))
        (ap (λ (w : EndpointId). front (state_of layout past w)) (sym same)) no'.0 no'.1)
    by_event (Events.Call actor end call) o on is t = tt
    by_event (Events.Want actor end) o on is t = tt
    by_event (Events.Expire node peer channel) o on is t = tt
    by_event (Events.Receive node peer number) o on is t = tt
    by_event (Events.Drain node end) o on is t = tt
    by_event (Events.Unload node end) o on is t = tt
    by_event (Events.Load node end frame) o on is t = tt
    by_event (Events.PageOut node end) o on is t = tt
    by_event (Events.PageIn node end) o on is t = tt

abbrev pub QueueIs : (Message → Type 0) → List Queued → Type 0
QueueIs P queue = AllAre (λ (q : Queued). P q.message) queue

abbrev pub FlightsAre : (Message → Type 0) → List Flying → Type 0
FlightsAre P flying = AllAre (λ (f : Flying). P f.message) flying

-- of each message that is to be sent or in flight
pub record SentAre (P : Message → Type 0) (b : Body) : Type 0 where
  pub requests : QueueIs P b.requests
  pub replies : QueueIs P b.replies
  pub flights : FlightsAre P b.in_flight

appended_are : (P : Message → Type 0) (b : Bool) (m : Message) (bounces : ℕ) (queue : List Queued) → QueueIs P queue → P m →
    QueueIs P (appended b m bounces queue)
appended_are P true m bounces queue h p = all_push (λ (q : Queued). P q.message) queue (record { message = m; bounces = bounces }) h p
appended_are P false m bounces queue h p = h

queued_are : (P : Message → Type 0) (m : Message) (bounces : ℕ) (b : Body) → SentAre P b → P m → SentAre P (queued m bounces b)
queued_are P m bounces b h p =
    record {
      requests = appended_are P (is_request m) m bounces b.requests h.requests p;
      replies = appended_are P (is_reply m) m bounces b.replies h.replies p;
      flights = h.flights;
    }

requests_left_are : (P : Message → Type 0) (replies requests : List Queued) → QueueIs P requests → QueueIs P (requests_left replies requests)
requests_left_are P [] requests h = all_tail (λ (q : Queued). P q.message) requests h
requests_left_are P (reply ∷ replies) requests h = h

without_front_are : (P : Message → Type 0) (b : Body) → SentAre P b → SentAre P (without_front b)
without_front_are P b h = record {
  requests = requests_left_are P b.replies b.requests h.requests;
  replies = all_tail (λ (q : Queued). P q.message) b.replies h.replies;
  flights = h.flights;
}

front_is : (P : Message → Type 0) (replies requests : List Queued) (q : Queued) → front_of replies requests ≡ Some q → QueueIs P replies → QueueIs P requests →
    P q.message
front_is P (r ∷ replies) requests q e h k = let same : r ≡ q = cc in subst (λ (w : Queued). P w.message) same h.0
front_is P [] (r ∷ requests) q e h k = let same : r ≡ q = cc in subst (λ (w : Queued). P w.message) same k.0
front_is P [] [] q e h k = absurd (cc)

pub front_are : (P : Message → Type 0) (s : State) (q : Queued) → front s ≡ Some q → SentAre P s.body → P q.message
front_are P s q e h = front_is P s.body.replies s.body.requests q e h.replies h.requests

called_are : (P : Message → Type 0) (s : State) (c : Call) (o : Outcome) → SentAre P s.body → ((m : Message) → accepted_by c o ≡ Some m → P m) →
    SentAre P (called s c o).body
called_are P s (Calls.Request index handler words) (Out.Requested m) h p =
    record {
      requests = appended_are P (is_request m) m 0 s.body.requests h.requests (p m refl);
      replies = appended_are P (is_reply m) m 0 s.body.replies h.replies (p m refl);
      flights = h.flights;
    }
called_are P s Calls.Poll (Out.Zero serial why) h p = record { requests = h.requests; replies = h.replies; flights = h.flights }
called_are P s Calls.Poll (Out.Ran handler m None) h p = record { requests = h.requests; replies = h.replies; flights = h.flights }
called_are P s Calls.Poll (Out.Ran handler m (Some reply)) h p =
    record {
      requests = appended_are P (is_request reply) reply 0 s.body.requests h.requests (p reply refl);
      replies = appended_are P (is_reply reply) reply 0 s.body.replies h.replies (p reply refl);
      flights = h.flights;
    }
called_are P s (Calls.SetTag tag) Out.Done h p = record { requests = h.requests; replies = h.replies; flights = h.flights }
called_are P s (Calls.Map index name tag credits) Out.Done h p = record { requests = h.requests; replies = h.replies; flights = h.flights }
called_are P s (Calls.Unmap index) Out.Done h p = record { requests = h.requests; replies = h.replies; flights = h.flights }
called_are P s (Calls.SetHandler index kind) Out.Done h p = record { requests = h.requests; replies = h.replies; flights = h.flights }
called_are P s (Calls.GiveUp serial) Out.Done h p = record { requests = h.requests; replies = h.replies; flights = h.flights }
called_are P s Calls.Close Out.Done h p = h
called_are P s c o h p = h

marked_are : (P : Message → Type 0) (about : Option Serial) (flying : List Flying) → FlightsAre P flying → FlightsAre P (with_marked about flying)
marked_are P None flying h = h
marked_are P (Some s) [] h = tt
marked_are P (Some s) (f ∷ flying) h = (h.0, marked_are P (Some s) flying h.1)

put_are : (P : Message → Type 0) (m : Message) (s : State) → SentAre P s.body → SentAre P (put m s).body
put_are P m s h = record { requests = h.requests; replies = h.replies; flights = marked_are P m.about s.body.in_flight h.flights }

if_are : (P : Message → Type 0) (b : Bool) (s t : State) → SentAre P s.body → SentAre P t.body → SentAre P (if b then t else s).body
if_are P true s t h k = k
if_are P false s t h k = h

reached_are : (P : Message → Type 0) (e : EndpointId) (s : State) (o : Outcome) → SentAre P s.body → SentAre P (reached e s o).body
reached_are P e s (Out.Accepted m) h = if_are P (same_end e m.dest) s (put m s) h (put_are P m s h)
reached_are P e s o h = h

left_are : (P : Message → Type 0) (s : State) (q : Queued) (limit bounces : ℕ) (v : Verdict) → front s ≡ Some q → SentAre P s.body →
    SentAre P (left s (judged limit q.message bounces v)).body
left_are P s q limit bounces Verdicts.Accepted e h = without_front_are P s.body h
left_are P s q limit bounces (Verdicts.Refused cause) e h = by_again (is_transient cause && nat_lt bounces limit)
  where
    by_again : (b : Bool) → SentAre P (left s (if b then Out.Requeued q.message cause (bounces + 1) else Out.Returned q.message cause)).body
    by_again true = queued_are P q.message (bounces + 1) (without_front s.body) (without_front_are P s.body h) (front_are P s q e h)
    by_again false = let w = without_front_are P s.body h in record { requests = w.requests; replies = w.replies; flights = w.flights }

carried_are : (P : Message → Type 0) (e : EndpointId) (s : State) (o : Outcome) (at_source : Bool) → (at_source ≡ true → Judged s o) → SentAre P s.body →
    SentAre P (reached e (if at_source then left s o else s) o).body
carried_are P e s o true fits h =
    let j = fits refl in
    reached_are P e (left s o) o (subst (λ (v : Outcome). SentAre P (left s v).body) (sym j.is_judged)
    (left_are P s j.queued j.limit j.bounces j.verdict j.is_front h))
carried_are P e s o false fits h = reached_are P e s o h

pub found_is : (P : Message → Type 0) (serial : Serial) (flying : List Flying) (f : Flying) → flying_of serial flying ≡ Some f → FlightsAre P flying →
    P f.message
found_is P serial flying f e h = all_found (λ (g : Flying). P g.message) (λ (g : Flying). has_serial serial g.message) flying f e h

landed_are : (P : Message → Type 0) (serial : Serial) (b : Body) → SentAre P b → SentAre P (without_flight serial b)
landed_are P serial b h = record {
  requests = h.requests;
  replies = h.replies;
  flights = all_without (λ (g : Flying). P g.message) (λ (g : Flying). has_serial serial g.message) b.in_flight h.flights;
}

requeued_are : (P : Message → Type 0) (flight : Option Flying) (bounces : ℕ) (b : Body) → ((f : Flying) → flight ≡ Some f → P f.message) → SentAre P b →
    SentAre P (requeued_flight flight bounces b)
requeued_are P None bounces b is h = record { requests = h.requests; replies = h.replies; flights = h.flights }
requeued_are P (Some f) bounces b is h =
    record {
      requests = appended_are P (is_request f.message) f.message bounces b.requests h.requests (is f refl);
      replies = appended_are P (is_reply f.message) f.message bounces b.replies h.replies (is f refl);
      flights = h.flights;
    }

received_are : (P : Message → Type 0) (e : EndpointId) (s : State) (r : Received) → SentAre P s.body → SentAre P (received e s r).body
received_are P e s (Got.Accepted m answer) h = put_are P m s h
received_are P e s (Got.Refused m NotResident answer) h = h
received_are P e s (Got.Delivered serial) h = landed_are P serial s.body h
received_are P e s (Got.Requeued serial cause bounces) h =
    requeued_are P (flying_of serial s.body.in_flight) bounces (without_flight serial s.body) (λ f is. found_is P serial s.body.in_flight f is h.flights)
    (landed_are P serial s.body h)
received_are P e s (Got.Returned serial cause) h = let w = landed_are P serial s.body h in record {
  requests = w.requests;
  replies = w.replies;
  flights = w.flights;
}
received_are P e s r h = h

expired_are : (P : Message → Type 0) (s : State) (o : Outcome) → SentAre P s.body → SentAre P (expired s o).body
expired_are P s (Out.Delivered serial) h = landed_are P serial s.body h
expired_are P s (Out.Unknown serial) h = let w = landed_are P serial s.body h in record { requests = w.requests; replies = w.replies; flights = w.flights }
expired_are P s o h = h

bound_are : (P : Message → Type 0) (s : State) (o : Outcome) → IsFront s o → SentAre P s.body → SentAre P (bound s o).body
bound_are P s (Out.Sent m peer channel seq attempt number) f h =
    let same : Some m ≡ Some f.queued.message = f.is_sent in
    let at : f.queued.message ≡ m = cc in
    let w = without_front_are P s.body h in
    record {
      requests = w.requests;
      replies = w.replies;
      flights =
          all_push (λ (g : Flying). P g.message) s.body.in_flight _ h.flights (subst P at (front_are P s f.queued f.is_front h));
    }
bound_are P s o f h = h

paged_out_are : (P : Message → Type 0) (s : State) (o : Outcome) → SentAre P s.body → SentAre P (paged_out s o).body
paged_out_are P s Out.Done h = h
paged_out_are P s o h = h

paged_in_are : (P : Message → Type 0) (s : State) (o : Outcome) → SentAre P s.body → SentAre P (paged_in s o).body
paged_in_are P s Out.Done h = h
paged_in_are P s o h = h

-- an entry that touches an endpoint keeps it, where it holds of what is accepted
pub sent_kept : (P : Message → Type 0) (e : EndpointId) (s : State) (event : Event) (o : Outcome) → FitsSend e s event o → SentAre P s.body →
    ((m : Message) → accepted_in event o ≡ Some m → P m) → SentAre P (changed e s event o).body
sent_kept P e s (Events.Call actor end call) o fits h p = called_are P s call o h p
sent_kept P e s (Events.Want actor end) o fits h p = h
sent_kept P e s (Events.Carry end) o fits h p = carried_are P e s o (same_end e end) fits h
sent_kept P e s (Events.Bind node end) o fits h p = bound_are P s o fits h
sent_kept P e s (Events.Expire node peer channel) o fits h p = expired_are P s o h
sent_kept P e s (Events.Receive node peer number) (Out.Received channel seq attempt r) fits h p = received_are P e s r h
sent_kept P e s (Events.Receive node peer number) o fits h p = h
sent_kept P e s (Events.Drain node end) o fits h p = h
sent_kept P e s (Events.Unload node end) o fits h p = h
sent_kept P e s (Events.Load node end frame) o fits h p = h
sent_kept P e s (Events.PageOut node end) o fits h p = paged_out_are P s o h
sent_kept P e s (Events.PageIn node end) o fits h p = paged_in_are P s o h

-- The laws of delivery and of tags.
use Rattle.std.specs.Prelude.{MatchOption, slice_get, nat_lt}
use Rattle.std.proofs.Common.{◌≡◌, ◌⊎◌, inl, inr, ⊎_elim, ℕ, ◌+◌, ◌-◌, Bool, true, false, ◌&&◌, ◌||◌, List, [], ◌∷◌, ◌++◌, Option, Some, None, refl, sym}
use Rattle.std.proofs.Common.{true≢false, ap, ◌∙◌, subst, arith, if◌then◌else◌}
use Rattle.std.specs.List.{list_any, find}
use Rattle.am_names.specs.Rules.{matches, is_transient}
use Rattle.am_names.specs.declared.EndpointId.{EndpointId}
use Rattle.am_names.specs.declared.NodeId.{NodeId}
use Rattle.am_names.specs.declared.Tag.{Tag}
use Rattle.am_names.specs.declared.Message.{Message}
use Rattle.am_names.specs.declared.Verdict.{Verdict}
use Rattle.am_names.specs.declared.Verdict.TheVariants as Verdicts
use Rattle.am_names.specs.declared.Parcel.{Parcel}
use Rattle.am_names.specs.declared.Packet.{Packet}
use Rattle.am_names.specs.declared.Packet.TheVariants as Packets
use Rattle.am_office_entries.specs.declared.Call.TheVariants as Calls
use Rattle.am_office_entries.specs.declared.Event.{Event}
use Rattle.am_office_entries.specs.declared.Event.TheVariants as Events
use Rattle.am_office_entries.specs.declared.Outcome.{Outcome}
use Rattle.am_office_entries.specs.declared.Outcome.TheVariants as Out
use Rattle.am_office_entries.specs.declared.Received.TheVariants as Got
use Rattle.am_office_entries.specs.declared.Entry.{Entry}
use Rattle.am_model.specs.declared.Queued.{Queued}
use Rattle.am_names.specs.Names.{same_end, has_serial}
use Rattle.am_model.specs.Endpoint.{State, front, verdict}
use Rattle.am_model.specs.Changes.{changed}
use Rattle.am_office_entries.specs.Entries.{accepted_of, put_in, put_of, run_in, run_of, ends_touched, touches, passes}
use Rattle.am_model.specs.Layout.{Layout, EndSetting, AllAre, home, has_id, opening_by}
use Rattle.am_model.specs.Channels.{Channel, Arrival, Stale, Again, Fresh, same_channel, bound_message, sent_message, binds, frees, frees_by, emitted, arrival}
use Rattle.am_model.specs.Channels.{mark}
use Rattle.am_model.specs.History.{state_of, MayFollow, IsHistory, EachAfter, outcome_of, bind, bind_to, carry, judged, receive, arrive, decided, channel_to}
use Rattle.am_model.specs.History.{channel_for, next_number}
use Rattle.am_model.specs.PostOffice.{WasAccepted, IsAt, IsFirstPut, IsFirstRun, IsPutAndRunFirst, PutAndRunOnce, IsTagged, TagMatches, TagsMatch, EachOnce}
use Rattle.am_model.proofs.Each.{over_each, each_has, each_push, state_of_push}
use Rattle.am_model.proofs.Names.{same_serial-refl, same_end-refl, same_end-is}
use Rattle.am_model.proofs.Own.{TagKept, tag_more}
use Rattle.am_model.proofs.Received.{bit}
use Rattle.am_model.proofs.Books.{role_push, fits_call}
use Rattle.am_model.proofs.Ends.{EmittedIn, emitted_more, was_emitted, bound_push}
use Rattle.am_laws.proofs.Senders.{same_channel-is}
use Rattle.am_laws.proofs.OrderedParcels.{new_parcel}
use Rattle.am_laws.proofs.Marks.{link_of}
use Rattle.am_laws.proofs.Puts.{settle_puts}
use Rattle.am_laws.proofs.Everywhere.{each_once}
use Rattle.am_laws.proofs.Alls.{all_map, gave_more, gave_now}
use Rattle.am_laws.proofs.Sent.{SentAre, fits_send, sent_kept, front_are}
use Rattle.am_laws.proofs.Held.{IsWelcome, welcome, tag_steady, held_kept, IsRunOf, polled_run}
use Rattle.am_model.specs.declared.Flying.{Flying}
use Rattle.am_model.specs.Cluster.{parcel_channel}

pub match_option : {A : Type 0} (o : Option A) (P : A → Type 0) → ((a : A) → o ≡ Some a → P a) → MatchOption o (Unit {0}) P
match_option None P h = tt
match_option (Some a) P h = h a refl

-- a law that holds of each entry that may follow a history
pub each_law : (layout : Layout) (Law : List Entry → Entry → Type 0) → ((past : List Entry) (x : Entry) → IsHistory layout past → MayFollow layout past x →
    Law past x) → (journal : List Entry) → IsHistory layout journal → EachAfter Law [] journal
each_law layout Law law journal h =
    each_has (MayFollow layout) Law (λ past. IsHistory layout past) (λ past x p may. each_push (MayFollow layout) [] past x p may) law [] journal tt h

-- a message that is bound now was bound before, or was the front message of the endpoint that is bound
pub record IsNewlyBound (layout : Layout) (past : List Entry) (c : Channel) (m : Message) : Type 0 where
  pub end : EndpointId
  pub queued : Queued
  pub is_front : front (state_of layout past end) ≡ Some queued
  pub message : queued.message ≡ m
  pub home : home layout m.dest ≡ Some c.peer

abbrev pub bound_then : Channel → Event → Outcome → Option Message → Option Message
bound_then c event o b = if binds c event o || frees c event o then sent_message o else b

bind_binds : (layout : Layout) (past : List Entry) (c : Channel) (m : Message) (node : NodeId) (end : EndpointId) (q : Queued) →
    front (state_of layout past end) ≡ Some q → (peer : Option NodeId) (channel : Option ℕ) → home layout q.message.dest ≡ peer →
    bound_then c (Events.Bind node end) (bind_to node past q peer channel) (bound_message c past) ≡ Some m →
    (bound_message c past ≡ Some m) ⊎ IsNewlyBound layout past c m
bind_binds layout past c m node end q at (Some peer) (Some channel) to h = by_test (same_channel c node peer channel) refl h
  where
    by_test : (t : Bool) → same_channel c node peer channel ≡ t → (if t || false then Some q.message else bound_message c past) ≡ Some m →
        (bound_message c past ≡ Some m) ⊎ IsNewlyBound layout past c m
    by_test true is e =
        let same : q.message ≡ m = cc in
        let on : c ≡ channel_to node peer channel = same_channel-is c node peer channel is in
        inr (record {
          end = end;
          queued = q;
          is_front = at;
          message = same;
          home = subst (λ (w : Message). home layout w.dest ≡ Some c.peer) same (to ∙ ap (λ (d : Channel). Some d.peer) (sym on));
        })
    by_test false is e = inl e
bind_binds layout past c m node end q at (Some peer) None to h = inl h
bind_binds layout past c m node end q at None channel to h = inl h

bind_front_binds : (layout : Layout) (past : List Entry) (c : Channel) (m : Message) (node : NodeId) (end : EndpointId) (f : Option Queued) →
    front (state_of layout past end) ≡ f → bound_then c (Events.Bind node end) (bind layout node past f) (bound_message c past) ≡ Some m →
    (bound_message c past ≡ Some m) ⊎ IsNewlyBound layout past c m
bind_front_binds layout past c m node end None at h = inl h
bind_front_binds layout past c m node end (Some q) at h = bind_binds layout past c m node end q at (home layout q.message.dest)
    (channel_for layout node past (Some q)) refl h

pub none_if : (t : Bool) (b : Option Message) (m : Message) → (if t then None else b) ≡ Some m → b ≡ Some m
none_if true b m h = absurd (cc)
none_if false b m h = h

pub expire_binds : (c : Channel) (node peer : NodeId) (channel : ℕ) (o : Outcome) (b : Option Message) (m : Message) →
    bound_then c (Events.Expire node peer channel) o b ≡ Some m → b ≡ Some m
expire_binds c node peer channel (Out.Delivered serial) b m h = none_if (same_channel c node peer channel) b m h
expire_binds c node peer channel (Out.Unknown serial) b m h = none_if (same_channel c node peer channel) b m h
expire_binds c node peer channel o b m h = h

pub receive_binds : (c : Channel) (node peer : NodeId) (number : ℕ) (o : Outcome) (b : Option Message) (m : Message) →
    bound_then c (Events.Receive node peer number) o b ≡ Some m → b ≡ Some m
receive_binds c node peer number (Out.Received channel seq attempt r) b m h = none_if (frees_by r && same_channel c node peer channel) b m h
receive_binds c node peer number o b m h = h

event_binds : (layout : Layout) (past : List Entry) (c : Channel) (m : Message) (event : Event) →
    bound_then c event (outcome_of layout past event) (bound_message c past) ≡ Some m → (bound_message c past ≡ Some m) ⊎ IsNewlyBound layout past c m
event_binds layout past c m (Events.Bind node end) h = bind_front_binds layout past c m node end (front (state_of layout past end)) refl h
event_binds layout past c m (Events.Expire node peer channel) h =
    inl (expire_binds c node peer channel (outcome_of layout past (Events.Expire node peer channel)) (bound_message c past) m h)
event_binds layout past c m (Events.Receive node peer number) h =
    inl (receive_binds c node peer number (outcome_of layout past (Events.Receive node peer number)) (bound_message c past) m h)
event_binds layout past c m event h = inl h

pub bound_next : (layout : Layout) (past : List Entry) (x : Entry) → MayFollow layout past x → (c : Channel) (m : Message) →
    bound_message c (past ++ x ∷ []) ≡ Some m → (bound_message c past ≡ Some m) ⊎ IsNewlyBound layout past c m
bound_next layout past x may c m h =
    event_binds layout past c m x.event
    (subst (λ (o : Outcome). bound_then c x.event o (bound_message c past) ≡ Some m) may.outcome (sym (bound_push c past x _ refl) ∙ h))

-- a message that was accepted, on its way to its destination's node
pub record IsRouted (layout : Layout) (past : List Entry) (m : Message) (peer : NodeId) : Type 0 where
  pub accepted : WasAccepted past m
  pub home : home layout m.dest ≡ Some peer

-- a message that was accepted, at its destination, under the own tag
pub record IsIn (past : List Entry) (e : EndpointId) (own : Tag) (m : Message) : Type 0 where
  pub accepted : WasAccepted past m
  pub dest : m.dest ≡ e
  pub tag : matches own m.tag ≡ true

-- what is known of the messages everywhere
pub record Delivers (layout : Layout) (past : List Entry) : Type 0 where
  pub sent : (e : EndpointId) → SentAre (WasAccepted past) (state_of layout past e).body
  pub bound : (c : Channel) (m : Message) → bound_message c past ≡ Some m → IsRouted layout past m c.peer
  pub parcels : (q : Parcel) → EmittedIn (Packets.Parcel q) past → IsRouted layout past q.message q.to
  pub received : (e : EndpointId) → AllAre (IsIn past e (state_of layout past e).body.tag) (state_of layout past e).body.received

-- what is put was accepted, comes to its destination and is welcome there
pub record IsPutAt (layout : Layout) (past : List Entry) (event : Event) (m : Message) : Type 0 where
  pub accepted : WasAccepted past m
  pub place : IsAt layout m.dest event
  pub welcome : IsWelcome (state_of layout past m.dest) m

carry_put : (layout : Layout) (past : List Entry) → Delivers layout past → (end : EndpointId) (f : Option Queued) → front (state_of layout past end) ≡ f →
    (m : Message) → put_in (Events.Carry end) (carry layout past f) ≡ Some m → IsPutAt layout past (Events.Carry end) m
carry_put layout past d end None at m h = absurd (cc)
carry_put layout past d end (Some q) at m h = by_verdict (verdict (state_of layout past q.message.dest) q.message) refl h
  where
    by_again : (b : Bool) (o p : Outcome) → put_in (Events.Carry end) o ≡ None → put_in (Events.Carry end) p ≡ None →
        put_in (Events.Carry end) (if b then o else p) ≡ None
    by_again true o p h k = h
    by_again false o p h k = k

    by_verdict : (v : Verdict) → verdict (state_of layout past q.message.dest) q.message ≡ v →
        put_in (Events.Carry end) (judged layout.bounces q.message q.bounces v) ≡ Some m → IsPutAt layout past (Events.Carry end) m
    by_verdict Verdicts.Accepted is e =
        let same : q.message ≡ m = cc in
        subst (λ (w : Message). IsPutAt layout past (Events.Carry end) w) same
        (record {
          accepted = front_are (WasAccepted past) (state_of layout past end) q at (d.sent end);
          place = tt;
          welcome = welcome (state_of layout past q.message.dest) q.message is;
        })
    by_verdict (Verdicts.Refused cause) is e =
        let none = by_again (is_transient cause && nat_lt q.bounces layout.bounces) (Out.Requeued q.message cause (q.bounces + 1))
        (Out.Returned q.message cause) refl refl in
        let both : None ≡ Some m = sym none ∙ e in absurd (cc)

arrive_put : (layout : Layout) (past : List Entry) → Delivers layout past → (node peer : NodeId) (number : ℕ) (p : Parcel) (reply : ℕ) (a : Arrival) →
    EmittedIn (Packets.Parcel p) past → p.to ≡ node → (m : Message) →
    put_in (Events.Receive node peer number) (Out.Received p.channel p.seq p.attempt (arrive layout past p.message reply a)) ≡ Some m →
    IsPutAt layout past (Events.Receive node peer number) m
arrive_put layout past d node peer number p reply Stale here to m h = absurd (cc)
arrive_put layout past d node peer number p reply (Again v) here to m h = absurd (cc)
arrive_put layout past d node peer number p reply Fresh here to m h = by_verdict (verdict (state_of layout past p.message.dest) p.message) refl h
  where
    by_verdict : (v : Verdict) → verdict (state_of layout past p.message.dest) p.message ≡ v →
        put_in (Events.Receive node peer number) (Out.Received p.channel p.seq p.attempt (decided p.message reply v)) ≡ Some m →
        IsPutAt layout past (Events.Receive node peer number) m
    by_verdict Verdicts.Accepted is e =
        let same : p.message ≡ m = cc in
        let routed = d.parcels p here in
        subst (λ (w : Message). IsPutAt layout past (Events.Receive node peer number) w) same
        (record {
          accepted = routed.accepted;
          place = routed.home ∙ ap (λ (n : NodeId). Some n) to;
          welcome = welcome (state_of layout past p.message.dest) p.message is;
        })
    by_verdict (Verdicts.Refused cause) is e = absurd (cc)

receive_put : (layout : Layout) (past : List Entry) → Delivers layout past → (node peer : NodeId) (number k : ℕ) (p : Option Packet) →
    slice_get (emitted peer node past) k ≡ p → (m : Message) → put_in (Events.Receive node peer number) (receive layout node peer past p) ≡ Some m →
    IsPutAt layout past (Events.Receive node peer number) m
receive_put layout past d node peer number k None is m h = absurd (cc)
receive_put layout past d node peer number k (Some (Packets.Parcel p)) is m h =
    let was = was_emitted peer node past k (Packets.Parcel p) is in
    arrive_put layout past d node peer number p (next_number node peer past) (arrival (mark (channel_to node peer p.channel) past) p.seq p.attempt) was.0
    (link_of peer node p was.1).1 m h
receive_put layout past d node peer number k (Some (Packets.Answer a)) is m h =
    let none : put_in (Events.Receive node peer number) (receive layout node peer past (Some (Packets.Answer a))) ≡ None =
    settle_puts layout past node peer number a (bound_message (channel_to node peer a.channel) past) in
    let both : None ≡ Some m = sym none ∙ h in absurd (cc)

event_put : (layout : Layout) (past : List Entry) → Delivers layout past → (event : Event) (m : Message) →
    put_in event (outcome_of layout past event) ≡ Some m → IsPutAt layout past event m
event_put layout past d (Events.Carry end) m h = carry_put layout past d end (front (state_of layout past end)) refl m h
event_put layout past d (Events.Receive node peer number) m h =
    receive_put layout past d node peer number (number - 1) (slice_get (emitted peer node past) (number - 1)) refl m h
event_put layout past d event m h = absurd (cc)

pub put_facts : (layout : Layout) (past : List Entry) (x : Entry) → Delivers layout past → MayFollow layout past x → (m : Message) → put_of x ≡ Some m →
    IsPutAt layout past x.event m
put_facts layout past x d may m h = event_put layout past d x.event m (ap (put_in x.event) (sym may.outcome) ∙ h)

sent_later : (past : List Entry) (x : Entry) (s : State) → SentAre (WasAccepted past) s.body → SentAre (WasAccepted (past ++ x ∷ [])) s.body
sent_later past x s h =
    record {
      requests = all_map (λ (q : Queued). WasAccepted past q.message) (λ (q : Queued). WasAccepted (past ++ x ∷ []) q.message) s.body.requests
          (λ q. gave_more accepted_of past x q.message) h.requests;
      replies = all_map (λ (q : Queued). WasAccepted past q.message) (λ (q : Queued). WasAccepted (past ++ x ∷ []) q.message) s.body.replies
          (λ q. gave_more accepted_of past x q.message) h.replies;
      flights = all_map (λ (f : Flying). WasAccepted past f.message) (λ (f : Flying). WasAccepted (past ++ x ∷ []) f.message) s.body.in_flight
          (λ f. gave_more accepted_of past x f.message) h.flights;
    }

delivers_more : (layout : Layout) (past : List Entry) (x : Entry) → Delivers layout past → MayFollow layout past x → Delivers layout (past ++ x ∷ [])
delivers_more layout past x d may =
    record { sent = λ e. sent e (touches e x) refl; bound = bound; parcels = parcels; received = λ e. received e (touches e x) refl }
  where
    sent : (e : EndpointId) (t : Bool) → touches e x ≡ t → SentAre (WasAccepted (past ++ x ∷ [])) (state_of layout (past ++ x ∷ []) e).body
    sent e true at =
        rw (state_of_push layout past x e true at)
        (sent_kept (WasAccepted (past ++ x ∷ [])) e (state_of layout past e) x.event x.outcome (fits_send layout past e x may at)
        (sent_later past x (state_of layout past e) (d.sent e)) (λ m is. gave_now accepted_of past x m is))
    sent e false at = rw (state_of_push layout past x e false at) (sent_later past x (state_of layout past e) (d.sent e))

    routed_more : (m : Message) (peer : NodeId) → IsRouted layout past m peer → IsRouted layout (past ++ x ∷ []) m peer
    routed_more m peer r = record { accepted = gave_more accepted_of past x m r.accepted; home = r.home }

    bound : (c : Channel) (m : Message) → bound_message c (past ++ x ∷ []) ≡ Some m → IsRouted layout (past ++ x ∷ []) m c.peer
    bound c m h =
        ⊎_elim
        (λ (before : bound_message c past ≡ Some m). routed_more m c.peer (d.bound c m before))
        (λ (n : IsNewlyBound layout past c m).
        record {
          accepted = gave_more accepted_of past x m (subst (WasAccepted past) n.message (front_are (WasAccepted past) (state_of layout past n.end) n.queued
              n.is_front (d.sent n.end)));
          home = n.home;
        })
        (bound_next layout past x may c m h)

    parcels : (q : Parcel) → EmittedIn (Packets.Parcel q) (past ++ x ∷ []) → IsRouted layout (past ++ x ∷ []) q.message q.to
    parcels q h =
        ⊎_elim
        (λ before. routed_more q.message q.to (d.parcels q before))
        (λ now. bound (parcel_channel q) q.message (new_parcel layout past x may q now).message)
        (emitted_more (Packets.Parcel q) past x h)

    later : (e : EndpointId) (tag : Tag) (m : Message) → IsIn past e tag m → IsIn (past ++ x ∷ []) e tag m
    later e tag m i = record { accepted = gave_more accepted_of past x m i.accepted; dest = i.dest; tag = i.tag }

    put_in_it : (e : EndpointId) (m : Message) → put_of x ≡ Some m → same_end e m.dest ≡ true → IsIn (past ++ x ∷ []) e (state_of layout past e).body.tag m
    put_in_it e m is at =
        let p = put_facts layout past x d may m is in
        let there : e ≡ m.dest = same_end-is e m.dest at in
        record {
          accepted = gave_more accepted_of past x m p.accepted;
          dest = sym there;
          tag = subst (λ (w : EndpointId). matches (state_of layout past w).body.tag m.tag ≡ true) (sym there) p.welcome.tag;
        }

    received : (e : EndpointId) (t : Bool) → touches e x ≡ t →
        AllAre (IsIn (past ++ x ∷ []) e (state_of layout (past ++ x ∷ []) e).body.tag) (state_of layout (past ++ x ∷ []) e).body.received
    received e true at =
        rw (state_of_push layout past x e true at)
        (⊎_elim
        (λ (same : (changed e (state_of layout past e) x.event x.outcome).body.tag ≡ (state_of layout past e).body.tag).
        subst (λ (tag : Tag). AllAre (IsIn (past ++ x ∷ []) e tag) (changed e (state_of layout past e) x.event x.outcome).body.received) (sym same)
        (held_kept (IsIn (past ++ x ∷ []) e (state_of layout past e).body.tag) e (state_of layout past e) x.event x.outcome at
        (all_map (IsIn past e (state_of layout past e).body.tag) (IsIn (past ++ x ∷ []) e (state_of layout past e).body.tag)
        (state_of layout past e).body.received (later e (state_of layout past e).body.tag) (d.received e))
        (put_in_it e)))
        (λ (none : (changed e (state_of layout past e) x.event x.outcome).body.received ≡ []).
        subst (AllAre (IsIn (past ++ x ∷ []) e (changed e (state_of layout past e) x.event x.outcome).body.tag)) (sym none) tt)
        (tag_steady layout.pool e (state_of layout past e) x.event x.outcome (fits_call layout past e x may at)))
    received e false at =
        rw (state_of_push layout past x e false at)
        (all_map (IsIn past e (state_of layout past e).body.tag) (IsIn (past ++ x ∷ []) e (state_of layout past e).body.tag)
        (state_of layout past e).body.received (later e (state_of layout past e).body.tag) (d.received e))

delivers_begin : (layout : Layout) → Delivers layout []
delivers_begin layout =
    record {
      sent = λ e. sent (find (has_id e) layout.ends);
      bound = λ c m h. absurd (cc);
      parcels = λ q h. absurd h;
      received = λ e. received e (find (has_id e) layout.ends);
    }
  where
    sent : (setting : Option EndSetting) → SentAre (WasAccepted []) (opening_by layout setting).body
    sent None = record { requests = tt; replies = tt; flights = tt }
    sent (Some setting) = record { requests = tt; replies = tt; flights = tt }

    received : (e : EndpointId) (setting : Option EndSetting) →
        AllAre (IsIn [] e (opening_by layout setting).body.tag) (opening_by layout setting).body.received
    received e None = tt
    received e (Some setting) = tt

pub delivers : (layout : Layout) (past : List Entry) → IsHistory layout past → Delivers layout past
delivers layout past h = over_each (MayFollow layout) (λ xs. Delivers layout xs) (λ xs x d may. delivers_more layout xs x d may) [] past (delivers_begin layout)
    h

pub tags_kept : (layout : Layout) (past : List Entry) → IsHistory layout past → TagKept layout past
tags_kept layout past h = over_each (MayFollow layout) (λ xs. TagKept layout xs) (λ xs x k may. tag_more layout xs x k) [] past (λ e. refl) h

-- what runs was received there
pub record IsRunAt (layout : Layout) (past : List Entry) (event : Event) (o : Outcome) (m : Message) : Type 0 where
  pub end : EndpointId
  pub held : IsRunOf (IsIn past end (state_of layout past end).body.tag) m o
  pub place : IsAt layout m.dest event

event_run : (layout : Layout) (past : List Entry) → Delivers layout past → (event : Event) (m : Message) →
    run_in event (outcome_of layout past event) ≡ Some m → IsRunAt layout past event (outcome_of layout past event) m
event_run layout past d (Events.Call actor end Calls.Poll) m h =
    let r = polled_run (IsIn past end (state_of layout past end).body.tag) end (state_of layout past end) m (d.received end)
    (state_of layout past end).body.notices h in
    record { end = end; held = r; place = sym r.held.dest }
event_run layout past d (Events.Call actor end call) m h = absurd (cc)
event_run layout past d event m h = absurd (cc)

pub run_facts : (layout : Layout) (past : List Entry) (x : Entry) → Delivers layout past → MayFollow layout past x → (m : Message) → run_of x ≡ Some m →
    IsRunAt layout past x.event x.outcome m
run_facts layout past x d may m h =
    subst (λ (o : Outcome). IsRunAt layout past x.event o m) (sym may.outcome)
    (event_run layout past d x.event m (ap (run_in x.event) (sym may.outcome) ∙ h))

one_more : (role : Entry → Option Message) (m : Message) (x : Entry) → role x ≡ Some m → bit (passes (has_serial m.serial) (role x)) ≡ 1
one_more role m x is = ap (λ (w : Option Message). bit (passes (has_serial m.serial) w)) is ∙ ap bit (same_serial-refl m.serial)

-- an entry runs or puts, and not both
run_puts_none : (event : Event) (o : Outcome) (m : Message) → run_in event o ≡ Some m → put_in event o ≡ None
run_puts_none (Events.Call actor end call) o m h = refl
run_puts_none event o m h = absurd (cc)

-- an entry that puts a message touches its destination
pub touches_dest : (event : Event) (o : Outcome) (m : Message) → put_in event o ≡ Some m → list_any (same_end m.dest) (ends_touched event o) ≡ true
touches_dest (Events.Carry end) (Out.Accepted n) m is =
    let same : n ≡ m = cc in subst (λ (w : Message). (same_end w.dest end || (same_end w.dest n.dest || false)) ≡ true) same
    (by_both (same_end n.dest end) (same_end n.dest n.dest) (same_end-refl n.dest))
  where
    by_both : (a b : Bool) → b ≡ true → (a || (b || false)) ≡ true
    by_both true b e = refl
    by_both false true e = refl
    by_both false false e = absurd (true≢false (sym e))
touches_dest (Events.Receive node peer number) (Out.Received channel seq attempt (Got.Accepted n answer)) m is =
    let same : n ≡ m = cc in subst (λ (w : Message). (same_end w.dest n.dest || false) ≡ true) same (ap (λ (b : Bool). b || false) (same_end-refl n.dest))
touches_dest event o m is = absurd (cc)

-- an entry that runs a message touches its destination
run_touches : (layout : Layout) (event : Event) (o : Outcome) (m : Message) → run_in event o ≡ Some m → IsAt layout m.dest event →
    list_any (same_end m.dest) (ends_touched event o) ≡ true
run_touches layout (Events.Call actor end call) o m h at = subst (λ (w : EndpointId). (same_end w end || false) ≡ true) at
    (ap (λ (b : Bool). b || false) (same_end-refl end))
run_touches layout event o m h at = absurd (cc)

places : (layout : Layout) (past : List Entry) (x : Entry) → IsHistory layout past → MayFollow layout past x → IsPutAndRunFirst layout past x
places layout past x h may = (match_option (put_of x) (IsFirstPut layout past x) by_put, match_option (run_of x) (IsFirstRun layout past x) by_run)
  where
    before : EachOnce past
    before = each_once layout past h

    now : EachOnce (past ++ x ∷ [])
    now = each_once layout (past ++ x ∷ []) (each_push (MayFollow layout) [] past x h may)

    d : Delivers layout past
    d = delivers layout past h

    by_put : (m : Message) → put_of x ≡ Some m → IsFirstPut layout past x m
    by_put m is =
        let p = put_facts layout past x d may m is in
        record {
          accepted = p.accepted;
          first = omega (arith, now.put m.serial, now.accepted m.serial, role_push put_in (has_serial m.serial) past x, one_more put_of m x is);
          touched = touches_dest x.event x.outcome m is;
          place = p.place;
        }

    by_run : (m : Message) → run_of x ≡ Some m → IsFirstRun layout past x m
    by_run m is =
        let r = run_facts layout past x d may m is in
        let none : bit (passes (has_serial m.serial) (put_of x)) ≡ 0 =
        ap (λ (w : Option Message). bit (passes (has_serial m.serial) w)) (run_puts_none x.event x.outcome m is) in
        record {
          accepted = r.held.held.accepted;
          put = omega (
            arith,
            now.run m.serial,
            now.put m.serial,
            now.accepted m.serial,
            role_push put_in (has_serial m.serial) past x,
            role_push run_in (has_serial m.serial) past x,
            one_more run_of m x is,
            none,
          );
          first = omega (
            arith,
            now.run m.serial,
            now.put m.serial,
            now.accepted m.serial,
            role_push run_in (has_serial m.serial) past x,
            one_more run_of m x is,
          );
          touched = run_touches layout x.event x.outcome m is r.place;
          place = r.place;
          handler = r.held.handler;
        }

pub put_and_run_once : (layout : Layout) (journal : List Entry) → IsHistory layout journal → PutAndRunOnce layout journal
put_and_run_once layout journal h =
    record { counts = each_once layout journal h; places = each_law layout (IsPutAndRunFirst layout) (λ past x p may. places layout past x p may) journal h }

tagged : (layout : Layout) (past : List Entry) (x : Entry) → IsHistory layout past → MayFollow layout past x → TagMatches layout past x
tagged layout past x h may = (match_option (put_of x) (IsTagged layout past) by_put, match_option (run_of x) (IsTagged layout past) by_run)
  where
    d : Delivers layout past
    d = delivers layout past h

    by_put : (m : Message) → put_of x ≡ Some m → IsTagged layout past m
    by_put m is = subst (λ (tag : Tag). matches tag m.tag ≡ true) (tags_kept layout past h m.dest) (put_facts layout past x d may m is).welcome.tag

    by_run : (m : Message) → run_of x ≡ Some m → IsTagged layout past m
    by_run m is =
        let r = run_facts layout past x d may m is in
        subst (λ (tag : Tag). matches tag m.tag ≡ true) (tags_kept layout past h m.dest)
        (subst (λ (e : EndpointId). matches (state_of layout past e).body.tag m.tag ≡ true) (sym r.held.held.dest) r.held.held.tag)

pub tags_match : (layout : Layout) (journal : List Entry) → IsHistory layout journal → TagsMatch layout journal
tags_match layout journal h = each_law layout (TagMatches layout) (λ past x p may. tagged layout past x p may) journal h

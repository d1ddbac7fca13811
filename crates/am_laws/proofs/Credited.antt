-- While a request is outstanding, its reply is refused for no cause but that its endpoint is not resident.
use Rattle.std.specs.Prelude.{MatchOption, not, nat_le, nat_lt, is_none, slice_get, count_by}
use Rattle.std.proofs.Common.{◌≡◌, ◌⊎◌, inl, inr, ⊎_elim, ◌==◌, ℕ, ◌+◌, ◌-◌, Bool, true, false, cond, ◌&&◌, ◌||◌, List, [], ◌∷◌, ◌++◌, length, Option, Some}
use Rattle.std.proofs.Common.{None, refl, sym, ap, ◌∙◌, subst, eqb-true, eq-eqb, true≢false, if◌then◌else◌}
use Rattle.std.proofs.lemmas.Bool.{and_parts}
use Rattle.std.specs.List.{find}
use Rattle.std.proofs.lemmas.List.{nil_from_length}
use Rattle.am_names.specs.Rules.{matches, is_transient}
use Rattle.am_names.specs.declared.EndpointId.{EndpointId}
use Rattle.am_names.specs.declared.NodeId.{NodeId}
use Rattle.am_names.specs.declared.Serial.{Serial}
use Rattle.am_names.specs.declared.Tag.{Tag}
use Rattle.am_names.specs.declared.Words.{Words}
use Rattle.am_names.specs.declared.Cause.{Cause}
use Rattle.am_names.specs.declared.Cause.TheVariants.{NoEndpoint, NotResident, BadTag, BadHandler, QueueFull, NoRequest}
use Rattle.am_names.specs.declared.Verdict.{Verdict}
use Rattle.am_names.specs.declared.Verdict.TheVariants as Verdicts
use Rattle.am_names.specs.declared.Message.{Message}
use Rattle.am_names.specs.declared.MsgKind.TheVariants as Kind
use Rattle.am_names.specs.declared.AnswerPacket.{AnswerPacket}
use Rattle.am_names.specs.declared.Packet.{Packet}
use Rattle.am_names.specs.declared.Packet.TheVariants as Packets
use Rattle.am_office_entries.specs.declared.Call.{Call}
use Rattle.am_office_entries.specs.declared.Call.TheVariants as Calls
use Rattle.am_office_entries.specs.declared.Refusal.{Refusal}
use Rattle.am_office_entries.specs.declared.Refusal.TheVariants as No
use Rattle.am_office_entries.specs.declared.Event.{Event}
use Rattle.am_office_entries.specs.declared.Event.TheVariants as Events
use Rattle.am_office_entries.specs.declared.Received.{Received}
use Rattle.am_office_entries.specs.declared.Received.TheVariants as Got
use Rattle.am_office_entries.specs.declared.Outcome.{Outcome}
use Rattle.am_office_entries.specs.declared.Outcome.TheVariants as Out
use Rattle.am_office_entries.specs.declared.Entry.{Entry}
use Rattle.am_names.specs.Names.{same_end, same_serial, is_request, is_reply}
use Rattle.am_model.specs.Choice.{first_holding}
use Rattle.am_model.specs.declared.Awaited.{Awaited}
use Rattle.am_model.specs.declared.Mapping.{Mapping}
use Rattle.am_model.specs.declared.Queued.{Queued}
use Rattle.am_model.specs.Endpoint.{State, verdict, verdict_of, waits_for, is_waited_for, is_resident, entry_at, front}
use Rattle.am_model.specs.Calls.{outcome_of_call, unless, request_refusal, new_request, request_message, is_idle, messages_held}
use Rattle.am_model.specs.Changes.{called, left, reached, paged_out, paged_in, changed, put, received, expired, bound, without_record, is_of, arrived}
use Rattle.am_model.specs.Changes.{with_arrived, flying_of}
use Rattle.am_office_entries.specs.Entries.{accepted_in, accepted_of, run_in, refusal_in, refusal_by, refusal_of, touches}
use Rattle.am_model.specs.Layout.{Layout, AllAre, EndSetting, has_id, opening_by}
use Rattle.am_model.specs.Channels.{Channel, Arrival, Stale, Again, Fresh, bound_message, emitted, arrival, mark, sequence, attempt}
use Rattle.am_model.specs.History.{state_of, MayFollow, IsHistory, outcome_of, carry, judged, receive, arrive, decided, settle, settle_by, counts, bounced}
use Rattle.am_model.specs.History.{channel_to, next_number}
use Rattle.am_model.specs.PostOffice.{times, WasAccepted, is_from, own_tag, mapping_of, IsCredited, OneReplyPerRun, IsRequestOf, IsAcceptedBy}
use Rattle.am_model.proofs.Each.{over_each, each_push, state_of_push}
use Rattle.am_model.proofs.Names.{same_serial-is}
use Rattle.am_model.proofs.Received.{FitsCall}
use Rattle.am_model.proofs.Books.{fits_call}
use Rattle.am_model.proofs.Ends.{was_emitted}
use Rattle.am_model.proofs.Alls.{all_push}
use Rattle.am_laws.proofs.Alls.{all_map, all_without, gave_more, gave_now}
use Rattle.am_laws.proofs.Asked.{is_asked, knows}
use Rattle.am_laws.proofs.Sent.{front_are}
use Rattle.am_laws.proofs.Held.{unless_busy}
use Rattle.am_laws.proofs.Delivered.{Delivers, delivers, run_facts, each_law, match_option}
use Rattle.am_laws.proofs.ReplyMessages.{sends_one}
use Rattle.am_laws.proofs.Everywhere.{each_once}
use Rattle.am_laws.proofs.Gave.{gave_back, accepted_one}
use Rattle.am_laws.proofs.Waits.{waits, records_wait}

-- what a refusal tells
pub record IsRefused (layout : Layout) (past : List Entry) (m : Message) (cause : Cause) : Type 0 where
  pub accepted : WasAccepted past m
  pub verdict : verdict (state_of layout past m.dest) m ≡ Verdicts.Refused cause

refused_as : (layout : Layout) (past : List Entry) (n m : Message) (c cause : Cause) → WasAccepted past n →
    verdict (state_of layout past n.dest) n ≡ Verdicts.Refused c → ◌≡◌ {A = Option (Message × Cause)} (Some (n, c)) (Some (m, cause)) →
    IsRefused layout past m cause
refused_as layout past n m c cause known is e =
    let pair : ◌≡◌ {A = Message × Cause} (n, c) (m, cause) = cc in
    let one' : n ≡ m = ap (λ (w : Message × Cause). w.0) pair in
    let two' : c ≡ cause = ap (λ (w : Message × Cause). w.1) pair in
    subst (λ (w : Message). IsRefused layout past w cause) one' (record { accepted = known; verdict = is ∙ ap (λ (w : Cause). Verdicts.Refused w) two' })

carry_refused : (layout : Layout) (past : List Entry) → Delivers layout past → (end : EndpointId) (f : Option Queued) → front (state_of layout past end) ≡ f →
    (m : Message) (cause : Cause) → refusal_in (Events.Carry end) (carry layout past f) ≡ Some (m, cause) → IsRefused layout past m cause
carry_refused layout past d end None at m cause h = absurd (cc)
carry_refused layout past d end (Some q) at m cause h = by_verdict (verdict (state_of layout past q.message.dest) q.message) refl h
  where
    by_again : (c : Cause) (b : Bool) → verdict (state_of layout past q.message.dest) q.message ≡ Verdicts.Refused c →
        refusal_in (Events.Carry end) (if b then Out.Requeued q.message c (q.bounces + 1) else Out.Returned q.message c) ≡ Some (m, cause) →
        IsRefused layout past m cause
    by_again c true is e = refused_as layout past q.message m c cause (front_are (WasAccepted past) (state_of layout past end) q at (d.sent end)) is e
    by_again c false is e = refused_as layout past q.message m c cause (front_are (WasAccepted past) (state_of layout past end) q at (d.sent end)) is e

    by_verdict : (v : Verdict) → verdict (state_of layout past q.message.dest) q.message ≡ v →
        refusal_in (Events.Carry end) (judged layout.bounces q.message q.bounces v) ≡ Some (m, cause) → IsRefused layout past m cause
    by_verdict Verdicts.Accepted is e = absurd (cc)
    by_verdict (Verdicts.Refused c) is e = by_again c (is_transient c && nat_lt q.bounces layout.bounces) is e

arrive_refused : (layout : Layout) (past : List Entry) (p : Message) (answer : ℕ) (a : Arrival) → WasAccepted past p → (m : Message) (cause : Cause) →
    refusal_by (arrive layout past p answer a) ≡ Some (m, cause) → IsRefused layout past m cause
arrive_refused layout past p answer Stale known m cause h = absurd (cc)
arrive_refused layout past p answer (Again v) known m cause h = absurd (cc)
arrive_refused layout past p answer Fresh known m cause h = by_verdict (verdict (state_of layout past p.dest) p) refl h
  where
    by_verdict : (v : Verdict) → verdict (state_of layout past p.dest) p ≡ v → refusal_by (decided p answer v) ≡ Some (m, cause) → IsRefused layout past m cause
    by_verdict Verdicts.Accepted is e = absurd (cc)
    by_verdict (Verdicts.Refused c) is e = refused_as layout past p m c cause known is e

settle_refused : (layout : Layout) (c : Channel) (past : List Entry) (a : AnswerPacket) (b : Option Message) → refusal_by (settle layout c past a b) ≡ None
settle_refused layout c past a None = refl
settle_refused layout c past a (Some m) = by_test ((a.seq == sequence c past) && counts a.verdict (a.attempt == attempt c past))
  where
    by_again : (cause : Cause) (n : ℕ) (b : Bool) → refusal_by (if b then Got.Requeued m.serial cause n else Got.Returned m.serial cause) ≡ None
    by_again cause n true = refl
    by_again cause n false = refl

    by_verdict : (v : Verdict) (n : ℕ) → refusal_by (settle_by layout.bounces m n v) ≡ None
    by_verdict Verdicts.Accepted n = refl
    by_verdict (Verdicts.Refused cause) n = by_again cause (n + 1) (is_transient cause && nat_lt n layout.bounces)

    by_test : (t : Bool) → refusal_by (if t then settle_by layout.bounces m (bounced (flying_of m.serial (state_of layout past m.serial.source).body.in_flight))
        a.verdict else Got.Nothing) ≡ None
    by_test true = by_verdict a.verdict (bounced (flying_of m.serial (state_of layout past m.serial.source).body.in_flight))
    by_test false = refl

receive_refused : (layout : Layout) (past : List Entry) → Delivers layout past → (node peer : NodeId) (number k : ℕ) (p : Option Packet) →
    slice_get (emitted peer node past) k ≡ p → (m : Message) (cause : Cause) →
    refusal_in (Events.Receive node peer number) (receive layout node peer past p) ≡ Some (m, cause) → IsRefused layout past m cause
receive_refused layout past d node peer number k None is m cause h = absurd (cc)
receive_refused layout past d node peer number k (Some (Packets.Parcel p)) is m cause h =
    arrive_refused layout past p.message (next_number node peer past) (arrival (mark (channel_to node peer p.channel) past) p.seq p.attempt)
    (d.parcels p (was_emitted peer node past k (Packets.Parcel p) is).0).accepted m cause h
receive_refused layout past d node peer number k (Some (Packets.Answer a)) is m cause h =
    let none : refusal_by (settle layout (channel_to node peer a.channel) past a (bound_message (channel_to node peer a.channel) past)) ≡ None =
    settle_refused layout (channel_to node peer a.channel) past a (bound_message (channel_to node peer a.channel) past) in
    let both : ◌≡◌ {A = Option (Message × Cause)} None (Some (m, cause)) = sym none ∙ h in absurd (cc)

event_refused : (layout : Layout) (past : List Entry) → Delivers layout past → (event : Event) (m : Message) (cause : Cause) →
    refusal_in event (outcome_of layout past event) ≡ Some (m, cause) → IsRefused layout past m cause
event_refused layout past d (Events.Carry end) m cause h = carry_refused layout past d end (front (state_of layout past end)) refl m cause h
event_refused layout past d (Events.Receive node peer number) m cause h =
    receive_refused layout past d node peer number (number - 1) (slice_get (emitted peer node past) (number - 1)) refl m cause h
event_refused layout past d event m cause h = absurd (cc)

-- a reply that was accepted, and its request
pub record IsReplyOf (past : List Entry) (m : Message) (s : Serial) : Type 0 where
  pub request : Message
  pub accepted : WasAccepted past request
  pub serial : request.serial ≡ s
  pub dest : m.dest ≡ s.source
  pub tag : m.tag ≡ request.reply_tag
  pub kind : is_request m ≡ false

abbrev pub KnowsReplies : List Entry → Type 0
KnowsReplies past = (m : Message) → WasAccepted past m → (s : Serial) → m.about ≡ Some s → IsReplyOf past m s

answers_no_request : (m : Message) → is_reply m ≡ true → is_request m ≡ false
answers_no_request m h = by_test (is_request m) h
  where
    by_test : (b : Bool) → (if b then false else true) ≡ true → b ≡ false
    by_test true e = absurd (true≢false (sym e))
    by_test false e = refl

pub no_about : (layout : Layout) (past : List Entry) (e : EndpointId) (index handler : ℕ) (words : Words) (m : Message) →
    IsRequestOf layout past e index handler words m → m.about ≡ None
no_about layout past e index handler words m h = by_mapping (mapping_of past e index) h
  where
    by_mapping : (w : Option Mapping) → MatchOption w ⊥ (λ mapping. m ≡ record {
      serial = record { source = e; count = times accepted_of (is_from e) past + 1 };
      kind = Kind.Request;
      dest = mapping.name;
      tag = mapping.tag;
      reply_tag = own_tag layout past e;
      handler = handler;
      words = words;
      about = None;
    }) → m.about ≡ None
    by_mapping None k = absurd k
    by_mapping (Some mapping) k = ap (λ (w : Message). w.about) k

new_reply : (layout : Layout) (past : List Entry) (event : Event) (o : Outcome) → IsAcceptedBy layout past event o →
    ((m : Message) → run_in event o ≡ Some m → WasAccepted past m) → (m : Message) → accepted_in event o ≡ Some m → (s : Serial) → m.about ≡ Some s →
    IsReplyOf past m s
new_reply layout past (Events.Call actor end (Calls.Request index handler words)) (Out.Requested n) asked runs m is s about =
    let same : n ≡ m = cc in
    let none : m.about ≡ None = subst (λ (w : Message). w.about ≡ None) same (no_about layout past end index handler words n asked) in
    let both : None ≡ Some s = sym none ∙ about in absurd (cc)
new_reply layout past (Events.Call actor end Calls.Poll) (Out.Ran handler n (Some reply)) asked runs m is s about =
    let same : reply ≡ m = cc in
    let of : reply.about ≡ Some s = ap (λ (w : Message). w.about) same ∙ about in
    let both : Some n.serial ≡ Some s = sym asked.about ∙ of in
    let serial : n.serial ≡ s = cc in
    subst (λ (w : Message). IsReplyOf past w s) same
    (record {
      request = n;
      accepted = runs n refl;
      serial = serial;
      dest = asked.dest ∙ ap (λ (w : Serial). w.source) serial;
      tag = asked.tag;
      kind = answers_no_request reply asked.kind;
    })
new_reply layout past event o asked runs m is s about = absurd (cc)

replies_more : (layout : Layout) (past : List Entry) (x : Entry) → IsHistory layout past → KnowsReplies past → MayFollow layout past x →
    KnowsReplies (past ++ x ∷ [])
replies_more layout past x h known may m is s about =
    ⊎_elim
    (λ (before : WasAccepted past m). later (known m before s about))
    (λ (now : accepted_of x ≡ Some m). later (new_reply layout past x.event x.outcome (is_asked layout past x (knows layout past h) may)
    (λ n ran. (run_facts layout past x (delivers layout past h) may n ran).held.held.accepted) m now s about))
    (gave_back accepted_of past x m is)
  where
    later : IsReplyOf past m s → IsReplyOf (past ++ x ∷ []) m s
    later r = record {
      request = r.request;
      accepted = gave_more accepted_of past x r.request r.accepted;
      serial = r.serial;
      dest = r.dest;
      tag = r.tag;
      kind = r.kind;
    }

-- a record is of an accepted request, whose reply tag is the own tag
pub record IsUnder (past : List Entry) (own : Tag) (a : Awaited) : Type 0 where
  pub request : Message
  pub accepted : WasAccepted past request
  pub serial : request.serial ≡ a.serial
  pub reply : request.reply_tag ≡ own
  pub some : (own.0 == 0) ≡ false
  pub kind : is_request request ≡ true

-- no change but a request adds a record, and none changes a record's serial
pub called_records : (R : Awaited → Type 0) (st : State) (c : Call) (o : Outcome) → AllAre R st.body.awaited →
    ((index handler : ℕ) (words : Words) (m : Message) → c ≡ Calls.Request index handler words → o ≡ Out.Requested m →
    R (record { index = index; serial = m.serial; arrived = false })) → AllAre R (called st c o).body.awaited
called_records R st (Calls.Request index handler words) (Out.Requested m) h new = all_push R st.body.awaited (record {
  index = index;
  serial = m.serial;
  arrived = false;
}) h (new index handler words m refl refl)
called_records R st Calls.Poll (Out.Zero serial why) h new = h
called_records R st Calls.Poll (Out.Ran handler m None) h new = by_about m.about
  where
    by_about : (about : Option Serial) → AllAre R (without_record about st.body.awaited)
    by_about None = h
    by_about (Some t) = all_without R (is_of t) st.body.awaited h
called_records R st Calls.Poll (Out.Ran handler m (Some reply)) h new = h
called_records R st (Calls.SetTag tag) Out.Done h new = h
called_records R st (Calls.Map index name tag credits) Out.Done h new = h
called_records R st (Calls.Unmap index) Out.Done h new = h
called_records R st (Calls.SetHandler index kind) Out.Done h new = h
called_records R st (Calls.GiveUp serial) Out.Done h new = all_without R (waits_for serial) st.body.awaited h
called_records R st Calls.Close Out.Done h new = h
called_records R st c o h new = h

arrived_records : (R : Awaited → Type 0) → ((t : Serial) (a : Awaited) → R a → R (arrived t a)) → (about : Option Serial) (xs : List Awaited) → AllAre R xs →
    AllAre R (with_arrived about xs)
arrived_records R f None xs h = h
arrived_records R f (Some t) [] h = h
arrived_records R f (Some t) (a ∷ xs) h = (f t a h.0, arrived_records R f (Some t) xs h.1)

pub left_records : (R : Awaited → Type 0) (st : State) (o : Outcome) (t : Bool) → AllAre R st.body.awaited → AllAre R (if t then left st o else st).body.awaited
left_records R st (Out.Accepted m) true h = h
left_records R st (Out.Requeued m cause bounces) true h = h
left_records R st (Out.Returned m cause) true h = all_without R (waits_for m.serial) st.body.awaited h
left_records R st o true h = h
left_records R st o false h = h

reached_records : (R : Awaited → Type 0) → ((t : Serial) (a : Awaited) → R a → R (arrived t a)) → (e : EndpointId) (st : State) (o : Outcome) →
    AllAre R st.body.awaited → AllAre R (reached e st o).body.awaited
reached_records R f e st (Out.Accepted m) h = by_test (same_end e m.dest)
  where
    by_test : (b : Bool) → AllAre R (if b then put m st else st).body.awaited
    by_test true = arrived_records R f m.about st.body.awaited h
    by_test false = h
reached_records R f e st o h = h

received_records : (R : Awaited → Type 0) → ((t : Serial) (a : Awaited) → R a → R (arrived t a)) → (e : EndpointId) (st : State) (r : Received) →
    AllAre R st.body.awaited → AllAre R (received e st r).body.awaited
received_records R f e st (Got.Accepted m answer) h = arrived_records R f m.about st.body.awaited h
received_records R f e st (Got.Refused m NotResident answer) h = h
received_records R f e st (Got.Delivered t) h = h
received_records R f e st (Got.Requeued t cause bounces) h = h
received_records R f e st (Got.Returned t cause) h = all_without R (waits_for t) st.body.awaited h
received_records R f e st r h = h

pub expired_records : (R : Awaited → Type 0) (st : State) (o : Outcome) → AllAre R st.body.awaited → AllAre R (expired st o).body.awaited
expired_records R st (Out.Delivered t) h = h
expired_records R st (Out.Unknown t) h = all_without R (waits_for t) st.body.awaited h
expired_records R st o h = h

pub bound_records : (R : Awaited → Type 0) (st : State) (o : Outcome) → AllAre R st.body.awaited → AllAre R (bound st o).body.awaited
bound_records R st (Out.Sent m peer channel seq attempt number) h = h
bound_records R st o h = h

pub out_records : (R : Awaited → Type 0) (st : State) (o : Outcome) → AllAre R st.body.awaited → AllAre R (paged_out st o).body.awaited
out_records R st Out.Done h = h
out_records R st o h = h

pub in_records : (R : Awaited → Type 0) (st : State) (o : Outcome) → AllAre R st.body.awaited → AllAre R (paged_in st o).body.awaited
in_records R st Out.Done h = h
in_records R st o h = h

-- a request that is accepted here
pub record IsMade (st : State) (m : Message) : Type 0 where
  pub opened : st.head.closed ≡ false
  pub some : (st.body.tag.0 == 0) ≡ false
  pub reply : m.reply_tag ≡ st.body.tag
  pub kind : is_request m ≡ true

pub two_fail : (a b : Bool) (x y : Refusal) (rest : Option Refusal) → cond a (Some x) (cond b (Some y) rest) ≡ None → (a ≡ false) × (b ≡ false)
two_fail true b x y rest h = absurd (cc)
two_fail false true x y rest h = absurd (cc)
two_fail false false x y rest h = (refl, refl)

pub made : (pool : Option ℕ) (end : EndpointId) (st : State) (index handler : ℕ) (words : Words) (m : Message) →
    Out.Requested m ≡ outcome_of_call pool end st (Calls.Request index handler words) → IsMade st m
made pool end st index handler words m fits = by_parts (request_refusal pool st index) (entry_at st.body.mapped index) refl fits
  where
    by_parts : (r : Option Refusal) (mapping : Option Mapping) → request_refusal pool st index ≡ r →
        Out.Requested m ≡ unless r (new_request end st mapping handler words) → IsMade st m
    by_parts (Some r) mapping is e = absurd (cc)
    by_parts None None is e = absurd (cc)
    by_parts None (Some mapping) is e =
        let same : m ≡ request_message end st mapping handler words = cc in
        let two = two_fail st.head.closed (st.body.tag.0 == 0) No.Closed No.OwnTagNone _ is in
        record { opened = two.0; some = two.1; reply = ap (λ (w : Message). w.reply_tag) same; kind = ap is_request same }

pub records_kept : (pool : Option ℕ) (R : Awaited → Type 0) → ((t : Serial) (a : Awaited) → R a → R (arrived t a)) →
    (e : EndpointId) (st : State) (event : Event) (o : Outcome) → FitsCall pool st event o → AllAre R st.body.awaited →
    ((index : ℕ) (m : Message) → IsMade st m → accepted_in event o ≡ Some m → R (record { index = index; serial = m.serial; arrived = false })) →
    AllAre R (changed e st event o).body.awaited
records_kept pool R f e st (Events.Call actor end call) o fits h new =
    called_records R st call o h (λ index handler words m c is. new index m (made pool end st index handler words m (sym is ∙ fits
    ∙ ap (outcome_of_call pool end st) c)) ((λ i. accepted_in (Events.Call actor end (c i)) (is i))))
records_kept pool R f e st (Events.Want actor end) o fits h new = h
records_kept pool R f e st (Events.Carry end) o fits h new = reached_records R f e (if same_end e end then left st o else st) o
    (left_records R st o (same_end e end) h)
records_kept pool R f e st (Events.Bind node end) o fits h new = bound_records R st o h
records_kept pool R f e st (Events.Expire node peer channel) o fits h new = expired_records R st o h
records_kept pool R f e st (Events.Receive node peer number) (Out.Received channel seq attempt r) fits h new = received_records R f e st r h
records_kept pool R f e st (Events.Receive node peer number) o fits h new = h
records_kept pool R f e st (Events.Drain node end) o fits h new = h
records_kept pool R f e st (Events.Unload node end) o fits h new = h
records_kept pool R f e st (Events.Load node end frame) o fits h new = h
records_kept pool R f e st (Events.PageOut node end) o fits h new = out_records R st o h
records_kept pool R f e st (Events.PageIn node end) o fits h new = in_records R st o h

idle_awaited : (st : State) → is_idle st.body ≡ true → st.body.awaited ≡ []
idle_awaited st h = nil_from_length st.body.awaited (eqb-true (length st.body.awaited) 0
    (and_parts ((length st.body.received == 0) && (messages_held st.body == 0)) (length st.body.awaited == 0) h).1)

-- the own tag and the closed flag stay, or nothing is awaited
called_held : (pool : Option ℕ) (end : EndpointId) (st : State) (c : Call) (o : Outcome) → o ≡ outcome_of_call pool end st c →
    (((called st c o).body.tag ≡ st.body.tag) × ((called st c o).head.closed ≡ st.head.closed)) ⊎ ((called st c o).body.awaited ≡ [])
called_held pool end st (Calls.Request at handler words) (Out.Requested m) fits = inl (refl, refl)
called_held pool end st Calls.Poll (Out.Zero serial why) fits = inl (refl, refl)
called_held pool end st Calls.Poll (Out.Ran handler m None) fits = inl (refl, refl)
called_held pool end st Calls.Poll (Out.Ran handler m (Some reply)) fits = inl (refl, refl)
called_held pool end st (Calls.SetTag tag) Out.Done fits = inr (idle_awaited st (unless_busy st st.head.closed (is_idle st.body) refl (sym fits)))
called_held pool end st (Calls.Map at name tag credits) Out.Done fits = inl (refl, refl)
called_held pool end st (Calls.Unmap at) Out.Done fits = inl (refl, refl)
called_held pool end st (Calls.SetHandler at kind) Out.Done fits = inl (refl, refl)
called_held pool end st (Calls.GiveUp serial) Out.Done fits = inl (refl, refl)
called_held pool end st Calls.Close Out.Done fits = inr (idle_awaited st (unless_busy st st.head.closed (is_idle st.body) refl (sym fits)))
called_held pool end st c o fits = inl (refl, refl)

abbrev pub Stays : State → State → Type 0
Stays st new = (new.body.tag ≡ st.body.tag) × (new.head.closed ≡ st.head.closed)

left_stays : (st : State) (o : Outcome) (t : Bool) → Stays st (if t then left st o else st)
left_stays st (Out.Accepted m) true = (refl, refl)
left_stays st (Out.Requeued m cause bounces) true = (refl, refl)
left_stays st (Out.Returned m cause) true = (refl, refl)
left_stays st o true = (refl, refl)
left_stays st o false = (refl, refl)

reached_stays : (e : EndpointId) (old st : State) (o : Outcome) → Stays old st → Stays old (reached e st o)
reached_stays e old st (Out.Accepted m) h = by_test (same_end e m.dest)
  where
    by_test : (b : Bool) → Stays old (if b then put m st else st)
    by_test true = h
    by_test false = h
reached_stays e old st o h = h

received_stays : (e : EndpointId) (st : State) (r : Received) → Stays st (received e st r)
received_stays e st (Got.Accepted m answer) = (refl, refl)
received_stays e st (Got.Refused m NotResident answer) = (refl, refl)
received_stays e st (Got.Delivered t) = (refl, refl)
received_stays e st (Got.Requeued t cause bounces) = (refl, refl)
received_stays e st (Got.Returned t cause) = (refl, refl)
received_stays e st r = (refl, refl)

expired_stays : (st : State) (o : Outcome) → Stays st (expired st o)
expired_stays st (Out.Delivered t) = (refl, refl)
expired_stays st (Out.Unknown t) = (refl, refl)
expired_stays st o = (refl, refl)

bound_stays : (st : State) (o : Outcome) → Stays st (bound st o)
bound_stays st (Out.Sent m peer channel seq attempt number) = (refl, refl)
bound_stays st o = (refl, refl)

out_stays : (st : State) (o : Outcome) → Stays st (paged_out st o)
out_stays st Out.Done = (refl, refl)
out_stays st o = (refl, refl)

in_stays : (st : State) (o : Outcome) → Stays st (paged_in st o)
in_stays st Out.Done = (refl, refl)
in_stays st o = (refl, refl)

changed_held : (pool : Option ℕ) (e : EndpointId) (st : State) (event : Event) (o : Outcome) → FitsCall pool st event o →
    Stays st (changed e st event o) ⊎ ((changed e st event o).body.awaited ≡ [])
changed_held pool e st (Events.Call actor end call) o fits = called_held pool end st call o fits
changed_held pool e st (Events.Want actor end) o fits = inl (refl, refl)
changed_held pool e st (Events.Carry end) o fits = inl (reached_stays e st (if same_end e end then left st o else st) o (left_stays st o (same_end e end)))
changed_held pool e st (Events.Bind node end) o fits = inl (bound_stays st o)
changed_held pool e st (Events.Expire node peer channel) o fits = inl (expired_stays st o)
changed_held pool e st (Events.Receive node peer number) (Out.Received channel seq attempt r) fits = inl (received_stays e st r)
changed_held pool e st (Events.Receive node peer number) o fits = inl (refl, refl)
changed_held pool e st (Events.Drain node end) o fits = inl (refl, refl)
changed_held pool e st (Events.Unload node end) o fits = inl (refl, refl)
changed_held pool e st (Events.Load node end frame) o fits = inl (refl, refl)
changed_held pool e st (Events.PageOut node end) o fits = inl (out_stays st o)
changed_held pool e st (Events.PageIn node end) o fits = inl (in_stays st o)

-- the records of an endpoint are under its own tag, and a closed one has none
pub record AreUnder (past : List Entry) (st : State) : Type 0 where
  pub under : AllAre (IsUnder past st.body.tag) st.body.awaited
  pub closed : st.head.closed ≡ true → AllAre (λ a. ⊥) st.body.awaited

under_later : (past : List Entry) (x : Entry) (own : Tag) (a : Awaited) → IsUnder past own a → IsUnder (past ++ x ∷ []) own a
under_later past x own a u = record {
  request = u.request;
  accepted = gave_more accepted_of past x u.request u.accepted;
  serial = u.serial;
  reply = u.reply;
  some = u.some;
  kind = u.kind;
}

under_more : (layout : Layout) (past : List Entry) (x : Entry) → ((e : EndpointId) → AreUnder past (state_of layout past e)) → MayFollow layout past x →
    (e : EndpointId) → AreUnder (past ++ x ∷ []) (state_of layout (past ++ x ∷ []) e)
under_more layout past x k may e = by_test (touches e x) refl
  where
    st : State
    st = state_of layout past e

    later : AllAre (IsUnder (past ++ x ∷ []) (state_of layout past e).body.tag) (state_of layout past e).body.awaited
    later = all_map (IsUnder past (state_of layout past e).body.tag) (IsUnder (past ++ x ∷ []) (state_of layout past e).body.tag)
        (state_of layout past e).body.awaited (under_later past x (state_of layout past e).body.tag) (k e).under

    again : (t : Serial) (a : Awaited) → IsUnder (past ++ x ∷ []) (state_of layout past e).body.tag a →
        IsUnder (past ++ x ∷ []) (state_of layout past e).body.tag (arrived t a)
    again t a u = record { request = u.request; accepted = u.accepted; serial = u.serial; reply = u.reply; some = u.some; kind = u.kind }

    new : touches e x ≡ true → AreUnder (past ++ x ∷ []) (changed e (state_of layout past e) x.event x.outcome)
    new at =
        ⊎_elim
        (λ (s : Stays (state_of layout past e) (changed e (state_of layout past e) x.event x.outcome)).
        record {
          under = subst (λ (own : Tag). AllAre (IsUnder (past ++ x ∷ []) own) (changed e (state_of layout past e) x.event x.outcome).body.awaited) (sym s.0)
              (records_kept layout.pool (IsUnder (past ++ x ∷ []) (state_of layout past e).body.tag) again e (state_of layout past e) x.event x.outcome
              (fits_call layout past e x may at) later
              (λ index m is acc. record {
                request = m;
                accepted = gave_now accepted_of past x m acc;
                serial = refl;
                reply = is.reply;
                some = is.some;
                kind = is.kind;
              }));
          closed = λ c. records_kept layout.pool (λ a. ⊥) (λ t a n. n) e (state_of layout past e) x.event x.outcome (fits_call layout past e x may at)
              ((k e).closed (sym s.1 ∙ c)) (λ index m is acc. true≢false (sym (sym s.1 ∙ c) ∙ is.opened));
        })
        (λ (none : (changed e (state_of layout past e) x.event x.outcome).body.awaited ≡ []).
        record {
          under = subst (AllAre (IsUnder (past ++ x ∷ []) (changed e (state_of layout past e) x.event x.outcome).body.tag)) (sym none) tt;
          closed = λ c. subst (AllAre (λ (a : Awaited). ⊥)) (sym none) tt;
        })
        (changed_held layout.pool e (state_of layout past e) x.event x.outcome (fits_call layout past e x may at))

    by_test : (t : Bool) → touches e x ≡ t → AreUnder (past ++ x ∷ []) (state_of layout (past ++ x ∷ []) e)
    by_test true at = rw (state_of_push layout past x e true at) (new at)
    by_test false at = rw (state_of_push layout past x e false at) (record { under = later; closed = (k e).closed })

pub record Credits (layout : Layout) (past : List Entry) : Type 0 where
  pub history : IsHistory layout past
  pub replies : KnowsReplies past
  pub under : (e : EndpointId) → AreUnder past (state_of layout past e)

pub credits : (layout : Layout) (past : List Entry) → IsHistory layout past → Credits layout past
credits layout past h =
    over_each (MayFollow layout) (λ xs. Credits layout xs)
    (λ xs x k may. record {
      history = each_push (MayFollow layout) [] xs x k.history may;
      replies = replies_more layout xs x k.history k.replies may;
      under = under_more layout xs x k.under may;
    })
    [] past (record { history = tt; replies = λ m is s about. absurd (cc); under = λ e. none (find (has_id e) layout.ends) }) h
  where
    none : (setting : Option EndSetting) → AreUnder [] (opening_by layout setting)
    none None = record { under = tt; closed = λ c. tt }
    none (Some setting) = record { under = tt; closed = λ c. tt }

-- a record that waits is there
pub waiting_is : (P : Awaited → Type 0) (s : Serial) (xs : List Awaited) → waits s xs ≡ true → AllAre P xs → (a : Awaited) × (a.serial ≡ s) × P a
waiting_is P s [] h all = absurd (true≢false (sym h))
waiting_is P s (a ∷ xs) h all = by_test (λ e. waiting_is P s xs e all.1) (waits_for s a) refl h
  where
    by_test : (waits s xs ≡ true → (b : Awaited) × (b.serial ≡ s) × P b) → (t : Bool) → waits_for s a ≡ t → (t || waits s xs) ≡ true →
        (b : Awaited) × (b.serial ≡ s) × P b
    by_test more true is e = (a, sym (same_serial-is s a.serial (and_parts (same_serial s a.serial) (not a.arrived) is).0), all.0)
    by_test more false is e = more e

matches_itself : (own : Tag) → (own.0 == 0) ≡ false → matches own own ≡ true
matches_itself own some = rw some (by_all (own.0 == 18446744073709551615))
  where
    by_all : (b : Bool) → (if b then true else own.0 == own.0) ≡ true
    by_all true = refl
    by_all false = eq-eqb own.0 own.0 refl

only_resident : (st : State) (m : Message) (cause : Cause) → st.head.closed ≡ false → matches st.body.tag m.tag ≡ true → is_request m ≡ false →
    is_waited_for st.body.awaited m.about ≡ true → verdict st m ≡ Verdicts.Refused cause → cause ≡ NotResident
only_resident st m cause h1 h2 h3 h4 v = by_tests st.head.closed (is_resident st.head.place) (matches st.body.tag m.tag) (is_request m)
    (is_waited_for st.body.awaited m.about) h1 h2 h3 h4 v
  where
    by_tests : (a b c d e : Bool) → a ≡ false → c ≡ true → d ≡ false → e ≡ true →
        verdict_of (first_holding ((a, NoEndpoint) ∷ (not b, NotResident) ∷ (not c, BadTag) ∷ (
          d && is_none (entry_at st.body.handlers m.handler),
          BadHandler,
        ) ∷ (d && nat_le 16 (count_by is_request st.body.received), QueueFull) ∷ ((if d then false else true) && not e, NoRequest) ∷ [])) ≡
        Verdicts.Refused cause → cause ≡ NotResident
    by_tests false false true false true ha hc hd he e = let same : Verdicts.Refused NotResident ≡ Verdicts.Refused cause = e in
        let is : NotResident ≡ cause = cc in sym is
    by_tests false true true false true ha hc hd he e = absurd (cc)
    by_tests true b c d f ha hc hd he e = absurd (true≢false ha)
    by_tests false b false d f ha hc hd he e = absurd (true≢false (sym hc))
    by_tests false b true true f ha hc hd he e = absurd (true≢false hd)
    by_tests false b true false false ha hc hd he e = absurd (true≢false (sym he))

is_credited : (layout : Layout) (past : List Entry) (x : Entry) → IsHistory layout past → MayFollow layout past x → (m : Message) (cause : Cause) →
    refusal_of x ≡ Some (m, cause) → IsCredited past (m, cause)
is_credited layout past x h may m cause is s about out =
    let k = credits layout past h in
    let r = event_refused layout past (delivers layout past h) x.event m cause (ap (refusal_in x.event) (sym may.outcome) ∙ is) in
    let reply = k.replies m r.accepted s about in
    let st = state_of layout past s.source in
    let held : waits s (state_of layout past s.source).body.awaited ≡ true = (records_wait layout past h).waiting s out in
    let there = waiting_is (IsUnder past (state_of layout past s.source).body.tag) s (state_of layout past s.source).body.awaited held (k.under s.source).under
    in
    let same : there.2.request ≡ reply.request = accepted_one past s there.2.request reply.request ((each_once layout past h).accepted s) there.2.accepted
    reply.accepted (there.2.serial ∙ there.1) reply.serial in
    let tag : m.tag ≡ (state_of layout past s.source).body.tag = reply.tag ∙ ap (λ (w : Message). w.reply_tag) (sym same) ∙ there.2.reply in
    let own : matches (state_of layout past s.source).body.tag m.tag ≡ true =
    subst (λ (w : Tag). matches (state_of layout past s.source).body.tag w ≡ true) (sym tag)
    (matches_itself (state_of layout past s.source).body.tag there.2.some) in
    let awaited : is_waited_for (state_of layout past s.source).body.awaited m.about ≡ true =
    subst (λ (w : Option Serial). is_waited_for (state_of layout past s.source).body.awaited w ≡ true) (sym about) held in
    let opened : (state_of layout past s.source).head.closed ≡ false =
    by_closed layout past s held (k.under s.source) (state_of layout past s.source).head.closed refl in
    only_resident (state_of layout past s.source) m cause opened own reply.kind awaited
    (subst (λ (w : EndpointId). verdict (state_of layout past w) m ≡ Verdicts.Refused cause) reply.dest r.verdict)
  where
    by_closed : (layout : Layout) (past : List Entry) (s : Serial) → waits s (state_of layout past s.source).body.awaited ≡ true →
        AreUnder past (state_of layout past s.source) → (b : Bool) → (state_of layout past s.source).head.closed ≡ b → b ≡ false
    by_closed layout past s held u true is = absurd (waiting_is (λ (a : Awaited). ⊥) s (state_of layout past s.source).body.awaited held (u.closed is)).2
    by_closed layout past s held u false is = refl

pub one_reply_per_run : (layout : Layout) (journal : List Entry) → IsHistory layout journal → OneReplyPerRun journal
one_reply_per_run layout journal h =
    record {
      sends = sends_one layout journal h;
      credited = each_law layout (λ past x. MatchOption (refusal_of x) (Unit {0}) (IsCredited past))
          (λ past x p may. match_option (refusal_of x) (IsCredited past) (λ r is. is_credited layout past x p may r.0 r.1 is)) journal h;
    }

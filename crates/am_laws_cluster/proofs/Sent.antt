-- What is known of every parcel that was sent, and of the marks.
use Rattle.std.specs.Prelude.{length, nat_lt, slice_get}
use Rattle.std.proofs.Common.{◌≡◌, ◌≢◌, ◌⊎◌, inl, inr, ⊎_elim, ℕ, zero, suc, ◌+◌, ◌-◌, ◌≤◌, ◌<◌, Bool, true, false, List, [], ◌∷◌, ◌++◌, Option, Some, None}
use Rattle.std.proofs.Common.{refl, sym, ap, ◌∙◌, subst, arith, if◌then◌else◌}
use Rattle.std.specs.List.{filter_map, cons_option}
use Rattle.std.proofs.lemmas.List.Elements.{filter_map-append}
use Rattle.std.proofs.lemmas.Option.{slice_get_within}
use Rattle.am_names.specs.declared.EndpointId.{EndpointId}
use Rattle.am_names.specs.declared.NodeId.{NodeId}
use Rattle.am_names.specs.declared.Cause.TheVariants.{NoRequest}
use Rattle.am_names.specs.declared.Verdict.TheVariants as Verdicts
use Rattle.am_names.specs.declared.Message.{Message}
use Rattle.am_names.specs.declared.Parcel.{Parcel}
use Rattle.am_names.specs.declared.Packet.{Packet}
use Rattle.am_names.specs.declared.Packet.TheVariants as Packets
use Rattle.am_office_entries.specs.declared.Event.{Event}
use Rattle.am_office_entries.specs.declared.Event.TheVariants as Events
use Rattle.am_office_entries.specs.declared.Outcome.TheVariants as Out
use Rattle.am_office_entries.specs.declared.Entry.{Entry}
use Rattle.am_model.specs.declared.Queued.{Queued}
use Rattle.am_model.specs.Endpoint.{front}
use Rattle.am_model.specs.Changes.{flying_of}
use Rattle.am_model.specs.Layout.{Layout, home}
use Rattle.am_model.specs.Channels.{Channel, bound_message, emitted, mark, sequence, attempt}
use Rattle.am_model.specs.History.{state_of, MayFollow, IsHistory, outcome_of, channel_to, next_number, expire, is_answered, bind}
use Rattle.am_model.specs.PostOffice.{Gave}
use Rattle.am_model.proofs.Each.{over_each}
use Rattle.am_office_entries.specs.Entries.{emitted_of, emitted_in}
use Rattle.am_model.specs.Channels.{Mark}
use Rattle.am_model.specs.History.{bind_to, channel_for, sent}
use Rattle.am_model.specs.Cluster.{ParcelsFitSender, MarkIsOfParcel, AreOfOneSequence, IsSentAfter, parcel_channel, other_end}
use Rattle.am_model.proofs.Ends.{EmittedIn, emitted_more}
use Rattle.am_laws.proofs.Senders.{SenderMoves, sender, sender_moves}
use Rattle.am_laws.proofs.OrderedParcels.{IsOf, IsCurrent, ParcelsAreOf, new_parcel, receive_no_parcel}
use Rattle.am_laws.proofs.Marks.{Decides, mark_moves, ChannelsKept, channels_more, channels_begin}
use Rattle.am_laws.proofs.Given.{cons_gave}

pub gave_emitted : (p : Packet) (xs : List Entry) → Gave emitted_of xs p → EmittedIn p xs
gave_emitted p [] h = absurd (cc)
gave_emitted p (x ∷ xs) h = by_packet (emitted_of x) refl h.0 h.1 (λ j f. gave_emitted p xs (j, f))
  where
    by_packet : (q : Option Packet) → emitted_of x ≡ q → (j : ℕ) → slice_get (cons_option q (filter_map emitted_of xs)) j ≡ Some p →
        ((j : ℕ) → slice_get (filter_map emitted_of xs) j ≡ Some p → EmittedIn p xs) → (emitted_of x ≡ Some p) ⊎ EmittedIn p xs
    by_packet None is j f more = inr (more j f)
    by_packet (Some q) is zero f more = inl (is ∙ f)
    by_packet (Some q) is (suc j) f more = inr (more j f)

pub emitted_gave : (p : Packet) (xs : List Entry) → EmittedIn p xs → Gave emitted_of xs p
emitted_gave p [] h = absurd h
emitted_gave p (x ∷ xs) h =
    ⊎_elim
    (λ (here : emitted_of x ≡ Some p). (zero, subst (λ (w : Option Packet). slice_get (cons_option w (filter_map emitted_of xs)) 0 ≡ Some p) (sym here) refl))
    (λ (later : EmittedIn p xs). cons_gave (emitted_of x) (filter_map emitted_of xs) p (emitted_gave p xs later))
    h

pub emitted_later : (p : Packet) (xs : List Entry) (x : Entry) → EmittedIn p xs → EmittedIn p (xs ++ x ∷ [])
emitted_later p [] x h = absurd h
emitted_later p (y ∷ xs) x h = ⊎_elim (λ (here : emitted_of y ≡ Some p). inl here) (λ (later : EmittedIn p xs). inr (emitted_later p xs x later)) h

-- a parcel that goes out is of a new sequence, or of a later attempt
bind_new : (past : List Entry) (stamp : ℕ) (node : NodeId) (end : EndpointId) (f : Queued) (peer : Option NodeId) (channel : Option ℕ) (q : Parcel) →
    emitted_in stamp (Events.Bind node end) (bind_to node past f peer channel) ≡ Some (Packets.Parcel q) → q.seq ≡ sequence (parcel_channel q) past + 1
bind_new past stamp node end f (Some peer) (Some channel) q e =
    let is : record {
      from = node;
      to = peer;
      channel = channel;
      seq = sequence (channel_to node peer channel) past + 1;
      attempt = 0;
      number = next_number node peer past;
      stamp = stamp;
      message = f.message;
    } ≡ q = cc in
    subst (λ (w : Parcel). w.seq ≡ sequence (parcel_channel w) past + 1) is refl
bind_new past stamp node end f (Some peer) None q e = absurd (cc)
bind_new past stamp node end f None channel q e = absurd (cc)

front_new : (layout : Layout) (past : List Entry) (stamp : ℕ) (node : NodeId) (end : EndpointId) (f : Option Queued) (q : Parcel) →
    emitted_in stamp (Events.Bind node end) (bind layout node past f) ≡ Some (Packets.Parcel q) → q.seq ≡ sequence (parcel_channel q) past + 1
front_new layout past stamp node end None q e = absurd (cc)
front_new layout past stamp node end (Some f) q e = bind_new past stamp node end f (home layout f.message.dest) (channel_for layout node past (Some f)) q e

expire_new : (layout : Layout) (past : List Entry) (stamp : ℕ) (node peer : NodeId) (channel : ℕ) (b : Option Message) (q : Parcel) →
    emitted_in stamp (Events.Expire node peer channel) (expire layout node peer channel past b) ≡ Some (Packets.Parcel q) →
    q.attempt ≡ attempt (parcel_channel q) past + 1
expire_new layout past stamp node peer channel None q e = absurd (cc)
expire_new layout past stamp node peer channel (Some m) q e =
    by_tries (nat_lt (attempt (channel_to node peer channel) past + 1) layout.tries) (is_answered
    (flying_of m.serial (state_of layout past m.serial.source).body.in_flight)) e
  where
    by_tries : (t answered : Bool) → emitted_in stamp (Events.Expire node peer channel) (if t then sent node peer channel past m
        (sequence (channel_to node peer channel) past) (attempt (channel_to node peer channel) past + 1) else
        (if answered then Out.Delivered m.serial else Out.Unknown m.serial)) ≡ Some (Packets.Parcel q) → q.attempt ≡ attempt (parcel_channel q) past + 1
    by_tries true answered f =
        let is : record {
          from = node;
          to = peer;
          channel = channel;
          seq = sequence (channel_to node peer channel) past;
          attempt = attempt (channel_to node peer channel) past + 1;
          number = next_number node peer past;
          stamp = stamp;
          message = m;
        } ≡ q = cc in
        subst (λ (w : Parcel). w.attempt ≡ attempt (parcel_channel w) past + 1) is refl
    by_tries false true f = absurd (cc)
    by_tries false false f = absurd (cc)

event_new : (layout : Layout) (past : List Entry) (stamp : ℕ) (event : Event) (q : Parcel) →
    emitted_in stamp event (outcome_of layout past event) ≡ Some (Packets.Parcel q) →
    (q.seq ≡ sequence (parcel_channel q) past + 1) ⊎ (q.attempt ≡ attempt (parcel_channel q) past + 1)
event_new layout past stamp (Events.Bind node end) q e = inl (front_new layout past stamp node end (front (state_of layout past end)) q e)
event_new layout past stamp (Events.Expire node peer channel) q e =
    inr (expire_new layout past stamp node peer channel (bound_message (channel_to node peer channel) past) q e)
event_new layout past stamp (Events.Receive node peer number) q e =
    absurd (receive_no_parcel layout past stamp node peer number (slice_get (emitted peer node past) (number - 1)) q e)
event_new layout past stamp event q e = absurd (cc)

pub is_new : (layout : Layout) (past : List Entry) (x : Entry) → MayFollow layout past x → (q : Parcel) → emitted_of x ≡ Some (Packets.Parcel q) →
    (q.seq ≡ sequence (parcel_channel q) past + 1) ⊎ (q.attempt ≡ attempt (parcel_channel q) past + 1)
is_new layout past x may q e = event_new layout past x.stamp x.event q (ap (emitted_in x.stamp x.event) (sym may.outcome) ∙ e)

-- the parcels of one sequence carry one message
abbrev pub Alike : List Entry → Type 0
Alike past = (p q : Parcel) → EmittedIn (Packets.Parcel p) past → EmittedIn (Packets.Parcel q) past → parcel_channel p ≡ parcel_channel q → p.seq ≡ q.seq →
    p.message ≡ q.message

-- an old parcel and the one that goes out now
with_old : (layout : Layout) (past : List Entry) (x : Entry) → MayFollow layout past x → ParcelsAreOf past → (p q : Parcel) →
    EmittedIn (Packets.Parcel p) past → emitted_of x ≡ Some (Packets.Parcel q) → parcel_channel p ≡ parcel_channel q → p.seq ≡ q.seq →
    (p.message ≡ q.message) × (p.attempt < q.attempt)
with_old layout past x may known p q before now on seq =
    ⊎_elim
    (λ (new : q.seq ≡ sequence (parcel_channel q) past + 1). absurd (omega (arith, new, seq, of.seq)))
    (λ (again : q.attempt ≡ attempt (parcel_channel q) past + 1).
    ⊎_elim
    (λ (same : sequence (parcel_channel q) (past ++ x ∷ []) ≡ sequence (parcel_channel q) past). (
      of.message q.message (seq ∙ current.seq ∙ same) (moves.same_message q.message same current.message),
      omega (arith, again, of.attempt (seq ∙ current.seq ∙ same)),
    ))
    (λ (up : sequence (parcel_channel q) (past ++ x ∷ []) ≡ sequence (parcel_channel q) past + 1). absurd (omega (arith, up, seq, of.seq, current.seq)))
    moves.up)
    (is_new layout past x may q now)
  where
    of : IsOf (sender (parcel_channel q) past) p
    of = subst (λ (c : Channel). IsOf (sender c past) p) on (known p before)

    current : IsCurrent (sender (parcel_channel q) (past ++ x ∷ [])) q
    current = new_parcel layout past x may q now

    moves : SenderMoves (sender (parcel_channel q) past) (sender (parcel_channel q) (past ++ x ∷ []))
    moves = sender_moves layout (parcel_channel q) past x may

alike_more : (layout : Layout) (past : List Entry) (x : Entry) → ParcelsAreOf past → Alike past → MayFollow layout past x → Alike (past ++ x ∷ [])
alike_more layout past x known alike may p q hp hq on seq =
    ⊎_elim
    (λ (p_before : EmittedIn (Packets.Parcel p) past).
    ⊎_elim
    (λ (q_before : EmittedIn (Packets.Parcel q) past). alike p q p_before q_before on seq)
    (λ (q_now : emitted_of x ≡ Some (Packets.Parcel q)). (with_old layout past x may known p q p_before q_now on seq).0)
    (emitted_more (Packets.Parcel q) past x hq))
    (λ (p_now : emitted_of x ≡ Some (Packets.Parcel p)).
    ⊎_elim
    (λ (q_before : EmittedIn (Packets.Parcel q) past). sym (with_old layout past x may known q p q_before p_now (sym on) (sym seq)).0)
    (λ (q_now : emitted_of x ≡ Some (Packets.Parcel q)).
    let both : Some (Packets.Parcel p) ≡ Some (Packets.Parcel q) = sym p_now ∙ q_now in
    let same : p ≡ q = cc in ap (λ (w : Parcel). w.message) same)
    (emitted_more (Packets.Parcel q) past x hq))
    (emitted_more (Packets.Parcel p) past x hp)

-- what stands at a place of a list with one more
get_push : {A : Type 0} (xs : List A) (w : Option A) (i : ℕ) (a : A) → slice_get (xs ++ cons_option w []) i ≡ Some a →
    (slice_get xs i ≡ Some a) ⊎ ((w ≡ Some a) × (i ≡ length xs))
get_push [] None i a e = absurd (cc)
get_push [] (Some b) zero a e = inr (e, refl)
get_push [] (Some b) (suc i) a e = absurd (cc)
get_push (x ∷ xs) w zero a e = inl e
get_push (x ∷ xs) w (suc i) a e = ⊎_elim (λ (old : slice_get xs i ≡ Some a). inl old) (λ (new : (w ≡ Some a) × (i ≡ length xs)). inr (new.0, ap suc new.1))
    (get_push xs w i a e)

-- a parcel that stands at a place went out before, or goes out now and stands last
sent_before : (past : List Entry) (x : Entry) (i : ℕ) (q : Parcel) → IsSentAfter (past ++ x ∷ []) i q →
    IsSentAfter past i q ⊎ ((emitted_of x ≡ Some (Packets.Parcel q)) × (i ≡ length (filter_map emitted_of past)))
sent_before past x i q h = get_push (filter_map emitted_of past) (emitted_of x) i (Packets.Parcel q)
    (subst (λ (ps : List Packet). slice_get ps i ≡ Some (Packets.Parcel q)) (filter_map-append emitted_of past (x ∷ [])) h)

-- of two parcels of one sequence the later one has the greater attempt
abbrev pub Rises : List Entry → Type 0
Rises past = (i j : ℕ) (p q : Parcel) → IsSentAfter past i p → IsSentAfter past j q → i < j → AreOfOneSequence p q → p.attempt < q.attempt

rises_more : (layout : Layout) (past : List Entry) (x : Entry) → ParcelsAreOf past → Rises past → MayFollow layout past x → Rises (past ++ x ∷ [])
rises_more layout past x known before may i j p q at_i at_j later one' =
    ⊎_elim
    (λ (p_before : IsSentAfter past i p).
    ⊎_elim
    (λ (q_before : IsSentAfter past j q). before i j p q p_before q_before later one')
    (λ (q_now : (emitted_of x ≡ Some (Packets.Parcel q)) × (j ≡ length (filter_map emitted_of past))).
    (with_old layout past x may known p q (gave_emitted (Packets.Parcel p) past (i, p_before)) q_now.0 one'.0 one'.1).1)
    (sent_before past x j q at_j))
    (λ (p_now : (emitted_of x ≡ Some (Packets.Parcel p)) × (i ≡ length (filter_map emitted_of past))). absurd (omega (arith, p_now.1, later, last)))
    (sent_before past x i p at_i)
  where
    last : j ≤ length (filter_map emitted_of past)
    last =
        ⊎_elim
        (λ (old : IsSentAfter past j q). omega (arith, slice_get_within (filter_map emitted_of past) j (Packets.Parcel q) old))
        (λ (new : (emitted_of x ≡ Some (Packets.Parcel q)) × (j ≡ length (filter_map emitted_of past))). omega (arith, new.1))
        (sent_before past x j q at_j)

-- a mark that is not the opening one is of a parcel
pub record IsOfParcel (past : List Entry) (c : Channel) : Type 0 where
  pub by : Parcel
  pub emitted : EmittedIn (Packets.Parcel by) past
  pub on : parcel_channel by ≡ other_end c
  pub seq : (mark c past).seq ≡ by.seq
  pub attempt : (mark c past).attempt ≡ by.attempt

abbrev pub opening_mark : Mark
opening_mark = record { seq = 0; attempt = 0; verdict = Verdicts.Refused NoRequest }

abbrev pub MarksOfParcels : List Entry → Type 0
MarksOfParcels past = (c : Channel) → mark c past ≢ opening_mark → IsOfParcel past c

marked_more : (layout : Layout) (past : List Entry) (x : Entry) → MarksOfParcels past → MayFollow layout past x → MarksOfParcels (past ++ x ∷ [])
marked_more layout past x known may c apart =
    ⊎_elim
    (λ (same : mark c (past ++ x ∷ []) ≡ mark c past).
    let k = known c (λ h. apart (same ∙ h)) in
    record {
      by = k.by;
      emitted = emitted_later (Packets.Parcel k.by) past x k.emitted;
      on = k.on;
      seq = ap (λ (m : Mark). m.seq) same ∙ k.seq;
      attempt = ap (λ (m : Mark). m.attempt) same ∙ k.attempt;
    })
    (λ (d : Decides past (mark c past) (mark c (past ++ x ∷ [])) c). record {
      by = d.by;
      emitted = emitted_later (Packets.Parcel d.by) past x d.emitted;
      on = d.on;
      seq = d.seq;
      attempt = d.attempt;
    })
    (mark_moves layout c past x may)

pub record Sendings (past : List Entry) : Type 0 where
  pub channels : ChannelsKept past
  pub alike : Alike past
  pub rises : Rises past
  pub marks : MarksOfParcels past

pub sendings : (layout : Layout) (past : List Entry) → IsHistory layout past → Sendings past
sendings layout past h =
    over_each (MayFollow layout) Sendings
    (λ xs x k may. record {
      channels = channels_more layout xs x k.channels may;
      alike = alike_more layout xs x k.channels.parcels k.alike may;
      rises = rises_more layout xs x k.channels.parcels k.rises may;
      marks = marked_more layout xs x k.marks may;
    })
    [] past (record {
      channels = channels_begin;
      alike = λ p q hp hq on seq. absurd hp;
      rises = λ i j p q at_i. absurd (cc);
      marks = λ c apart. absurd (apart refl);
    }) h

-- the second part: parcels fit the sender
pub parcels_fit : (layout : Layout) (past : List Entry) → IsHistory layout past → ParcelsFitSender past
parcels_fit layout past h =
    record {
      seq = λ q g. (k.channels.parcels q (gave_emitted (Packets.Parcel q) past g)).seq;
      attempt = λ q g e. (k.channels.parcels q (gave_emitted (Packets.Parcel q) past g)).attempt e;
      message = λ p q gp gq one'. k.alike p q (gave_emitted (Packets.Parcel p) past gp) (gave_emitted (Packets.Parcel q) past gq) one'.0 one'.1;
      rises = k.rises;
    }
  where
    k : Sendings past
    k = sendings layout past h

-- the third part: a mark is of a parcel
pub mark_of : (layout : Layout) (past : List Entry) → IsHistory layout past → MarkIsOfParcel past
mark_of layout past h c apart =
    let m = (sendings layout past h).marks c apart in
    record { parcel = m.by; sent = emitted_gave (Packets.Parcel m.by) past m.emitted; on = m.on; seq = m.seq; attempt = m.attempt }

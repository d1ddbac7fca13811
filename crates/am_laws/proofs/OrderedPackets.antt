-- On the packet network each serial is put at most once, and only when accepted.
use Rattle.am_model.proofs.Books.{role_push, not_touched}
use Rattle.am_laws.proofs.Effects.{Effect, Keeps, Binds, Refuses, Ends, IsBoundTo, IsFreedAt, IsRefusal, effect}
use Rattle.am_laws.proofs.Marks.{ChannelsKept, channels_more, channels_begin}
use Rattle.am_model.proofs.Names.{same_serial-is, same_serial-refl, same_end-refl, same_end-is}
use Rattle.am_model.proofs.Queues.{to_send, called_sends, front_leaves, paged_out_sends, paged_in_sends}
use Rattle.am_model.proofs.Received.{bit, one_touched}
use Rattle.am_laws.proofs.Senders.{sender}
use Rattle.am_laws.proofs.Waiting.{requeued_in, bound_at, FitsPacket, IsFront, packet_sends, weight_serial, flight_sends, flight_weight, bound_sends}
use Rattle.am_laws.proofs.Waiting.{expired_sends}
use Rattle.am_model.specs.Changes.{changed, flying_of, received, without_flight}
use Rattle.am_model.specs.Channels.{Channel, bound_message, attempt, sent_message}
use Rattle.am_model.specs.Endpoint.{State, front, is_resident}
use Rattle.am_office_entries.specs.Entries.{accepted_by, ends_touched, accepted_in, put_of, touched_by_result, touches, accepted_of, passes}
use Rattle.am_model.specs.History.{channel_by, state_of, MayFollow, outcome_of, bind, bind_to, channel_for, failing, IsHistory, is_home}
use Rattle.am_model.specs.Layout.{Layout, home, EndSetting, has_id, opening_by}
use Rattle.am_names.specs.Names.{has_serial, same_serial, same_end}
use Rattle.am_model.specs.Choice.{first_holding}
use Rattle.am_model.specs.PostOffice.{times}
use Rattle.am_model.specs.declared.Flying.{Flying}
use Rattle.am_model.specs.declared.Queued.{Queued}
use Rattle.am_names.specs.declared.AnswerPacket.{AnswerPacket}
use Rattle.am_names.specs.declared.Cause.TheVariants.{NotResident}
use Rattle.am_names.specs.declared.Cause.{Cause}
use Rattle.am_names.specs.declared.EndpointId.{EndpointId}
use Rattle.am_names.specs.declared.Message.{Message}
use Rattle.am_names.specs.declared.NodeId.{NodeId}
use Rattle.am_names.specs.declared.Serial.{Serial}
use Rattle.am_office_entries.specs.declared.Entry.{Entry}
use Rattle.am_office_entries.specs.declared.Event.{Event}
use Rattle.am_office_entries.specs.declared.Outcome.{Outcome}
use Rattle.am_office_entries.specs.declared.Received.{Received}
use Rattle.std.specs.List.{list_any, find}
use Rattle.std.specs.Prelude.{not, is_none}
use Rattle.std.proofs.Common.{◌≡◌, ◌≢◌, ◌⊎◌, ⊎_elim, ℕ, ◌+◌, ◌≤◌, Bool, true, false, cond, ◌||◌, List, [], ◌∷◌, ◌++◌, Option, Some, None, refl, sym, ap, ◌∙◌}
use Rattle.std.proofs.Common.{subst, arith, true≢false}
use Rattle.am_office_entries.specs.declared.Condition.{Condition}
use Rattle.am_model.proofs.Each.{state_of_push, over_each}
use Rattle.am_laws.proofs.Once.{SerialsOnce, accepted_once_more, opening_counted}
use Rattle.am_model.proofs.Counts.{HasSerial, Accepts, accepts_next}
use Rattle.am_laws.proofs.Situations.{Situation, Waits, keeps_on, binds_other, binds_this, frees_other, ends_this, refuses_this}
use Rattle.am_office_entries.specs.declared.Event.TheVariants as Events
use Rattle.am_office_entries.specs.declared.Outcome.TheVariants as Out
use Rattle.am_office_entries.specs.declared.Received.TheVariants as Got
use Rattle.am_office_entries.specs.declared.Condition.TheVariants as Needs
use Rattle.am_model.proofs.Chosen.{flying_of-has_serial}

-- whether a message is of another source
abbrev pub is_foreign : EndpointId → Message → Bool
is_foreign e m = not (same_end e m.serial.source)

-- what a list of conditions says where none of them holds
pub last_fails : (a b c d e f : Bool) (u v w x y z : Condition) → first_holding ((a, u) ∷ (b, v) ∷ (c, w) ∷ (d, x) ∷ (e, y) ∷ (f, z) ∷ []) ≡ None →
    (e ≡ false) × (f ≡ false)
last_fails true b c d e f u v w x y z h = absurd (cc)
last_fails false true c d e f u v w x y z h = absurd (cc)
last_fails false false true d e f u v w x y z h = absurd (cc)
last_fails false false false true e f u v w x y z h = absurd (cc)
last_fails false false false false true f u v w x y z h = absurd (cc)
last_fails false false false false false true u v w x y z h = absurd (cc)
last_fails false false false false false false u v w x y z h = (refl, refl)

pub bind_sent : (layout : Layout) (past : List Entry) (node : NodeId) (q : Queued) (peer : Option NodeId) (channel : Option ℕ) →
    channel ≡ channel_by layout node past peer → is_none channel ≡ false → sent_message (bind_to node past q peer channel) ≡ Some q.message
bind_sent layout past node q (Some peer) (Some channel) is there = refl
bind_sent layout past node q (Some peer) None is there = absurd (true≢false there)
bind_sent layout past node q None channel is there = let none : is_none channel ≡ true = ap is_none is in absurd (true≢false (sym none ∙ there))

pub bind_front : (layout : Layout) (past : List Entry) (node : NodeId) (s : State) (f : Option Queued) → front s ≡ f → is_none f ≡ false →
    is_none (channel_for layout node past f) ≡ false → IsFront s (bind layout node past f)
bind_front layout past node s None at there free = absurd (true≢false there)
bind_front layout past node s (Some q) at there free =
    record { queued = q; is_front = at; is_sent = bind_sent layout past node q (home layout q.message.dest) (channel_for layout node past (Some q)) refl free }

-- on the packet network
fits_packet : (layout : Layout) → layout.direct ≡ false → (past : List Entry) (e : EndpointId) (x : Entry) → MayFollow layout past x → touches e x ≡ true →
    FitsPacket (state_of layout past e) x.event x.outcome
fits_packet layout packet past e x may at = by_event x.event x.outcome may.enabled may.outcome at
  where
    off : (t : Bool) (rest : Option Condition) → t ≡ false → cond (not t) (Some Needs.NotDirect) rest ≡ None → ⊥
    off true rest h f = true≢false h
    off false rest h f = cc

    by_event : (event : Event) (o : Outcome) → failing layout past event ≡ None → o ≡ outcome_of layout past event →
        list_any (same_end e) (ends_touched event o) ≡ true → FitsPacket (state_of layout past e) event o
    by_event (Events.Carry end) o on is t = off layout.direct _ packet on
    by_event (Events.Bind node end) o on is t =
        let same : end ≡ e = sym (same_end-is e end (one_touched (same_end e end) t)) in
        let no' = last_fails layout.direct (not (is_home layout end node)) (not (is_resident (state_of layout past end).head.place))
        (state_of layout past end).head.draining (is_none (front (state_of layout past end)))
        (is_none (channel_for layout node past (front (state_of layout past end)))) Needs.NotPacket Needs.OtherNode Needs.NotResident Needs.Draining
        Needs.NoMessage Needs.NoChannel on in
        subst (λ (v : Outcome). IsFront (state_of layout past e) v) (sym is)
        (bind_front layout past node (state_of layout past e) (front (state_of layout past end))
        (ap (λ (w : EndpointId). front (state_of layout past w)) (sym same)) no'.0 no'.1)
    by_event (Events.Call actor end call) o on is t = tt
    by_event (Events.Want actor end) o on is t = tt
    by_event (Events.Expire node peer channel) o on is t = tt
    by_event (Events.Receive node peer number) o on is t = tt
    by_event (Events.Drain node end) o on is t = tt
    by_event (Events.Unload node end) o on is t = tt
    by_event (Events.Load node end frame) o on is t = tt
    by_event (Events.PageOut node end) o on is t = tt
    by_event (Events.PageIn node end) o on is t = tt

pub not_carry : (layout : Layout) → layout.direct ≡ false → (past : List Entry) (event : Event) → failing layout past event ≡ None → (end : EndpointId) →
    event ≢ Events.Carry end
not_carry layout packet past event on end is = off layout.direct _ packet (subst (λ (v : Event). failing layout past v ≡ None) is on)
  where
    off : (t : Bool) (rest : Option Condition) → t ≡ false → cond (not t) (Some Needs.NotDirect) rest ≡ None → ⊥
    off true rest h f = true≢false h
    off false rest h f = cc

-- an endpoint has only messages of its own to send
foreign_received : (e : EndpointId) (s : State) (r : Received) → list_any (same_end e) (touched_by_result r) ≡ true →
    to_send (is_foreign e) (received e s r).body ≡ to_send (is_foreign e) s.body
foreign_received e s (Got.Accepted m answer) t = refl
foreign_received e s (Got.Refused m NotResident answer) t = refl
foreign_received e s (Got.Delivered serial) t = refl
foreign_received e s (Got.Requeued serial cause used) t =
    omega (
      arith,
      flight_sends (is_foreign e) used (without_flight serial s.body) (flying_of serial s.body.in_flight),
      by_flight (flying_of serial s.body.in_flight) refl,
    )
  where
    by_flight : (f : Option Flying) → flying_of serial s.body.in_flight ≡ f → flight_weight (is_foreign e) f ≡ 0
    by_flight None is = refl
    by_flight (Some g) is =
        let same : serial ≡ g.message.serial = same_serial-is serial g.message.serial (flying_of-has_serial serial s.body.in_flight g is) in
        ap (λ (w : Serial). bit (not (same_end e w.source))) (sym same) ∙ ap (λ (b : Bool). bit (not b)) (one_touched (same_end e serial.source) t)
foreign_received e s (Got.Returned serial cause) t = refl
foreign_received e s r t = refl

foreign_accepted : (e end : EndpointId) (count : ℕ) (m : Option Message) → same_end e end ≡ true → HasSerial (record { source = end; count = count }) m →
    bit (passes (is_foreign e) m) ≡ 0
foreign_accepted e end count None at h = refl
foreign_accepted e end count (Some m) at h = ap (λ (w : Serial). bit (not (same_end e w.source))) h ∙ ap (λ (b : Bool). bit (not b)) at

foreign_touched : (layout : Layout) (past : List Entry) (e : EndpointId) (event : Event) (o : Outcome) → Accepts layout past event o →
    list_any (same_end e) (ends_touched event o) ≡ true → FitsPacket (state_of layout past e) event o →
    to_send (is_foreign e) (state_of layout past e).body ≡ 0 → to_send (is_foreign e) (changed e (state_of layout past e) event o).body ≡ 0
foreign_touched layout past e (Events.Call actor end call) o next t fits none =
    omega (
      arith,
      none,
      called_sends (is_foreign e) (state_of layout past e) call o,
      foreign_accepted e end ((state_of layout past end).body.accepted + 1) (accepted_by call o) (one_touched (same_end e end) t) next,
    )
foreign_touched layout past e (Events.Want actor end) o next t fits none = none
foreign_touched layout past e (Events.Carry end) o next t fits none = absurd fits
foreign_touched layout past e (Events.Bind node end) o next t fits none = omega (
  arith,
  none,
  bound_sends (is_foreign e) (state_of layout past e) o (sent_message o) refl fits,
)
foreign_touched layout past e (Events.Expire node peer channel) o next t fits none = omega (
  arith,
  none,
  expired_sends (is_foreign e) (state_of layout past e) o,
)
foreign_touched layout past e (Events.Receive node peer number) (Out.Received channel seq attempt r) next t fits none =
    foreign_received e (state_of layout past e) r t ∙ none
foreign_touched layout past e (Events.Receive node peer number) o next t fits none = none
foreign_touched layout past e (Events.Drain node end) o next t fits none = none
foreign_touched layout past e (Events.Unload node end) o next t fits none = none
foreign_touched layout past e (Events.Load node end frame) o next t fits none = none
foreign_touched layout past e (Events.PageOut node end) o next t fits none = omega (arith, none, paged_out_sends (is_foreign e) (state_of layout past e) o)
foreign_touched layout past e (Events.PageIn node end) o next t fits none = omega (arith, none, paged_in_sends (is_foreign e) (state_of layout past e) o)

abbrev pub NoneForeign : Layout → List Entry → Type 0
NoneForeign layout past = (e : EndpointId) → to_send (is_foreign e) (state_of layout past e).body ≡ 0

foreign_more : (layout : Layout) → layout.direct ≡ false → (past : List Entry) (x : Entry) → NoneForeign layout past → MayFollow layout past x →
    NoneForeign layout (past ++ x ∷ [])
foreign_more layout packet past x none may = λ e. by_test e (touches e x) refl
  where
    by_test : (e : EndpointId) (t : Bool) → touches e x ≡ t → to_send (is_foreign e) (state_of layout (past ++ x ∷ []) e).body ≡ 0
    by_test e true at = rw (state_of_push layout past x e true at) (foreign_touched layout past e x.event x.outcome
        (accepts_next layout past x.event x.outcome may.outcome) at (fits_packet layout packet past e x may at) (none e))
    by_test e false at = rw (state_of_push layout past x e false at) (none e)

-- what is bound at an endpoint is its own
pub bound_own : (layout : Layout) → layout.direct ≡ false → (past : List Entry) (x : Entry) → NoneForeign layout past → MayFollow layout past x → (s : Serial) →
    touches s.source x ≡ false → bit (passes (has_serial s) (bound_at x.event x.outcome)) ≡ 0
bound_own layout packet past x none may s off = by_event x.event x.outcome off (λ e at. fits_packet layout packet past e x may at)
  where
    by_front : (end : EndpointId) (o : Outcome) → same_end s.source end ≡ false → IsFront (state_of layout past end) o →
        bit (passes (has_serial s) (sent_message o)) ≡ 0
    by_front end o apart f = rw f.is_sent (by_test (same_serial s f.queued.message.serial) refl)
      where
        mine : (b : Bool) → bit (not b) ≡ 0 → b ≡ true
        mine true h = refl
        mine false h = absurd (omega arith)

        by_test : (t : Bool) → same_serial s f.queued.message.serial ≡ t → bit t ≡ 0
        by_test false h = refl
        by_test true h =
            let is : s ≡ f.queued.message.serial = same_serial-is s f.queued.message.serial h in
            let own : same_end end f.queued.message.serial.source ≡ true =
            mine (same_end end f.queued.message.serial.source)
            (omega (arith, front_leaves (is_foreign end) (state_of layout past end) f.queued f.is_front, none end)) in
            let there : end ≡ f.queued.message.serial.source = same_end-is end f.queued.message.serial.source own in
            let here : s.source ≡ end = ap (λ (w : Serial). w.source) is ∙ sym there in
            absurd (true≢false (sym (same_end-refl end) ∙ (subst (λ (w : EndpointId). same_end w end ≡ false) here apart)))

    by_event : (event : Event) (o : Outcome) → list_any (same_end s.source) (ends_touched event o) ≡ false →
        ((e : EndpointId) → list_any (same_end e) (ends_touched event o) ≡ true → FitsPacket (state_of layout past e) event o) →
        bit (passes (has_serial s) (bound_at event o)) ≡ 0
    by_event (Events.Bind node end) o t fits = by_front end o (not_touched (same_end s.source end) t)
        (fits end (ap (λ (b : Bool). b || false) (same_end-refl end)))
    by_event event o t fits = refl

-- how many messages of the serial are to be sent
abbrev pub waiting : Layout → List Entry → Serial → ℕ
waiting layout past s = to_send (has_serial s) (state_of layout past s.source).body

pub waiting_more : (layout : Layout) → layout.direct ≡ false → (past : List Entry) (x : Entry) → NoneForeign layout past → MayFollow layout past x →
    (s : Serial) → waiting layout (past ++ x ∷ []) s + bit (passes (has_serial s) (bound_at x.event x.outcome)) ≤ waiting layout past s + bit
    (passes (has_serial s) (accepted_of x)) + weight_serial s (requeued_in x.event x.outcome)
waiting_more layout packet past x none may s = by_test (touches s.source x) refl
  where
    by_test : (t : Bool) → touches s.source x ≡ t → waiting layout (past ++ x ∷ []) s + bit (passes (has_serial s) (bound_at x.event x.outcome)) ≤ waiting
        layout past s + bit (passes (has_serial s) (accepted_of x)) + weight_serial s (requeued_in x.event x.outcome)
    by_test true at = rw (state_of_push layout past x s.source true at) (packet_sends s s.source (state_of layout past s.source) x.event x.outcome at
        (fits_packet layout packet past s.source x may at))
    by_test false at = rw (state_of_push layout past x s.source false at) (omega (arith, bound_own layout packet past x none may s at))

abbrev pub accepted_times : List Entry → Serial → ℕ
accepted_times past s = times accepted_of (has_serial s) past

-- what is kept on the packet network
pub record KeptPackets (layout : Layout) (past : List Entry) : Type 0 where
  pub accepted : SerialsOnce layout past
  pub channels : ChannelsKept past
  pub none_foreign : NoneForeign layout past
  pub stands : (s : Serial) → Situation s past (waiting layout past s) (accepted_times past s)

situation_more : (layout : Layout) → layout.direct ≡ false → (past : List Entry) (x : Entry) → KeptPackets layout past → MayFollow layout past x →
    (s : Serial) → Situation s (past ++ x ∷ []) (waiting layout (past ++ x ∷ []) s) (accepted_times (past ++ x ∷ []) s)
situation_more layout packet past x k may s = by_effect (effect layout past x may)
  where
    w' : ℕ
    w' = waiting layout (past ++ x ∷ []) s

    after' : SerialsOnce layout (past ++ x ∷ [])
    after' = accepted_once_more layout past x k.accepted may

    count : accepted_times (past ++ x ∷ []) s ≡ accepted_times past s + bit (passes (has_serial s) (accepted_of x))
    count = role_push accepted_in (has_serial s) past x

    more : waiting layout (past ++ x ∷ []) s + bit (passes (has_serial s) (bound_at x.event x.outcome)) ≤ waiting layout past s + bit
        (passes (has_serial s) (accepted_of x)) + weight_serial s (requeued_in x.event x.outcome)
    more = waiting_more layout packet past x k.none_foreign may s

    top : accepted_times (past ++ x ∷ []) s ≤ 1
    top = after'.once s

    no_bound : bound_at x.event x.outcome ≡ None → bit (passes (has_serial s) (bound_at x.event x.outcome)) ≡ 0
    no_bound h = ap (λ (m : Option Message). bit (passes (has_serial s) m)) h

    no_requeue : requeued_in x.event x.outcome ≡ None → weight_serial s (requeued_in x.event x.outcome) ≡ 0
    no_requeue h = ap (weight_serial s) h

    one_requeue : (m : Message) → (requeued_in x.event x.outcome ≡ None) ⊎ (requeued_in x.event x.outcome ≡ Some m.serial) → (t : Bool) →
        same_serial s m.serial ≡ t → weight_serial s (requeued_in x.event x.outcome) ≤ bit t
    one_requeue m h t is = ⊎_elim (λ (none : requeued_in x.event x.outcome ≡ None). omega (arith, no_requeue none))
        (λ (some : requeued_in x.event x.outcome ≡ Some m.serial). omega (arith, ap (weight_serial s) some, ap bit is)) h

    other : (m : Message) → same_serial s m.serial ≡ false → m.serial ≢ s
    other m f = λ is. true≢false (sym (same_serial-refl s) ∙ (ap (same_serial s) (sym is) ∙ f))

    by_bind : (at : Channel) (m : Message) → bound_at x.event x.outcome ≡ Some m → bound_message at past ≡ None →
        ((c : Channel) → IsBoundTo at m c (sender c past) (sender c (past ++ x ∷ []))) → put_of x ≡ None → requeued_in x.event x.outcome ≡ None → (t : Bool) →
        same_serial s m.serial ≡ t → Situation s (past ++ x ∷ []) (waiting layout (past ++ x ∷ []) s) (accepted_times (past ++ x ∷ []) s)
    by_bind at m is free binds still again true t =
        let one : bit (passes (has_serial s) (bound_at x.event x.outcome)) ≡ 1 = ap (λ (n : Option Message). bit (passes (has_serial s) n)) is ∙ ap bit t in
        binds_this layout past x may s (waiting layout past s) (accepted_times past s) (waiting layout (past ++ x ∷ []) s) (accepted_times (past ++ x ∷ []) s)
        at m binds still (sym (same_serial-is s m.serial t)) (k.stands s)
        (omega (arith, more, count, one, no_requeue again)) (omega (arith, count)) top
    by_bind at m is free binds still again false t =
        binds_other layout past x may k.channels s (waiting layout past s) (accepted_times past s) (waiting layout (past ++ x ∷ []) s)
        (accepted_times (past ++ x ∷ []) s) at m free binds still (other m t) (k.stands s)
        (omega (arith, more, count, no_requeue again)) (omega (arith, count)) top

    by_end : (at : Channel) (m : Message) → bound_message at past ≡ Some m → ((c : Channel) → IsFreedAt at c (sender c past) (sender c (past ++ x ∷ []))) →
        put_of x ≡ None → bound_at x.event x.outcome ≡ None → requeued_in x.event x.outcome ≡ None → (t : Bool) → same_serial s m.serial ≡ t →
        Situation s (past ++ x ∷ []) (waiting layout (past ++ x ∷ []) s) (accepted_times (past ++ x ∷ []) s)
    by_end at m held frees still no' again true t =
        ends_this layout past x may k.channels s (waiting layout past s) (accepted_times past s) (waiting layout (past ++ x ∷ []) s)
        (accepted_times (past ++ x ∷ []) s) at m held frees still (sym (same_serial-is s m.serial t)) (k.stands s)
        (omega (arith, more, count, no_requeue again)) (omega (arith, count)) top
    by_end at m held frees still no' again false t =
        frees_other layout past x may k.channels s (waiting layout past s) (accepted_times past s) (waiting layout (past ++ x ∷ []) s)
        (accepted_times (past ++ x ∷ []) s) at m held frees still (other m t) (k.stands s)
        (omega (arith, more, count, no_requeue again)) (omega (arith, count)) top

    by_refusal : (at : Channel) (m : Message) → bound_message at past ≡ Some m → ((c : Channel) → IsFreedAt at c (sender c past) (sender c (past ++ x ∷ []))) →
        (a : AnswerPacket) (cause : Cause) → IsRefusal past at a cause → put_of x ≡ None → bound_at x.event x.outcome ≡ None →
        (requeued_in x.event x.outcome ≡ None) ⊎ (requeued_in x.event x.outcome ≡ Some m.serial) → (t : Bool) → same_serial s m.serial ≡ t →
        Situation s (past ++ x ∷ []) (waiting layout (past ++ x ∷ []) s) (accepted_times (past ++ x ∷ []) s)
    by_refusal at m held frees a cause r still no' again true t =
        refuses_this layout past x may k.channels s (waiting layout past s) (accepted_times past s) (waiting layout (past ++ x ∷ []) s)
        (accepted_times (past ++ x ∷ []) s) at m held frees a cause r still (sym (same_serial-is s m.serial t)) (k.stands s)
        (omega (arith, more, count, one_requeue m again true t)) (omega (arith, count)) top
    by_refusal at m held frees a cause r still no' again false t =
        frees_other layout past x may k.channels s (waiting layout past s) (accepted_times past s) (waiting layout (past ++ x ∷ []) s)
        (accepted_times (past ++ x ∷ []) s) at m held frees still (other m t) (k.stands s)
        (omega (arith, more, count, one_requeue m again false t)) (omega (arith, count)) top

    by_effect : Effect past x.event x.outcome (λ c. sender c (past ++ x ∷ [])) →
        Situation s (past ++ x ∷ []) (waiting layout (past ++ x ∷ []) s) (accepted_times (past ++ x ∷ []) s)
    by_effect (Keeps same no' again lands) =
        keeps_on layout past x may (not_carry layout packet past x.event may.enabled) k.channels s (waiting layout past s) (accepted_times past s)
        (waiting layout (past ++ x ∷ []) s) (accepted_times (past ++ x ∷ []) s) same (k.stands s)
        (omega (arith, more, count, no_requeue again)) (omega (arith, count)) top
    by_effect (Binds at m is free binds still again lands) = by_bind at m is free binds still again (same_serial s m.serial) refl
    by_effect (Refuses at m held frees a cause r still no' again lands) = by_refusal at m held frees a cause r still no' again (same_serial s m.serial) refl
    by_effect (Ends at m held frees still no' again lands kept) = by_end at m held frees still no' again (same_serial s m.serial) refl

pub packets_more : (layout : Layout) → layout.direct ≡ false → (past : List Entry) (x : Entry) → KeptPackets layout past → MayFollow layout past x →
    KeptPackets layout (past ++ x ∷ [])
packets_more layout packet past x k may =
    record {
      accepted = accepted_once_more layout past x k.accepted may;
      channels = channels_more layout past x k.channels may;
      none_foreign = foreign_more layout packet past x k.none_foreign may;
      stands = λ s. situation_more layout packet past x k may s;
    }

pub packets_begin : (layout : Layout) → KeptPackets layout []
packets_begin layout =
    record {
      accepted = opening_counted layout;
      channels = channels_begin;
      none_foreign = λ e. none (is_foreign e) (find (has_id e) layout.ends);
      stands = λ s. Waits refl (λ q h. absurd h) (λ c m h. absurd (cc)) (omega (arith, none (has_serial s) (find (has_id s.source) layout.ends)));
    }
  where
    none : (p : Message → Bool) (setting : Option EndSetting) → to_send p (opening_by layout setting).body ≡ 0
    none p None = refl
    none p (Some setting) = refl

pub kept_packets : (layout : Layout) → layout.direct ≡ false → (past : List Entry) → IsHistory layout past → KeptPackets layout past
kept_packets layout packet past h = over_each (MayFollow layout) (λ xs. KeptPackets layout xs) (λ xs x k may. packets_more layout packet xs x k may) [] past
    (packets_begin layout) h

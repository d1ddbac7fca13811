-- A message that is bound to a channel is in flight at its source.
use Rattle.std.proofs.Common.{◌≡◌, ◌≢◌, ⊎_elim, ℕ, ◌+◌, ◌≤◌, Bool, true, false, cond, List, [], ◌∷◌, ◌++◌, Option, Some, None, refl, sym, ap, ◌∙◌, subst, arith}
use Rattle.std.proofs.Common.{if◌then◌else◌}
use Rattle.std.proofs.lemmas.List.Sums.{sum_by_push, sum_by-cons}
use Rattle.am_names.specs.declared.EndpointId.{EndpointId}
use Rattle.am_names.specs.declared.Serial.{Serial}
use Rattle.am_names.specs.declared.NodeId.{NodeId}
use Rattle.am_names.specs.declared.Message.{Message}
use Rattle.am_names.specs.declared.Cause.TheVariants.{NotResident}
use Rattle.am_office_entries.specs.declared.Call.{Call}
use Rattle.am_office_entries.specs.declared.Call.TheVariants as Calls
use Rattle.am_office_entries.specs.declared.Event.{Event}
use Rattle.am_office_entries.specs.declared.Event.TheVariants as Events
use Rattle.am_office_entries.specs.declared.Received.{Received}
use Rattle.am_office_entries.specs.declared.Received.TheVariants as Got
use Rattle.am_office_entries.specs.declared.Outcome.{Outcome}
use Rattle.am_office_entries.specs.declared.Outcome.TheVariants as Out
use Rattle.am_office_entries.specs.declared.Entry.{Entry}
use Rattle.am_names.specs.Names.{same_end, same_serial, has_serial}
use Rattle.am_model.specs.declared.Flying.{Flying}
use Rattle.am_model.specs.Endpoint.{State, Body}
use Rattle.am_model.specs.Changes.{bounces_of, called, left, reached, paged_out, paged_in, changed, put, received, expired, bound, flying_of, without_flight}
use Rattle.am_model.specs.Changes.{settled_by, settled_in}
use Rattle.am_office_entries.specs.Entries.{touches, passes}
use Rattle.am_model.specs.Layout.{Layout}
use Rattle.am_model.specs.History.{state_of, MayFollow, IsHistory}
use Rattle.am_model.specs.Channels.{Channel, bound_message, sent_message}
use Rattle.am_model.proofs.Each.{over_each, state_of_push}
use Rattle.am_model.proofs.Names.{same_serial-is, same_serial-refl}
use Rattle.am_model.proofs.Received.{bit}
use Rattle.am_model.proofs.Books.{fits_direct}
use Rattle.am_model.proofs.Queues.{FitsDirect}
use Rattle.am_model.proofs.Chosen.{flying_of-has_serial}
use Rattle.am_laws.proofs.Senders.{sender}
use Rattle.am_laws.proofs.Waiting.{weight_serial, bound_at}
use Rattle.am_laws.proofs.Effects.{Effect, Keeps, Binds, Refuses, Ends, IsSame, IsFreedAt, effect}
use Rattle.am_laws.proofs.Situations.{Situation, Waits, Flies, Ended}
use Rattle.am_laws.proofs.OrderedPackets.{KeptPackets, packets_more, packets_begin, bound_own}
use Rattle.am_laws.proofs.Aloft.{Weight, flight_weight, one_weight, as_queued, marked_weighs, landed_weighs}

abbrev pub one : Serial → Weight
one s m bounces = bit (has_serial s m)

-- how many messages of the serial are in flight at its source
abbrev pub flown : Layout → List Entry → Serial → ℕ
flown layout past s = flight_weight (one s) (state_of layout past s.source).body.in_flight

pub found_one : (s t : Serial) (flying : List Flying) (f : Flying) → flying_of t flying ≡ Some f → bit (has_serial s f.message) ≡ bit (same_serial s t)
found_one s t flying f is =
    let same : t ≡ f.message.serial = same_serial-is t f.message.serial (flying_of-has_serial t flying f is) in
    ap (λ (w : Serial). bit (same_serial s w)) (sym same)

found_le : (s t : Serial) (flying : List Flying) → one_weight (one s) (as_queued (flying_of t flying)) ≤ bit (same_serial s t)
found_le s t flying = by_flight (flying_of t flying) refl
  where
    by_flight : (f : Option Flying) → flying_of t flying ≡ f → one_weight (one s) (as_queued f) ≤ bit (same_serial s t)
    by_flight None is = omega arith
    by_flight (Some f) is = omega (arith, found_one s t flying f is)

landing : (s t : Serial) (b : Body) → flight_weight (one s) b.in_flight ≤ flight_weight (one s) (without_flight t b).in_flight + bit (same_serial s t)
landing s t b = omega (arith, landed_weighs (one s) t b.in_flight, found_le s t b.in_flight)

pub called_flown : (v : Weight) (s : State) (c : Call) (o : Outcome) → flight_weight v (called s c o).body.in_flight ≡ flight_weight v s.body.in_flight
called_flown v s (Calls.Request index handler words) (Out.Requested m) = refl
called_flown v s Calls.Poll (Out.Zero serial why) = refl
called_flown v s Calls.Poll (Out.Ran handler m None) = refl
called_flown v s Calls.Poll (Out.Ran handler m (Some reply)) = refl
called_flown v s (Calls.SetTag tag) Out.Done = refl
called_flown v s (Calls.Map index name tag credits) Out.Done = refl
called_flown v s (Calls.Unmap index) Out.Done = refl
called_flown v s (Calls.SetHandler index kind) Out.Done = refl
called_flown v s (Calls.GiveUp serial) Out.Done = refl
called_flown v s Calls.Close Out.Done = refl
called_flown v s c o = refl

pub left_flown : (v : Weight) (s : State) (o : Outcome) (at : Bool) →
    flight_weight v (if at then left s o else s).body.in_flight ≡ flight_weight v s.body.in_flight
left_flown v s (Out.Accepted m) true = refl
left_flown v s (Out.Requeued m cause bounces) true = refl
left_flown v s (Out.Returned m cause) true = refl
left_flown v s o true = refl
left_flown v s o false = refl

pub reached_flown : (v : Weight) (e : EndpointId) (s : State) (o : Outcome) → flight_weight v (reached e s o).body.in_flight ≡ flight_weight v s.body.in_flight
reached_flown v e s (Out.Accepted m) = by_test (same_end e m.dest)
  where
    by_test : (b : Bool) → flight_weight v (if b then put m s else s).body.in_flight ≡ flight_weight v s.body.in_flight
    by_test true = marked_weighs v m.about s.body.in_flight
    by_test false = refl
reached_flown v e s o = refl

received_flown : (s : Serial) (e : EndpointId) (st : State) (r : Received) →
    flight_weight (one s) st.body.in_flight ≤ flight_weight (one s) (received e st r).body.in_flight + weight_serial s (settled_by r)
received_flown s e st (Got.Accepted m answer) = omega (arith, marked_weighs (one s) m.about st.body.in_flight)
received_flown s e st (Got.Refused m NotResident answer) = omega arith
received_flown s e st (Got.Delivered serial) = landing s serial st.body
received_flown s e st (Got.Requeued serial cause bounces) = landing s serial st.body
received_flown s e st (Got.Returned serial cause) = landing s serial st.body
received_flown s e st r = omega arith

expired_flown : (s : Serial) (st : State) (node peer : NodeId) (channel : ℕ) (o : Outcome) →
    flight_weight (one s) st.body.in_flight ≤ flight_weight (one s) (expired st o).body.in_flight + weight_serial s
    (settled_in (Events.Expire node peer channel) o)
expired_flown s st node peer channel (Out.Delivered serial) = landing s serial st.body
expired_flown s st node peer channel (Out.Unknown serial) = landing s serial st.body
expired_flown s st node peer channel o = omega arith

bound_flown : (s : Serial) (st : State) (o : Outcome) → flight_weight (one s) st.body.in_flight + bit (passes (has_serial s) (sent_message o)) ≤ flight_weight
    (one s) (bound st o).body.in_flight
bound_flown s st (Out.Sent m peer channel seq attempt number) =
    omega (
      arith,
      sum_by_push (λ (g : Flying). one s g.message g.bounces) st.body.in_flight (record {
        message = m;
        bounces = bounces_of st.body.replies st.body.requests;
        answered = false;
      }),
    )
bound_flown s st o = omega arith

pub out_flown : (v : Weight) (s : State) (o : Outcome) → flight_weight v (paged_out s o).body.in_flight ≡ flight_weight v s.body.in_flight
out_flown v s Out.Done = refl
out_flown v s o = refl

pub in_flown : (v : Weight) (s : State) (o : Outcome) → flight_weight v (paged_in s o).body.in_flight ≡ flight_weight v s.body.in_flight
in_flown v s Out.Done = refl
in_flown v s o = refl

touched_flown : (s : Serial) (e : EndpointId) (st : State) (event : Event) (o : Outcome) →
    flight_weight (one s) st.body.in_flight + bit (passes (has_serial s) (bound_at event o)) ≤ flight_weight (one s) (changed e st event o).body.in_flight +
    weight_serial s (settled_in event o)
touched_flown s e st (Events.Call actor end call) o = omega (arith, called_flown (one s) st call o)
touched_flown s e st (Events.Want actor end) o = omega arith
touched_flown s e st (Events.Carry end) o = omega (
  arith,
  reached_flown (one s) e (if same_end e end then left st o else st) o,
  left_flown (one s) st o (same_end e end),
)
touched_flown s e st (Events.Bind node end) o = omega (arith, bound_flown s st o)
touched_flown s e st (Events.Expire node peer channel) o = omega (arith, expired_flown s st node peer channel o)
touched_flown s e st (Events.Receive node peer number) (Out.Received channel seq attempt r) = omega (arith, received_flown s e st r)
touched_flown s e st (Events.Receive node peer number) o = omega arith
touched_flown s e st (Events.Drain node end) o = omega arith
touched_flown s e st (Events.Unload node end) o = omega arith
touched_flown s e st (Events.Load node end frame) o = omega arith
touched_flown s e st (Events.PageOut node end) o = omega (arith, out_flown (one s) st o)
touched_flown s e st (Events.PageIn node end) o = omega (arith, in_flown (one s) st o)

flown_more : (layout : Layout) → layout.direct ≡ false → (past : List Entry) (x : Entry) → KeptPackets layout past → MayFollow layout past x → (s : Serial) →
    flown layout past s + bit (passes (has_serial s) (bound_at x.event x.outcome)) ≤ flown layout (past ++ x ∷ []) s + weight_serial s
    (settled_in x.event x.outcome)
flown_more layout packet past x k may s = by_test (touches s.source x) refl
  where
    by_test : (t : Bool) → touches s.source x ≡ t → flown layout past s + bit (passes (has_serial s) (bound_at x.event x.outcome)) ≤ flown layout
        (past ++ x ∷ []) s + weight_serial s (settled_in x.event x.outcome)
    by_test true at = rw (state_of_push layout past x s.source true at) (touched_flown s s.source (state_of layout past s.source) x.event x.outcome)
    by_test false at = rw (state_of_push layout past x s.source false at) (omega (arith, bound_own layout packet past x k.none_foreign may s at))

-- every bound message is in flight
abbrev pub IsFlown : Layout → List Entry → Type 0
IsFlown layout past = (c : Channel) (m : Message) → bound_message c past ≡ Some m → 1 ≤ flown layout past m.serial

-- no two channels have messages of one serial
pub one_channel : (s : Serial) (past : List Entry) (w n : ℕ) (c d : Channel) (m l : Message) → Situation s past w n → bound_message c past ≡ Some m →
    m.serial ≡ s → bound_message d past ≡ Some l → l.serial ≡ s → c ≡ d
one_channel s past w n c d m l (Waits none fresh unbound h) at is there also = absurd (unbound c m at is)
one_channel s past w n c d m l (Flies k f held of only on put w' n') at is there also = only c m at is ∙ sym (only d l there also)
one_channel s past w n c d m l (Ended k j unbound on put w' n') at is there also = absurd (unbound c m at is)

flown_next : (layout : Layout) → layout.direct ≡ false → (past : List Entry) (x : Entry) → KeptPackets layout past → IsFlown layout past →
    MayFollow layout past x → IsFlown layout (past ++ x ∷ [])
flown_next layout packet past x k f may = λ c m h. by_effect c m h (effect layout past x may)
  where
    more : (s : Serial) → flown layout past s + bit (passes (has_serial s) (bound_at x.event x.outcome)) ≤ flown layout (past ++ x ∷ []) s + weight_serial s
        (settled_in x.event x.outcome)
    more s = flown_more layout packet past x k may s

    stays : (s : Serial) → settled_in x.event x.outcome ≡ None → 1 ≤ flown layout past s → 1 ≤ flown layout (past ++ x ∷ []) s
    stays s lands before = omega (arith, more s, before, ap (weight_serial s) lands)

    by_free : (c : Channel) (m : Message) → bound_message c (past ++ x ∷ []) ≡ Some m → (at : Channel) (n : Message) → bound_message at past ≡ Some n →
        IsFreedAt at c (sender c past) (sender c (past ++ x ∷ [])) → settled_in x.event x.outcome ≡ Some n.serial → 1 ≤ flown layout (past ++ x ∷ []) m.serial
    by_free c m h at n held frees lands =
        ⊎_elim
        (λ (here : (c ≡ at) × ((sender c (past ++ x ∷ [])).seq ≡ (sender c past).seq) × (bound_message c (past ++ x ∷ []) ≡ None)).
        let both : None ≡ Some m = sym here.2 ∙ h in absurd (cc))
        (λ (away : (c ≢ at) × IsSame (sender c past) (sender c (past ++ x ∷ []))).
        let before : bound_message c past ≡ Some m = sym away.1.bound ∙ h in by_test (same_serial m.serial n.serial) refl away.0 before)
        frees
      where
        by_test : (t : Bool) → same_serial m.serial n.serial ≡ t → c ≢ at → bound_message c past ≡ Some m → 1 ≤ flown layout (past ++ x ∷ []) m.serial
        by_test true is apart before =
            let same : n.serial ≡ m.serial = sym (same_serial-is m.serial n.serial is) in
            absurd (apart (one_channel m.serial past _ _ c at m n (k.stands m.serial) before refl held same))
        by_test false is apart before =
            let none : weight_serial m.serial (settled_in x.event x.outcome) ≡ 0 = ap (weight_serial m.serial) lands ∙ ap bit is in
            omega (arith, more m.serial, f c m before, none)

    by_effect : (c : Channel) (m : Message) → bound_message c (past ++ x ∷ []) ≡ Some m → Effect past x.event x.outcome (λ d. sender d (past ++ x ∷ [])) →
        1 ≤ flown layout (past ++ x ∷ []) m.serial
    by_effect c m h (Keeps same no' again lands) = stays m.serial lands (f c m (sym (same c).bound ∙ h))
    by_effect c m h (Binds at n is free binds still again lands) =
        ⊎_elim
        (λ (here : (c ≡ at) × ((sender c (past ++ x ∷ [])).seq ≡ (sender c past).seq + 1) × (bound_message c (past ++ x ∷ []) ≡ Some n)).
        let both : Some n ≡ Some m = sym here.2 ∙ h in
        let same : n ≡ m = cc in
        let one' : bit (passes (has_serial m.serial) (bound_at x.event x.outcome)) ≡ 1 = ap (λ (w : Option Message). bit (passes (has_serial m.serial) w)) (is
        ∙ ap (λ (w : Message). Some w) same) ∙ ap bit (same_serial-refl m.serial) in
        omega (arith, more m.serial, one', ap (weight_serial m.serial) lands))
        (λ (away : (c ≢ at) × IsSame (sender c past) (sender c (past ++ x ∷ []))). stays m.serial lands (f c m (sym away.1.bound ∙ h)))
        (binds c)
    by_effect c m h (Refuses at n held frees a cause r still no' again lands) = by_free c m h at n held (frees c) lands
    by_effect c m h (Ends at n held frees still no' again lands back) = by_free c m h at n held (frees c) lands

-- what is kept on the packet network, with the flights
pub record KeptFlights (layout : Layout) (past : List Entry) : Type 0 where
  pub kept : KeptPackets layout past
  pub flown : IsFlown layout past

pub kept_flights : (layout : Layout) → layout.direct ≡ false → (past : List Entry) → IsHistory layout past → KeptFlights layout past
kept_flights layout packet past h =
    over_each (MayFollow layout) (λ xs. KeptFlights layout xs)
    (λ xs x k may. record { kept = packets_more layout packet xs x k.kept may; flown = flown_next layout packet xs x k.kept k.flown may })
    [] past (record { kept = packets_begin layout; flown = λ c m h. absurd (cc) }) h

is_there : (s : Serial) (flying : List Flying) → 1 ≤ flight_weight (one s) flying → (f : Flying) × (flying_of s flying ≡ Some f)
is_there s [] h = absurd (omega (arith, h))
is_there s (g ∷ flying) h = by_test (has_serial s g.message) refl (λ more. is_there s flying more)
  where
    by_test : (b : Bool) → has_serial s g.message ≡ b → (1 ≤ flight_weight (one s) flying → (f : Flying) × (flying_of s flying ≡ Some f)) →
        (f : Flying) × (cond b (Some g) (flying_of s flying) ≡ Some f)
    by_test true is more = (g, refl)
    by_test false is more = more (omega (arith, h, sum_by-cons (λ (w : Flying). one s w.message w.bounces) g flying, ap bit is))

-- what leaves in flight was there
pub lands_found : (layout : Layout) (past : List Entry) (x : Entry) → IsHistory layout past → MayFollow layout past x → (t : Serial) →
    settled_in x.event x.outcome ≡ Some t → (f : Flying) × (flying_of t (state_of layout past t.source).body.in_flight ≡ Some f)
lands_found layout past x h may t is = by_network layout.direct refl
  where
    on_direct : (e : EndpointId) (event : Event) (o : Outcome) → FitsDirect e (state_of layout past e) event o → settled_in event o ≡ Some t → ⊥
    on_direct e (Events.Receive node peer number) o fits l = fits
    on_direct e (Events.Expire node peer channel) o fits l = fits
    on_direct e event o fits l = cc

    at : KeptFlights layout past → Effect past x.event x.outcome (λ d. sender d (past ++ x ∷ [])) → 1 ≤ flown layout past t
    at k (Keeps same no' again lands) = let both : None ≡ Some t = sym lands ∙ is in absurd (cc)
    at k (Binds c n bound free binds still again lands) = let both : None ≡ Some t = sym lands ∙ is in absurd (cc)
    at k (Refuses c n held frees a cause r still no' again lands) =
        let both : Some n.serial ≡ Some t = sym lands ∙ is in let same : n.serial ≡ t = cc in
        subst (λ (w : Serial). 1 ≤ flown layout past w) same (k.flown c n held)
    at k (Ends c n held frees still no' again lands back) =
        let both : Some n.serial ≡ Some t = sym lands ∙ is in let same : n.serial ≡ t = cc in
        subst (λ (w : Serial). 1 ≤ flown layout past w) same (k.flown c n held)

    by_network : (direct : Bool) → layout.direct ≡ direct → (f : Flying) × (flying_of t (state_of layout past t.source).body.in_flight ≡ Some f)
    by_network true d = absurd (on_direct t.source x.event x.outcome (fits_direct layout d past t.source x may) is)
    by_network false d = is_there t (state_of layout past t.source).body.in_flight (at (kept_flights layout d past h) (effect layout past x may))

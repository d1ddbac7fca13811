-- What is kept of each serial: where it is, and how often it bounced.
use Rattle.std.proofs.Common.{◌≡◌, ℕ, ◌+◌, ◌≤◌, Bool, true, false, ◌||◌, List, [], ◌∷◌, ◌++◌, Option, Some, None, refl, sym, ap, ◌∙◌, subst, arith, true≢false}
use Rattle.std.proofs.Common.{if◌then◌else◌}
use Rattle.std.specs.List.{list_any}
use Rattle.am_lemmas.proofs.Bools.{or_first_fails}
use Rattle.am_names.specs.declared.EndpointId.{EndpointId}
use Rattle.am_names.specs.declared.NodeId.{NodeId}
use Rattle.am_names.specs.declared.Serial.{Serial}
use Rattle.am_names.specs.declared.Cause.{Cause}
use Rattle.am_names.specs.declared.Message.{Message}
use Rattle.am_office_entries.specs.declared.Event.{Event}
use Rattle.am_office_entries.specs.declared.Event.TheVariants as Events
use Rattle.am_office_entries.specs.declared.Received.{Received}
use Rattle.am_office_entries.specs.declared.Received.TheVariants as Got
use Rattle.am_office_entries.specs.declared.Outcome.{Outcome}
use Rattle.am_office_entries.specs.declared.Outcome.TheVariants as Out
use Rattle.am_office_entries.specs.declared.Entry.{Entry}
use Rattle.am_names.specs.Names.{same_end, same_serial, has_serial}
use Rattle.am_model.specs.declared.Queued.{Queued}
use Rattle.am_model.specs.declared.Flying.{Flying}
use Rattle.am_model.specs.Endpoint.{State}
use Rattle.am_model.specs.Changes.{flying_of, settled_in}
use Rattle.am_office_entries.specs.Entries.{accepted_by, ends_touched, touches, touched_by_result, touched_by_expiry, passes}
use Rattle.am_model.specs.Layout.{Layout}
use Rattle.am_model.specs.History.{state_of, MayFollow, IsHistory, bounced}
use Rattle.am_model.proofs.Each.{state_of_push}
use Rattle.am_model.proofs.Names.{same_serial-is, same_serial-refl, same_end-refl, same_end-is}
use Rattle.am_model.proofs.Received.{bit, one_touched}
use Rattle.am_model.proofs.Books.{not_touched}
use Rattle.am_model.proofs.Counts.{Accepts, accepts_next, HasSerial}
use Rattle.am_model.specs.Calls.{new_serial}
use Rattle.am_model.proofs.Chosen.{flying_of-has_serial}
use Rattle.am_laws.proofs.Sent.{fits_send}
use Rattle.am_laws.proofs.Aloft.{as_queued, rebounced, carry_parts, carry_comes, parts, comes, Moves, stays, entry_moves}
use Rattle.am_laws.proofs.Flown.{lands_found}
use Rattle.am_laws.proofs.Numbers.{some_pair, Numbers, NumbersOf, quiet, quiet_by, accepted_new, done_with, come_back, go_back, carry_here, carry_away}
use Rattle.am_laws.proofs.Numbers.{flight, Tells, TellsResult, entry_tells, OwnAre, own_are}

-- what one entry does to the messages of a serial
pub record SerialMoves (layout : Layout) (past : List Entry) (x : Entry) (s : Serial) : Type 0 where
  pub gone : Option Queued
  pub come : Option Queued
  pub moves : Moves (state_of layout past s.source).body (state_of layout (past ++ x ∷ []) s.source).body gone come
  pub numbers : NumbersOf layout.bounces s x.event x.outcome gone come

pub found_serial : (t : Serial) (flying : List Flying) (f : Flying) → flying_of t flying ≡ Some f → f.message.serial ≡ t
found_serial t flying f is = sym (same_serial-is t f.message.serial (flying_of-has_serial t flying f is))

-- a flight that lands, by its result
result_numbers : (limit : ℕ) (s : Serial) (st : State) (node peer : NodeId) (number channel seq attempt : ℕ) (r : Received) (flights : Serial → Option Flying) →
    ((t : Serial) → list_any (same_end s.source) (touched_by_result r) ≡ true →
    settled_in (Events.Receive node peer number) (Out.Received channel seq attempt r) ≡ Some t → flights t ≡ flying_of t st.body.in_flight) →
    list_any (same_end s.source) (touched_by_result r) ≡ true →
    ((t : Serial) → settled_in (Events.Receive node peer number) (Out.Received channel seq attempt r) ≡ Some t → (f : Flying) × (flights t ≡ Some f)) →
    TellsResult limit flights r → NumbersOf limit s (Events.Receive node peer number) (Out.Received channel seq attempt r)
    (parts s.source st (Events.Receive node peer number) (Out.Received channel seq attempt r))
    (comes s.source st (Events.Receive node peer number) (Out.Received channel seq attempt r))
result_numbers limit s st node peer number channel seq attempt (Got.Delivered t) flights same at found tells =
    let f = found t refl in
    let there : flying_of t st.body.in_flight ≡ Some f.0 = sym (same t at refl) ∙ f.1 in
    subst (λ w. Numbers limit s 0 (bit (same_serial s t)) 0 None (as_queued w) None) (sym there) (done_with limit s t (record {
      message = f.0.message;
      bounces = f.0.bounces;
    }) (found_serial t st.body.in_flight f.0 there))
result_numbers limit s st node peer number channel seq attempt (Got.Requeued t cause bounces) flights same at found tells =
    let f = found t refl in
    let there : flying_of t st.body.in_flight ≡ Some f.0 = sym (same t at refl) ∙ f.1 in
    subst (λ w. Numbers limit s 0 0 (bit (same_serial s t)) None (as_queued w) (rebounced bounces w)) (sym there)
    (go_back limit s t (record { message = f.0.message; bounces = f.0.bounces }) bounces (found_serial t st.body.in_flight f.0 there) (tells.0
    ∙ ap (λ w. bounced w + 1) f.1) tells.1)
result_numbers limit s st node peer number channel seq attempt (Got.Returned t cause) flights same at found tells =
    let f = found t refl in
    let there : flying_of t st.body.in_flight ≡ Some f.0 = sym (same t at refl) ∙ f.1 in
    subst (λ w. Numbers limit s 0 (bit (same_serial s t)) 0 (Some (t, cause)) (as_queued w) None) (sym there)
    (come_back limit s t (record { message = f.0.message; bounces = f.0.bounces }) cause (found_serial t st.body.in_flight f.0 there)
    (λ passing. subst (λ (n : ℕ). limit ≤ n) (ap bounced f.1) (tells passing)))
result_numbers limit s st node peer number channel seq attempt r flights same at found tells = quiet limit s

expiry_numbers : (limit : ℕ) (s : Serial) (st : State) (node peer : NodeId) (channel : ℕ) (o : Outcome) (flights : Serial → Option Flying) →
    ((t : Serial) → settled_in (Events.Expire node peer channel) o ≡ Some t → flights t ≡ flying_of t st.body.in_flight) →
    ((t : Serial) → settled_in (Events.Expire node peer channel) o ≡ Some t → (f : Flying) × (flights t ≡ Some f)) →
    NumbersOf limit s (Events.Expire node peer channel) o (parts s.source st (Events.Expire node peer channel) o)
    (comes s.source st (Events.Expire node peer channel) o)
expiry_numbers limit s st node peer channel (Out.Delivered t) flights same found =
    let f = found t refl in
    let there : flying_of t st.body.in_flight ≡ Some f.0 = sym (same t refl) ∙ f.1 in
    subst (λ w. Numbers limit s 0 (bit (same_serial s t)) 0 None (as_queued w) None) (sym there) (done_with limit s t (record {
      message = f.0.message;
      bounces = f.0.bounces;
    }) (found_serial t st.body.in_flight f.0 there))
expiry_numbers limit s st node peer channel (Out.Unknown t) flights same found =
    let f = found t refl in
    let there : flying_of t st.body.in_flight ≡ Some f.0 = sym (same t refl) ∙ f.1 in
    subst (λ w. Numbers limit s 0 (bit (same_serial s t)) 0 None (as_queued w) None) (sym there) (done_with limit s t (record {
      message = f.0.message;
      bounces = f.0.bounces;
    }) (found_serial t st.body.in_flight f.0 there))
expiry_numbers limit s st node peer channel o flights same found = quiet limit s

-- an entry that does not touch the source says nothing of the serial
untouched_call : (limit : ℕ) (s : Serial) (st : State) (end : EndpointId) (m : Option Message) → same_end s.source end ≡ false →
    HasSerial (new_serial end st) m → bit (passes (has_serial s) m) ≡ 0
untouched_call limit s st end None apart h = refl
untouched_call limit s st end (Some m) apart h = by_test (same_serial s m.serial) refl
  where
    by_test : (t : Bool) → same_serial s m.serial ≡ t → bit t ≡ 0
    by_test false is = refl
    by_test true is =
        let same : s ≡ m.serial = same_serial-is s m.serial is in
        let here : s.source ≡ end = ap (λ (w : Serial). w.source) (same ∙ h) in
        absurd (true≢false (sym (same_end-refl end) ∙ subst (λ (w : EndpointId). same_end w end ≡ false) here apart))

pub apart_serial : (s t : Serial) → (same_end s.source t.source || false) ≡ false → same_serial s t ≡ false
apart_serial s t h = by_test (same_serial s t) refl
  where
    by_test : (b : Bool) → same_serial s t ≡ b → b ≡ false
    by_test false is = refl
    by_test true is =
        let same : s ≡ t = same_serial-is s t is in
        let off : same_end s.source t.source ≡ false = not_touched (same_end s.source t.source) h in
        absurd (true≢false (sym (same_end-refl s.source) ∙ subst (λ (w : Serial). same_end s.source w.source ≡ false) (sym same) off))

unlike : (s t : Serial) (cause other : Cause) → same_serial s t ≡ false → ◌≡◌ {A = Option (Serial × Cause)} (Some (t, cause)) (Some (s, other)) → ⊥
unlike s t cause other no' h = let same : t ≡ s = (some_pair s t cause other h).0 in true≢false (sym (same_serial-refl s)
    ∙ subst (λ (w : Serial). same_serial s w ≡ false) same no')

untouched_result : (limit : ℕ) (s : Serial) (node peer : NodeId) (number channel seq attempt : ℕ) (r : Received) →
    list_any (same_end s.source) (touched_by_result r) ≡ false →
    NumbersOf limit s (Events.Receive node peer number) (Out.Received channel seq attempt r) None None
untouched_result limit s node peer number channel seq attempt (Got.Delivered t) off =
    quiet_by limit s 0 (bit (same_serial s t)) 0 None refl (omega (arith, ap bit (apart_serial s t off))) (λ cause h. cc)
untouched_result limit s node peer number channel seq attempt (Got.Requeued t cause bounces) off =
    quiet_by limit s 0 0 (bit (same_serial s t)) None refl (omega (arith, ap bit (apart_serial s t off))) (λ cause' h. cc)
untouched_result limit s node peer number channel seq attempt (Got.Returned t cause) off =
    quiet_by limit s 0 (bit (same_serial s t)) 0 (Some (t, cause)) refl (omega (arith, ap bit (apart_serial s t off)))
    (λ other h. unlike s t cause other (apart_serial s t off) h)
untouched_result limit s node peer number channel seq attempt r off = quiet limit s

untouched_expiry : (limit : ℕ) (s : Serial) (node peer : NodeId) (channel : ℕ) (o : Outcome) → list_any (same_end s.source) (touched_by_expiry o) ≡ false →
    NumbersOf limit s (Events.Expire node peer channel) o None None
untouched_expiry limit s node peer channel (Out.Delivered t) off =
    quiet_by limit s 0 (bit (same_serial s t)) 0 None refl (omega (arith, ap bit (apart_serial s t off))) (λ cause h. cc)
untouched_expiry limit s node peer channel (Out.Unknown t) off =
    quiet_by limit s 0 (bit (same_serial s t)) 0 None refl (omega (arith, ap bit (apart_serial s t off))) (λ cause h. cc)
untouched_expiry limit s node peer channel o off = quiet limit s

pub serial_moves : (layout : Layout) (past : List Entry) (x : Entry) → IsHistory layout past → MayFollow layout past x → (s : Serial) →
    SerialMoves layout past x s
serial_moves layout past x h may s = by_test (touches s.source x) refl
  where
    st : State
    st = state_of layout past s.source

    own : OwnAre layout past
    own = own_are layout past h

    here : (t : Serial) → list_any (same_end s.source) (t.source ∷ []) ≡ true →
        flight layout past t ≡ flying_of t (state_of layout past s.source).body.in_flight
    here t at = ap (λ (w : EndpointId). flying_of t (state_of layout past w).body.in_flight)
        (sym (same_end-is s.source t.source (one_touched (same_end s.source t.source) at)))

    carried : (end : EndpointId) (o : Outcome) → Tells layout past (Events.Carry end) o → (t : Bool) → same_end s.source end ≡ t →
        NumbersOf layout.bounces s (Events.Carry end) o (if t then carry_parts o (Rattle.am_model.specs.Endpoint.front (state_of layout past s.source)) else
        None) (if t then carry_comes o else None)
    carried end o tells true is =
        let same : end ≡ s.source = sym (same_end-is s.source end is) in
        carry_here layout.bounces s end (state_of layout past s.source) o
        (subst (λ (w : EndpointId). Rattle.am_laws.proofs.Numbers.TellsCarry layout.bounces (state_of layout past w) o) same tells)
    carried end o tells false is = carry_away layout.bounces s end (state_of layout past end) o is (own end) tells

    landed_here : (r : Received) (node peer : NodeId) (number channel seq attempt : ℕ) (t : Serial) →
        list_any (same_end s.source) (touched_by_result r) ≡ true → settled_in (Events.Receive node peer number) (Out.Received channel seq attempt r) ≡ Some t →
        list_any (same_end s.source) (t.source ∷ []) ≡ true
    landed_here (Got.Delivered u) node peer number channel seq attempt t at is = let same : u ≡ t = cc in
        subst (λ (w : Serial). list_any (same_end s.source) (w.source ∷ []) ≡ true) same at
    landed_here (Got.Requeued u cause bounces) node peer number channel seq attempt t at is = let same : u ≡ t = cc in
        subst (λ (w : Serial). list_any (same_end s.source) (w.source ∷ []) ≡ true) same at
    landed_here (Got.Returned u cause) node peer number channel seq attempt t at is = let same : u ≡ t = cc in
        subst (λ (w : Serial). list_any (same_end s.source) (w.source ∷ []) ≡ true) same at
    landed_here r node peer number channel seq attempt t at is = absurd (cc)

    expired_here : (node peer : NodeId) (channel : ℕ) (o : Outcome) (t : Serial) → list_any (same_end s.source) (touched_by_expiry o) ≡ true →
        settled_in (Events.Expire node peer channel) o ≡ Some t → list_any (same_end s.source) (t.source ∷ []) ≡ true
    expired_here node peer channel (Out.Delivered u) t at is = let same : u ≡ t = cc in
        subst (λ (w : Serial). list_any (same_end s.source) (w.source ∷ []) ≡ true) same at
    expired_here node peer channel (Out.Unknown u) t at is = let same : u ≡ t = cc in
        subst (λ (w : Serial). list_any (same_end s.source) (w.source ∷ []) ≡ true) same at
    expired_here node peer channel o t at is = absurd (cc)

    touched : (event : Event) (o : Outcome) → list_any (same_end s.source) (ends_touched event o) ≡ true →
        ((t : Serial) → settled_in event o ≡ Some t → (f : Flying) × (flight layout past t ≡ Some f)) → Tells layout past event o →
        NumbersOf layout.bounces s event o (parts s.source (state_of layout past s.source) event o) (comes s.source (state_of layout past s.source) event o)
    touched (Events.Call actor end call) o at found tells = accepted_new layout.bounces s (accepted_by call o)
    touched (Events.Carry end) o at found tells = carried end o tells (same_end s.source end) refl
    touched (Events.Receive node peer number) (Out.Received channel seq attempt r) at found tells =
        result_numbers layout.bounces s (state_of layout past s.source) node peer number channel seq attempt r (flight layout past)
        (λ t on is. here t (landed_here r node peer number channel seq attempt t on is)) at found tells
    touched (Events.Receive node peer number) o at found tells = quiet layout.bounces s
    touched (Events.Expire node peer channel) o at found tells =
        expiry_numbers layout.bounces s (state_of layout past s.source) node peer channel o (flight layout past)
        (λ t is. here t (expired_here node peer channel o t at is)) found
    touched (Events.Want actor end) o at found tells = quiet layout.bounces s
    touched (Events.Bind node end) o at found tells = quiet layout.bounces s
    touched (Events.Drain node end) o at found tells = quiet layout.bounces s
    touched (Events.Unload node end) o at found tells = quiet layout.bounces s
    touched (Events.Load node end frame) o at found tells = quiet layout.bounces s
    touched (Events.PageOut node end) o at found tells = quiet layout.bounces s
    touched (Events.PageIn node end) o at found tells = quiet layout.bounces s

    untouched : (event : Event) (o : Outcome) → list_any (same_end s.source) (ends_touched event o) ≡ false → Accepts layout past event o →
        Tells layout past event o → NumbersOf layout.bounces s event o None None
    untouched (Events.Call actor end call) o off next tells =
        quiet_by layout.bounces s (bit (passes (has_serial s) (accepted_by call o))) 0 0 None
        (untouched_call layout.bounces s (state_of layout past end) end (accepted_by call o) (not_touched (same_end s.source end) off) next) refl
        (λ cause is. cc)
    untouched (Events.Carry end) o off next tells = carry_away layout.bounces s end (state_of layout past end) o (or_first_fails (same_end s.source end) _ off)
        (own end) tells
    untouched (Events.Receive node peer number) (Out.Received channel seq attempt r) off next tells =
        untouched_result layout.bounces s node peer number channel seq attempt r off
    untouched (Events.Receive node peer number) o off next tells = quiet layout.bounces s
    untouched (Events.Expire node peer channel) o off next tells = untouched_expiry layout.bounces s node peer channel o off
    untouched (Events.Want actor end) o off next tells = quiet layout.bounces s
    untouched (Events.Bind node end) o off next tells = quiet layout.bounces s
    untouched (Events.Drain node end) o off next tells = quiet layout.bounces s
    untouched (Events.Unload node end) o off next tells = quiet layout.bounces s
    untouched (Events.Load node end frame) o off next tells = quiet layout.bounces s
    untouched (Events.PageOut node end) o off next tells = quiet layout.bounces s
    untouched (Events.PageIn node end) o off next tells = quiet layout.bounces s

    by_test : (t : Bool) → touches s.source x ≡ t → SerialMoves layout past x s
    by_test true at =
        record {
          gone = parts s.source (state_of layout past s.source) x.event x.outcome;
          come = comes s.source (state_of layout past s.source) x.event x.outcome;
          moves = rw (state_of_push layout past x s.source true at) (entry_moves s.source (state_of layout past s.source) x.event x.outcome
              (fits_send layout past s.source x may at));
          numbers = touched x.event x.outcome at (λ t is. lands_found layout past x h may t is) (entry_tells layout past x may);
        }
    by_test false at =
        record {
          gone = None;
          come = None;
          moves = rw (state_of_push layout past x s.source false at) (stays (state_of layout past s.source).body);
          numbers = untouched x.event x.outcome at (accepts_next layout past x.event x.outcome may.outcome) (entry_tells layout past x may);
        }

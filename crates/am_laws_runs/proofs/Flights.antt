-- What an entry leaves of how often the messages in flight bounced, and of where endpoints lie.
use Rattle.std.proofs.Common.{◌≡◌, ℕ, ◌≤◌, Bool, true, false, cond, List, [], ◌∷◌, ◌++◌, map, Option, Some, None, refl, sym, ap, ◌∙◌, arith}
use Rattle.am_names.specs.declared.EndpointId.{EndpointId}
use Rattle.am_names.specs.declared.NodeId.{NodeId}
use Rattle.am_names.specs.declared.Serial.{Serial}
use Rattle.am_names.specs.declared.Cause.TheVariants.{NotResident}
use Rattle.am_names.specs.Names.{has_serial}
use Rattle.am_office_entries.specs.declared.Call.{Call}
use Rattle.am_office_entries.specs.declared.Call.TheVariants as Calls
use Rattle.am_office_entries.specs.declared.Event.{Event}
use Rattle.am_office_entries.specs.declared.Event.TheVariants as Events
use Rattle.am_office_entries.specs.declared.Received.{Received}
use Rattle.am_office_entries.specs.declared.Received.TheVariants as Got
use Rattle.am_office_entries.specs.declared.Outcome.{Outcome}
use Rattle.am_office_entries.specs.declared.Outcome.TheVariants as Out
use Rattle.am_office_entries.specs.declared.Entry.{Entry}
use Rattle.am_office_entries.specs.Entries.{touches}
use Rattle.am_model.specs.declared.Flying.{Flying}
use Rattle.am_model.specs.Choice.{without_first}
use Rattle.am_model.specs.Endpoint.{State}
use Rattle.am_model.specs.Changes.{bounces_of, called, changed, expired, received, bound, flying_of, marked, with_marked, settled_by, settled_in}
use Rattle.am_model.specs.Layout.{Layout}
use Rattle.am_model.specs.History.{state_of, bounced}
use Rattle.am_model.proofs.Each.{state_of_push}
use Rattle.am_model.proofs.Names.{same_serial-is}
use Rattle.am_model.proofs.Unchanged.{called_place, received_place, expired_place, bound_place}

-- a call, a send, a time-out or a receipt
abbrev pub Acts : Event → Type 0
Acts (Events.Call actor end call) = Unit {0}
Acts (Events.Bind node end) = Unit {0}
Acts (Events.Expire node peer channel) = Unit {0}
Acts (Events.Receive node peer number) = Unit {0}
Acts event = ⊥

-- ---- flights

abbrev pub bounces_in : Serial → List Flying → ℕ
bounces_in t flying = bounced (flying_of t flying)

append_bounces : (t : Serial) (fs : List Flying) (f : Flying) → bounces_in t fs ≤ bounces_in t (fs ++ f ∷ [])
append_bounces t [] f = omega arith
append_bounces t (g ∷ gs) f = by_test (has_serial t g.message) (append_bounces t gs f)
  where
    by_test : (b : Bool) → bounces_in t gs ≤ bounces_in t (gs ++ f ∷ []) →
        bounced (cond b (Some g) (flying_of t gs)) ≤ bounced (cond b (Some g) (flying_of t (gs ++ f ∷ [])))
    by_test true h = omega arith
    by_test false h = h

mark_bounces : (t r : Serial) (fs : List Flying) → bounces_in t (map (marked r) fs) ≡ bounces_in t fs
mark_bounces t r [] = refl
mark_bounces t r (g ∷ gs) = by_test (has_serial t g.message) (mark_bounces t r gs)
  where
    by_test : (b : Bool) → bounces_in t (map (marked r) gs) ≡ bounces_in t gs →
        bounced (cond b (Some (marked r g)) (flying_of t (map (marked r) gs))) ≡ bounced (cond b (Some g) (flying_of t gs))
    by_test true h = refl
    by_test false h = h

marked_bounces : (t : Serial) (about : Option Serial) (fs : List Flying) → bounces_in t (with_marked about fs) ≡ bounces_in t fs
marked_bounces t None fs = refl
marked_bounces t (Some r) fs = mark_bounces t r fs

-- a flight of another serial goes
gone_bounces : (t u : Serial) (fs : List Flying) → (t ≡ u → ⊥) → bounces_in t fs ≤ bounces_in t (without_first (λ (f : Flying). has_serial u f.message) fs)
gone_bounces t u [] apart = omega arith
gone_bounces t u (g ∷ gs) apart = by_first (has_serial u g.message) refl (gone_bounces t u gs apart)
  where
    by_own : (b : Bool) → has_serial t g.message ≡ b → has_serial u g.message ≡ true → bounced (cond b (Some g) (flying_of t gs)) ≤ bounces_in t gs
    by_own true is at = absurd (apart (same_serial-is t g.message.serial is ∙ sym (same_serial-is u g.message.serial at)))
    by_own false is at = omega arith

    by_rest : (b : Bool) → bounces_in t gs ≤ bounces_in t (without_first (λ (f : Flying). has_serial u f.message) gs) →
        bounced (cond b (Some g) (flying_of t gs)) ≤ bounced (cond b (Some g) (flying_of t (without_first (λ (f : Flying). has_serial u f.message) gs)))
    by_rest true h = omega arith
    by_rest false h = h

    by_first : (a : Bool) → has_serial u g.message ≡ a → bounces_in t gs ≤ bounces_in t (without_first (λ (f : Flying). has_serial u f.message) gs) →
        bounces_in t (g ∷ gs) ≤ bounces_in t (cond a gs (g ∷ without_first (λ (f : Flying). has_serial u f.message) gs))
    by_first true at h = by_own (has_serial t g.message) refl at
    by_first false at h = by_rest (has_serial t g.message) h

pub called_flights : (st : State) (c : Call) (o : Outcome) → (called st c o).body.in_flight ≡ st.body.in_flight
called_flights st (Calls.Request index handler words) (Out.Requested m) = refl
called_flights st Calls.Poll (Out.Zero serial why) = refl
called_flights st Calls.Poll (Out.Ran handler m None) = refl
called_flights st Calls.Poll (Out.Ran handler m (Some reply)) = refl
called_flights st (Calls.SetTag tag) Out.Done = refl
called_flights st (Calls.Map index name tag credits) Out.Done = refl
called_flights st (Calls.Unmap index) Out.Done = refl
called_flights st (Calls.SetHandler index kind) Out.Done = refl
called_flights st (Calls.GiveUp serial) Out.Done = refl
called_flights st Calls.Close Out.Done = refl
called_flights st c o = refl

-- the serial t doesn't land here
abbrev pub StaysAloft : Serial → Option Serial → Type 0
StaysAloft t o = (u : Serial) → o ≡ Some u → t ≡ u → ⊥

bound_kept : (t : Serial) (st : State) (o : Outcome) → bounces_in t st.body.in_flight ≤ bounces_in t (bound st o).body.in_flight
bound_kept t st (Out.Sent m peer channel seq attempt number) = append_bounces t st.body.in_flight (record {
  message = m;
  bounces = bounces_of st.body.replies st.body.requests;
  answered = false;
})
bound_kept t st o = omega arith

expired_kept : (t : Serial) (st : State) (node peer : NodeId) (channel : ℕ) (o : Outcome) → StaysAloft t (settled_in (Events.Expire node peer channel) o) →
    bounces_in t st.body.in_flight ≤ bounces_in t (expired st o).body.in_flight
expired_kept t st node peer channel (Out.Delivered u) stays = gone_bounces t u st.body.in_flight (stays u refl)
expired_kept t st node peer channel (Out.Unknown u) stays = gone_bounces t u st.body.in_flight (stays u refl)
expired_kept t st node peer channel o stays = omega arith

received_kept : (t : Serial) (e : EndpointId) (st : State) (r : Received) → StaysAloft t (settled_by r) →
    bounces_in t st.body.in_flight ≤ bounces_in t (received e st r).body.in_flight
received_kept t e st (Got.Accepted m answer) stays = omega (arith, marked_bounces t m.about st.body.in_flight)
received_kept t e st (Got.Refused m NotResident answer) stays = omega arith
received_kept t e st (Got.Delivered u) stays = gone_bounces t u st.body.in_flight (stays u refl)
received_kept t e st (Got.Requeued u cause bounces) stays = gone_bounces t u st.body.in_flight (stays u refl)
received_kept t e st (Got.Returned u cause) stays = gone_bounces t u st.body.in_flight (stays u refl)
received_kept t e st r stays = omega arith

kept : (t : Serial) (e : EndpointId) (st : State) (event : Event) (o : Outcome) → Acts event → StaysAloft t (settled_in event o) →
    bounces_in t st.body.in_flight ≤ bounces_in t (changed e st event o).body.in_flight
kept t e st (Events.Call actor end call) o acts stays =
    let same : bounces_in t (called st call o).body.in_flight ≡ bounces_in t st.body.in_flight = ap (bounces_in t) (called_flights st call o) in
    omega (arith, same)
kept t e st (Events.Bind node end) o acts stays = bound_kept t st o
kept t e st (Events.Expire node peer channel) o acts stays = expired_kept t st node peer channel o stays
kept t e st (Events.Receive node peer number) (Out.Received channel seq attempt r) acts stays = received_kept t e st r stays
kept t e st (Events.Receive node peer number) o acts stays = omega arith
kept t e st event o acts stays = absurd acts

-- the flights of an endpoint after an entry: one that doesn't land bounced as often at least
pub flights_kept : (layout : Layout) (past : List Entry) (x : Entry) (t : Serial) → Acts x.event → StaysAloft t (settled_in x.event x.outcome) →
    bounces_in t (state_of layout past t.source).body.in_flight ≤ bounces_in t (state_of layout (past ++ x ∷ []) t.source).body.in_flight
flights_kept layout past x t acts stays = by_test (touches t.source x) refl
  where
    by_test : (b : Bool) → touches t.source x ≡ b → bounces_in t (state_of layout past t.source).body.in_flight ≤ bounces_in t
        (state_of layout (past ++ x ∷ []) t.source).body.in_flight
    by_test true at =
        let same : bounces_in t (state_of layout (past ++ x ∷ []) t.source).body.in_flight ≡ bounces_in t
        (changed t.source (state_of layout past t.source) x.event x.outcome).body.in_flight =
        ap (λ (z : State). bounces_in t z.body.in_flight) (state_of_push layout past x t.source true at) in
        omega (arith, same, kept t t.source (state_of layout past t.source) x.event x.outcome acts stays)
    by_test false at =
        let same : bounces_in t (state_of layout (past ++ x ∷ []) t.source).body.in_flight ≡ bounces_in t (state_of layout past t.source).body.in_flight =
        ap (λ (z : State). bounces_in t z.body.in_flight) (state_of_push layout past x t.source false at) in
        omega (arith, same)

-- ---- places

acted_place : (e : EndpointId) (st : State) (event : Event) (o : Outcome) → Acts event → (changed e st event o).head.place ≡ st.head.place
acted_place e st (Events.Call actor end call) o acts = called_place st call o
acted_place e st (Events.Bind node end) o acts = bound_place st o
acted_place e st (Events.Expire node peer channel) o acts = expired_place st o
acted_place e st (Events.Receive node peer number) (Out.Received channel seq attempt r) acts = received_place e st r
acted_place e st (Events.Receive node peer number) o acts = refl
acted_place e st event o acts = absurd acts

-- no endpoint is moved
pub places_kept : (layout : Layout) (past : List Entry) (x : Entry) (e : EndpointId) → Acts x.event →
    (state_of layout (past ++ x ∷ []) e).head.place ≡ (state_of layout past e).head.place
places_kept layout past x e acts = by_test (touches e x) refl
  where
    by_test : (b : Bool) → touches e x ≡ b → (state_of layout (past ++ x ∷ []) e).head.place ≡ (state_of layout past e).head.place
    by_test true at = ap (λ (z : State). z.head.place) (state_of_push layout past x e true at) ∙ acted_place e (state_of layout past e) x.event x.outcome acts
    by_test false at = ap (λ (z : State). z.head.place) (state_of_push layout past x e false at)

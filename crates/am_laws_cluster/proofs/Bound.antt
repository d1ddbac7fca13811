-- A message in flight is held by just one bound channel.
use Rattle.std.specs.Prelude.{not}
use Rattle.std.proofs.Common.{◌≡◌, ◌≢◌, ◌⊎◌, inl, inr, ⊎_elim, ◌+◌, ◌≤◌, Bool, true, false, cond, ◌&&◌, ◌||◌, List, [], ◌∷◌, ◌++◌, Option, Some, None, refl}
use Rattle.std.proofs.Common.{sym, ap, ◌∙◌, subst, arith, true≢false, if◌then◌else◌}
use Rattle.std.proofs.lemmas.List.Sums.{sum_by-cons}
use Rattle.std.specs.List.{list_any, find}
use Rattle.std.proofs.lemmas.Bool.{not-false}
use Rattle.am_names.specs.declared.EndpointId.{EndpointId}
use Rattle.am_names.specs.declared.NodeId.{NodeId}
use Rattle.am_names.specs.declared.Serial.{Serial}
use Rattle.am_names.specs.declared.Message.{Message}
use Rattle.am_office_entries.specs.declared.Event.{Event}
use Rattle.am_office_entries.specs.declared.Event.TheVariants as Events
use Rattle.am_office_entries.specs.declared.Received.TheVariants as Got
use Rattle.am_office_entries.specs.declared.Outcome.{Outcome}
use Rattle.am_office_entries.specs.declared.Outcome.TheVariants as Out
use Rattle.am_office_entries.specs.declared.Entry.{Entry}
use Rattle.am_names.specs.Names.{same_end, same_node, same_serial, has_serial}
use Rattle.am_model.specs.Choice.{without_first}
use Rattle.am_model.specs.declared.Flying.{Flying}
use Rattle.am_office_entries.specs.declared.Place.{Place}
use Rattle.am_office_entries.specs.declared.Place.TheVariants.{Host, Disk, Frame, Direct}
use Rattle.am_model.specs.Endpoint.{State, is_direct, is_in_a_frame, is_resident}
use Rattle.am_model.specs.Changes.{changed, settled_in}
use Rattle.am_office_entries.specs.Entries.{ends_touched, touches}
use Rattle.am_model.specs.Layout.{Layout, AllAre, EndSetting, declared, has_id, opening_by, home, IsLawful}
use Rattle.am_model.specs.Channels.{Channel, bound_message, attempt, sent_message}
use Rattle.am_model.specs.History.{state_of, MayFollow, IsHistory}
use Rattle.am_model.specs.PostOffice.{WasAccepted}
use Rattle.am_model.proofs.Each.{over_each, each_push, state_of_push}
use Rattle.am_model.proofs.Names.{same_serial-refl, same_end-refl, same_end-is, same_node-is}
use Rattle.am_model.proofs.Received.{bit}
use Rattle.am_model.proofs.Books.{fits_direct}
use Rattle.am_model.proofs.Queues.{FitsDirect}
use Rattle.am_laws.proofs.Waiting.{bound_at, IsFront}
use Rattle.am_laws.proofs.Everywhere.{each_once}
use Rattle.am_laws.proofs.Alls.{all_map}
use Rattle.am_laws.proofs.Delivered.{Delivers, delivers}
use Rattle.am_laws.proofs.Sent.{FitsSend, fits_send}
use Rattle.am_laws.proofs.Gave.{accepted_one}
use Rattle.am_office_entries.specs.declared.Condition.TheVariants as Needs
use Rattle.am_model.specs.Layout.{AreApart, home_by}
use Rattle.am_model.specs.Channels.{binds, frees}
use Rattle.am_model.specs.History.{failing, is_home}
use Rattle.am_model.specs.Cluster.{InFlightIsBound, IsHeldOnce, IsFlying}
use Rattle.am_model.proofs.Ends.{bound_push}
use Rattle.am_model.proofs.Channels.{freeing_sends_nothing}
use Rattle.am_laws.proofs.Senders.{sender, same_channel-is}
use Rattle.am_laws.proofs.Effects.{Effect, Keeps, Binds, Refuses, Ends, IsSame, IsFreedAt, effect}
use Rattle.am_laws.proofs.Sent.{front_are}
use Rattle.am_laws.proofs.Aloft.{flight_weight}
use Rattle.am_laws.proofs.Flown.{one, flown, kept_flights, one_channel}
use Rattle.am_laws.proofs.Numbers.{own_are}
use Rattle.am_laws.proofs.Balance.{balanced}
use Rattle.am_laws.proofs.Tables.{flights_kept}
use Rattle.am_laws.proofs.Marked.{all_both, every, flights_own}
use Rattle.am_laws.proofs.Gave.{accepted_one}
use Rattle.am_laws_cluster.proofs.HomePlaces.{fits_network}
use Rattle.am_laws_cluster.proofs.Flights.{flights_of, all_aloft, open_aloft, third_none}
use Rattle.am_model.proofs.Counts.{any}
use Rattle.am_model.proofs.PlaceKinds.{resident_is_framed}

-- the node that an endpoint is said to be of is its home
none_same : (e : EndpointId) (s : EndSetting) (node : NodeId) (xs : List EndSetting) → same_end e s.id ≡ true →
    list_any (λ (t : EndSetting). same_end s.id t.id) xs ≡ false → list_any (λ (t : EndSetting). same_end e t.id && same_node node t.node) xs ≡ true → ⊥
none_same e s node [] is apart h = true≢false (sym h)
none_same e s node (t ∷ xs) is apart h = by_tests (same_end s.id t.id) (same_end e t.id) (same_node node t.node) refl refl apart h
    (λ f g. none_same e s node xs is f g)
  where
    by_tests : (a b c : Bool) → same_end s.id t.id ≡ a → same_end e t.id ≡ b → (a || list_any (λ (u : EndSetting). same_end s.id u.id) xs) ≡ false →
        ((b && c) || list_any (λ (u : EndSetting). same_end e u.id && same_node node u.node) xs) ≡ true →
        (list_any (λ (u : EndSetting). same_end s.id u.id) xs ≡ false → list_any (λ (u : EndSetting). same_end e u.id && same_node node u.node) xs ≡ true → ⊥) →
        ⊥
    by_tests true b c ha hb f g more = true≢false f
    by_tests false true c ha hb f g more =
        let same : s.id ≡ t.id = sym (same_end-is e s.id is) ∙ same_end-is e t.id hb in
        true≢false (sym (same_end-refl s.id) ∙ subst (λ (w : EndpointId). same_end s.id w ≡ false) (sym same) ha)
    by_tests false false c ha hb f g more = more f g

home_is : (e : EndpointId) (node : NodeId) (xs : List EndSetting) → AreApart (λ (s t : EndSetting). same_end s.id t.id) xs →
    list_any (λ (s : EndSetting). same_end e s.id && same_node node s.node) xs ≡ true → home_by (find (has_id e) xs) ≡ Some node
home_is e node [] apart h = absurd (true≢false (sym h))
home_is e node (s ∷ xs) apart h = by_tests (same_end e s.id) refl (same_node node s.node) refl h (home_is e node xs apart.1)
  where
    by_tests : (a : Bool) → same_end e s.id ≡ a → (b : Bool) → same_node node s.node ≡ b →
        ((a && b) || list_any (λ (t : EndSetting). same_end e t.id && same_node node t.node) xs) ≡ true →
        (list_any (λ (t : EndSetting). same_end e t.id && same_node node t.node) xs ≡ true → home_by (find (has_id e) xs) ≡ Some node) →
        home_by (cond a (Some s) (find (has_id e) xs)) ≡ Some node
    by_tests true ha true hb f more = ap (λ (n : NodeId). Some n) (sym (same_node-is node s.node hb))
    by_tests true ha false hb f more = absurd (none_same e s node xs ha apart.0 f)
    by_tests false ha b hb f more = more f

-- where a channel is bound, its node's endpoint sends
binds_at : (c : Channel) (event : Event) (o : Outcome) → binds c event o ≡ true → (end : EndpointId) × (event ≡ Events.Bind c.node end)
binds_at c (Events.Bind node end) (Out.Sent m peer channel seq attempt number) h =
    (end, ap (λ (n : NodeId). Events.Bind n end) (ap (λ (d : Channel). d.node) (sym (same_channel-is c node peer channel h))))
binds_at c (Events.Bind node end) o h = absurd (true≢false (sym h))
binds_at c event o h = absurd (true≢false (sym h))

-- a message that is bound to a channel is of an endpoint of the channel's node
abbrev BoundAtHome : Layout → List Entry → Type 0
BoundAtHome layout past = (c : Channel) (m : Message) → bound_message c past ≡ Some m → home layout m.serial.source ≡ Some c.node

newly_home : (layout : Layout) (past : List Entry) (x : Entry) → IsLawful layout → IsHistory layout past → MayFollow layout past x →
    (c : Channel) (m : Message) → binds c x.event x.outcome ≡ true → sent_message x.outcome ≡ Some m → home layout m.serial.source ≡ Some c.node
newly_home layout past x lawful h may c m on is = subst (λ (w : EndpointId). home layout w ≡ Some c.node) (sym own)
    (home_is at.0 c.node layout.ends lawful.ids home')
  where
    at : (end : EndpointId) × (x.event ≡ Events.Bind c.node end)
    at = binds_at c x.event x.outcome on

    enabled : failing layout past (Events.Bind c.node at.0) ≡ None
    enabled = subst (λ (v : Event). failing layout past v ≡ None) at.1 may.enabled

    home' : is_home layout at.0 c.node ≡ true
    home' = not-false (is_home layout at.0 c.node) (third_none layout.direct (not (is_home layout at.0 c.node))
        (not (is_resident (state_of layout past at.0).head.place)) Needs.NotPacket Needs.OtherNode Needs.NotResident _ enabled).0

    touched : touches at.0 x ≡ true
    touched = subst (λ (v : Event). list_any (same_end at.0) (ends_touched v x.outcome) ≡ true) (sym at.1) (ap (λ (b : Bool). b || false) (same_end-refl at.0))

    front' : IsFront (state_of layout past at.0) x.outcome
    front' = subst (λ (v : Event). FitsSend at.0 (state_of layout past at.0) v x.outcome) at.1 (fits_send layout past at.0 x may touched)

    own : m.serial.source ≡ at.0
    own =
        let both : Some front'.queued.message ≡ Some m = sym front'.is_sent ∙ is in
        let same : front'.queued.message ≡ m = cc in
        ap (λ (w : Message). w.serial.source) (sym same) ∙ front_are (λ (w : Message). w.serial.source ≡ at.0) (state_of layout past at.0) front'.queued
        front'.is_front (own_are layout past h at.0)

home_more : (layout : Layout) (past : List Entry) (x : Entry) → IsLawful layout → IsHistory layout past → BoundAtHome layout past → MayFollow layout past x →
    BoundAtHome layout (past ++ x ∷ [])
home_more layout past x lawful h known may c m is = by_tests (binds c x.event x.outcome) (frees c x.event x.outcome) refl refl (sym (bound_push c past x _ refl)
    ∙ is)
  where
    by_tests : (a b : Bool) → binds c x.event x.outcome ≡ a → frees c x.event x.outcome ≡ b →
        (if a || b then sent_message x.outcome else bound_message c past) ≡ Some m → home layout m.serial.source ≡ Some c.node
    by_tests true b ha hb e = newly_home layout past x lawful h may c m ha e
    by_tests false true ha hb e = let both : ◌≡◌ {A = Option Message} None (Some m) = sym (freeing_sends_nothing c x.event x.outcome hb) ∙ e in absurd (cc)
    by_tests false false ha hb e = known c m e

-- a message in flight is held by a channel of its endpoint's node
record IsHeldBy (layout : Layout) (past : List Entry) (e : EndpointId) (m : Message) : Type 0 where
  pub channel : Channel
  pub bound : bound_message channel past ≡ Some m
  pub node : home layout e ≡ Some channel.node

landed_touches : (event : Event) (o : Outcome) (t : Serial) → settled_in event o ≡ Some t → list_any (same_end t.source) (ends_touched event o) ≡ true
landed_touches (Events.Receive node peer number) (Out.Received channel seq attempt (Got.Delivered u)) t h = let same : u ≡ t = cc in
    subst (λ (w : Serial). (same_end w.source u.source || false) ≡ true) same (ap (λ (b : Bool). b || false) (same_end-refl u.source))
landed_touches (Events.Receive node peer number) (Out.Received channel seq attempt (Got.Requeued u cause bounces)) t h = let same : u ≡ t = cc in
    subst (λ (w : Serial). (same_end w.source u.source || false) ≡ true) same (ap (λ (b : Bool). b || false) (same_end-refl u.source))
landed_touches (Events.Receive node peer number) (Out.Received channel seq attempt (Got.Returned u cause)) t h = let same : u ≡ t = cc in
    subst (λ (w : Serial). (same_end w.source u.source || false) ≡ true) same (ap (λ (b : Bool). b || false) (same_end-refl u.source))
landed_touches (Events.Expire node peer channel) (Out.Delivered u) t h = let same : u ≡ t = cc in
    subst (λ (w : Serial). (same_end w.source u.source || false) ≡ true) same (ap (λ (b : Bool). b || false) (same_end-refl u.source))
landed_touches (Events.Expire node peer channel) (Out.Unknown u) t h = let same : u ≡ t = cc in
    subst (λ (w : Serial). (same_end w.source u.source || false) ≡ true) same (ap (λ (b : Bool). b || false) (same_end-refl u.source))
landed_touches event o t h = absurd (cc)

landed_flights : (e : EndpointId) (st : State) (event : Event) (o : Outcome) (t : Serial) → settled_in event o ≡ Some t →
    (changed e st event o).body.in_flight ≡ without_first (λ (f : Flying). has_serial t f.message) st.body.in_flight
landed_flights e st (Events.Receive node peer number) (Out.Received channel seq attempt (Got.Delivered u)) t h = let same : u ≡ t = cc in
    ap (λ (w : Serial). without_first (λ (f : Flying). has_serial w f.message) st.body.in_flight) same
landed_flights e st (Events.Receive node peer number) (Out.Received channel seq attempt (Got.Requeued u cause bounces)) t h = let same : u ≡ t = cc in
    ap (λ (w : Serial). without_first (λ (f : Flying). has_serial w f.message) st.body.in_flight) same
landed_flights e st (Events.Receive node peer number) (Out.Received channel seq attempt (Got.Returned u cause)) t h = let same : u ≡ t = cc in
    ap (λ (w : Serial). without_first (λ (f : Flying). has_serial w f.message) st.body.in_flight) same
landed_flights e st (Events.Expire node peer channel) (Out.Delivered u) t h = let same : u ≡ t = cc in
    ap (λ (w : Serial). without_first (λ (f : Flying). has_serial w f.message) st.body.in_flight) same
landed_flights e st (Events.Expire node peer channel) (Out.Unknown u) t h = let same : u ≡ t = cc in
    ap (λ (w : Serial). without_first (λ (f : Flying). has_serial w f.message) st.body.in_flight) same
landed_flights e st event o t h = absurd (cc)

-- where a serial is in flight once, it is not after it lands
none_left : (t : Serial) (xs : List Flying) → flight_weight (one t) xs ≡ 0 → AllAre (λ (f : Flying). f.message.serial ≢ t) xs
none_left t [] h = tt
none_left t (f ∷ xs) h = (
  λ is.
      let here : bit (has_serial t f.message) ≡ 1 = ap (λ (w : Serial). bit (same_serial t w)) is ∙ ap bit (same_serial-refl t) in
      omega (arith, h, here, sum_by-cons (λ (y : Flying). one t y.message y.bounces) f xs),
  none_left t xs (omega (arith, h, sum_by-cons (λ (y : Flying). one t y.message y.bounces) f xs)),
)

gone_all : (t : Serial) (xs : List Flying) → flight_weight (one t) xs ≤ 1 →
    AllAre (λ (f : Flying). f.message.serial ≢ t) (without_first (λ (f : Flying). has_serial t f.message) xs)
gone_all t [] h = tt
gone_all t (f ∷ xs) h = by_test (has_serial t f.message) refl (λ low. gone_all t xs low)
  where
    by_test : (b : Bool) → has_serial t f.message ≡ b → (flight_weight (one t) xs ≤ 1 →
        AllAre (λ (g : Flying). g.message.serial ≢ t) (without_first (λ (g : Flying). has_serial t g.message) xs)) →
        AllAre (λ (g : Flying). g.message.serial ≢ t) (cond b xs (f ∷ without_first (λ (g : Flying). has_serial t g.message) xs))
    by_test true is more = none_left t xs (omega (arith, h, ap bit is, sum_by-cons (λ (y : Flying). one t y.message y.bounces) f xs))
    by_test false is more = (
      λ same. true≢false (sym (same_serial-refl t) ∙ subst (λ (w : Serial). same_serial t w ≡ false) same is),
      more (omega (arith, h, sum_by-cons (λ (y : Flying). one t y.message y.bounces) f xs)),
    )

flown_once : (layout : Layout) (past : List Entry) → IsHistory layout past → (t : Serial) → flown layout past t ≤ 1
flown_once layout past h t = let b = balanced layout past h in omega (arith, b.balance t, b.serials.once t)

record Held (layout : Layout) (past : List Entry) : Type 0 where
  pub history : IsHistory layout past
  pub home : BoundAtHome layout past
  pub held : (e : EndpointId) → AllAre (λ (f : Flying). IsHeldBy layout past e f.message) (state_of layout past e).body.in_flight

held_more : (layout : Layout) → IsLawful layout → (past : List Entry) (x : Entry) → Held layout past → MayFollow layout past x → (e : EndpointId) →
    AllAre (λ (f : Flying). IsHeldBy layout (past ++ x ∷ []) e f.message) (state_of layout (past ++ x ∷ []) e).body.in_flight
held_more layout lawful past x k may e =
    all_both (λ (f : Flying). IsHeldBy layout past e f.message ⊎ (bound_at x.event x.outcome ≡ Some f.message))
    (λ (f : Flying). (f.message.serial.source ≡ e) × ((t : Serial) → settled_in x.event x.outcome ≡ Some t →
    f.message.serial ≢ t)) (λ (f : Flying). IsHeldBy layout (past ++ x ∷ []) e f.message) (state_of layout (past ++ x ∷ []) e).body.in_flight
    (λ f q n. by_effect f.message q n.0 n.1 (effect layout past x may))
    (comes_from (touches e x) refl)
    (all_both (λ (f : Flying). f.message.serial.source ≡ e) (λ (f : Flying). (t : Serial) → settled_in x.event x.outcome ≡ Some t →
    f.message.serial ≢ t) (λ (f : Flying). (f.message.serial.source ≡ e) × ((t : Serial) → settled_in x.event x.outcome ≡ Some t →
    f.message.serial ≢ t)) (state_of layout (past ++ x ∷ []) e).body.in_flight (λ f o n. (o, n)) own
    (stays_apart (settled_in x.event x.outcome) refl))
  where
    now : IsHistory layout (past ++ x ∷ [])
    now = each_push (MayFollow layout) [] past x k.history may

    own : AllAre (λ (f : Flying). f.message.serial.source ≡ e) (state_of layout (past ++ x ∷ []) e).body.in_flight
    own = flights_own layout (past ++ x ∷ []) now e

    old : AllAre (λ (f : Flying). IsHeldBy layout past e f.message ⊎ (bound_at x.event x.outcome ≡ Some f.message)) (state_of layout past e).body.in_flight
    old = all_map (λ (f : Flying). IsHeldBy layout past e f.message) (λ (f : Flying). IsHeldBy layout past e f.message ⊎
        (bound_at x.event x.outcome ≡ Some f.message)) (state_of layout past e).body.in_flight (λ f b. inl b) (k.held e)

    comes_from : (t : Bool) → touches e x ≡ t → AllAre (λ (f : Flying). IsHeldBy layout past e f.message ⊎ (bound_at x.event x.outcome ≡ Some f.message))
        (state_of layout (past ++ x ∷ []) e).body.in_flight
    comes_from true at =
        rw (state_of_push layout past x e true at)
        (flights_kept (λ (f : Flying). IsHeldBy layout past e f.message ⊎ (bound_at x.event x.outcome ≡ Some f.message)) e (state_of layout past e) x.event
        x.outcome (λ m t is about f q. q) old (λ m is. inr is))
    comes_from false at = rw (state_of_push layout past x e false at) old

    of_other : (t : Serial) → (same_end e t.source ≡ false) → AllAre (λ (f : Flying). f.message.serial ≢ t) (state_of layout (past ++ x ∷ []) e).body.in_flight
    of_other t apart =
        all_map (λ (f : Flying). f.message.serial.source ≡ e) (λ (f : Flying). f.message.serial ≢ t) (state_of layout (past ++ x ∷ []) e).body.in_flight
        (λ f mine is. true≢false (sym (same_end-refl e) ∙ subst (λ (w : EndpointId). same_end e w ≡ false) (ap (λ (w : Serial). w.source) (sym is)
        ∙ mine) apart)) own

    of_source : (t : Serial) → settled_in x.event x.outcome ≡ Some t → e ≡ t.source → touches e x ≡ true →
        AllAre (λ (f : Flying). f.message.serial ≢ t) (state_of layout (past ++ x ∷ []) e).body.in_flight
    of_source t is same at =
        let few : flight_weight (one t) (state_of layout past e).body.in_flight ≤ 1 =
        subst (λ (w : EndpointId). flight_weight (one t) (state_of layout past w).body.in_flight ≤ 1) (sym same) (flown_once layout past k.history t) in
        rw (state_of_push layout past x e true at)
        (subst (AllAre (λ (f : Flying). f.message.serial ≢ t)) (sym (landed_flights e (state_of layout past e) x.event x.outcome t is))
        (gone_all t (state_of layout past e).body.in_flight few))

    apart_from : (t : Serial) → settled_in x.event x.outcome ≡ Some t → (b : Bool) → same_end e t.source ≡ b →
        AllAre (λ (f : Flying). f.message.serial ≢ t) (state_of layout (past ++ x ∷ []) e).body.in_flight
    apart_from t is true at =
        let same : e ≡ t.source = same_end-is e t.source at in
        of_source t is same (subst (λ (w : EndpointId). touches w x ≡ true) (sym same) (landed_touches x.event x.outcome t is))
    apart_from t is false at = of_other t at

    stays_apart : (w : Option Serial) → settled_in x.event x.outcome ≡ w → AllAre (λ (f : Flying). (t : Serial) → settled_in x.event x.outcome ≡ Some t →
        f.message.serial ≢ t) (state_of layout (past ++ x ∷ []) e).body.in_flight
    stays_apart None is = every (λ (f : Flying). (t : Serial) → settled_in x.event x.outcome ≡ Some t →
        f.message.serial ≢ t) (state_of layout (past ++ x ∷ []) e).body.in_flight (λ f t h. let both : ◌≡◌ {A = Option Serial} None (Some t) = sym is
        ∙ h in absurd (cc))
    stays_apart (Some u) is =
        all_map (λ (f : Flying). f.message.serial ≢ u) (λ (f : Flying). (t : Serial) → settled_in x.event x.outcome ≡ Some t →
        f.message.serial ≢ t) (state_of layout (past ++ x ∷ []) e).body.in_flight
        (λ f n t h. let both : ◌≡◌ {A = Option Serial} (Some u) (Some t) = sym is ∙ h in let same : u ≡ t = cc in λ e'. n (e' ∙ sym same))
        (apart_from u is (same_end e u.source) refl)

    by_free : (m : Message) → IsHeldBy layout past e m ⊎ (bound_at x.event x.outcome ≡ Some m) →
        ((t : Serial) → settled_in x.event x.outcome ≡ Some t → m.serial ≢ t) → (at : Channel) (n : Message) → bound_message at past ≡ Some n →
        ((c : Channel) → IsFreedAt at c (sender c past) (sender c (past ++ x ∷ []))) → bound_at x.event x.outcome ≡ None →
        settled_in x.event x.outcome ≡ Some n.serial → IsHeldBy layout (past ++ x ∷ []) e m
    by_free m q apart at n held' frees' no' lands =
        ⊎_elim
        (λ (b : IsHeldBy layout past e m).
        ⊎_elim
        (λ (here : (b.channel ≡ at) × ((sender b.channel (past ++ x ∷ [])).seq ≡ (sender b.channel past).seq) ×
        (bound_message b.channel (past ++ x ∷ []) ≡ None)).
        let both : Some m ≡ Some n = sym b.bound ∙ subst (λ (d : Channel). bound_message d past ≡ Some n) (sym here.0) held' in
        let same : m ≡ n = cc in
        absurd (apart n.serial lands (ap (λ (w : Message). w.serial) same)))
        (λ (away : (b.channel ≢ at) × IsSame (sender b.channel past) (sender b.channel (past ++ x ∷ []))). record {
          channel = b.channel;
          bound = away.1.bound
              ∙ b.bound;
          node = b.node;
        })
        (frees' b.channel))
        (λ (new : bound_at x.event x.outcome ≡ Some m). let both : ◌≡◌ {A = Option Message} None (Some m) = sym no' ∙ new in absurd (cc))
        q

    by_effect : (m : Message) → IsHeldBy layout past e m ⊎ (bound_at x.event x.outcome ≡ Some m) → m.serial.source ≡ e →
        ((t : Serial) → settled_in x.event x.outcome ≡ Some t → m.serial ≢ t) → Effect past x.event x.outcome (λ c. sender c (past ++ x ∷ [])) →
        IsHeldBy layout (past ++ x ∷ []) e m
    by_effect m q mine apart (Keeps same no' again lands) =
        ⊎_elim
        (λ (b : IsHeldBy layout past e m). record { channel = b.channel; bound = (same b.channel).bound ∙ b.bound; node = b.node })
        (λ (new : bound_at x.event x.outcome ≡ Some m). let both : ◌≡◌ {A = Option Message} None (Some m) = sym no' ∙ new in absurd (cc))
        q
    by_effect m q mine apart (Binds at n is free binds' still again lands) =
        ⊎_elim
        (λ (b : IsHeldBy layout past e m).
        ⊎_elim
        (λ (here : (b.channel ≡ at) × ((sender b.channel (past ++ x ∷ [])).seq ≡ (sender b.channel past).seq + 1) ×
        (bound_message b.channel (past ++ x ∷ []) ≡ Some n)).
        let both : ◌≡◌ {A = Option Message} None (Some m) = sym (subst (λ (d : Channel). bound_message d past ≡ None) (sym here.0) free)
        ∙ b.bound in absurd (cc))
        (λ (away : (b.channel ≢ at) × IsSame (sender b.channel past) (sender b.channel (past ++ x ∷ []))). record {
          channel = b.channel;
          bound = away.1.bound
              ∙ b.bound;
          node = b.node;
        })
        (binds' b.channel))
        (λ (new : bound_at x.event x.outcome ≡ Some m).
        let both : Some n ≡ Some m = sym is ∙ new in
        let same : n ≡ m = cc in
        let there : bound_message at (past ++ x ∷ []) ≡ Some m =
        ⊎_elim
        (λ (here : (at ≡ at) × ((sender at (past ++ x ∷ [])).seq ≡ (sender at past).seq + 1) × (bound_message at (past ++ x ∷ []) ≡ Some n)). here.2
        ∙ ap (λ (w : Message). Some w) same)
        (λ (away : (at ≢ at) × IsSame (sender at past) (sender at (past ++ x ∷ []))). absurd (away.0 refl))
        (binds' at) in
        record {
          channel = at;
          bound = there;
          node = subst (λ (w : EndpointId). home layout w ≡ Some at.node) mine
              (home_more layout past x lawful k.history k.home may at m there);
        })
        q
    by_effect m q mine apart (Refuses at n held' frees' a cause r still no' again lands) = by_free m q apart at n held' frees' no' lands
    by_effect m q mine apart (Ends at n held' frees' still no' again lands back) = by_free m q apart at n held' frees' no' lands

all_held : (layout : Layout) → IsLawful layout → (past : List Entry) → IsHistory layout past → Held layout past
all_held layout lawful past h =
    over_each (MayFollow layout) (λ xs. Held layout xs)
    (λ xs x k may. record {
      history = each_push (MayFollow layout) [] xs x k.history may;
      home = home_more layout xs x lawful k.history k.home may;
      held = held_more layout lawful xs x k may;
    })
    [] past (record { history = tt; home = λ c m is. absurd (cc); held = λ e. none e (find (has_id e) layout.ends) }) h
  where
    none : (e : EndpointId) (setting : Option EndSetting) → AllAre (λ (f : Flying). IsHeldBy layout [] e f.message) (opening_by layout setting).body.in_flight
    none e None = tt
    none e (Some setting) = tt

-- on the direct network nothing is bound and nothing is in flight
direct_unbound : (layout : Layout) → layout.direct ≡ true → (past : List Entry) → IsHistory layout past → (c : Channel) → bound_message c past ≡ None
direct_unbound layout direct past h c =
    over_each (MayFollow layout) (λ xs. bound_message c xs ≡ None)
    (λ xs x k may. bound_push c xs x false (neither (state_of layout xs (record { 0 = 0 })) x.event x.outcome
    (fits_direct layout direct xs (record { 0 = 0 }) x may)) ∙ k)
    [] past refl h
  where
    neither : (st : State) (event : Event) (o : Outcome) → FitsDirect (record { 0 = 0 }) st event o → (binds c event o || frees c event o) ≡ false
    neither st (Events.Bind node end) o fits = absurd fits
    neither st (Events.Expire node peer channel) o fits = absurd fits
    neither st (Events.Receive node peer number) o fits = absurd fits
    neither st event o fits = refl

direct_none : (layout : Layout) → layout.direct ≡ true → (past : List Entry) → IsHistory layout past → (e : EndpointId) →
    AllAre (λ (f : Flying). ⊥) (state_of layout past e).body.in_flight
direct_none layout direct past h =
    over_each (MayFollow layout) (λ xs. (e : EndpointId) → AllAre (λ (f : Flying). ⊥) (state_of layout xs e).body.in_flight)
    (λ xs x k may e. more xs x k may e (touches e x) refl)
    [] past (λ e. none (find (has_id e) layout.ends)) h
  where
    unbound : (e : EndpointId) (st : State) (event : Event) (o : Outcome) → FitsDirect e st event o → (m : Message) → bound_at event o ≡ Some m → ⊥
    unbound e st (Events.Bind node end) o fits m is = fits
    unbound e st event o fits m is = cc

    more : (xs : List Entry) (x : Entry) → ((e : EndpointId) → AllAre (λ (f : Flying). ⊥) (state_of layout xs e).body.in_flight) → MayFollow layout xs x →
        (e : EndpointId) (t : Bool) → touches e x ≡ t → AllAre (λ (f : Flying). ⊥) (state_of layout (xs ++ x ∷ []) e).body.in_flight
    more xs x k may e true at =
        rw (state_of_push layout xs x e true at)
        (flights_kept (λ (f : Flying). ⊥) e (state_of layout xs e) x.event x.outcome (λ m t is about f none'. none') (k e)
        (λ m is. unbound e (state_of layout xs e) x.event x.outcome (fits_direct layout direct xs e x may) m is))
    more xs x k may e false at = rw (state_of_push layout xs x e false at) (k e)

    none : (setting : Option EndSetting) → AllAre (λ (f : Flying). ⊥) (opening_by layout setting).body.in_flight
    none None = tt
    none (Some setting) = tt

-- on the packet network

held_once : (layout : Layout) → layout.direct ≡ false → (past : List Entry) → IsHistory layout past → (e : EndpointId) (m : Message) →
    IsHeldBy layout past e m → m.serial.source ≡ e → IsHeldOnce layout past e m
held_once layout packet past h e m b own =
    record {
      own = own;
      channel = b.channel;
      bound = b.bound;
      node = b.node;
      only = λ c is. one_channel m.serial past _ _ c b.channel m m ((kept_flights layout packet past h).kept.stands m.serial) is refl b.bound refl;
    }

-- what is resident on the packet network lies in a frame
flies : (layout : Layout) → layout.direct ≡ false → (past : List Entry) → IsHistory layout past → Held layout past → (c : Channel) (m : Message) →
    bound_message c past ≡ Some m → IsFlying layout past c m
flies layout packet past h k c m is =
    record {
      one = omega (arith, low, flown_once layout past h m.serial);
      message =
          all_map (λ (f : Flying). WasAccepted past f.message) (λ (f : Flying). f.message.serial ≡ m.serial →
          f.message ≡ m) (state_of layout past m.serial.source).body.in_flight
          (λ f known same. accepted_one past m.serial f.message m ((each_once layout past h).accepted m.serial) known (d.bound c m is).accepted same refl)
          (d.sent m.serial.source).flights;
      node = k.home c m is;
      frame = resident_is_framed (state_of layout past m.serial.source).head.place (all_aloft layout past h m.serial.source some)
          (fits_network layout past h m.serial.source ∙ ap (λ (b : Bool). b && declared layout m.serial.source) packet);
      opened = open_aloft layout past h m.serial.source some;
    }
  where
    d : Delivers layout past
    d = delivers layout past h

    low : 1 ≤ flown layout past m.serial
    low = (kept_flights layout packet past h).flown c m is

    fewer : (xs : List Flying) → flight_weight (one m.serial) xs ≤ flight_weight (Rattle.am_laws_cluster.proofs.Pools.passing any) xs
    fewer [] = omega arith
    fewer (f ∷ xs) = omega (
      arith,
      fewer xs,
      most (has_serial m.serial f.message),
      sum_by-cons (λ (y : Flying). one m.serial y.message y.bounces) f xs,
      sum_by-cons (λ (y : Flying). 1) f xs,
    )
      where
        most : (b : Bool) → bit b ≤ 1
        most true = omega arith
        most false = omega arith

    some : 1 ≤ flights_of (state_of layout past m.serial.source)
    some = omega (arith, low, fewer (state_of layout past m.serial.source).body.in_flight)

-- the first part: what is in flight is bound
pub in_flight_bound : (layout : Layout) → IsLawful layout → (past : List Entry) → IsHistory layout past → InFlightIsBound layout past
in_flight_bound layout lawful past h = by_network layout.direct refl
  where
    by_network : (direct : Bool) → layout.direct ≡ direct → InFlightIsBound layout past
    by_network true d =
        record {
          held = λ e. all_map (λ (f : Flying). ⊥) (λ (f : Flying). IsHeldOnce layout past e f.message) (state_of layout past e).body.in_flight
              (λ f none. absurd none) (direct_none layout d past h e);
          flies = λ c m is. let both : ◌≡◌ {A = Option Message} None (Some m) = sym (direct_unbound layout d past h c) ∙ is in absurd (cc);
        }
    by_network false d =
        let k = all_held layout lawful past h in
        record {
          held = λ e. all_both (λ (f : Flying). IsHeldBy layout past e f.message) (λ (f : Flying). f.message.serial.source ≡ e)
              (λ (f : Flying). IsHeldOnce layout past e f.message) (state_of layout past e).body.in_flight
              (λ f b own. held_once layout d past h e f.message b own) (k.held e) (flights_own layout past h e);
          flies = flies layout d past h k;
        }

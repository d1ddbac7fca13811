-- An endpoint whose log and state grow by one entry.
use Rattle.std.specs.Prelude.{IsSome, Vec}
use Rattle.std.specs.declared.alloc.Global.{Global}
use Rattle.std.proofs.Common.{◌≡◌, ℕ, Bool, true, false, ◌<◌, List, [], ◌∷◌, ◌++◌, length, Option, Some, refl, sym, ap, ◌∙◌, subst, arith}
use Rattle.std.proofs.lemmas.List.{length_push}
use Rattle.am_office_entries.specs.declared.Call.{Call}
use Rattle.am_office_entries.specs.declared.Entry.{Entry}
use Rattle.am_office_entries.specs.declared.Event.TheVariants as Events
use Rattle.am_office_entries.specs.declared.Outcome.{Outcome}
use Rattle.am_office_entries.specs.declared.Outcome.TheVariants as Out
use Rattle.am_office_entries.specs.declared.Place.TheVariants.{Host}
use Rattle.am_names.specs.declared.EndpointId.{EndpointId}
use Rattle.am_names.specs.declared.NodeId.{NodeId}
use Rattle.am_model.specs.declared.Flying.{Flying}
use Rattle.am_model.specs.declared.Head.{Head}
use Rattle.am_model.specs.declared.Queued.{Queued}
use Rattle.am_names.specs.declared.Serial.{Serial}
use Rattle.am_endpoint_body.specs.Flights.{aloft, front_aloft}
use Rattle.am_endpoint_body.specs.Views.{Fits, View}
use Rattle.am_endpoint_body.proofs.Slots.{fits_within}
use Rattle.am_model.specs.Endpoint.{State, fresh, front_of, is_on_disk}
use Rattle.am_model.specs.Allowed.{MayBind, are_numbers_in_range}
use Rattle.am_model.specs.Calls.{outcome_of_call}
use Rattle.am_model.specs.Changes.{after, bounces_of, called, changed, paged_in, paged_out, with_body, without_front}
use Rattle.am_model.specs.Order.{IsInOrder, KeepsOrder}
use Rattle.am_model.proofs.Each.{replay_push}
use Rattle.am_model.proofs.Order.{order_called}
use Rattle.am_model.proofs.Sound.{accepted_after}
use Rattle.am_endpoint.specs.Events.{keeps_in_memory}
use Rattle.am_endpoint.specs.Flights.{IsSlotOf}
use Rattle.am_endpoint.specs.Held.{IsHeldOf, IsHere, flights_of, held_wanted, with_wanted}
use Rattle.am_endpoint.specs.Kept.{IsReplay, replayed, view_of}
use Rattle.am_endpoint.specs.Seen.{state_in}
use Rattle.am_endpoint.specs.View.{EndpointView, state_after, state_by}
use Rattle.am_endpoint.specs.declared.fields.Fields.{Fields}
use Rattle.am_endpoint.specs.declared.held.HeldEndpoint.{HeldEndpoint}
use Rattle.am_endpoint.specs.declared.held.HeldEndpoint.TheVariants.{Here, OnDisk}
use Rattle.am_endpoint.specs.declared.Endpoint.TheInside.{Inside}
use Rattle.am_endpoint.proofs.Holding.{called_here, stays_here, wanted_held}

-- the state by a log that is one entry longer
next : (i : Inside) (log : Vec Entry Global) (x : Entry) → log.items ≡ i.log.items ++ x ∷ [] →
    state_by i.settings log.items ≡ after i.settings.id (replayed i) x
next i log x items = ap (state_by i.settings) items ∙ replay_push i.settings.id (fresh i.settings.tag i.settings.place) i.log.items x

pub entered : (i : Inside) (held : HeldEndpoint) (log : Vec Entry Global) (x : Entry) → IsReplay i → log.items ≡ i.log.items ++ x ∷ [] →
    length i.log.items < i.settings.log → IsHeldOf i.settings.pool (after i.settings.id (replayed i) x) held →
    IsInOrder i.settings.pool i.settings.id (after i.settings.id (replayed i) x) → IsReplay (record i { held = held; log = log })
entered i held log x kept items room holds order =
    let set = i.settings in
    let is = next i log x items in
    record {
      held = subst (λ (s : State). IsHeldOf set.pool s held) (sym is) holds;
      order = subst (λ (s : State). IsInOrder set.pool set.id s) (sym is) order;
      counted =
          omega (arith, accepted_after set.id (replayed i) x, ap (λ (s : State). s.body.accepted) is, kept.counted, ap length items, length_push i.log.items x);
      bounded = omega (arith, room, ap length items, length_push i.log.items x);
      lawful = kept.lawful;
    }

-- the fields of an endpoint that stays in memory, after an entry
pub here_after : (i : Inside) (f g : Fields) (x : Entry) → keeps_in_memory x.event ≡ true → IsHere i.settings.pool (replayed i) f →
    state_in g ≡ after i.settings.id (state_in f) x → g.body.pool ≡ f.body.pool → IsHere i.settings.pool (after i.settings.id (replayed i) x) g
here_after i f g x keeps here changed pool =
    record {
      in_memory = stays_here i.settings.id (replayed i) x keeps here.in_memory;
      state = changed ∙ ap (λ (s : State). after i.settings.id s x) here.state;
      pooled = pool ∙ here.pooled;
    }

-- a bind sets the front message in flight

bounces_front : (replies requests : List Queued) (q : Queued) → front_of replies requests ≡ Some q → bounces_of replies requests ≡ q.bounces
bounces_front [] [] q is = absurd (cc)
bounces_front [] (x ∷ requests) q is = let same : x ≡ q = cc in ap (λ (y : Queued). y.bounces) same
bounces_front (x ∷ replies) requests q is = let same : x ≡ q = cc in ap (λ (y : Queued). y.bounces) same

bound_so : (node : NodeId) (end e : EndpointId) (s : State) (x : Entry) → MayBind node end s x → after e s x ≡ with_body s (front_aloft s.body)
bound_so node end e s x may =
    let flown : List Flying → State = λ fs. with_body s (record (without_front s.body) { in_flight = s.body.in_flight ++ fs }) in
    (λ k. changed e s (may.event k) (may.outcome k))
    ∙ ap (λ (n : ℕ). flown (record { message = may.queued.message; bounces = n; answered = false } ∷ []))
    (bounces_front s.body.replies s.body.requests may.queued may.is_front)
    ∙ ap (λ (f : Option Queued). flown (aloft f)) (sym may.is_front)

-- an entry that binds the front message, by what is held
pub record IsBound (i : Inside) (f : Fields) (x : Entry) : Type 0 where
  pub some : IsSome (front_of f.body.body.replies f.body.body.requests)
  pub change : after i.settings.id (state_in f) x ≡ with_body (state_in f) (front_aloft f.body.body)

pub bound_here : (i : Inside) (v : EndpointView) (f : Fields) (x : Entry) → view_of i ≡ v → IsHere i.settings.pool (replayed i) f →
    MayBind v.settings.node v.settings.id (state_after v) x → IsBound i f x
bound_here i v f x e here may =
    let is : MayBind v.settings.node v.settings.id (state_in f) x = subst (λ (s : State). MayBind v.settings.node v.settings.id s x) (sym (here.state
    ∙ ap state_after e)) may in
    record {
      some = subst (λ (q : Option Queued). IsSome q) (sym is.is_front) refl;
      change = bound_so v.settings.node v.settings.id i.settings.id (state_in f) x is;
    }

-- a body after an entry that keeps the order fits its slots
pub fits_next : (i : Inside) (f : Fields) (x : Entry) → IsHere i.settings.pool (replayed i) f →
    IsInOrder i.settings.pool i.settings.id (after i.settings.id (replayed i) x) → Fits (after i.settings.id (state_in f) x).body
fits_next i f x here order = subst (λ (s : State). Fits (after i.settings.id s x).body) (sym here.state)
    (fits_within (after i.settings.id (replayed i) x).body order.within)

-- the slot of the message that an entry settles, among what is held
pub slot_held : (i : Inside) (v : EndpointView) (f : Fields) (serial : Option Serial) (slot : ℕ) → view_of i ≡ v → i.held ≡ Here f →
    IsHere i.settings.pool (replayed i) f → IsSlotOf serial (state_after v).body.in_flight v.flights slot →
    IsSlotOf serial f.body.body.in_flight f.body.flights slot
slot_held i v f serial slot e is here at =
    subst (λ (s : State). IsSlotOf serial s.body.in_flight f.body.flights slot) (sym here.state)
    (subst (λ (h : HeldEndpoint). IsSlotOf serial (replayed i).body.in_flight (flights_of h) slot) is
    (subst (λ (w : EndpointView). IsSlotOf serial (state_after w).body.in_flight w.flights slot) (sym e) at))

-- and after a call
pub here_called : (i : Inside) (f g : Fields) (call : Call) (o : Outcome) → IsHere i.settings.pool (replayed i) f → state_in g ≡ called (state_in f) call o →
    g.body.pool ≡ f.body.pool → IsHere i.settings.pool (called (replayed i) call o) g
here_called i f g call o here changed pool =
    record {
      in_memory = called_here (replayed i) call o here.in_memory;
      state = changed ∙ ap (λ (s : State). called s call o) here.state;
      pooled = pool ∙ here.pooled;
    }

-- an entry that keeps the order
pub order_next : (i : Inside) (v : EndpointView) (x : Entry) → view_of i ≡ v → IsReplay i →
    KeepsOrder v.settings.bounces v.settings.pool v.settings.id (state_after v) x → IsInOrder i.settings.pool i.settings.id (after i.settings.id (replayed i) x)
order_next i v x e kept keeps =
    let told : KeepsOrder i.settings.bounces i.settings.pool i.settings.id (state_after (view_of i)) x =
    subst (λ (w : EndpointView). KeepsOrder w.settings.bounces w.settings.pool w.settings.id (state_after w) x) (sym e) keeps in
    told kept.lawful.bounces kept.order

pub outcome_here : (i : Inside) (f : Fields) (call : Call) (o : Outcome) → IsHere i.settings.pool (replayed i) f →
    o ≡ outcome_of_call f.body.pool i.settings.id (state_in f) call → o ≡ outcome_of_call i.settings.pool i.settings.id (replayed i) call
outcome_here i f call o here is =
    is
    ∙ ap (λ (p : Option ℕ). outcome_of_call p i.settings.id (state_in f) call) here.pooled
    ∙ ap (λ (s : State). outcome_of_call i.settings.pool i.settings.id s call) here.state

-- a call, where its numbers are in range
pub order_made : (i : Inside) (f : Fields) (call : Call) (o : Outcome) → IsReplay i → IsHere i.settings.pool (replayed i) f →
    are_numbers_in_range i.settings.pool call ≡ true → o ≡ outcome_of_call f.body.pool i.settings.id (state_in f) call →
    IsInOrder i.settings.pool i.settings.id (called (replayed i) call o)
order_made i f call o kept here range is =
    let set = i.settings in
    let s = replayed i in
    subst (λ (w : Outcome). IsInOrder set.pool set.id (called s call w)) (sym (outcome_here i f call o here is))
    (order_called set.pool set.id s call range kept.order)

pub outcome_made : (i : Inside) (v : EndpointView) (f : Fields) (call : Call) (o : Outcome) → view_of i ≡ v → IsHere i.settings.pool (replayed i) f →
    o ≡ outcome_of_call f.body.pool i.settings.id (state_in f) call → o ≡ outcome_of_call v.settings.pool v.settings.id (state_after v) call
outcome_made i v f call o e here is =
    outcome_here i f call o here is ∙ ap (λ (w : EndpointView). outcome_of_call w.settings.pool w.settings.id (state_after w) call) e

pub order_told : (i : Inside) (v : EndpointView) → view_of i ≡ v → IsReplay i → IsInOrder v.settings.pool v.settings.id (state_after v)
order_told i v e kept = subst (λ (w : EndpointView). IsInOrder w.settings.pool w.settings.id (state_after w)) e kept.order

-- a log with more room
pub same_log : (i : Inside) (log : Vec Entry Global) → log.items ≡ i.log.items → IsReplay i → IsReplay (record i { log = log })
same_log i log items kept =
    let set = i.settings in
    let is : state_by set log.items ≡ replayed i = ap (state_by set) items in
    record {
      held = subst (λ (s : State). IsHeldOf set.pool s i.held) (sym is) kept.held;
      order = subst (λ (s : State). IsInOrder set.pool set.id s) (sym is) kept.order;
      counted = omega (arith, ap (λ (s : State). s.body.accepted) is, kept.counted, ap length items);
      bounded = omega (arith, kept.bounded, ap length items);
      lawful = kept.lawful;
    }

-- what is held after an entry that changes at most whether it is wanted
pub noted : (i : Inside) (v : EndpointView) (x : Entry) (held : HeldEndpoint) (wanted : Bool) → view_of i ≡ v → IsReplay i → held ≡ held_wanted i.held wanted →
    after v.settings.id (state_after v) x ≡ with_wanted (state_after v) wanted → IsHeldOf i.settings.pool (after i.settings.id (replayed i) x) held
noted i v x held wanted e kept is change =
    let here : after i.settings.id (replayed i) x ≡ with_wanted (replayed i) wanted =
    subst (λ (w : EndpointView). after w.settings.id (state_after w) x ≡ with_wanted (state_after w) wanted) (sym e) change in
    subst (λ (h : HeldEndpoint). IsHeldOf i.settings.pool (after i.settings.id (replayed i) x) h) (sym is)
    (subst (λ (s : State). IsHeldOf i.settings.pool s (held_wanted i.held wanted)) (sym here)
    (wanted_held i.settings.pool (replayed i) i.held wanted kept.held))

-- what is held after it went to disk
pub gave : (i : Inside) (v : EndpointView) (x : Entry) (node : NodeId) (end : EndpointId) (f : Fields) (h : Head) (held : HeldEndpoint) → view_of i ≡ v →
    x.event ≡ Events.PageOut node end → x.outcome ≡ Out.Done → state_in f ≡ state_after v → h ≡ (paged_out (state_in f) Out.Done).head → held ≡ OnDisk h →
    IsHeldOf i.settings.pool (after i.settings.id (replayed i) x) held
gave i v x node end f h held e event outcome state head is =
    let out : after i.settings.id (replayed i) x ≡ paged_out (replayed i) Out.Done = λ k. changed i.settings.id (replayed i) (event k) (outcome k) in
    subst (λ (w : HeldEndpoint). IsHeldOf i.settings.pool (after i.settings.id (replayed i) x) w) (sym is)
    (record {
      on_disk = ap (λ (s : State). is_on_disk s.head.place) out;
      head = head ∙ ap (λ (s : State). (paged_out s Out.Done).head) (state ∙ sym (ap state_after e)) ∙ sym (ap (λ (s : State). s.head) out);
    })

-- what is held after it came from disk with its body
pub came : (i : Inside) (v : EndpointView) (x : Entry) (node : NodeId) (end : EndpointId) (h : Head) (b : View) → view_of i ≡ v →
    x.event ≡ Events.PageIn node end → x.outcome ≡ Out.Done → h ≡ (state_after v).head →
    b ≡ record { pool = v.settings.pool; body = (state_after v).body; flights = b.flights } →
    IsHere i.settings.pool (after i.settings.id (replayed i) x) (record { head = record h { place = Host }; body = b })
came i v x node end h b e event outcome head body =
    let back : after i.settings.id (replayed i) x ≡ paged_in (replayed i) Out.Done = λ k. changed i.settings.id (replayed i) (event k) (outcome k) in
    let heads : h ≡ (replayed i).head = head ∙ sym (ap (λ (w : EndpointView). (state_after w).head) e) in
    let bodies : b ≡ record { pool = i.settings.pool; body = (replayed i).body; flights = b.flights } =
    body ∙ sym (ap (λ (w : EndpointView). record { pool = w.settings.pool; body = (state_after w).body; flights = b.flights }) e) in
    record {
      in_memory = ap (λ (s : State). is_on_disk s.head.place) back;
      state = (λ k. record { head = record (heads k) { place = Host }; body = (bodies k).body }) ∙ sym back;
      pooled = ap (λ (w : View). w.pool) bodies;
    }

-- and its body, which stays the one that the log gives

pub noted_body : (i : Inside) (v : EndpointView) (log : Vec Entry Global) (x : Entry) (wanted : Bool) → view_of i ≡ v → log.items ≡ i.log.items ++ x ∷ [] →
    after v.settings.id (state_after v) x ≡ with_wanted (state_after v) wanted → (state_by i.settings log.items).body ≡ (state_after v).body
noted_body i v log x wanted e items change =
    ap (λ (s : State). s.body) (next i log x items) ∙ ap (λ (w : EndpointView). (after w.settings.id (state_after w) x).body) e
    ∙ ap (λ (s : State). s.body) change

pub gave_body : (i : Inside) (v : EndpointView) (log : Vec Entry Global) (x : Entry) (node : NodeId) (end : EndpointId) → view_of i ≡ v →
    log.items ≡ i.log.items ++ x ∷ [] → x.event ≡ Events.PageOut node end → x.outcome ≡ Out.Done → (state_by i.settings log.items).body ≡ (state_after v).body
gave_body i v log x node end e items event outcome =
    ap (λ (s : State). s.body) (next i log x items)
    ∙ (λ k. (changed i.settings.id (replayed i) (event k) (outcome k)).body)
    ∙ ap (λ (w : EndpointView). (state_after w).body) e

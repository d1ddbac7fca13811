-- An endpoint's place is that of the direct network where the cluster is one, and nowhere else.
use Rattle.std.proofs.Common.{◌≡◌, Bool, true, false, cond, ◌||◌, List, [], ◌∷◌, ◌++◌, Option, Some, None, refl, sym, ap, ◌∙◌, if◌then◌else◌}
use Rattle.std.specs.Prelude.{◌&&◌, is_some}
use Rattle.std.specs.List.{find, list_any}
use Rattle.am_names.specs.declared.EndpointId.{EndpointId}
use Rattle.am_names.specs.Names.{same_end}
use Rattle.am_office_entries.specs.declared.Call.{Call}
use Rattle.am_office_entries.specs.declared.Call.TheVariants as Calls
use Rattle.am_office_entries.specs.declared.Condition.{Condition}
use Rattle.am_office_entries.specs.declared.Event.{Event}
use Rattle.am_office_entries.specs.declared.Event.TheVariants as Events
use Rattle.am_office_entries.specs.declared.Outcome.{Outcome}
use Rattle.am_office_entries.specs.declared.Outcome.TheVariants as Out
use Rattle.am_office_entries.specs.declared.Received.{Received}
use Rattle.am_office_entries.specs.declared.Received.TheVariants as Got
use Rattle.am_office_entries.specs.declared.Entry.{Entry}
use Rattle.am_office_entries.specs.Entries.{touches}
use Rattle.am_names.specs.declared.Cause.TheVariants.{NotResident}
use Rattle.am_model.specs.Endpoint.{State, is_direct}
use Rattle.am_model.specs.Changes.{called, left, reached, carried, put, received, expired, bound, paged_out, paged_in, changed}
use Rattle.am_model.specs.Layout.{Layout, EndSetting, declared, has_id, opening_by, opening_place}
use Rattle.am_model.specs.History.{MayFollow, IsHistory, state_of, failing}
use Rattle.am_model.proofs.Each.{over_each, state_of_push}
use Rattle.am_laws_cluster.specs.Homes.Homes.{FitsNetwork}

abbrev at_direct : State → Bool
at_direct s = is_direct s.head.place

called_stays : (s : State) (c : Call) (o : Outcome) → at_direct (called s c o) ≡ at_direct s
called_stays s (Calls.Request index handler words) (Out.Requested m) = refl
called_stays s Calls.Poll (Out.Zero serial why) = refl
called_stays s Calls.Poll (Out.Ran handler m None) = refl
called_stays s Calls.Poll (Out.Ran handler m (Some reply)) = refl
called_stays s (Calls.SetTag tag) Out.Done = refl
called_stays s (Calls.Map index name tag credits) Out.Done = refl
called_stays s (Calls.Unmap index) Out.Done = refl
called_stays s (Calls.SetHandler index kind) Out.Done = refl
called_stays s (Calls.GiveUp serial) Out.Done = refl
called_stays s Calls.Close Out.Done = refl
called_stays s c o = refl

if_stays : (b : Bool) (s t : State) (d : Bool) → at_direct s ≡ d → at_direct t ≡ d → at_direct (if b then t else s) ≡ d
if_stays true s t d h k = k
if_stays false s t d h k = h

left_stays : (s : State) (o : Outcome) → at_direct (left s o) ≡ at_direct s
left_stays s (Out.Accepted m) = refl
left_stays s (Out.Requeued m cause bounces) = refl
left_stays s (Out.Returned m cause) = refl
left_stays s o = refl

reached_stays : (e : EndpointId) (s : State) (o : Outcome) → at_direct (reached e s o) ≡ at_direct s
reached_stays e s (Out.Accepted m) = if_stays (same_end e m.dest) s (put m s) (at_direct s) refl refl
reached_stays e s o = refl

carried_stays : (e end : EndpointId) (s : State) (o : Outcome) → at_direct (carried e end s o) ≡ at_direct s
carried_stays e end s o =
    reached_stays e (if same_end e end then left s o else s) o ∙ if_stays (same_end e end) s (left s o) (at_direct s) refl (left_stays s o)

received_stays : (e : EndpointId) (s : State) (r : Received) → at_direct (received e s r) ≡ at_direct s
received_stays e s (Got.Accepted m answer) = refl
received_stays e s (Got.Refused m NotResident answer) = refl
received_stays e s (Got.Refused m cause answer) = refl
received_stays e s (Got.Delivered serial) = refl
received_stays e s (Got.Requeued serial cause bounces) = refl
received_stays e s (Got.Returned serial cause) = refl
received_stays e s r = refl

expired_stays : (s : State) (o : Outcome) → at_direct (expired s o) ≡ at_direct s
expired_stays s (Out.Delivered serial) = refl
expired_stays s (Out.Unknown serial) = refl
expired_stays s o = refl

bound_stays : (s : State) (o : Outcome) → at_direct (bound s o) ≡ at_direct s
bound_stays s (Out.Sent m peer channel seq attempt number) = refl
bound_stays s o = refl

paged_out_stays : (s : State) (o : Outcome) → at_direct s ≡ false → at_direct (paged_out s o) ≡ false
paged_out_stays s Out.Done h = refl
paged_out_stays s o h = h

paged_in_stays : (s : State) (o : Outcome) → at_direct s ≡ false → at_direct (paged_in s o) ≡ false
paged_in_stays s Out.Done h = refl
paged_in_stays s o h = h

pub condition_holds : (c : Condition) (rest : Option Condition) (b : Bool) → b ≡ true → cond b (Some c) rest ≡ None → ⊥
condition_holds c rest true is k = cc
condition_holds c rest false is k = cc

-- in the direct network no event that may happen changes a place
direct_stays : (layout : Layout) (past : List Entry) (e : EndpointId) (s : State) (event : Event) (o : Outcome) → layout.direct ≡ true →
    failing layout past event ≡ None → at_direct (changed e s event o) ≡ at_direct s
direct_stays layout past e s (Events.Call actor end call) o direct may = called_stays s call o
direct_stays layout past e s (Events.Want actor end) o direct may = refl
direct_stays layout past e s (Events.Carry end) o direct may = carried_stays e end s o
direct_stays layout past e s (Events.Bind node end) o direct may = absurd (condition_holds _ _ layout.direct direct may)
direct_stays layout past e s (Events.Expire node peer channel) o direct may = absurd (condition_holds _ _ layout.direct direct may)
direct_stays layout past e s (Events.Receive node peer number) o direct may = absurd (condition_holds _ _ layout.direct direct may)
direct_stays layout past e s (Events.Drain node end) o direct may = absurd (condition_holds _ _ layout.direct direct may)
direct_stays layout past e s (Events.Unload node end) o direct may = absurd (condition_holds _ _ layout.direct direct may)
direct_stays layout past e s (Events.Load node end frame) o direct may = absurd (condition_holds _ _ layout.direct direct may)
direct_stays layout past e s (Events.PageOut node end) o direct may = absurd (condition_holds _ _ layout.direct direct may)
direct_stays layout past e s (Events.PageIn node end) o direct may = absurd (condition_holds _ _ layout.direct direct may)

-- no event brings an endpoint into the direct network
packet_stays : (e : EndpointId) (s : State) (event : Event) (o : Outcome) → at_direct s ≡ false → at_direct (changed e s event o) ≡ false
packet_stays e s (Events.Call actor end call) o h = called_stays s call o ∙ h
packet_stays e s (Events.Want actor end) o h = h
packet_stays e s (Events.Carry end) o h = carried_stays e end s o ∙ h
packet_stays e s (Events.Bind node end) o h = bound_stays s o ∙ h
packet_stays e s (Events.Expire node peer channel) o h = expired_stays s o ∙ h
packet_stays e s (Events.Receive node peer number) (Out.Received channel seq attempt result) h = received_stays e s result ∙ h
packet_stays e s (Events.Receive node peer number) o h = h
packet_stays e s (Events.Drain node end) o h = h
packet_stays e s (Events.Unload node end) o h = refl
packet_stays e s (Events.Load node end frame) o h = refl
packet_stays e s (Events.PageOut node end) o h = paged_out_stays s o h
packet_stays e s (Events.PageIn node end) o h = paged_in_stays s o h

one_more : (layout : Layout) (past : List Entry) (x : Entry) → FitsNetwork layout past → MayFollow layout past x → FitsNetwork layout (past ++ x ∷ [])
one_more layout past x fits may e = by_touch (touches e x) refl
  where
    s : State
    s = state_of layout past e

    by_network : (b : Bool) → layout.direct ≡ b → at_direct (changed e s x.event x.outcome) ≡ (layout.direct && declared layout e)
    by_network true is = direct_stays layout past e s x.event x.outcome is may.enabled ∙ fits e
    by_network false is =
        let before : at_direct s ≡ false = fits e ∙ ap (λ (b : Bool). b && declared layout e) is in
        packet_stays e s x.event x.outcome before ∙ sym (ap (λ (b : Bool). b && declared layout e) is)

    by_touch : (t : Bool) → touches e x ≡ t → at_direct (state_of layout (past ++ x ∷ []) e) ≡ (layout.direct && declared layout e)
    by_touch true at = ap at_direct (state_of_push layout past x e true at) ∙ by_network layout.direct refl
    by_touch false at = ap at_direct (state_of_push layout past x e false at) ∙ fits e

any_found : {A : Type 0} (p : A → Bool) (xs : List A) → list_any p xs ≡ is_some (find p xs)
any_found p [] = refl
any_found p (x ∷ xs) = by_test (p x) (any_found p xs)
  where
    by_test : (b : Bool) → list_any p xs ≡ is_some (find p xs) → (b || list_any p xs) ≡ is_some (if b then Some x else find p xs)
    by_test true rest = refl
    by_test false rest = rest

at_opening : (layout : Layout) → FitsNetwork layout []
at_opening layout e = by_setting (find (has_id e) layout.ends) ∙ ap (λ (b : Bool). layout.direct && b) (sym (any_found (has_id e) layout.ends))
  where
    never : (b : Bool) → false ≡ (b && false)
    never true = refl
    never false = refl

    by_place : (b disk : Bool) → is_direct (opening_place b disk) ≡ (b && true)
    by_place true disk = refl
    by_place false true = refl
    by_place false false = refl

    by_setting : (setting : Option EndSetting) → at_direct (opening_by layout setting) ≡ (layout.direct && is_some setting)
    by_setting None = never layout.direct
    by_setting (Some setting) = by_place layout.direct setting.disk

pub fits_network : (layout : Layout) (past : List Entry) → IsHistory layout past → FitsNetwork layout past
fits_network layout past h = over_each (MayFollow layout) (FitsNetwork layout) (λ xs x fits may. one_more layout xs x fits may) [] past (at_opening layout) h

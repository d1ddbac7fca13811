-- The entry of a bind.
use Rattle.std.specs.Prelude.{is_none, not}
use Rattle.std.proofs.Common.{◌≡◌, ◌+◌, ℕ, Bool, true, false, List, [], ◌∷◌, Option, Some, None, refl, sym, ap, ◌∙◌, subst, true≢false}
use Rattle.std.proofs.lemmas.Bool.{not-false}
use Rattle.am_names.specs.declared.EndpointId.{EndpointId}
use Rattle.am_names.specs.declared.NodeId.{NodeId}
use Rattle.am_office_entries.specs.declared.Condition.{Condition}
use Rattle.am_office_entries.specs.declared.Condition.TheVariants as Needs
use Rattle.am_office_entries.specs.declared.Event.TheVariants as Events
use Rattle.am_office_entries.specs.declared.Outcome.{Outcome}
use Rattle.am_office_entries.specs.declared.Outcome.TheVariants as Out
use Rattle.am_office_entries.specs.declared.Place.{Place}
use Rattle.am_office_entries.specs.declared.Entry.{Entry}
use Rattle.am_model.specs.declared.Queued.{Queued}
use Rattle.am_office_entries.specs.Entries.{is_node}
use Rattle.am_model.specs.Allowed.{MayBind}
use Rattle.am_model.specs.Endpoint.{State, front, is_direct, is_resident}
use Rattle.am_model.specs.History.{bind_to, free_from, next_number}
use Rattle.am_model.proofs.Names.{same_node-is}
use Rattle.am_block.specs.declared.Slot.{Slot}
use Rattle.am_channel.specs.declared.ends.Ends.{Ends}
use Rattle.am_channel.specs.declared.sending.Sent.{Sent}
use Rattle.am_channel.specs.Calls.{Bind, after}
use Rattle.am_channel.specs.Counted.{AreCounted}
use Rattle.am_model_parts.specs.Interface.{InterfaceLog, bind_at, channel_by_home, channel_in, channel_of_front, failing_at, home_in, is_home_in, outcome_at}
use Rattle.am_model_parts.specs.declared.work.Work.TheVariants as Works
use Rattle.am_model_parts.proofs.Frames.{none_holds}
use Rattle.am_model_parts.proofs.Granting.{work_granted}
use Rattle.am_endpoint.specs.View.{EndpointView, state_after}
use Rattle.am_iface.specs.Made.{IsMade}
use Rattle.am_iface.specs.View.{InterfaceView, own}
use Rattle.am_iface.proofs.Telling.{bind_made}
use Rattle.am_iface.proofs.Turning.{IsEntryOf}

-- an endpoint of the node from which a bind is made
pub record IsReadyToBind (i : InterfaceLog) (s : State) (end : EndpointId) : Type 0 where
  pub home : is_home_in i end ≡ true
  pub resident : is_resident s.head.place ≡ true
  pub message : is_none (front s) ≡ false
  pub channel : is_none (channel_of_front i (front s)) ≡ false

pub ready_to_bind : (i : InterfaceLog) (s : State) (end : EndpointId) → failing_at i s (Works.Bind end) ≡ None → IsReadyToBind i s end
ready_to_bind i s end on =
    let no_channel : List (Bool × Condition) = (is_none (channel_of_front i (front s)), Needs.NoChannel) ∷ [] in
    let no_message : List (Bool × Condition) = (is_none (front s), Needs.NoMessage) ∷ no_channel in
    let draining : List (Bool × Condition) = (s.head.draining, Needs.Draining) ∷ no_message in
    let grounded : List (Bool × Condition) = (not (is_resident s.head.place), Needs.NotResident) ∷ draining in
    let a = none_holds (not (is_home_in i end)) Needs.OtherNode grounded on in
    let b = none_holds (not (is_resident s.head.place)) Needs.NotResident draining a.1 in
    let c = none_holds s.head.draining Needs.Draining no_message b.1 in
    let d = none_holds (is_none (front s)) Needs.NoMessage no_channel c.1 in
    let f = none_holds (is_none (channel_of_front i (front s))) Needs.NoChannel [] d.1 in
    record { home = not-false (is_home_in i end) a.0; resident = not-false (is_resident s.head.place) b.0; message = d.0; channel = f.0 }

-- it has a front message
pub not_empty : (q : Option Queued) → is_none q ≡ false → q ≡ None → ⊥
not_empty q there none = true≢false (ap (λ (p : Option Queued). is_none p) (sym none) ∙ there)

-- the front message's destination has a home
pub not_homeless : (i : InterfaceLog) (f : Option Queued) (q : Queued) → is_none (channel_of_front i f) ≡ false → f ≡ Some q → home_in i q.message.dest ≡ None →
    ⊥
not_homeless i f q free at none =
    true≢false (sym (ap (λ (p : Option Queued). is_none (channel_of_front i p)) at ∙ ap (λ (h : Option NodeId). is_none (channel_by_home i h)) none) ∙ free)

-- a channel to it is free
pub not_taken : (i : InterfaceLog) (f : Option Queued) (q : Queued) (peer : NodeId) → is_none (channel_of_front i f) ≡ false → f ≡ Some q →
    home_in i q.message.dest ≡ Some peer → free_from i.settings.node peer i.log 0 i.settings.channels ≡ None → ⊥
not_taken i f q peer free at home none =
    true≢false (sym (ap (λ (p : Option Queued). is_none (channel_of_front i p)) at ∙ ap (λ (h : Option NodeId). is_none (channel_by_home i h)) home
    ∙ ap (λ (k : Option ℕ). is_none k) none) ∙ free)

-- what the interface knows as it makes the entry
pub record IsBindingAt (v : InterfaceView) (e : EndpointView) (q : Queued) (peer : NodeId) (channel : ℕ) (ends : Ends) (numbers : Sent) (number : ℕ) : Type 0
  where
    pub enabled : failing_at (own v) (state_after e) (Works.Bind e.settings.id) ≡ None
    pub front_is : front (state_after e) ≡ Some q
    pub home : home_in (own v) q.message.dest ≡ Some peer
    pub free : free_from v.settings.node peer v.log 0 v.settings.channels ≡ Some channel
    pub counted : AreCounted (channel_in (own v) peer channel) v.log ends
    pub sent_as : numbers ≡ record { seq = ends.sending.seq + 1; attempt = 0 }
    pub number_is : number ≡ next_number v.settings.node peer v.log

pub binding_outcome : (v : InterfaceView) (e : EndpointView) (q : Queued) (peer : NodeId) (channel : ℕ) (ends : Ends) (numbers : Sent) (number : ℕ) →
    IsBindingAt v e q peer channel ends numbers number → Out.Sent q.message peer channel numbers.seq numbers.attempt number ≡ outcome_at (own v) (state_after e)
    (Works.Bind e.settings.id)
binding_outcome v e q peer channel ends numbers number is =
    (λ j. Out.Sent q.message peer channel (is.sent_as j).seq (is.sent_as j).attempt (is.number_is j))
    ∙ (λ j. Out.Sent q.message peer channel (is.counted.seq j + 1) 0 (next_number v.settings.node peer v.log))
    ∙ sym (ap (λ (f : Option Queued). bind_at (own v) f) is.front_is
    ∙ ap (λ (h : Option NodeId). bind_to v.settings.node v.log q h (channel_by_home (own v) h)) is.home
    ∙ ap (λ (k : Option ℕ). bind_to v.settings.node v.log q (Some peer) k) is.free)

pub binding_made : (v : InterfaceView) (e : EndpointView) (q : Queued) (peer : NodeId) (channel : ℕ) (ends : Ends) (slot : Slot) (numbers : Sent)
    (number stamp : ℕ) (node : NodeId) (end : EndpointId) (outcome : Outcome) (x : Entry) → IsBindingAt v e q peer channel ends numbers number →
    node ≡ v.settings.node → outcome ≡ Out.Sent q.message peer channel numbers.seq numbers.attempt number →
    x ≡ record { stamp = stamp; event = Events.Bind node end; outcome = outcome } →
    IsMade (channel_in (own v) peer channel) v.log (after ends (Bind q.message slot)) x
binding_made v e q peer channel ends slot numbers number stamp node end outcome x is here sent made =
    bind_made (channel_in (own v) peer channel) v.log ends (after ends (Bind q.message slot)) q.message slot end number x is.counted refl
    (ap (λ (y : Entry). y.event) made ∙ ap (λ (n : NodeId). Events.Bind n end) here)
    (ap (λ (y : Entry). y.outcome) made ∙ sent ∙ (λ j. Out.Sent q.message peer channel (is.sent_as j).seq (is.sent_as j).attempt number))

pub binding_entry : (v : InterfaceView) (e : EndpointView) (q : Queued) (peer : NodeId) (channel : ℕ) (ends : Ends) (numbers : Sent) (number stamp : ℕ)
    (node : NodeId) (end : EndpointId) (outcome : Outcome) (x : Entry) → IsBindingAt v e q peer channel ends numbers number → node ≡ v.settings.node →
    end ≡ e.settings.id → outcome ≡ Out.Sent q.message peer channel numbers.seq numbers.attempt number →
    x ≡ record { stamp = stamp; event = Events.Bind node end; outcome = outcome } → IsEntryOf v (state_after e) stamp (Works.Bind e.settings.id) x
binding_entry v e q peer channel ends numbers number stamp node end outcome x is here of sent made =
    record {
      event = ap (λ (y : Entry). y.event) made ∙ (λ j. Events.Bind (here j) (of j));
      outcome = ap (λ (y : Entry). y.outcome) made ∙ sent ∙ binding_outcome v e q peer channel ends numbers number is;
      stamped = ap (λ (y : Entry). y.stamp) made;
      enabled = is.enabled;
    }

-- the endpoint is of the interface's node
home_is : (v : InterfaceView) (end : EndpointId) (node : NodeId) → is_home_in (own v) end ≡ true → home_in (own v) end ≡ Some node → v.settings.node ≡ node
home_is v end node home at = same_node-is v.settings.node node (sym (ap (λ (h : Option NodeId). is_node v.settings.node h) at) ∙ home)

-- the endpoint may be given it
pub binding_allowed : (v : InterfaceView) (e : EndpointView) (stamp : ℕ) (x : Entry) → home_in (own v) e.settings.id ≡ Some e.settings.node →
    is_direct (state_after e).head.place ≡ false → IsEntryOf v (state_after e) stamp (Works.Bind e.settings.id) x →
    MayBind e.settings.node e.settings.id (state_after e) x
binding_allowed v e stamp x at packet is =
    subst (λ (n : NodeId). MayBind n e.settings.id (state_after e) x) (home_is v e.settings.id e.settings.node
    (ready_to_bind (own v) (state_after e) e.settings.id is.enabled).home at)
    (work_granted (own v) e.settings.id (state_after e) (Works.Bind e.settings.id) x
    (record { needs = refl; enabled = is.enabled; event = is.event; outcome = is.outcome; fits = tt; packet = packet }))

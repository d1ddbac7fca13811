-- What an entry does and touches is the same, whoever made its call.
use Rattle.std.proofs.Common.{◌≡◌, Bool, ◌||◌, Option, Some, None, refl, ap, ◌∙◌}
use Rattle.std.specs.List.{list_any}
use Rattle.am_names.specs.Names.{same_end}
use Rattle.am_names.specs.declared.EndpointId.{EndpointId}
use Rattle.am_names.specs.declared.NodeId.{NodeId}
use Rattle.am_names.specs.declared.Serial.{Serial}
use Rattle.am_office_entries.specs.declared.Actor.{Actor}
use Rattle.am_office_entries.specs.declared.Actor.TheVariants.{Outside}
use Rattle.am_office_entries.specs.declared.Call.{Call}
use Rattle.am_office_entries.specs.declared.Entry.{Entry}
use Rattle.am_office_entries.specs.declared.Event.{Event}
use Rattle.am_office_entries.specs.declared.Event.TheVariants as Events
use Rattle.am_office_entries.specs.declared.Outcome.{Outcome}
use Rattle.am_office_entries.specs.Entries.{accepted_in, accepted_of, emitted_in, emitted_of, ends_touched, is_node, node_touched, run_in, run_of, share_part}
use Rattle.am_office_entries.specs.Entries.{shares_node, touches, touches_node, unknown_in, unknown_of}
use Rattle.am_office_entries.specs.Fates.{cause_of}
use Rattle.am_model.specs.Changes.{after, changed}
use Rattle.am_model.specs.Channels.{Channel, binds, decides, frees, sends}
use Rattle.am_model.specs.Endpoint.{State}
use Rattle.am_model.specs.History.{is_page_call}
use Rattle.am_lab_scenarios.specs.Spelling.Replays.{by_anyone}
use Rattle.am_lab_scenarios.specs.Replays.Callers.{made_by_anyone}

-- what reads the same of each call and each want by whomever, reads the same of every event
pub whoever : {X : Type 0} (read : Event → X) → ((actor : Actor) (end : EndpointId) (call : Call) →
    read (Events.Call Outside end call) ≡ read (Events.Call actor end call)) → ((actor : Actor) (end : EndpointId) →
    read (Events.Want Outside end) ≡ read (Events.Want actor end)) → (event : Event) → read (by_anyone event) ≡ read event
unfolding by_anyone
whoever read calls wants (Events.Call actor end call) = calls actor end call
whoever read calls wants (Events.Want actor end) = wants actor end
whoever read calls wants (Events.Carry end) = refl
whoever read calls wants (Events.Bind node end) = refl
whoever read calls wants (Events.Expire node peer channel) = refl
whoever read calls wants (Events.Receive node peer number) = refl
whoever read calls wants (Events.Drain node end) = refl
whoever read calls wants (Events.Unload node end) = refl
whoever read calls wants (Events.Load node end frame) = refl
whoever read calls wants (Events.PageOut node end) = refl
whoever read calls wants (Events.PageIn node end) = refl

-- ---- what it touches

pub ends_stay : (event : Event) (outcome : Outcome) → ends_touched (by_anyone event) outcome ≡ ends_touched event outcome
ends_stay event outcome = whoever (λ (e : Event). ends_touched e outcome) (λ actor end call. refl) (λ actor end. refl) event

pub node_stays : (event : Event) → node_touched (by_anyone event) ≡ node_touched event
node_stays event = whoever node_touched (λ actor end call. refl) (λ actor end. refl) event

pub touches_stays : (e : EndpointId) (x : Entry) → touches e (made_by_anyone x) ≡ touches e x
touches_stays e x = ap (list_any (same_end e)) (ends_stay x.event x.outcome)

pub touches_node_stays : (node : NodeId) (x : Entry) → touches_node node (made_by_anyone x) ≡ touches_node node x
touches_node_stays node x = ap (is_node node) (node_stays x.event)

shares_node_stays : (node : Option NodeId) (y : Entry) → shares_node node (made_by_anyone y) ≡ shares_node node y
shares_node_stays None y = refl
shares_node_stays (Some node) y = touches_node_stays node y

pub share_stays : (x y : Entry) → share_part (made_by_anyone x) (made_by_anyone y) ≡ share_part x y
share_stays x y =
    (λ i. list_any (λ (e : EndpointId). touches_stays e y i) (ends_stay x.event x.outcome i) || shares_node (node_stays x.event i) (made_by_anyone y))
    ∙ ap (λ (b : Bool). list_any (λ (e : EndpointId). touches e y) (ends_touched x.event x.outcome) || b) (shares_node_stays (node_touched x.event) y)

-- ---- what it makes of an endpoint, a channel, a link

pub change_stays : (e : EndpointId) (s : State) (x : Entry) → after e s (made_by_anyone x) ≡ after e s x
change_stays e s x = whoever (λ (event : Event). changed e s event x.outcome) (λ actor end call. refl) (λ actor end. refl) x.event

pub binds_stays : (c : Channel) (x : Entry) → binds c (by_anyone x.event) x.outcome ≡ binds c x.event x.outcome
binds_stays c x = whoever (λ (event : Event). binds c event x.outcome) (λ actor end call. refl) (λ actor end. refl) x.event

pub sends_stays : (c : Channel) (x : Entry) → sends c (by_anyone x.event) x.outcome ≡ sends c x.event x.outcome
sends_stays c x = whoever (λ (event : Event). sends c event x.outcome) (λ actor end call. refl) (λ actor end. refl) x.event

pub frees_stays : (c : Channel) (x : Entry) → frees c (by_anyone x.event) x.outcome ≡ frees c x.event x.outcome
frees_stays c x = whoever (λ (event : Event). frees c event x.outcome) (λ actor end call. refl) (λ actor end. refl) x.event

pub decides_stays : (c : Channel) (x : Entry) → decides c (by_anyone x.event) x.outcome ≡ decides c x.event x.outcome
decides_stays c x = whoever (λ (event : Event). decides c event x.outcome) (λ actor end call. refl) (λ actor end. refl) x.event

pub emitted_stays : (x : Entry) → emitted_of (made_by_anyone x) ≡ emitted_of x
emitted_stays x = whoever (λ (event : Event). emitted_in x.stamp event x.outcome) (λ actor end call. refl) (λ actor end. refl) x.event

pub page_call_stays : (node : NodeId) (event : Event) → is_page_call node (by_anyone event) ≡ is_page_call node event
page_call_stays node event = whoever (is_page_call node) (λ actor end call. refl) (λ actor end. refl) event

-- ---- what becomes of a message

pub accepted_stays : (x : Entry) → accepted_of (made_by_anyone x) ≡ accepted_of x
accepted_stays x = whoever (λ (event : Event). accepted_in event x.outcome) (λ actor end call. refl) (λ actor end. refl) x.event

pub run_stays : (x : Entry) → run_of (made_by_anyone x) ≡ run_of x
run_stays x = whoever (λ (event : Event). run_in event x.outcome) (λ actor end call. refl) (λ actor end. refl) x.event

pub unknown_stays : (x : Entry) → unknown_of (made_by_anyone x) ≡ unknown_of x
unknown_stays x = whoever (λ (event : Event). unknown_in event x.outcome) (λ actor end call. refl) (λ actor end. refl) x.event

pub cause_stays : (s : Serial) (x : Entry) → cause_of s (by_anyone x.event) x.outcome ≡ cause_of s x.event x.outcome
cause_stays s x = whoever (λ (event : Event). cause_of s event x.outcome) (λ actor end call. refl) (λ actor end. refl) x.event

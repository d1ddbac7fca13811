-- What an endpoint in memory may be given keeps it there.
use Rattle.std.specs.Prelude.{is_some}
use Rattle.std.proofs.Common.{◌≡◌, ℕ, true, Some, refl, ap}
use Rattle.am_names.specs.declared.EndpointId.{EndpointId}
use Rattle.am_names.specs.declared.Message.{Message}
use Rattle.am_office_entries.specs.declared.Event.{Event}
use Rattle.am_office_entries.specs.declared.Event.TheVariants as Events
use Rattle.am_office_entries.specs.declared.Outcome.{Outcome}
use Rattle.am_office_entries.specs.declared.Outcome.TheVariants as Out
use Rattle.am_office_entries.specs.declared.Entry.{Entry}
use Rattle.am_model.specs.declared.Flying.{Flying}
use Rattle.am_model.specs.Endpoint.{State}
use Rattle.am_model.specs.Allowed.{EndsFlight, MayArrive, MaySettle, arrived_message}
use Rattle.am_endpoint.specs.Events.{keeps_flights, keeps_in_memory}

arrives : (event : Event) (o : Outcome) (m : Message) → arrived_message event o ≡ Some m → keeps_flights event o ≡ true
arrives (Events.Carry from) o m is = refl
arrives (Events.Receive node peer number) (Out.Received channel seq attempt result) m is = ap is_some is
arrives event o m is = absurd (cc)

pub arrival_keeps : (e : EndpointId) (s : State) (x : Entry) → MayArrive e s x → keeps_flights x.event x.outcome ≡ true
arrival_keeps e s x allowed = arrives x.event x.outcome allowed.message allowed.is_message

stays : (event : Event) (o : Outcome) → keeps_flights event o ≡ true → keeps_in_memory event ≡ true
stays (Events.Carry from) o keeps = refl
stays (Events.Receive node peer number) o keeps = refl
stays (Events.Drain node end) o keeps = refl
stays (Events.Unload node end) o keeps = refl
stays (Events.Load node end frame) o keeps = refl
stays event o keeps = absurd (cc)

pub flights_stay : (x : Entry) → keeps_flights x.event x.outcome ≡ true → keeps_in_memory x.event ≡ true
flights_stay x keeps = stays x.event x.outcome keeps

settles : (limit : ℕ) (f : Flying) (event : Event) (o : Outcome) → EndsFlight limit f event o → keeps_in_memory event ≡ true
settles limit f (Events.Receive node peer number) o ends = refl
settles limit f (Events.Expire node peer channel) o ends = refl
settles limit f event o ends = absurd ends

pub settling_keeps : (limit : ℕ) (e : EndpointId) (s : State) (x : Entry) → MaySettle limit e s x → keeps_in_memory x.event ≡ true
settling_keeps limit e s x allowed = settles limit allowed.flight x.event x.outcome allowed.ends

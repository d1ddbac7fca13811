-- The entry of a time-out that gives a message up.
use Rattle.std.specs.Prelude.{nat_lt, not, IfSome}
use Rattle.std.proofs.Common.{◌≡◌, ◌+◌, ℕ, Bool, true, false, Option, Some, refl, sym, ap, ◌∙◌, subst, if◌then◌else◌}
use Rattle.am_names.specs.declared.EndpointId.{EndpointId}
use Rattle.am_names.specs.declared.NodeId.{NodeId}
use Rattle.am_names.specs.declared.Message.{Message}
use Rattle.am_office_entries.specs.declared.Event.TheVariants as Events
use Rattle.am_office_entries.specs.declared.Outcome.{Outcome}
use Rattle.am_office_entries.specs.declared.Outcome.TheVariants as Out
use Rattle.am_office_entries.specs.declared.Entry.{Entry}
use Rattle.am_model.specs.declared.Flying.{Flying}
use Rattle.am_model.specs.Allowed.{MaySettle}
use Rattle.am_model.specs.Changes.{flying_of}
use Rattle.am_model.specs.Channels.{Channel, bound_message, sequence, attempt}
use Rattle.am_model.specs.History.{is_answered, next_number}
use Rattle.am_channel.specs.declared.ends.Ends.{Ends}
use Rattle.am_channel.specs.declared.sending.Bound.{Bound}
use Rattle.am_channel.specs.declared.sending.TimedOut.{TimedOut}
use Rattle.am_channel.specs.declared.sending.TimedOut.TheVariants as Times
use Rattle.am_channel.specs.Sending.{timed_out}
use Rattle.am_channel.specs.Calls.{TimeOut, TellsTimedOut, TellsTimeOut, after}
use Rattle.am_channel.specs.Counted.{AreCounted}
use Rattle.am_model_parts.specs.Interface.{channel_in, expire_at, has_try_left, needs, needs_bound, outcome_at}
use Rattle.am_model_parts.specs.declared.work.Work.TheVariants as Works
use Rattle.am_model_parts.proofs.Granting.{work_granted}
use Rattle.am_model.specs.Endpoint.{is_direct}
use Rattle.am_endpoint.specs.View.{EndpointView, state_after}
use Rattle.am_iface.specs.Made.{IsMade}
use Rattle.am_iface.specs.View.{InterfaceView, own}
use Rattle.am_iface.specs.With.{IsFlightOf}
use Rattle.am_iface.proofs.Fresh.{IsAlike}
use Rattle.am_iface.proofs.Settling.{in_flight}
use Rattle.am_iface.proofs.Telling.{bound_enabled, message_is}
use Rattle.am_iface.proofs.Turning.{IsEntryOf}

-- what the interface knows as it makes the entry
pub record IsGivingUpAt (v : InterfaceView) (e : EndpointView) (peer : NodeId) (channel : ℕ) (ends : Ends) (flight : Flying) (bound gone : Bound) : Type 0 where
  pub needs : needs (own v) (Works.Expire peer channel) ≡ Some e.settings.id
  pub counted : AreCounted (channel_in (own v) peer channel) v.log ends
  pub flight_is : IsFlightOf (state_after e) (bound_message (channel_in (own v) peer channel) v.log) flight
  pub busy : ends.sending.bound ≡ Some bound
  pub timed : timed_out v.settings.tries ends.sending.seq bound ≡ Times.GaveUp gone

-- no try is left where a time-out touches an endpoint
none_left : (m : Message) (e : EndpointId) (t : Bool) → needs_bound (Some m) (not t) ≡ Some e → t ≡ false
none_left m e true needs = absurd (cc)
none_left m e false needs = refl

gone_is : (tries seq : ℕ) (b gone : Bound) → timed_out tries seq b ≡ Times.GaveUp gone → b ≡ gone
gone_is tries seq b gone is = by_test (nat_lt (b.attempt + 1) tries) is
  where
    by_test : (t : Bool) → (if t then Times.Resend (record { seq = seq; attempt = b.attempt + 1 }) else Times.GaveUp b) ≡ Times.GaveUp gone → b ≡ gone
    by_test true e = absurd (cc)
    by_test false e = cc

given_up_message : (v : InterfaceView) (e : EndpointView) (peer : NodeId) (channel : ℕ) (ends : Ends) (flight : Flying) (bound gone : Bound) →
    IsGivingUpAt v e peer channel ends flight bound gone → bound_message (channel_in (own v) peer channel) v.log ≡ Some bound.message
given_up_message v e peer channel ends flight bound gone is = message_is (channel_in (own v) peer channel) v.log ends (Some bound) is.counted is.busy

pub giving_up_outcome : (v : InterfaceView) (e : EndpointView) (peer : NodeId) (channel : ℕ) (ends : Ends) (flight : Flying) (bound gone : Bound) →
    IsGivingUpAt v e peer channel ends flight bound gone → ◌≡◌ {A =
    Outcome} (if flight.answered then Out.Delivered bound.message.serial else Out.Unknown bound.message.serial)
    (outcome_at (own v) (state_after e) (Works.Expire peer channel))
giving_up_outcome v e peer channel ends flight bound gone is =
    ap (λ (f : Option Flying). if is_answered f then Out.Delivered bound.message.serial else Out.Unknown bound.message.serial) (sym flight_at)
    ∙ sym (ap (λ (m : Option Message). expire_at (own v) (state_after e) peer channel m) message
    ∙ ap (λ (t : Bool). if t then Out.Sent bound.message peer channel (sequence c v.log) (attempt c v.log + 1) (next_number v.settings.node peer v.log) else
    (if is_answered (flying_of bound.message.serial (state_after e).body.in_flight) then Out.Delivered bound.message.serial else Out.Unknown
    bound.message.serial)) left)
  where
    c : Channel
    c = channel_in (own v) peer channel

    message : bound_message c v.log ≡ Some bound.message
    message = given_up_message v e peer channel ends flight bound gone is

    flight_at : flying_of bound.message.serial (state_after e).body.in_flight ≡ Some flight
    flight_at = subst (λ (m : Option Message). IsFlightOf (state_after e) m flight) message is.flight_is

    left : has_try_left (own v) c ≡ false
    left = none_left bound.message e.settings.id (has_try_left (own v) c) (ap (λ (m : Option Message). needs_bound m (not (has_try_left (own v) c)))
        (sym message) ∙ is.needs)

pub giving_up_made : (v : InterfaceView) (e : EndpointView) (peer : NodeId) (channel : ℕ) (ends new : Ends) (flight : Flying) (bound gone : Bound) (stamp : ℕ)
    (node : NodeId) (x : Entry) → IsGivingUpAt v e peer channel ends flight bound gone → new ≡ after ends (TimeOut v.settings.tries) → node ≡ v.settings.node →
    x ≡ record {
      stamp = stamp;
      event = Events.Expire node peer channel;
      outcome = if flight.answered then Out.Delivered bound.message.serial else Out.Unknown bound.message.serial;
    } →
    IsMade (channel_in (own v) peer channel) v.log new x
giving_up_made v e peer channel ends new flight bound gone stamp node x is leaves here made =
    record {
      old = ends;
      counted = is.counted;
      call = TimeOut v.settings.tries;
      tells =
          subst (λ (o : Option Bound). TellsTimeOut (channel_in (own v) peer channel) v.settings.tries ends.sending.seq o x) (sym is.busy)
          (subst (λ (t : TimedOut). TellsTimedOut (channel_in (own v) peer channel) bound t x) (sym is.timed)
          (record {
            is_answered = flight.answered;
            event = ap (λ (y : Entry). y.event) made ∙ ap (λ (n : NodeId). Events.Expire n peer channel) here;
            outcome =
                ap (λ (y : Entry). y.outcome) made
                ∙ ap (λ (b : Bound). if flight.answered then Out.Delivered b.message.serial else Out.Unknown b.message.serial)
                (gone_is v.settings.tries ends.sending.seq bound gone is.timed);
          }));
      leaves = leaves;
    }

pub giving_up_entry : (v : InterfaceView) (e : EndpointView) (peer : NodeId) (channel : ℕ) (ends : Ends) (flight : Flying) (bound gone : Bound) (stamp : ℕ)
    (node : NodeId) (x : Entry) → IsGivingUpAt v e peer channel ends flight bound gone → node ≡ v.settings.node →
    x ≡ record {
      stamp = stamp;
      event = Events.Expire node peer channel;
      outcome = if flight.answered then Out.Delivered bound.message.serial else Out.Unknown bound.message.serial;
    } →
    IsEntryOf v (state_after e) stamp (Works.Expire peer channel) x
giving_up_entry v e peer channel ends flight bound gone stamp node x is here made =
    record {
      event = ap (λ (y : Entry). y.event) made ∙ ap (λ (n : NodeId). Events.Expire n peer channel) here;
      outcome = ap (λ (y : Entry). y.outcome) made ∙ giving_up_outcome v e peer channel ends flight bound gone is;
      stamped = ap (λ (y : Entry). y.stamp) made;
      enabled = bound_enabled (own v) (state_after e) peer channel bound.message (given_up_message v e peer channel ends flight bound gone is);
    }

-- its source may be given it
pub giving_up_allowed : (v : InterfaceView) (e f : EndpointView) (peer : NodeId) (channel : ℕ) (flight : Flying) (stamp : ℕ) (x : Entry) →
    needs (own v) (Works.Expire peer channel) ≡ Some e.settings.id → is_direct (state_after e).head.place ≡ false → e.settings.bounces ≡ v.settings.bounces →
    IsFlightOf (state_after e) (bound_message (channel_in (own v) peer channel) v.log) flight →
    IsEntryOf v (state_after e) stamp (Works.Expire peer channel) x → IsAlike e f → MaySettle f.settings.bounces f.settings.id (state_after f) x
giving_up_allowed v e f peer channel flight stamp x needs packet same flight_is is alike =
    subst (λ (g : EndpointView). MaySettle g.settings.bounces g.settings.id (state_after g) x) (λ j. record {
      settings = sym alike.settings j;
      log = sym alike.log j;
      ready = f.ready;
      flights = f.flights;
    })
    (subst (λ (n : ℕ). MaySettle n e.settings.id (state_after e) x) (sym same)
    (work_granted (own v) e.settings.id (state_after e) (Works.Expire peer channel) x
    (record {
      needs = needs;
      enabled = is.enabled;
      event = is.event;
      outcome = is.outcome;
      fits = in_flight (state_after e) (bound_message (channel_in (own v) peer channel) v.log) flight flight_is;
      packet = packet;
    })))

-- what a time-out answers, where this message is bound
pub timed_gives : (o : Option Bound) (b : Bound) (tries limit seq : ℕ) (r out : TimedOut) → o ≡ Some b → tries ≡ limit →
    IfSome o (λ b. r ≡ timed_out tries seq b) → r ≡ out → timed_out limit seq b ≡ out
timed_gives o b tries limit seq r out bound same answer is =
    ap (λ (n : ℕ). timed_out n seq b) (sym same)
    ∙ sym (subst (λ (o : Option Bound). IfSome o (λ b. r ≡ timed_out tries seq b)) bound answer)
    ∙ is

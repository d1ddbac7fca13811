-- The entry of an answer that settles a message.
use Rattle.std.specs.Prelude.{is_some}
use Rattle.std.specs.Option.{option_map}
use Rattle.std.proofs.Common.{◌≡◌, ◌==◌, ◌&&◌, ℕ, Bool, true, false, Option, Some, None, refl, sym, ap, ◌∙◌, subst, if◌then◌else◌}
use Rattle.am_names.specs.declared.NodeId.{NodeId}
use Rattle.am_names.specs.declared.Verdict.{Verdict}
use Rattle.am_names.specs.declared.Message.{Message}
use Rattle.am_names.specs.declared.AnswerPacket.{AnswerPacket}
use Rattle.am_names.specs.declared.Packet.TheVariants as Packets
use Rattle.am_office_entries.specs.declared.Event.TheVariants as Events
use Rattle.am_office_entries.specs.declared.Received.{Received}
use Rattle.am_office_entries.specs.declared.Received.TheVariants as Got
use Rattle.am_office_entries.specs.declared.Outcome.TheVariants as Out
use Rattle.am_office_entries.specs.declared.Entry.{Entry}
use Rattle.am_model.specs.declared.Flying.{Flying}
use Rattle.am_model.specs.Allowed.{MaySettle}
use Rattle.am_model.specs.Changes.{flying_of}
use Rattle.am_model.specs.Channels.{Channel, bound_message, attempt}
use Rattle.am_model.specs.Endpoint.{State, is_direct}
use Rattle.am_model.specs.History.{bounced, counts, settle_by}
use Rattle.am_channel.specs.declared.ends.Ends.{Ends}
use Rattle.am_channel.specs.declared.sending.Bound.{Bound}
use Rattle.am_channel.specs.declared.sending.Settled.{Settled}
use Rattle.am_channel.specs.declared.sending.Settled.TheVariants as Settles
use Rattle.am_channel.specs.Sending.{settled, settled_by, settled_if}
use Rattle.am_channel.specs.Calls.{Answer, after, settled_as}
use Rattle.am_channel.specs.Counted.{AreCounted}
use Rattle.am_model_parts.specs.Granted.{IsInFlight}
use Rattle.am_model_parts.specs.Interface.{channel_in, needs, outcome_at, settle_at, settles}
use Rattle.am_model_parts.specs.declared.work.Work.TheVariants as Works
use Rattle.am_model_parts.proofs.Granting.{work_granted}
use Rattle.am_endpoint.specs.View.{EndpointView, state_after}
use Rattle.am_iface.specs.Made.{IsMade}
use Rattle.am_iface.specs.View.{InterfaceView, own}
use Rattle.am_iface.specs.With.{IsFlightOf}
use Rattle.am_iface.proofs.Fresh.{IsAlike}
use Rattle.am_iface.proofs.Telling.{attempt_is}
use Rattle.am_iface.proofs.Turning.{IsEntryOf}

-- what an answer that is done with says of the bound message
pub record IsDone (s : State) (seq : ℕ) (p : AnswerPacket) (b : Option Bound) (bound : Bound) (v : Verdict) : Type 0 where
  pub bound_is : b ≡ Some bound
  pub counts : ((p.seq == seq) && counts p.verdict (p.attempt == bound.attempt)) ≡ true
  pub verdict : v ≡ p.verdict

done_means : (s : State) (seq : ℕ) (p : AnswerPacket) (b : Option Bound) (bound : Bound) (v : Verdict) → settled_by seq p b ≡ Settles.Done bound v →
    IsDone s seq p b bound v
done_means s seq p None bound v is = absurd (cc)
done_means s seq p (Some one) bound v is = by_test ((p.seq == seq) && counts p.verdict (p.attempt == one.attempt)) refl is
  where
    by_test : (t : Bool) → ((p.seq == seq) && counts p.verdict (p.attempt == one.attempt)) ≡ t → settled_if t one p.verdict ≡ Settles.Done bound v →
        IsDone s seq p (Some one) bound v
    by_test true counted e =
        let same : one ≡ bound = cc in
        let said : p.verdict ≡ v = cc in
        record {
          bound_is = ap (λ (c : Bound). Some c) same;
          counts = ap (λ (c : Bound). (p.seq == seq) && counts p.verdict (p.attempt == c.attempt)) (sym same) ∙ counted;
          verdict = sym said;
        }
    by_test false counted e = absurd (cc)

-- what the interface knows as it makes the entry
pub record IsSettlingAt (v : InterfaceView) (e : EndpointView) (p : AnswerPacket) (ends : Ends) (flight : Flying) (bound : Bound) (said : Verdict)
    (came : Received) : Type 0 where
  pub needs : needs (own v) (Works.Receive (Packets.Answer p)) ≡ Some e.settings.id
  pub counted : AreCounted (channel_in (own v) p.from p.channel) v.log ends
  pub flight_is : IsFlightOf (state_after e) (bound_message (channel_in (own v) p.from p.channel) v.log) flight
  pub done : settled ends.sending p ≡ Settles.Done bound said
  pub result : came ≡ settle_by v.settings.bounces bound.message flight.bounces said

message_of : (v : InterfaceView) (e : EndpointView) (p : AnswerPacket) (ends : Ends) (flight : Flying) (bound : Bound) (said : Verdict) (came : Received) →
    IsSettlingAt v e p ends flight bound said came → bound_message (channel_in (own v) p.from p.channel) v.log ≡ Some bound.message
message_of v e p ends flight bound said came is =
    sym is.counted.bound
    ∙ ap (λ (o : Option Bound). option_map (λ (b : Bound). b.message) o) (done_means (state_after e) ends.sending.seq p ends.sending.bound bound said
    is.done).bound_is

pub settling_outcome : (v : InterfaceView) (e : EndpointView) (p : AnswerPacket) (ends : Ends) (flight : Flying) (bound : Bound) (said : Verdict)
    (came : Received) → IsSettlingAt v e p ends flight bound said came →
    Out.Received p.channel p.seq p.attempt came ≡ outcome_at (own v) (state_after e) (Works.Receive (Packets.Answer p))
settling_outcome v e p ends flight bound said came is =
    ap (λ (r : Received). Out.Received p.channel p.seq p.attempt r)
    (is.result
    ∙ (λ j. settle_by v.settings.bounces bound.message (bounced (sym flight_at j)) (means.verdict j))
    ∙ sym (ap (λ (m : Option Message). settle_at (own v) (state_after e) c p m) message
    ∙ ap (λ (t : Bool). if t then settle_by v.settings.bounces bound.message (bounced (flying_of bound.message.serial (state_after e).body.in_flight))
    p.verdict else Got.Nothing) counts_now))
  where
    c : Channel
    c = channel_in (own v) p.from p.channel

    means : IsDone (state_after e) ends.sending.seq p ends.sending.bound bound said
    means = done_means (state_after e) ends.sending.seq p ends.sending.bound bound said is.done

    message : bound_message c v.log ≡ Some bound.message
    message = message_of v e p ends flight bound said came is

    flight_at : flying_of bound.message.serial (state_after e).body.in_flight ≡ Some flight
    flight_at = subst (λ (m : Option Message). IsFlightOf (state_after e) m flight) message is.flight_is

    at : bound.attempt ≡ attempt c v.log
    at = attempt_is c v.log ends bound is.counted means.bound_is

    counts_now : settles (own v) c p ≡ true
    counts_now = (λ j. (p.seq == sym is.counted.seq j) && counts p.verdict (p.attempt == sym at j)) ∙ means.counts

pub settling_made : (v : InterfaceView) (e : EndpointView) (p : AnswerPacket) (ends new : Ends) (flight : Flying) (bound : Bound) (said : Verdict)
    (came : Received) (stamp : ℕ) (node : NodeId) (x : Entry) → IsSettlingAt v e p ends flight bound said came → new ≡ after ends (Answer p) →
    node ≡ v.settings.node → x ≡ record { stamp = stamp; event = Events.Receive node p.from p.number; outcome = Out.Received p.channel p.seq p.attempt came } →
    IsMade (channel_in (own v) p.from p.channel) v.log new x
settling_made v e p ends new flight bound said came stamp node x is leaves here made =
    record {
      old = ends;
      counted = is.counted;
      call = Answer p;
      tells =
          record {
            number = p.number;
            limit = v.settings.bounces;
            bounces = flight.bounces;
            event = ap (λ (y : Entry). y.event) made ∙ ap (λ (n : NodeId). Events.Receive n p.from p.number) here;
            outcome =
                ap (λ (y : Entry). y.outcome) made
                ∙ ap (λ (r : Received). Out.Received p.channel p.seq p.attempt r) (is.result
                ∙ ap (λ (r : Settled). settled_as v.settings.bounces flight.bounces r) (sym is.done));
          };
      leaves = leaves;
    }

pub settling_entry : (v : InterfaceView) (e : EndpointView) (p : AnswerPacket) (ends : Ends) (flight : Flying) (bound : Bound) (said : Verdict)
    (came : Received) (stamp : ℕ) (node : NodeId) (x : Entry) → IsSettlingAt v e p ends flight bound said came → node ≡ v.settings.node →
    x ≡ record { stamp = stamp; event = Events.Receive node p.from p.number; outcome = Out.Received p.channel p.seq p.attempt came } →
    IsEntryOf v (state_after e) stamp (Works.Receive (Packets.Answer p)) x
settling_entry v e p ends flight bound said came stamp node x is here made =
    record {
      event = ap (λ (y : Entry). y.event) made ∙ ap (λ (n : NodeId). Events.Receive n p.from p.number) here;
      outcome = ap (λ (y : Entry). y.outcome) made ∙ settling_outcome v e p ends flight bound said came is;
      stamped = ap (λ (y : Entry). y.stamp) made;
      enabled = refl;
    }

pub in_flight : (s : State) (m : Option Message) (flight : Flying) → IsFlightOf s m flight → IsInFlight s m
in_flight s None flight is = tt
in_flight s (Some m) flight is = ap (λ (f : Option Flying). is_some f) is

-- its source may be given it
pub settling_allowed : (v : InterfaceView) (e f : EndpointView) (p : AnswerPacket) (flight : Flying) (stamp : ℕ) (x : Entry) →
    needs (own v) (Works.Receive (Packets.Answer p)) ≡ Some e.settings.id → is_direct (state_after e).head.place ≡ false →
    e.settings.bounces ≡ v.settings.bounces → IsFlightOf (state_after e) (bound_message (channel_in (own v) p.from p.channel) v.log) flight →
    IsEntryOf v (state_after e) stamp (Works.Receive (Packets.Answer p)) x → IsAlike e f → MaySettle f.settings.bounces f.settings.id (state_after f) x
settling_allowed v e f p flight stamp x needs packet same flight_is is alike =
    subst (λ (g : EndpointView). MaySettle g.settings.bounces g.settings.id (state_after g) x) (λ j. record {
      settings = sym alike.settings j;
      log = sym alike.log j;
      ready = f.ready;
      flights = f.flights;
    })
    (subst (λ (n : ℕ). MaySettle n e.settings.id (state_after e) x) (sym same)
    (work_granted (own v) e.settings.id (state_after e) (Works.Receive (Packets.Answer p)) x
    (record {
      needs = needs;
      enabled = is.enabled;
      event = is.event;
      outcome = is.outcome;
      fits = in_flight (state_after e) (bound_message (channel_in (own v) p.from p.channel) v.log) flight flight_is;
      packet = packet;
    })))

-- The entry of a fresh parcel.
use Rattle.std.proofs.Common.{◌≡◌, ℕ, Some, refl, sym, ap, ◌∙◌, subst, false}
use Rattle.am_names.specs.declared.NodeId.{NodeId}
use Rattle.am_names.specs.declared.Verdict.{Verdict}
use Rattle.am_names.specs.declared.Parcel.{Parcel}
use Rattle.am_names.specs.declared.Packet.TheVariants as Packets
use Rattle.am_office_entries.specs.declared.Event.TheVariants as Events
use Rattle.am_office_entries.specs.declared.Received.{Received}
use Rattle.am_office_entries.specs.declared.Outcome.TheVariants as Out
use Rattle.am_office_entries.specs.declared.Entry.{Entry}
use Rattle.am_model.specs.Allowed.{MayArrive}
use Rattle.am_model.specs.Channels.{Mark, arrival}
use Rattle.am_model.specs.Endpoint.{verdict, is_direct}
use Rattle.am_model.specs.History.{decided, next_number}
use Rattle.am_channel.specs.declared.ends.Ends.{Ends}
use Rattle.am_channel.specs.Counted.{AreCounted}
use Rattle.am_model_parts.specs.Interface.{arrive_at, channel_in, needs, needs_arrival}
use Rattle.am_model_parts.specs.declared.work.Work.TheVariants as Works
use Rattle.am_model_parts.proofs.Granting.{work_granted}
use Rattle.am_endpoint.specs.View.{EndpointView, state_after}
use Rattle.am_iface.specs.View.{FitsParcel, InterfaceView, own}
use Rattle.am_iface.proofs.Telling.{fresh_came, fresh_is, parcel_outcome}
use Rattle.am_iface.proofs.Turning.{IsEntryOf}

-- what the interface knows as it makes the entry of a fresh parcel
pub record IsFreshAt (v : InterfaceView) (e : EndpointView) (p : Parcel) (ends : Ends) (answer : ℕ) (said : Verdict) (came : Received) : Type 0 where
  pub needs : needs (own v) (Works.Receive (Packets.Parcel p)) ≡ Some e.settings.id
  pub counted : AreCounted (channel_in (own v) p.from p.channel) v.log ends
  pub number : answer ≡ next_number v.settings.node p.from v.log
  pub verdict : said ≡ verdict (state_after e) p.message
  pub decided : came ≡ decided p.message answer said

pub came_is : (v : InterfaceView) (e : EndpointView) (p : Parcel) (ends : Ends) (answer : ℕ) (said : Verdict) (came : Received) →
    IsFreshAt v e p ends answer said came → came ≡ arrive_at (state_after e) p.message answer (arrival ends.receiving p.seq p.attempt)
came_is v e p ends answer said came is =
    fresh_came (state_after e) p.message answer said (arrival ends.receiving p.seq p.attempt) came
    (fresh_is p.message.dest e.settings.id (arrival ends.receiving p.seq p.attempt)
    (ap (λ (mark : Mark). needs_arrival p.message.dest (arrival mark p.seq p.attempt)) is.counted.mark ∙ is.needs))
    is.verdict
    is.decided

pub fresh_entry : (v : InterfaceView) (e : EndpointView) (p : Parcel) (ends : Ends) (answer : ℕ) (said : Verdict) (came : Received) (stamp : ℕ) (node : NodeId)
    (x : Entry) → IsFreshAt v e p ends answer said came → node ≡ v.settings.node → x ≡ record {
      stamp = stamp;
      event = Events.Receive node p.from p.number;
      outcome = Out.Received p.channel p.seq p.attempt came;
    } → IsEntryOf v (state_after e) stamp (Works.Receive (Packets.Parcel p)) x
fresh_entry v e p ends answer said came stamp node x is here made =
    record {
      event = ap (λ (y : Entry). y.event) made ∙ ap (λ (n : NodeId). Events.Receive n p.from p.number) here;
      outcome =
          ap (λ (y : Entry). y.outcome) made
          ∙ ap (λ (r : Received). Out.Received p.channel p.seq p.attempt r) (came_is v e p ends answer said came is)
          ∙ parcel_outcome (own v) (state_after e) p ends answer is.counted is.number;
      stamped = ap (λ (y : Entry). y.stamp) made;
      enabled = refl;
    }

-- an endpoint that differs from another in its room alone
pub record IsAlike (e f : EndpointView) : Type 0 where
  pub settings : f.settings ≡ e.settings
  pub log : f.log ≡ e.log

-- the endpoint may be given it
pub fresh_arrives : (v : InterfaceView) (e f : EndpointView) (p : Parcel) (stamp : ℕ) (x : Entry) → FitsParcel v.settings p →
    needs (own v) (Works.Receive (Packets.Parcel p)) ≡ Some e.settings.id → is_direct (state_after e).head.place ≡ false →
    IsEntryOf v (state_after e) stamp (Works.Receive (Packets.Parcel p)) x → IsAlike e f → MayArrive f.settings.id (state_after f) x
fresh_arrives v e f p stamp x fits needs packet is alike =
    subst (λ (g : EndpointView). MayArrive g.settings.id (state_after g) x) (λ j. record {
      settings = sym alike.settings j;
      log = sym alike.log j;
      ready = f.ready;
      flights = f.flights;
    })
    (work_granted (own v) e.settings.id (state_after e) (Works.Receive (Packets.Parcel p)) x
    (record { needs = needs; enabled = is.enabled; event = is.event; outcome = is.outcome; fits = fits.formed; packet = packet }))

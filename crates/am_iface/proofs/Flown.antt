-- What becomes of the slots in flight.
use Rattle.std.specs.Option.{option_map}
use Rattle.std.proofs.Common.{◌≡◌, ℕ, List, Option, Some, None, refl, sym, ap, ◌∙◌}
use Rattle.am_names.specs.declared.NodeId.{NodeId}
use Rattle.am_names.specs.declared.Message.{Message}
use Rattle.am_names.specs.declared.Serial.{Serial}
use Rattle.am_names.specs.declared.Verdict.{Verdict}
use Rattle.am_names.specs.declared.Verdict.TheVariants as Verdicts
use Rattle.am_names.specs.declared.Parcel.{Parcel}
use Rattle.am_office_entries.specs.declared.Event.TheVariants as Events
use Rattle.am_office_entries.specs.declared.Received.{Received}
use Rattle.am_office_entries.specs.declared.Outcome.TheVariants as Out
use Rattle.am_office_entries.specs.declared.Entry.{Entry}
use Rattle.am_block.specs.Pools.{without}
use Rattle.am_block.specs.declared.Slot.{Slot}
use Rattle.am_endpoint_body.specs.Flights.{slot_of}
use Rattle.am_endpoint.specs.View.{EndpointView, state_after, state_by}
use Rattle.am_model.specs.History.{decided}
use Rattle.am_model.specs.declared.Flying.{Flying}
use Rattle.am_iface.specs.With.{Lands, flights_without, slots_without}
use Rattle.am_model.specs.Changes.{settled_in, settled_by}

-- the slot of the message that is settled is out
pub landed : (settled : Option Serial) (serial : Serial) (flying : List Flying) (slots new : List ℕ) (found : Option Slot) (slot : Slot) →
    settled ≡ Some serial → option_map (λ (s : Slot). s.0) found ≡ slot_of serial flying slots → found ≡ Some slot → new ≡ without slot.0 slots →
    new ≡ flights_without settled flying slots
landed settled serial flying slots new found slot is at some gone =
    gone
    ∙ ap (λ (o : Option ℕ). slots_without o slots) (sym (ap (λ (o : Option Slot). option_map (λ (s : Slot). s.0) o) some) ∙ at)
    ∙ ap (λ (o : Option Serial). flights_without o flying slots) (sym is)

-- two endpoints that differ in their room alone
pub record IsAsBefore (e g : EndpointView) : Type 0 where
  pub settings : g.settings ≡ e.settings
  pub log : g.log ≡ e.log
  pub flights : g.flights ≡ e.flights

-- what lands, told of the endpoint before room was made
pub lands_from : (e g f : EndpointView) (x : Entry) → IsAsBefore e g → Lands x g f → Lands x e f
lands_from e g f x same lands =
    lands ∙ (λ j. flights_without (settled_in x.event x.outcome) (state_by (same.settings j) (same.log j)).body.in_flight (same.flights j))

settles_none : (m : Message) (answer : ℕ) (verdict : Verdict) → settled_by (decided m answer verdict) ≡ None
settles_none m answer Verdicts.Accepted = refl
settles_none m answer (Verdicts.Refused cause) = refl

-- a parcel that arrives leaves the slots
pub arrives : (e g f : EndpointView) (p : Parcel) (node : NodeId) (stamp answer : ℕ) (verdict : Verdict) (came : Received) (x : Entry) →
    came ≡ decided p.message answer verdict → x ≡ record {
      stamp = stamp;
      event = Events.Receive node p.from p.number;
      outcome = Out.Received p.channel p.seq p.attempt came;
    } → g.flights ≡ e.flights → f.flights ≡ g.flights → Lands x e f
arrives e g f p node stamp answer verdict came x is made before after =
    after ∙ before
    ∙ ap (λ (o : Option Serial). flights_without o (state_after e).body.in_flight e.flights)
    (sym (ap (λ (y : Entry). settled_in y.event y.outcome) made ∙ ap settled_by is ∙ settles_none p.message answer verdict))

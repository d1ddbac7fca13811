-- What a turn of an interface with an endpoint answers, and what it leaves of both.
use Rattle.std.specs.Prelude.{◌≡◌, ◌≢◌, ◌⊎◌, ◌↔◌, ℕ, Option, Some, None, Result, Err, OnErr, OnOk, IsSome, List, [], ◌∷◌, ◌++◌, length}
use Rattle.am_office_entries.specs.declared.Condition.{Condition}
use Rattle.am_office_entries.specs.declared.Part.{Part}
use Rattle.am_office_entries.specs.declared.Part.TheVariants as Parts
use Rattle.am_office_entries.specs.declared.Entry.{Entry}
use Rattle.am_names.specs.declared.Serial.{Serial}
use Rattle.am_block.specs.Pools.{without}
use Rattle.am_endpoint_body.specs.Flights.{slot_of}
use Rattle.am_endpoint.specs.View.{EndpointView, state_after}
use Rattle.am_model_parts.specs.declared.work.Work.{Work}
use Rattle.am_model_parts.specs.declared.work.Work.TheVariants as Works
use Rattle.am_names.specs.declared.Message.{Message}
use Rattle.am_model.specs.declared.Flying.{Flying}
use Rattle.am_model.specs.declared.Queued.{Queued}
use Rattle.am_model.specs.Changes.{flying_of, settled_in}
use Rattle.am_model.specs.Endpoint.{State, front}
use Rattle.am_model_parts.specs.Interface.{InterfaceLog, failing_at, home_in}
use Rattle.am_model.specs.declared.EntryFault.{EntryFault}
use Rattle.am_model.specs.declared.EntryFault.TheVariants as Faults
use Rattle.am_iface.specs.View.{InterfaceView, own}
use Rattle.am_iface.specs.Turns.{IsFull, entry_by}

-- the endpoint's log has as many entries as it may; or it has not, and the interface's has
abbrev pub IsFullOf : InterfaceView → EndpointView → Part → Type 0
IsFullOf v e part = ((part ≡ Parts.Endpoint e.settings.id) × (length e.log ≡ e.settings.log)) ⊎ ((length e.log ≢ e.settings.log) × IsFull v part)

-- the work's conditions are met by the endpoint, and neither log is full
pub record HasRoomWith (v : InterfaceView) (e : EndpointView) (w : Work) : Type 0 where
  pub enabled : failing_at (own v) (state_after e) w ≡ None
  pub here : length v.log ≢ v.settings.log
  pub there : length e.log ≢ e.settings.log

abbrev pub slots_without : Option ℕ → List ℕ → List ℕ
slots_without None slots = slots
slots_without (Some slot) slots = without slot slots

-- the slots in flight without that of the first message in flight that has the serial, where there is a serial
abbrev pub flights_without : Option Serial → List Flying → List ℕ → List ℕ
flights_without None flying slots = slots
flights_without (Some serial) flying slots = slots_without (slot_of serial flying slots) slots

-- the slots in flight without that of the message that an entry settles or gives up; the others stay, as all do where a
-- parcel arrives
abbrev pub Lands : Entry → EndpointView → EndpointView → Type 0
Lands x e f = f.flights ≡ flights_without (settled_in x.event x.outcome) (state_after e).body.in_flight e.flights

-- what a work's entry makes of the slots in flight: the message of a bind has one more behind the others
abbrev pub Flies : Work → Entry → EndpointView → EndpointView → Type 0
Flies (Works.Bind end) x e f = (slot : ℕ) × (f.flights ≡ e.flights ++ slot ∷ [])
Flies (Works.Receive p) x e f = Lands x e f
Flies (Works.Expire peer channel) x e f = Lands x e f

pub record TurnsWith (old new : InterfaceView) (e f : EndpointView) (stamp : ℕ) (w : Work) (result : Result (Unit {0}) EntryFault) : Type 0 where
  pub logged : OnOk result (new ≡ record old { log = old.log ++ entry_by old (state_after e) stamp w ∷ [] })
  pub there : OnOk result (f.log ≡ e.log ++ entry_by old (state_after e) stamp w ∷ [])
  pub flies : OnOk result (Flies w (entry_by old (state_after e) stamp w) e f)
  pub same : f.settings ≡ e.settings
  pub disabled : (c : Condition) → (result ≡ Err (Faults.NotEnabled c)) ↔ (failing_at (own old) (state_after e) w ≡ Some c)
  pub full : (p : Part) → (result ≡ Err (Faults.LogFull p)) ↔ ((failing_at (own old) (state_after e) w ≡ None) × IsFullOf old e p)
  pub err : OnErr result (new ≡ old)
  pub err_there : OnErr result (f.log ≡ e.log)
  pub err_flights : OnErr result (f.flights ≡ e.flights)
  pub kept : OnErr result (f.ready ≡ e.ready)

-- the front message, if there is one, goes to an endpoint whose home is known and one of the nodes
abbrev pub IsHomeKnown : InterfaceLog → Option Queued → Type 0
IsHomeKnown i None = Unit {0}
IsHomeKnown i (Some q) = IsSome (home_in i q.message.dest)

-- this is the bound message's flight at its source
abbrev pub IsFlightOf : State → Option Message → Flying → Type 0
IsFlightOf s None flight = ⊥
IsFlightOf s (Some m) flight = flying_of m.serial s.body.in_flight ≡ Some flight

-- where the work is a bind, the front message's destination has a home
abbrev pub KnowsHome : InterfaceLog → State → Work → Type 0
KnowsHome i s (Works.Receive p) = Unit {0}
KnowsHome i s (Works.Bind end) = IsHomeKnown i (front s)
KnowsHome i s (Works.Expire peer channel) = Unit {0}

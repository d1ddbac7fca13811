-- What a turn of an interface answers, and what it leaves.
use Rattle.std.specs.Prelude.{◌≡◌, ◌≢◌, ◌↔◌, ℕ, ◌+◌, max, Some, None, Result, Err, OnErr, OnOk, List, [], ◌∷◌, ◌++◌, length}
use Rattle.am_office_entries.specs.declared.Condition.{Condition}
use Rattle.am_office_entries.specs.declared.Part.{Part}
use Rattle.am_office_entries.specs.declared.Part.TheVariants as Parts
use Rattle.am_office_entries.specs.declared.Entry.{Entry}
use Rattle.am_model.specs.Endpoint.{State}
use Rattle.am_model_parts.specs.declared.work.Work.{Work}
use Rattle.am_model_parts.specs.Interface.{event_of, failing_at, outcome_at, stamp_in}
use Rattle.am_model.specs.declared.EntryFault.{EntryFault}
use Rattle.am_model.specs.declared.EntryFault.TheVariants as Faults
use Rattle.am_iface.specs.View.{InterfaceView, own}
use Rattle.am_model.specs.Parts.{last_stamp}

-- the stamp of an entry that is made now: above the floor, the last entry and the packet in hand
abbrev pub stamp_after : ℕ → List Entry → Work → ℕ
stamp_after floor log w = 1 + max (max floor (last_stamp log)) (stamp_in w)

-- the interface's log has as many entries as it may
abbrev pub IsFull : InterfaceView → Part → Type 0
IsFull v part = (part ≡ Parts.Interface v.settings.node) × (length v.log ≡ v.settings.log)

-- the work's conditions are met by an endpoint in this state, and the interface's log isn't full
pub record HasRoom (v : InterfaceView) (s : State) (w : Work) : Type 0 where
  pub enabled : failing_at (own v) s w ≡ None
  pub here : length v.log ≢ v.settings.log

-- the entry of a work that touches no endpoint, or one in this state
abbrev pub entry_by : InterfaceView → State → ℕ → Work → Entry
entry_by v s stamp w = record { stamp = stamp; event = event_of v.settings.node w; outcome = outcome_at (own v) s w }

-- where the work touches no endpoint, or one in this state
pub record Turns (old new : InterfaceView) (s : State) (stamp : ℕ) (w : Work) (result : Result (Unit {0}) EntryFault) : Type 0 where
  pub logged : OnOk result (new ≡ record old { log = old.log ++ entry_by old s stamp w ∷ [] })
  pub disabled : (c : Condition) → (result ≡ Err (Faults.NotEnabled c)) ↔ (failing_at (own old) s w ≡ Some c)
  pub full : (p : Part) → (result ≡ Err (Faults.LogFull p)) ↔ ((failing_at (own old) s w ≡ None) × IsFull old p)
  pub err : OnErr result (new ≡ old)

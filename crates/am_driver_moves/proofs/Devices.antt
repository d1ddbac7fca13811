-- What a device shows after a call, and a move of a swap in memory, exactly.
use Rattle.std.specs.Prelude.{Result, Ok, Err, is_ok}
use Rattle.std.proofs.Common.{◌≡◌, ◌⊎◌, ⊎_elim, ℕ, Bool, true, false, List, Option, Some, None, refl, sym, ap, ◌∙◌, subst, if◌then◌else◌}
use Rattle.am_names.specs.declared.EndpointId.{EndpointId}
use Rattle.am_names.specs.declared.NoMemory.{NoMemory}
use Rattle.am_office_entries.specs.declared.Event.{Event}
use Rattle.am_office_entries.specs.declared.Event.TheVariants as Events
use Rattle.am_office_entries.specs.declared.Outcome.{Outcome}
use Rattle.am_office_entries.specs.declared.Entry.{Entry}
use Rattle.am_model.specs.Tables.{page_ended}
use Rattle.am_swap_device.specs.Causes.{Device, FailsAsTold, Holding, HoldsSame, IsCauseOf, IsCaused, IsCounted, Writes, device_after, fails_after, fault_of, held_with}
use Rattle.am_swap_device.specs.declared.swap.SwapFault.{SwapFault}
use Rattle.am_swap_device.specs.declared.swap.SwapFault.TheVariants as faults
use Rattle.am_swap_device.specs.Memory.{CallsSo, Store, counted, device_of, faulted, written}
use Rattle.am_driver_moves.specs.Logs.{EndLog}
use Rattle.am_driver_moves.specs.Devices.{IsCalled, IsCalledFor, IsEnded, MovesOn, TellsDone, TellsMove, bytes_by, fault_by, fault_in, is_failed, outcome_by}
use Rattle.am_driver_moves.specs.Moves.{Moves, outcome_with, swap_with}
use Rattle.am_driver_moves.specs.Pages.{after_call, is_page}

-- two devices that show the same
device_is : (a b : Device) → ((other : EndpointId) → a.held other ≡ b.held other) → a.fails ≡ b.fails → a.calls ≡ b.calls → a ≡ b
device_is a b held fails calls = λ i. record { held = λ other. held other i; fails = fails i; calls = calls i }

-- a call, by what was answered
module _ {X : Type 0} (old new : Device) where
  called_by : (answer : Result X SwapFault) (r : Result Bool NoMemory) (done : Holding) → IsEnded answer r →
      HoldsSame (if is_ok answer then done else old.held) new.held → new.fails ≡ old.fails → IsCounted answer old.calls new.calls →
      FailsAsTold answer old.fails old.calls → IsCalled old new done r
  called_by (Ok x) (Ok failed) done is held fails calls told =
      subst (λ (b : Bool). IsCalled old new done (Ok b)) (sym is) (told, device_is new (device_after false old done) held fails calls)
  called_by (Ok x) (Err fault) done is held fails calls told = absurd is
  called_by (Err faults.Failed) (Ok failed) done is held fails calls told =
      subst (λ (b : Bool). IsCalled old new done (Ok b)) (sym is) (told, device_is new (device_after true old done) held fails calls)
  called_by (Err faults.Failed) (Err fault) done is held fails calls told = absurd is
  called_by (Err faults.NoMemory) (Ok failed) done is held fails calls told = absurd is
  called_by (Err faults.NoMemory) (Err fault) done is held fails calls told = device_is new old held fails calls

  pub written_by : (answer : Result X SwapFault) (r : Result Bool NoMemory) (key : EndpointId) (bytes : List ℕ) → IsEnded answer r →
      Writes answer old.held new.held key bytes → new.fails ≡ old.fails → IsCounted answer old.calls new.calls →
      FailsAsTold answer old.fails old.calls → IsCalled old new (held_with old.held key bytes) r
  written_by (Ok x) r key bytes is held fails calls told = called_by (Ok x) r (held_with old.held key bytes) is held fails calls told
  written_by (Err fault) r key bytes is held fails calls told = called_by (Err fault) r (held_with old.held key bytes) is held fails calls told

  pub read_by : (answer : Result X SwapFault) (r : Result Bool NoMemory) → IsEnded answer r → HoldsSame old.held new.held →
      new.fails ≡ old.fails → IsCounted answer old.calls new.calls → FailsAsTold answer old.fails old.calls → IsCalled old new old.held r
  read_by (Ok x) r is held fails calls told = called_by (Ok x) r old.held is held fails calls told
  read_by (Err fault) r is held fails calls told = called_by (Err fault) r old.held is held fails calls told

pub caused_by : {X : Type 0} (answer : Result X SwapFault) (r : Result Bool NoMemory) (before now : ℕ) → IsEnded answer r → IsCaused answer before now →
    IsCalledFor r before now
caused_by (Ok x) (Ok failed) before now is h = subst (λ (b : Bool). IsCauseOf b before now) (sym is) h
caused_by (Ok x) (Err fault) before now is h = absurd is
caused_by (Err faults.Failed) (Ok failed) before now is h = subst (λ (b : Bool). IsCauseOf b before now) (sym is) h
caused_by (Err faults.Failed) (Err fault) before now is h = absurd is
caused_by (Err faults.NoMemory) (Ok failed) before now is h = absurd is
caused_by (Err faults.NoMemory) (Err fault) before now is h = h

pub fault_is : {X : Type 0} (answer : Result X SwapFault) (r : Result Bool NoMemory) → IsEnded answer r → fault_of answer ≡ fault_in r
fault_is (Ok x) (Ok failed) is = ap fault_by (sym is)
fault_is (Ok x) (Err fault) is = absurd is
fault_is (Err faults.Failed) (Ok failed) is = ap fault_by (sym is)
fault_is (Err faults.Failed) (Err fault) is = absurd is
fault_is (Err faults.NoMemory) (Ok failed) is = absurd is
fault_is (Err faults.NoMemory) (Err fault) is = refl

-- ---- a swap in memory

-- it fails just where its number is listed
told_outcome : (s : Store) (failed : Bool) (event : Event) → (is_page event ≡ true → failed ≡ fails_after s.fails s.calls) →
    outcome_by failed event ≡ outcome_with s event
told_outcome s failed (Events.PageOut node end) told = ap page_ended (told refl)
told_outcome s failed (Events.PageIn node end) told = ap page_ended (told refl)
told_outcome s failed event told = refl

called_so : (s t : Store) (key : EndpointId) (bytes : Option (List ℕ)) (failed : Bool) → CallsSo s t key bytes (fault_by failed) →
    t ≡ after_call s (written s key bytes)
called_so s t key bytes true c = c.1 ∙ sym (ap (λ (b : Bool). if b then faulted s else counted (written s key bytes)) c.0)
called_so s t key bytes false c = c.1 ∙ sym (ap (λ (b : Bool). if b then faulted s else counted (written s key bytes)) c.0)

left_so : (s t : Store) (e : EndLog) (event : Event) (o : Outcome) → TellsDone (CallsSo s t) (t ≡ s) e event o → t ≡ swap_with s e event
left_so s t e (Events.PageOut node end) o tells = called_so s t e.settings.id (bytes_by e (Events.PageOut node end)) (is_failed o) tells
left_so s t e (Events.PageIn node end) o tells = called_so s t e.settings.id None (is_failed o) tells
left_so s t e event o tells = tells

pub moves_so : (s t : Store) (e f : EndLog) (event : Event) (stamp : ℕ) (r : Result Entry NoMemory) →
    MovesOn (device_of s) (device_of t) e f event stamp r → TellsMove (CallsSo s t) (t ≡ s) e event r → Moves s t e f event stamp r
moves_so s t e f event stamp (Ok x) m tells =
    let outcome : x.outcome ≡ outcome_with s event = m.answered.outcome ∙ told_outcome s (is_failed x.outcome) event m.answered.told in
    record {
      entry = m.entry ∙ λ i. record { stamp = stamp; event = event; outcome = outcome i };
      swap = left_so s t e event x.outcome tells;
      valid = m.answered.valid;
      settings = m.settings;
      log = m.log;
    }
moves_so s t e f event stamp (Err fault) m tells = (⊎_elim (λ same. same) (λ call. call.1) tells, m.1)

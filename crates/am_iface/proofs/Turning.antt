-- What a turn answers, by what logging its entry answers.
use Rattle.std.specs.Prelude.{◌↔◌, Result, Ok, Err, OnOk, OnErr}
use Rattle.std.proofs.Common.{◌≡◌, ◌≢◌, ℕ, [], ◌∷◌, ◌++◌, length, Option, Some, None, refl, sym, ap, ◌∙◌}
use Rattle.am_office_entries.specs.declared.Condition.{Condition}
use Rattle.am_office_entries.specs.declared.Part.{Part}
use Rattle.am_office_entries.specs.declared.Part.TheVariants as Parts
use Rattle.am_office_entries.specs.declared.Entry.{Entry}
use Rattle.am_model.specs.Endpoint.{State}
use Rattle.am_model_parts.specs.declared.work.Work.{Work}
use Rattle.am_model_parts.specs.Interface.{event_of, failing_at, outcome_at}
use Rattle.am_model.specs.declared.EntryFault.{EntryFault}
use Rattle.am_model.specs.declared.EntryFault.TheVariants as Faults
use Rattle.am_iface.specs.View.{InterfaceView, own}
use Rattle.am_iface.specs.Turns.{HasRoom, Turns, entry_by}

-- what logging an entry answers
pub record Enters (old new : InterfaceView) (x : Entry) (result : Result (Unit {0}) EntryFault) : Type 0 where
  pub logged : OnOk result (new ≡ record old { log = old.log ++ x ∷ [] })
  pub enabled : (c : Condition) → result ≢ Err (Faults.NotEnabled c)
  pub full : (p : Part) → (result ≡ Err (Faults.LogFull p)) ↔ ((p ≡ Parts.Interface old.settings.node) × (length old.log ≡ old.settings.log))
  pub err : OnErr result (new ≡ old)

-- the entry is the work's
pub record IsEntryOf (old : InterfaceView) (s : State) (stamp : ℕ) (w : Work) (x : Entry) : Type 0 where
  pub event : x.event ≡ event_of old.settings.node w
  pub outcome : x.outcome ≡ outcome_at (own old) s w
  pub stamped : x.stamp ≡ stamp
  pub enabled : failing_at (own old) s w ≡ None

pub entry_is : (old : InterfaceView) (s : State) (stamp : ℕ) (w : Work) (x : Entry) → IsEntryOf old s stamp w x → x ≡ entry_by old s stamp w
entry_is old s stamp w x is = λ j. record { stamp = is.stamped j; event = is.event j; outcome = is.outcome j }

pub turns_by_entering : (old new : InterfaceView) (s : State) (stamp : ℕ) (w : Work) (x : Entry) (result : Result (Unit {0}) EntryFault) →
    IsEntryOf old s stamp w x → Enters old new x result → Turns old new s stamp w result
turns_by_entering old new s stamp w x (Ok u) is enters =
    record {
      logged = enters.logged ∙ ap (λ (y : Entry). record old { log = old.log ++ y ∷ [] }) (entry_is old s stamp w x is);
      disabled = λ c. ((λ h. absurd (enters.enabled c h)), (λ h. absurd (let both : None ≡ Some c = sym is.enabled ∙ h in cc)));
      full = λ p. ((λ h. (is.enabled, (enters.full p).0 h)), (λ h. (enters.full p).1 h.1));
      err = tt;
    }
turns_by_entering old new s stamp w x (Err e) is enters =
    record {
      logged = tt;
      disabled = λ c. ((λ h. absurd (enters.enabled c h)), (λ h. absurd (let both : None ≡ Some c = sym is.enabled ∙ h in cc)));
      full = λ p. ((λ h. (is.enabled, (enters.full p).0 h)), (λ h. (enters.full p).1 h.1));
      err = enters.err;
    }

-- a turn that a condition keeps from being made
pub turns_by_failing : (old : InterfaceView) (s : State) (stamp : ℕ) (w : Work) (why : Condition) → failing_at (own old) s w ≡ Some why →
    Turns old old s stamp w (Err (Faults.NotEnabled why))
turns_by_failing old s stamp w why fails =
    record {
      logged = tt;
      disabled = λ c. (
        (λ h. fails ∙ ap (λ (k : Condition). Some k) (let same : why ≡ c = cc in same)),
        (λ h. let same : why ≡ c = (let both : Some why ≡ Some c = sym fails ∙ h in cc) in ap (λ (k : Condition). Err (Faults.NotEnabled k)) same),
      );
      full = λ p. ((λ h. absurd (cc)), (λ h. absurd (let both : Some why ≡ None = sym fails ∙ h.0 in cc)));
      err = refl;
    }

-- want of memory, where each other fault has its cause

pub no_condition : (o : Option Condition) (result : Result (Unit {0}) EntryFault) → ((c : Condition) → (result ≡ Err (Faults.NotEnabled c)) ↔ (o ≡ Some c)) →
    result ≡ Err Faults.NoMemory → o ≡ None
no_condition None result disabled starved = refl
no_condition (Some c) result disabled starved =
    let both : ◌≡◌ {A = Result (Unit {0}) EntryFault} (Err Faults.NoMemory) (Err (Faults.NotEnabled c)) = sym starved ∙ (disabled c).1 refl in absurd (cc)

pub not_full : (p : Part) (result : Result (Unit {0}) EntryFault) → result ≡ Err Faults.NoMemory → result ≡ Err (Faults.LogFull p) → ⊥
not_full p result starved full =
    let both : ◌≡◌ {A = Result (Unit {0}) EntryFault} (Err Faults.NoMemory) (Err (Faults.LogFull p)) = sym starved ∙ full in absurd (cc)

pub starved_alone : (old new : InterfaceView) (s : State) (stamp : ℕ) (w : Work) (result : Result (Unit {0}) EntryFault) → Turns old new s stamp w result →
    result ≡ Err Faults.NoMemory → HasRoom old s w
starved_alone old new s stamp w result turns starved =
    let none = no_condition (failing_at (own old) s w) result turns.disabled starved in
    record {
      enabled = none;
      here = λ full. not_full (Parts.Interface old.settings.node) result starved
          ((turns.full (Parts.Interface old.settings.node)).1 (none, (refl, full)));
    }

-- What a turn with an endpoint answers, by what logging its entry answers.
use Rattle.std.specs.Prelude.{◌↔◌, Result, Ok, Err, OnOk, OnErr}
use Rattle.std.proofs.Common.{◌≡◌, ◌≢◌, inl, inr, ⊎_elim, ℕ, ◌<◌, [], ◌∷◌, ◌++◌, length, Some, None, refl, sym, ap, ◌∙◌, subst, arith}
use Rattle.am_office_entries.specs.declared.Condition.{Condition}
use Rattle.am_office_entries.specs.declared.Part.{Part}
use Rattle.am_office_entries.specs.declared.Part.TheVariants as Parts
use Rattle.am_office_entries.specs.declared.Entry.{Entry}
use Rattle.am_endpoint.specs.View.{EndpointView, state_after}
use Rattle.am_model_parts.specs.Interface.{failing_at}
use Rattle.am_model_parts.specs.declared.work.Work.{Work}
use Rattle.am_model.specs.declared.EntryFault.{EntryFault}
use Rattle.am_model.specs.declared.EntryFault.TheVariants as Faults
use Rattle.am_iface.specs.View.{InterfaceView, own}
use Rattle.am_iface.specs.With.{Flies, HasRoomWith, IsFullOf, TurnsWith}
use Rattle.am_iface.proofs.Turning.{IsEntryOf, entry_is, no_condition, not_full}

-- no log is full where both have room
pub no_full_log : (v : InterfaceView) (e : EndpointView) (p : Part) → length v.log < v.settings.log → length e.log < e.settings.log → IsFullOf v e p → ⊥
no_full_log v e p here there full =
    ⊎_elim (λ first. omega (arith, first.1, there)) (λ second. omega (arith, second.1.1, here)) full

-- what logging an entry in the interface answers, once both logs have room
pub record EntersWith (old new : InterfaceView) (e : EndpointView) (x : Entry) (result : Result (Unit {0}) EntryFault) : Type 0 where
  pub logged : OnOk result (new ≡ record old { log = old.log ++ x ∷ [] })
  pub enabled : (c : Condition) → result ≢ Err (Faults.NotEnabled c)
  pub full : (p : Part) → (result ≡ Err (Faults.LogFull p)) ↔ IsFullOf old e p
  pub err : OnErr result (new ≡ old)

-- what becomes of the endpoint
pub record Follows (e f : EndpointView) (w : Work) (x : Entry) (result : Result (Unit {0}) EntryFault) : Type 0 where
  pub same : f.settings ≡ e.settings
  pub there : OnOk result (f.log ≡ e.log ++ x ∷ [])
  pub flies : OnOk result (Flies w x e f)
  pub err : OnErr result (f.log ≡ e.log)
  pub err_flights : OnErr result (f.flights ≡ e.flights)
  pub kept : OnErr result (f.ready ≡ e.ready)

pub turns_with : (old new : InterfaceView) (e f : EndpointView) (stamp : ℕ) (w : Work) (x : Entry) (result : Result (Unit {0}) EntryFault) →
    IsEntryOf old (state_after e) stamp w x → EntersWith old new e x result → Follows e f w x result → TurnsWith old new e f stamp w result
turns_with old new e f stamp w x (Ok u) is enters follows =
    let entry = entry_is old (state_after e) stamp w x is in
    record {
      logged = enters.logged ∙ ap (λ (y : Entry). record old { log = old.log ++ y ∷ [] }) entry;
      there = follows.there ∙ ap (λ (y : Entry). e.log ++ y ∷ []) entry;
      flies = subst (λ (y : Entry). Flies w y e f) entry follows.flies;
      same = follows.same;
      disabled = λ c. ((λ h. absurd (enters.enabled c h)), (λ h. absurd (let both : None ≡ Some c = sym is.enabled ∙ h in cc)));
      full = λ p. ((λ h. (is.enabled, (enters.full p).0 h)), (λ h. (enters.full p).1 h.1));
      err = tt;
      err_there = tt;
      err_flights = tt;
      kept = tt;
    }
turns_with old new e f stamp w x (Err fault) is enters follows =
    record {
      logged = tt;
      there = tt;
      flies = tt;
      same = follows.same;
      disabled = λ c. ((λ h. absurd (enters.enabled c h)), (λ h. absurd (let both : None ≡ Some c = sym is.enabled ∙ h in cc)));
      full = λ p. ((λ h. (is.enabled, (enters.full p).0 h)), (λ h. (enters.full p).1 h.1));
      err = enters.err;
      err_there = follows.err;
      err_flights = follows.err_flights;
      kept = follows.kept;
    }

-- a turn that a condition keeps from being made
pub turns_with_by_failing : (old : InterfaceView) (e : EndpointView) (stamp : ℕ) (w : Work) (why : Condition) →
    failing_at (own old) (state_after e) w ≡ Some why → TurnsWith old old e e stamp w (Err (Faults.NotEnabled why))
turns_with_by_failing old e stamp w why fails =
    record {
      logged = tt;
      there = tt;
      flies = tt;
      same = refl;
      disabled = λ c. (
        (λ h. fails ∙ ap (λ (k : Condition). Some k) (let same : why ≡ c = cc in same)),
        (λ h. let same : why ≡ c = (let both : Some why ≡ Some c = sym fails ∙ h in cc) in ap (λ (k : Condition). Err (Faults.NotEnabled k)) same),
      );
      full = λ p. ((λ h. absurd (cc)), (λ h. absurd (let both : Some why ≡ None = sym fails ∙ h.0 in cc)));
      err = refl;
      err_there = refl;
      err_flights = refl;
      kept = refl;
    }

-- want of memory, where each other fault has its cause
pub starved_with : (old new : InterfaceView) (e f : EndpointView) (stamp : ℕ) (w : Work) (result : Result (Unit {0}) EntryFault) →
    TurnsWith old new e f stamp w result → result ≡ Err Faults.NoMemory → HasRoomWith old e w
starved_with old new e f stamp w result turns starved =
    let none = no_condition (failing_at (own old) (state_after e) w) result turns.disabled starved in
    let there : length e.log ≢ e.settings.log =
    λ full. not_full (Parts.Endpoint e.settings.id) result starved ((turns.full (Parts.Endpoint e.settings.id)).1 (none, inl (refl, full))) in
    record {
      enabled = none;
      there = there;
      here = λ full. not_full (Parts.Interface old.settings.node) result starved
          ((turns.full (Parts.Interface old.settings.node)).1 (none, inr (there, (refl, full))));
    }

-- What the events of a script make, one after the other.
use Rattle.std.specs.Prelude.{slice_index_or, Result, Ok, Err, IfOk}
use Rattle.am_names.specs.declared.NoMemory.{NoMemory}
use Rattle.am_restart.specs.declared.events.SessionFault.{SessionFault}
use Rattle.am_restart.specs.declared.events.SessionFault.TheVariants as Faults
use Rattle.std.proofs.Common.{◌≡◌, ℕ, zero, suc, ◌+◌, ◌<◌, ◌≤◌, List, [], ◌∷◌, ◌++◌, length, drop, Option, Some, None, refl, sym, ap, ◌∙◌, subst, arith}
use Rattle.std.proofs.lemmas.List.{drop_all}
use Rattle.am_restart.specs.declared.events.SessionCondition.{SessionCondition}
use Rattle.am_restart.specs.declared.events.SessionEntry.{SessionEntry}
use Rattle.am_restart.specs.History.{after, entry_of}
use Rattle.am_restart.specs.Moves.{failing}
use Rattle.am_restart.specs.State.{SessionState, opening}
use Rattle.am_session.specs.declared.script.SessionStep.{SessionStep}
use Rattle.am_session.specs.Plays.{IsStoppedBy, Played, played, played_by, played_from}
use Rattle.am_session.specs.Scripts.{Script}

-- the steps from one on
pub from_step : (steps : List SessionStep) (i : ℕ) (d : SessionStep) → i < length steps → drop i steps ≡ slice_index_or steps i d ∷ drop (i + 1) steps
from_step [] i d h = absurd (omega (arith, h))
from_step (s ∷ steps) zero d h = refl
from_step (s ∷ steps) (suc i) d h =
    let next : drop (suc i + 1) (s ∷ steps) ≡ drop (i + 1) steps = ap (λ (n : ℕ). drop n (s ∷ steps)) (let n : suc i + 1 ≡ suc (i + 1) = omega arith in n) in
    from_step steps i d (omega (arith, h)) ∙ ap (λ (l : List SessionStep). slice_index_or steps i d ∷ l) (sym next)

-- what the loop over the steps keeps
pub record Walks (script : Script) (i : ℕ) (s : SessionState) (entries : List SessionEntry) : Type 0 where
  pub events : s.events ≡ i
  pub rest : played_from s entries (drop i script.steps) ≡ played script

pub walks_begin : (script : Script) → Walks script 0 (opening script.tries) []
walks_begin script = record { events = refl; rest = refl }

pub walks_on : (script : Script) (i : ℕ) (s next : SessionState) (entries more : List SessionEntry) (d : SessionStep) (x : SessionEntry) →
    Walks script i s entries → i < length script.steps → failing s (slice_index_or script.steps i d).event ≡ None →
    x ≡ entry_of s (slice_index_or script.steps i d).event → next ≡ after s (slice_index_or script.steps i d).event → more ≡ entries ++ x ∷ [] →
    Walks script (i + 1) next more
walks_on script i s next entries more d x w below runs entry still longer =
    let step : SessionStep = slice_index_or script.steps i d in
    record {
      events = ap (λ (t : SessionState). t.events) still ∙ ap (λ (n : ℕ). n + 1) w.events;
      rest =
          ap (λ (l : List SessionEntry). played_from next l (drop (i + 1) script.steps)) (longer ∙ ap (λ (y : SessionEntry). entries ++ y ∷ []) entry)
          ∙ ap (λ (t : SessionState). played_from t (entries ++ entry_of s (slice_index_or script.steps i d).event ∷ []) (drop (i + 1) script.steps)) still
          ∙ sym (ap (λ (o : Option SessionCondition). played_by o (slice_index_or script.steps i d).line entries
          (played_from (after s (slice_index_or script.steps i d).event) (entries ++ entry_of s (slice_index_or script.steps i d).event ∷ [])
          (drop (i + 1) script.steps))) runs)
          ∙ sym (ap (λ (l : List SessionStep). played_from s entries l) (from_step script.steps i d below))
          ∙ w.rest;
    }

pub walks_stop : (script : Script) (i : ℕ) (s : SessionState) (entries : List SessionEntry) (d : SessionStep) (condition : SessionCondition) →
    Walks script i s entries → i < length script.steps → failing s (slice_index_or script.steps i d).event ≡ Some condition →
    record { entries = entries; stopped = Some (record { line = (slice_index_or script.steps i d).line; condition = condition }) } ≡ played script
walks_stop script i s entries d condition w below fails =
    sym (ap (λ (o : Option SessionCondition). played_by o (slice_index_or script.steps i d).line entries
    (played_from (after s (slice_index_or script.steps i d).event) (entries ++ entry_of s (slice_index_or script.steps i d).event ∷ [])
    (drop (i + 1) script.steps))) fails)
    ∙ sym (ap (λ (l : List SessionStep). played_from s entries l) (from_step script.steps i d below))
    ∙ w.rest

pub walks_end : (script : Script) (i : ℕ) (s : SessionState) (entries : List SessionEntry) → Walks script i s entries → length script.steps ≤ i →
    record { entries = entries; stopped = None } ≡ played script
walks_end script i s entries w h = sym (ap (λ (l : List SessionStep). played_from s entries l) (drop_all i script.steps h)) ∙ w.rest

stopped_by : (script : Script) (i : ℕ) (s : SessionState) (entries : List SessionEntry) (d : SessionStep) (fault : SessionFault) (made : Played) →
    Walks script i s entries → i < length script.steps → ((condition : SessionCondition) → fault ≡ Faults.NotEnabled condition →
    failing s (slice_index_or script.steps i d).event ≡ Some condition) → IsStoppedBy fault (slice_index_or script.steps i d).line entries made →
    made ≡ played script
stopped_by script i s entries d (Faults.NotEnabled condition) made w below tells is = is
    ∙ walks_stop script i s entries d condition w below (tells condition refl)
stopped_by script i s entries d Faults.NoMemory made w below tells is = absurd is

-- what a stopped loop returns
pub stopped_play : (script : Script) (i : ℕ) (s : SessionState) (entries : List SessionEntry) (d : SessionStep) (fault : SessionFault)
    (result : Result Played NoMemory) → Walks script i s entries → i < length script.steps →
    ((condition : SessionCondition) → fault ≡ Faults.NotEnabled condition → failing s (slice_index_or script.steps i d).event ≡ Some condition) →
    IfOk result (IsStoppedBy fault (slice_index_or script.steps i d).line entries) → IfOk result (λ made. made ≡ played script)
stopped_play script i s entries d fault (Ok made) w below tells is = stopped_by script i s entries d fault made w below tells is
stopped_play script i s entries d fault (Err e) w below tells is = tt

-- so where the loop goes over a list that is the script's
pub stopped_over : (script : Script) (steps : List SessionStep) → steps ≡ script.steps →
    (i : ℕ) (s : SessionState) (entries : List SessionEntry) (d : SessionStep) (fault : SessionFault) (result : Result Played NoMemory) →
    Walks script i s entries → i < length steps → ((condition : SessionCondition) → fault ≡ Faults.NotEnabled condition →
    failing s (slice_index_or steps i d).event ≡ Some condition) → IfOk result (IsStoppedBy fault (slice_index_or steps i d).line entries) →
    IfOk result (λ made. made ≡ played script)
stopped_over script steps e i s entries d fault result w =
    subst
    (λ (l : List SessionStep). i < length l → ((condition : SessionCondition) → fault ≡ Faults.NotEnabled condition →
    failing s (slice_index_or l i d).event ≡ Some condition) → IfOk result (IsStoppedBy fault (slice_index_or l i d).line entries) →
    IfOk result (λ made. made ≡ played script))
    (sym e)
    (λ below tells is. stopped_play script i s entries d fault result w below tells is)

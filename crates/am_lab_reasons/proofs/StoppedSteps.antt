-- What stops the steps of a script, as a loop over them finds it.
use Rattle.std.specs.Prelude.{slice_get, Result, Ok, Err, IfOk, IfSome}
use Rattle.std.proofs.Common.{◌≡◌, ℕ, zero, suc, Bool, true, List, [], ◌∷◌, length, Option, Some, None, refl, sym, ap, ◌∙◌}
use Rattle.am_model.specs.History.{is_in_range}
use Rattle.am_model.specs.Layout.{Layout}
use Rattle.am_model.specs.Steps.{Made, Stop, NotEnabled, LogFull, stop, made}
use Rattle.am_model.specs.declared.EntryFault.{EntryFault}
use Rattle.am_model.specs.declared.EntryFault.TheVariants as Faults
use Rattle.am_model_scripts.specs.Layout.{events_of}
use Rattle.am_model_scripts.specs.Steps.Laws.{AreInRange}
use Rattle.am_machine.specs.View.{ClusterView, Applies}
use Rattle.am_main_step.proofs.Made.{Walks, walks_stop}
use Rattle.am_names.specs.declared.NoMemory.{NoMemory}
use Rattle.am_office_entries.specs.declared.Entry.{Entry}
use Rattle.am_office_entries.specs.declared.Event.{Event}
use Rattle.am_scenario_types.specs.declared.parts.StepLine.{StepLine}
use Rattle.am_lab_reasons.specs.Stops.{AnswersFault, StopsBefore, made_text, refused_by, refused_step, stop_text}
use Rattle.am_lab_reasons.specs.declared.stops.RefusedStep.{RefusedStep}

-- the event of a step
pub event_at : (steps : List StepLine) (i : ℕ) (step : StepLine) → slice_get steps i ≡ Some step → slice_get (events_of steps) i ≡ Some step.event
event_at [] i step h = absurd (cc)
event_at (s ∷ steps) zero step h = let same : s ≡ step = cc in ap (λ (x : StepLine). Some x.event) same
event_at (s ∷ steps) (suc i) step h = event_at steps i step h

-- the step that the steps are stopped at
pub step_refused : (layout : Layout) (steps : List StepLine) (i : ℕ) (journal : List Entry) (step : StepLine) (why : Stop) →
    made layout (events_of steps) ≡ record { journal = journal; stopped = Some why } → length journal ≡ i → slice_get steps i ≡ Some step →
    refused_step (events_of steps) (made layout (events_of steps)) ≡ refused_by (Some why) (Some step.event)
step_refused layout steps i journal step why is count at =
    ap (λ (m : Made). refused_step (events_of steps) m) is
    ∙ ap (λ (n : ℕ). refused_by (Some why) (slice_get (events_of steps) n)) count
    ∙ ap (λ (e : Option Event). refused_by (Some why) e) (event_at steps i step at)

pub same_journal : (layout : Layout) (steps : List StepLine) (journal other : List Entry) (why : Option Stop) → other ≡ journal →
    made layout (events_of steps) ≡ record { journal = journal; stopped = why } → other ≡ (made layout (events_of steps)).journal
same_journal layout steps journal other why same is = same ∙ sym (ap (λ (m : Made). m.journal) is)

-- a step of which no entry was made stops the steps
pub stops_here : (layout now : Layout) (steps : List StepLine) (i : ℕ) (step : StepLine) (old new : ClusterView) (fault : EntryFault)
    (answer : Result (Option RefusedStep) NoMemory) → Walks layout now steps i old.journal → slice_get steps i ≡ Some step → old.layout ≡ now →
    Applies old new step.event (Err fault) → AnswersFault step.event fault answer → IfOk answer (StopsBefore layout steps new.journal)
stops_here layout now steps i step old new (Faults.NotEnabled condition) (Ok told) w at same h is =
    let stops : stop now old.journal step.event ≡ Some (NotEnabled condition) = (λ k. stop (sym same k) old.journal step.event) ∙ h.0 in
    let made' = walks_stop layout now steps i old.journal step (NotEnabled condition) w at stops in
    let told' : told ≡ Some (record { event = step.event; condition = condition }) = cc in
    record {
      journal' = same_journal layout steps old.journal new.journal (Some (NotEnabled condition)) (ap (λ (v : ClusterView). v.journal) h.1) made';
      step' = told' ∙ sym (step_refused layout steps i old.journal step (NotEnabled condition) made' w.count at);
    }
stops_here layout now steps i step old new (Faults.LogFull part) (Ok told) w at same h is =
    let stops : stop now old.journal step.event ≡ Some (LogFull part) = (λ k. stop (sym same k) old.journal step.event) ∙ h.0 in
    let made' = walks_stop layout now steps i old.journal step (LogFull part) w at stops in
    let told' : told ≡ None = cc in
    record {
      journal' = same_journal layout steps old.journal new.journal (Some (LogFull part)) (ap (λ (v : ClusterView). v.journal) h.1) made';
      step' = told' ∙ sym (step_refused layout steps i old.journal step (LogFull part) made' w.count at);
    }
stops_here layout now steps i step old new Faults.NoMemory (Ok told) w at same h is = absurd (cc)
stops_here layout now steps i step old new fault (Err e) w at same h is = tt

-- no step stops them
pub stops_nowhere : (layout now : Layout) (steps : List StepLine) (i : ℕ) (journal : List Entry) → Walks layout now steps i journal →
    made layout (events_of steps) ≡ record { journal = journal; stopped = None } → StopsBefore layout steps journal None
stops_nowhere layout now steps i journal w is = record {
  journal' = same_journal layout steps journal journal None refl is;
  step' = sym (ap (λ (m : Made). refused_step (events_of steps) m) is);
}

-- the event of a step is in range
pub in_range_at : (layout : Layout) (events : List Event) (i : ℕ) (event : Event) → AreInRange layout events → slice_get events i ≡ Some event →
    is_in_range layout event ≡ true
in_range_at layout [] i event h at = absurd (cc)
in_range_at layout (e ∷ events) zero event h at = let same : e ≡ event = cc in ap (is_in_range layout) (sym same) ∙ h.0
in_range_at layout (e ∷ events) (suc i) event h at = in_range_at layout events i event h.1 at

by_event : (layout : Layout) (events : List Event) (i : ℕ) (stopped : Option Stop) (event : Option Event) (step : RefusedStep) → AreInRange layout events →
    slice_get events i ≡ event → Some step ≡ refused_by stopped event → is_in_range layout step.event ≡ true
by_event layout events i (Some (NotEnabled condition)) (Some event) step h at is =
    let same : step.event ≡ event = cc in
    ap (is_in_range layout) same ∙ in_range_at layout events i event h at
by_event layout events i (Some (NotEnabled condition)) None step h at is = absurd (cc)
by_event layout events i (Some (LogFull part)) event step h at is = absurd (cc)
by_event layout events i None event step h at is = absurd (cc)

-- the step that can't happen is in range
pub refused_in_range : (layout : Layout) (steps : List StepLine) (journal : List Entry) (step : Option RefusedStep) → AreInRange layout (events_of steps) →
    StopsBefore layout steps journal step → IfSome step (λ (r : RefusedStep). is_in_range layout r.event ≡ true)
refused_in_range layout steps journal None h stops = tt
refused_in_range layout steps journal (Some r) h stops =
    let m = made layout (events_of steps) in
    by_event layout (events_of steps) (length m.journal) m.stopped (slice_get (events_of steps) (length m.journal)) r h refl stops.step'

-- what is told of them
pub stop_told : (front : Bool) (layout : Layout) (steps : List StepLine) (journal : List Entry) (step : Option RefusedStep) → StopsBefore layout steps journal step →
    made_text front layout journal step ≡ stop_text front layout (events_of steps)
stop_told front layout steps journal step stops =
    let m = made layout (events_of steps) in
    ap (λ (j : List Entry). made_text front layout j step) stops.journal' ∙ ap (made_text front layout m.journal) stops.step'

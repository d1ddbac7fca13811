-- What stops the steps of a script.
use Rattle.std.specs.Prelude.{◌≡◌, ℕ, Bool, true, false, Option, Some, None, List, [], ◌++◌, length, slice_get, Result, Ok, IsErr}
use Rattle.std.specs.List.{flat_map}
use Rattle.am_model.specs.Layout.{Layout}
use Rattle.am_model.specs.Steps.{Made, Stop, NotEnabled, made}
use Rattle.am_model.specs.declared.EntryFault.{EntryFault}
use Rattle.am_model.specs.declared.EntryFault.TheVariants as Faults
use Rattle.am_model_scripts.specs.Layout.{events_of}
use Rattle.am_names.specs.declared.NoMemory.{NoMemory}
use Rattle.am_office_entries.specs.declared.Entry.{Entry}
use Rattle.am_office_entries.specs.declared.Event.{Event}
use Rattle.am_office_text.specs.EntryLines.Lines.{line_of}
use Rattle.am_scenario_types.specs.declared.parts.StepLine.{StepLine}
use Rattle.am_lab_reasons.specs.Due.Found.{found}
use Rattle.am_lab_reasons.specs.declared.stops.RefusedStep.{RefusedStep}

-- the step that can't happen, if that is why the steps are stopped
abbrev pub refused_by : Option Stop → Option Event → Option RefusedStep
refused_by (Some (NotEnabled condition)) (Some event) = Some (record { event = event; condition = condition })
refused_by stopped event = None

-- the first of some steps that can't happen: the one behind those that were made
abbrev pub refused_step : List Event → Made → Option RefusedStep
refused_step events m = refused_by m.stopped (slice_get events (length m.journal))

-- what it finds of the part that it names, behind what the steps before it made
abbrev pub found_if : Layout → List Entry → Option RefusedStep → List ℕ
found_if layout past None = []
found_if layout past (Some step) = found layout past step.event step.condition

abbrev pub front_if : Bool → List Entry → List ℕ
front_if true journal = flat_map line_of journal
front_if false journal = []

abbrev pub made_text : Bool → Layout → List Entry → Option RefusedStep → List ℕ
made_text front layout journal step = found_if layout journal step ++ front_if front journal

abbrev pub stopped_text : Bool → Layout → List Event → Made → List ℕ
stopped_text front layout events m = made_text front layout m.journal (refused_step events m)

-- what is told of the steps of a script: what the first that can't happen finds, and on request the lines of what the steps before it made
abbrev pub stop_text : Bool → Layout → List Event → List ℕ
stop_text front layout events = stopped_text front layout events (made layout events)

-- the steps made this journal, and this one of them can't happen
pub record StopsBefore (layout : Layout) (steps : List StepLine) (journal : List Entry) (step : Option RefusedStep) : Type 0 where
  pub journal' : journal ≡ (made layout (events_of steps)).journal
  pub step' : step ≡ refused_step (events_of steps) (made layout (events_of steps))

-- what is answered of a step of which no entry was made: the step, if it can't happen
abbrev pub AnswersFault : Event → EntryFault → Result (Option RefusedStep) NoMemory → Type 0
AnswersFault event (Faults.NotEnabled condition) answer = answer ≡ Ok (Some (record { event = event; condition = condition }))
AnswersFault event (Faults.LogFull part) answer = answer ≡ Ok None
AnswersFault event Faults.NoMemory answer = IsErr answer

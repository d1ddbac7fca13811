-- What the program answers to what was asked for, and to the bytes that were read for it.
use Rattle.std.specs.Prelude.{◌≡◌, ◌≢◌, ◌⊎◌, ℕ, Bool, true, false, List, [], ◌∷◌, ◌++◌, codes, Option, Some, None, Err}
use Rattle.std.specs.Fmt.{decimal}
use Rattle.am_check.specs.Cut.{place_of}
use Rattle.am_check.specs.Verdict.{Checks}
use Rattle.am_check.specs.declared.faults.CheckStop.TheVariants as Stops
use Rattle.am_check.specs.declared.faults.CheckWhat.{CheckWhat}
use Rattle.am_io.specs.Causes.{Counter}
use Rattle.am_main_answer.specs.Answers.{IsDueOffered, IsDueTaken, IsDueTo, statuses_of}
use Rattle.am_main_step.specs.Checks.{CheckAnswers}
use Rattle.am_main_lines.specs.Lines.{Answer}
use Rattle.am_names.specs.declared.EndpointId.{EndpointId}
use Rattle.am_office_text.specs.Words.{line}
use Rattle.am_lab.specs.Cuts.{cut_report, full_before, full_line_of, without_line}
use Rattle.am_lab.specs.Explains.{Explains}
use Rattle.am_names.specs.declared.Serial.{Serial}
use Rattle.am_scenario.specs.Grammar.{grammar}
use Rattle.am_scenario_types.specs.declared.parts.Form.{Form}
use Rattle.am_scenario_types.specs.declared.parts.Form.TheVariants as Forms
use Rattle.am_segment.specs.Spelling.{segment_grammar}
use Rattle.am_lab_drawings.specs.Charts.{ChartAnswers}
use Rattle.am_lab_drawings.specs.Messages.{ChartsMessage}
use Rattle.am_lab_drawings.specs.Fronts.{ChartFrontAnswers}
use Rattle.am_lab_drawings.specs.declared.view.parts.LineRange.{LineRange}
use Rattle.am_lab_words.specs.declared.Lines.{Lines}
use Rattle.am_lab_page.specs.Json.Answers.{JsonAnswers}
use Rattle.am_lab_page.specs.Page.Pages.{PageAnswers}
use Rattle.am_lab_scenarios.specs.Derived.Answers.{ExpandedAnswers, FaultsAnswers, PrintsScenario, RoundAnswers}
use Rattle.am_scenario_generator.specs.Scenarios.{generated}
use Rattle.am_lab_reasons.specs.Before.{TellsBefore, has_front}
use Rattle.am_lab_reasons.specs.Reasons.{IsDeclared, TellsReasons}
use Rattle.am_lab_schedules.specs.Finds.{FindAnswers}
use Rattle.am_lab_schedules.specs.Schedules.{SchedulesAnswers}
use Rattle.am_lab_schedules.specs.Trials.{ScheduleAnswers}
use Rattle.am_lab_schedules.specs.declared.finds.Wanted.TheVariants as Wanted
use Rattle.am_lab_shiviz.specs.Answers.{ShivizAnswers}
use Rattle.am_lab_shrink.specs.Shrinks.{ShrinkAnswers}
use Rattle.am_lab_shrink.specs.declared.reports.Making.{Making}
use Rattle.am_lab_shrink.specs.declared.reports.Making.TheVariants as Makings
use Rattle.am_lab_scenarios.specs.Texts.Replays.{ReplayAnswers}
use Rattle.am_lab_scenarios.specs.Texts.Scenarios.{ScenarioAnswers}
use Rattle.am_lab_words.specs.declared.Asked.{Asked}
use Rattle.am_lab_state.specs.Answers.{StateAnswers}
use Rattle.am_lab_state.specs.declared.asked.StateLines.{StateLines}
use Rattle.am_lab_state.specs.declared.asked.StateLines.TheVariants as Behinds
use Rattle.am_lab_words.specs.declared.States.{States}
use Rattle.am_lab_words.specs.declared.States.TheVariants as AskedStates
use Rattle.am_lab_words.specs.declared.Asked.TheVariants as Commands

-- ---- what each command answers

-- the answer where no line declares the endpoint of a message
unfoldable pub no_endpoint : EndpointId → Answer
no_endpoint e = record { status = 12; text = line (codes "no endpoint") (decimal e.0 ∷ []) }

-- the report is right, and its scenario doesn't declare the message's endpoint
pub record LacksEndpoint (form : Form) (bytes : List ℕ) (serial : Serial) (checked answer : Answer) : Type 0 where
  pub right : checked.status ≡ 0
  pub undeclared : IsDeclared form bytes serial.source false
  pub answer' : answer ≡ no_endpoint serial.source

-- the report is right, its scenario declares the message's endpoint, and what became of the message is told
pub record TellsMessage (form : Form) (bytes : List ℕ) (serial : Serial) (checked answer : Answer) : Type 0 where
  pub right : checked.status ≡ 0
  pub declared : IsDeclared form bytes serial.source true
  pub out : List ℕ
  pub tells : TellsReasons form bytes serial out
  pub answer' : answer ≡ record { status = 0; text = out }

-- THE HEADLINE, for `why`: the answer is that of `check`, but where that says that the report is right, what became of the message is told,
-- or that there is no such endpoint.
pub record TellsWhy (form : Form) (bytes : List ℕ) (serial : Serial) (answer : Answer) : Type 0 where
  pub checked : Answer
  pub checks : CheckAnswers form bytes checked
  pub more : ((checked.status ≢ 0) × (answer ≡ checked)) ⊎ (LacksEndpoint form bytes serial checked answer ⊎ TellsMessage form bytes serial checked answer)

-- the report is right, its scenario declares the message's endpoint, and the lines that touch the message are drawn
pub record DrawsMessage (form : Form) (bytes : List ℕ) (serial : Serial) (checked answer : Answer) : Type 0 where
  pub right : checked.status ≡ 0
  pub declared : IsDeclared form bytes serial.source true
  pub drawn : ChartsMessage form bytes serial answer

-- THE HEADLINE, for `chart` of a message: the answer is that of `check`, but where that says that the report is right, the lines that touch
-- the message are drawn, or it is told that there is no such endpoint.
pub record MessageChartAnswers (form : Form) (bytes : List ℕ) (serial : Serial) (answer : Answer) : Type 0 where
  pub checked : Answer
  pub checks : CheckAnswers form bytes checked
  pub more : ((checked.status ≢ 0) × (answer ≡ checked)) ⊎ (LacksEndpoint form bytes serial checked answer ⊎ DrawsMessage form bytes serial checked answer)

-- behind what `check` answers to a report with a fault stands what became of a message in the journal in front of that
pub record TellsFront (form : Form) (bytes : List ℕ) (serial : Serial) (number : ℕ) (what : CheckWhat) (checked answer : Answer) : Type 0 where
  pub out : List ℕ
  pub tells : TellsBefore form bytes number what serial out
  pub answer' : answer ≡ record { status = checked.status; text = checked.text ++ out }

-- so it is, if a journal might stand there
abbrev pub TellsIf : Bool → Form → List ℕ → Serial → (number : ℕ) → CheckWhat → (checked answer : Answer) → Type 0
TellsIf true form bytes serial number what checked answer = TellsFront form bytes serial number what checked answer
TellsIf false form bytes serial number what checked answer = answer ≡ checked

-- a line of the report has a fault, as the checker says, and what became of the message in front of it is told
pub record TellsFault (form : Form) (bytes : List ℕ) (serial : Serial) (checked answer : Answer) : Type 0 where
  pub number : ℕ
  pub what : CheckWhat
  pub verdict : Checks form bytes (Err (Stops.Fault number what))
  pub told : TellsIf (has_front number what) form bytes serial number what checked answer

-- the answer is that of `why`, but where the report has a fault behind lines of a journal, behind what `check` answers stands what became of
-- the message in these
pub record TellsUpTo (form : Form) (serial : Serial) (bytes : List ℕ) (answer : Answer) : Type 0 where
  pub checked : Answer
  pub checks : CheckAnswers form bytes checked
  pub more : ((checked.status ≢ 10) × TellsWhy form bytes serial answer) ⊎ TellsFault form bytes serial checked answer

-- the line of a full log is told, and behind it the same of the text without that line
pub record TellsCut (form : Form) (serial : Serial) (line text : List ℕ) (answer : Answer) : Type 0 where
  pub told : Answer
  pub tells : TellsUpTo form serial text told
  pub answer' : answer ≡ record { status = 6; text = line ++ codes "\n" ++ told.text }

abbrev pub TellsFrontBy : Option (List ℕ) → Form → Serial → List ℕ → Answer → Type 0
TellsFrontBy None form serial bytes answer = TellsUpTo form serial bytes answer
TellsFrontBy (Some line) form serial bytes answer = TellsCut form serial line (without_line bytes line (place_of bytes)) answer

-- THE HEADLINE, for `why --front`: what is told of a message of a report that may have a fault, or a full log's line in front
abbrev pub TellsWhyFront : Form → Serial → List ℕ → Answer → Type 0
TellsWhyFront form serial bytes answer = TellsFrontBy (full_before bytes (place_of bytes)) form serial bytes answer

-- the text without the line of a full log is drawn, with that line in the last row
pub record DrawsCut (form : Form) (line text : List ℕ) (answer : Answer) : Type 0 where
  pub drawn : Answer
  pub draws : ChartFrontAnswers form (line ++ codes ", ") text drawn
  pub answer' : answer ≡ record { status = 6; text = drawn.text }

abbrev pub DrawsFrontBy : Option (List ℕ) → Form → List ℕ → Answer → Type 0
DrawsFrontBy None form bytes answer = ChartFrontAnswers form [] bytes answer
DrawsFrontBy (Some line) form bytes answer = DrawsCut form line (without_line bytes line (place_of bytes)) answer

-- THE HEADLINE, for `chart --front`: what is drawn of a report that may have a fault, or a full log's line in front
abbrev pub DrawsChartFront : Form → List ℕ → Answer → Type 0
DrawsChartFront form bytes answer = DrawsFrontBy (full_before bytes (place_of bytes)) form bytes answer

-- the part of a report that the words name
abbrev pub part_of : Option Lines → Option LineRange
part_of None = None
part_of (Some lines) = Some (record { from = lines.from; to = lines.to })

-- the lines whose states the words have
abbrev pub lines_of_states : States → StateLines
lines_of_states AskedStates.End = Behinds.End
lines_of_states (AskedStates.Behind number) = Behinds.Behind number
lines_of_states (AskedStates.Between lines) = Behinds.Between lines.from lines.to

-- how the reports are made among which `shrink` looks for a line
abbrev pub making_of : Form → Making
making_of Forms.Step = Makings.Steps
making_of Forms.Run = Makings.Drain

-- The answer of a command to bytes with no line of a full log in front of a report; `given` are the words that a line is to begin with, for
-- `find` and `shrink`; `scenario make` has no bytes to look at. The answer to `schedule` tells a run in the order of the seed, of the scenario
-- that the text spells, with the plan that the seed draws if one is asked for, and `run` may give it too; to `schedule` with many seeds it tells
-- one such run by each.
unfoldable pub AnswersTo : Asked → (given bytes : List ℕ) → Answer → Type 0
AnswersTo (Commands.Explain form) given bytes answer = Explains false form bytes answer
AnswersTo Commands.Front given bytes answer = Explains true Forms.Step bytes answer
AnswersTo (Commands.Why form serial) given bytes answer = TellsWhy form bytes serial answer
AnswersTo (Commands.WhyFront form serial) given bytes answer = TellsWhyFront form serial bytes answer
AnswersTo (Commands.Chart form lines) given bytes answer = ChartAnswers form bytes (part_of lines) answer
AnswersTo (Commands.ChartMessage form serial) given bytes answer = MessageChartAnswers form bytes serial answer
AnswersTo (Commands.ChartFront form) given bytes answer = DrawsChartFront form bytes answer
AnswersTo (Commands.Scenario form) given bytes answer = ScenarioAnswers form bytes answer
AnswersTo (Commands.Made n) given bytes answer = PrintsScenario (generated n) answer
AnswersTo Commands.Expanded given bytes answer = ExpandedAnswers (segment_grammar bytes) answer
AnswersTo (Commands.Round nodes turns number) given bytes answer = RoundAnswers nodes turns number bytes answer
AnswersTo Commands.Replay given bytes answer = ReplayAnswers bytes answer
AnswersTo (Commands.Schedule seed faults) given bytes answer = ScheduleAnswers faults seed (grammar Forms.Run bytes) answer
AnswersTo (Commands.Schedules trials) given bytes answer = SchedulesAnswers trials.faults (grammar Forms.Run bytes) trials.seeds.from trials.seeds.to answer
AnswersTo (Commands.Json form) given bytes answer = JsonAnswers form bytes answer
AnswersTo (Commands.Shiviz form) given bytes answer = ShivizAnswers form bytes answer
AnswersTo (Commands.Page form) given bytes answer = PageAnswers form bytes answer
AnswersTo (Commands.State form states) given bytes answer = StateAnswers form bytes (lines_of_states states) answer
AnswersTo (Commands.Find trials) given bytes answer =
    FindAnswers trials.faults (grammar Forms.Run bytes) Wanted.WithLine given trials.seeds.from trials.seeds.to answer
AnswersTo (Commands.FindWithout trials) given bytes answer =
    FindAnswers trials.faults (grammar Forms.Run bytes) Wanted.WithoutLine given trials.seeds.from trials.seeds.to answer
AnswersTo (Commands.Faults seed percent) given bytes answer = FaultsAnswers seed percent (grammar Forms.Run bytes) answer
AnswersTo (Commands.Shrink form) given bytes answer = ShrinkAnswers (making_of form) given bytes answer
AnswersTo (Commands.ShrinkSeeded seed) given bytes answer = ShrinkAnswers (Makings.Seed seed) given bytes answer

-- the answer where a full log may be told in front of the report
abbrev pub AnswersUncut : Option (List ℕ) → Asked → (given bytes : List ℕ) → Answer → Type 0
AnswersUncut (Some line) asked given bytes answer = answer ≡ cut_report line
AnswersUncut None asked given bytes answer = AnswersTo asked given bytes answer

-- the answer of a command to the bytes
unfoldable pub AnswersText : Asked → (given bytes : List ℕ) → Answer → Type 0
AnswersText asked given bytes answer = AnswersUncut (full_line_of asked bytes) asked given bytes answer

-- The statuses of these answers: 0 what the command is for; 3 a text that spells no scenario, or a step that can't happen; 6 a full log;
-- 10 a fault of a report; 11 more than the command takes; 12 nothing of that name.
unfoldable pub own_statuses : Asked → List ℕ
own_statuses (Commands.Explain form) = 0 ∷ 3 ∷ 6 ∷ 10 ∷ []
own_statuses Commands.Front = 0 ∷ 3 ∷ 6 ∷ 10 ∷ []
own_statuses (Commands.Why form serial) = 0 ∷ 3 ∷ 6 ∷ 10 ∷ 12 ∷ []
own_statuses (Commands.WhyFront form serial) = 0 ∷ 3 ∷ 6 ∷ 10 ∷ 12 ∷ []
own_statuses (Commands.Chart form lines) = 0 ∷ 3 ∷ 6 ∷ 10 ∷ 11 ∷ 12 ∷ []
own_statuses (Commands.ChartMessage form serial) = 0 ∷ 3 ∷ 6 ∷ 10 ∷ 11 ∷ 12 ∷ []
own_statuses (Commands.ChartFront form) = 0 ∷ 3 ∷ 6 ∷ 10 ∷ 11 ∷ 12 ∷ []
own_statuses (Commands.Scenario form) = 0 ∷ 3 ∷ []
own_statuses (Commands.Made n) = 0 ∷ []
own_statuses Commands.Expanded = 0 ∷ 3 ∷ []
own_statuses (Commands.Round nodes turns number) = 0 ∷ 11 ∷ 12 ∷ []
own_statuses Commands.Replay = 0 ∷ 3 ∷ 6 ∷ 10 ∷ 11 ∷ []
own_statuses (Commands.Schedule seed faults) = 0 ∷ 3 ∷ 6 ∷ []
own_statuses (Commands.Schedules trials) = 0 ∷ 3 ∷ 6 ∷ []
own_statuses (Commands.Json form) = 0 ∷ 3 ∷ 6 ∷ 10 ∷ []
own_statuses (Commands.Shiviz form) = 0 ∷ 3 ∷ 6 ∷ 10 ∷ []
own_statuses (Commands.Page form) = 0 ∷ 3 ∷ 6 ∷ 10 ∷ 11 ∷ 12 ∷ []
own_statuses (Commands.State form states) = 0 ∷ 3 ∷ 6 ∷ 10 ∷ 12 ∷ []
own_statuses (Commands.Find trials) = 0 ∷ 3 ∷ 6 ∷ 12 ∷ []
own_statuses (Commands.FindWithout trials) = 0 ∷ 3 ∷ 6 ∷ 12 ∷ []
own_statuses (Commands.Faults seed percent) = 0 ∷ 3 ∷ []
own_statuses (Commands.Shrink form) = 0 ∷ 3 ∷ 6 ∷ 11 ∷ 12 ∷ []
own_statuses (Commands.ShrinkSeeded seed) = 0 ∷ 3 ∷ 6 ∷ 11 ∷ 12 ∷ []

-- ---- which answer is due

-- the line that tells too many bytes
abbrev pub too_long : List ℕ
too_long = codes "input too long: more than 16777216 bytes\n"

-- whether a command needs a text from the source
unfoldable pub reads_text : Asked → Bool
reads_text (Commands.Made n) = false
reads_text asked = true

-- Where a text is read: if a read failed, that is told. Else the bytes are too many, memory ran out, or they are all that was left and the
-- answer is one to them. `scenario make` reads nothing.
unfoldable pub IsDue : Asked → (given : List ℕ) (left : Option (List ℕ)) (before now : Counter) → Answer → Type 0
IsDue asked given left before now answer = IsDueTo (reads_text asked) too_long (AnswersText asked given) left before now answer

-- THE PROGRAM: an answer that is due was offered
abbrev pub IsAnswered : Asked → (given : List ℕ) (left : Option (List ℕ)) (before now : Counter) (status : ℕ) (old new : Option (List ℕ)) → Type 0
IsAnswered asked given left before now status old new = IsDueOffered (IsDue asked given left before now) status old new

-- and the sink took it whole
abbrev pub IsTaken : Asked → (given : List ℕ) (left : Option (List ℕ)) (before now : Counter) (status : ℕ) (old new : Option (List ℕ)) → Type 0
IsTaken asked given left before now status old new = IsDueTaken (IsDue asked given left before now) status old new

-- with which statuses the program ends
unfoldable pub statuses : Asked → List ℕ
statuses asked = statuses_of (reads_text asked) (own_statuses asked)

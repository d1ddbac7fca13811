-- Which statuses the answers have.
use Rattle.std.specs.Prelude.{Bool, true, false, take, nat_le, ◌==◌, if◌then◌else◌, codes}
use Rattle.std.specs.Io.KnownBytes.{Appends}
use Rattle.std.specs.List.{list_any}
use Rattle.std.proofs.Common.{◌≡◌, ◌≢◌, ◌⊎◌, inl, inr, ℕ, List, [], ◌∷◌, ◌++◌, Option, Some, None, Result, Ok, Err, length, refl, sym, ap, ◌∙◌, subst, arith}
use Rattle.am_check.specs.Cut.{place_of}
use Rattle.am_check.specs.declared.faults.CheckStop.{CheckStop}
use Rattle.am_check.specs.declared.faults.CheckStop.TheVariants as Stops
use Rattle.am_check.specs.declared.faults.CheckWhat.{CheckWhat}
use Rattle.am_io.specs.Causes.{Rose, Counter}
use Rattle.am_io.specs.Whole.{IsLonger}
use Rattle.am_job.specs.Rounds.{rounds_of}
use Rattle.am_job.specs.Words.Codes.{sent_words}
use Rattle.am_lab.specs.Answers.{DrawsChartFront, DrawsFrontBy, TellsFault, TellsFrontBy, TellsIf, TellsWhyFront}
use Rattle.am_lab.specs.Answers.{AnswersText, AnswersTo, AnswersUncut, DrawsMessage, MessageChartAnswers, IsAnswered, IsDue, IsTaken, LacksEndpoint, TellsMessage, TellsWhy, making_of, no_endpoint, own_statuses, part_of, reads_text, statuses, too_long, lines_of_states}
use Rattle.am_lab.specs.Cuts.{cut_report, full_before, full_if, full_line_of, reads_report}
use Rattle.am_lab.specs.Explains.{Explains, ExplainsAlone, ExplainsAt, ExplainsBehind, ExplainsFault, ExplainsReport, ExplainsSteps}
use Rattle.am_lab_drawings.specs.Charts.{ChartAnswers, DrawsReport, drawing_of, too_many_rows}
use Rattle.am_lab_drawings.specs.Fronts.{DrawsFault, DrawsIf, front_drawing, whole_picture}
use Rattle.am_lab_drawings.specs.Messages.{ChartsMessage, message_drawing, never_accepted}
use Rattle.am_lab_drawings.specs.View.Parts.{is_within, lines_of, part_lines}
use Rattle.am_lab_drawings.specs.View.Pictures.{picture_by}
use Rattle.am_lab_drawings.specs.declared.view.parts.LineRange.{LineRange}
use Rattle.am_lab_drawings.specs.declared.view.parts.PictureFault.{PictureFault}
use Rattle.am_lab_drawings.specs.declared.view.parts.PictureFault.TheVariants as Pictures
use Rattle.am_lab_page.specs.Json.Answers.{JsonAnswers, WritesJson}
use Rattle.am_lab_page.specs.Page.Pages.{IsPage, PageAnswers, WritesPage}
use Rattle.am_lab_picture.specs.Data.{PictureLists}
use Rattle.am_lab_reasons.specs.Before.{has_front}
use Rattle.am_lab_picture.specs.declared.data.Lines.{Lines}
use Rattle.am_lab_scenarios.specs.Derived.Answers.{ExpandedAnswers, FaultsAnswers, RoundAnswers, RoundOrNone, with_number}
use Rattle.am_lab_scenarios.specs.Texts.Replays.{ReplayAnswers, TellsReplay, TellsRun}
use Rattle.am_lab_scenarios.specs.Texts.Scenarios.{ScenarioAnswers}
use Rattle.am_lab_schedules.specs.Finds.{FindAnswers, FindsSeed}
use Rattle.am_lab_schedules.specs.Outcomes.Outcomes.{is_cut, outcomes}
use Rattle.am_lab_schedules.specs.Schedules.{SchedulesAnswers}
use Rattle.am_lab_schedules.specs.Trials.{ScheduleAnswers, tried}
use Rattle.am_lab_schedules.specs.declared.finds.Wanted.{Wanted}
use Rattle.am_lab_schedules.specs.declared.finds.Wanted.TheVariants as Sought
use Rattle.am_lab_shiviz.specs.Answers.{ShivizAnswers, WritesShiviz}
use Rattle.am_lab_shrink.specs.Reports.{Answers, without_turns}
use Rattle.am_lab_shrink.specs.Shrinks.{ShrinkAnswers, ShrinksBy}
use Rattle.am_lab_shrink.specs.declared.reports.Making.{Making}
use Rattle.am_lab_shrink.specs.declared.reports.Making.TheVariants as Makings
use Rattle.am_lab_state.specs.Answers.{StateAnswers, TellsState, answer_by, asked_text}
use Rattle.am_lab_state.specs.declared.asked.StateLines.{StateLines}
use Rattle.am_lab_words.specs.declared.Asked.{Asked}
use Rattle.am_lab_words.specs.declared.Asked.TheVariants as Commands
use Rattle.am_main_answer.proofs.Ends as outcome
use Rattle.am_main_answer.specs.Answers.{IsFault, IsOneOf}
use Rattle.am_main_step.specs.Checks.{CheckAnswers}
use Rattle.am_main_step.specs.Checks.{TellsVerdict}
use Rattle.am_main_lines.specs.Lines.{Answer}
use Rattle.am_main_run.specs.Runs.{IsRunAnswer, RunAnswers}
use Rattle.am_main_step.specs.Meaning.{StepAnswers}
use Rattle.am_names.specs.declared.Serial.{Serial}
use Rattle.am_office_entries.specs.declared.Entry.{Entry}
use Rattle.am_scenario.specs.Grammar.{grammar}
use Rattle.am_scenario_types.specs.Lists.{ScenarioLists}
use Rattle.am_scenario_types.specs.declared.faults.ScenarioFault.{ScenarioFault}
use Rattle.am_scenario_types.specs.declared.parts.Form.{Form}
use Rattle.am_scenario_types.specs.declared.parts.Form.TheVariants as Forms
use Rattle.am_segment.specs.Spelling.{segment_grammar}
use Rattle.am_segment.specs.declared.scenario.SegmentScenario.{SegmentScenario}

-- ---- statuses in lists

-- an answer has the status of another
same : (answer other : Answer) → answer ≡ other → answer.status ≡ other.status
same answer other is = ap (λ (a : Answer). a.status) is

-- a status that is one of a list, by another that is the same
as_one : (own : List ℕ) (status other : ℕ) → status ≡ other → IsOneOf own other → IsOneOf own status
as_one own status other is one = subst (λ (n : ℕ). IsOneOf own n) (sym is) one

-- a status of a list is one of a list with more behind it
longer : (own more : List ℕ) (status : ℕ) → IsOneOf own status → IsOneOf (own ++ more) status
longer [] more status none = absurd none
longer (one ∷ others) more status (inl is) = inl is
longer (one ∷ others) more status (inr is) = inr (longer others more status is)

-- and of one with another between
wider : (own : List ℕ) (between : ℕ) (more : List ℕ) (status : ℕ) → IsOneOf (own ++ more) status → IsOneOf (own ++ (between ∷ more)) status
wider [] between more status is = inr is
wider (one ∷ others) between more status (inl is) = inl is
wider (one ∷ others) between more status (inr is) = inr (wider others between more status is)

-- ---- what other commands answer

check_by : (says : Result (Unit {0}) CheckStop) (answer : Answer) → TellsVerdict says answer → IsOneOf (0 ∷ 3 ∷ 6 ∷ 10 ∷ []) answer.status
check_by (Ok x) answer tells = inl (ap (λ (a : Answer). a.status) tells)
check_by (Err (Stops.Scenario fault)) answer tells = inr (inl (ap (λ (a : Answer). a.status) tells))
check_by (Err (Stops.LogFull part)) answer tells = inr (inr (inl (ap (λ (a : Answer). a.status) tells)))
check_by (Err (Stops.Fault number what)) answer tells = inr (inr (inr (inl (ap (λ (a : Answer). a.status) tells))))
check_by (Err Stops.NoMemory) answer tells = absurd tells

check_own : (form : Form) (bytes : List ℕ) (answer : Answer) → CheckAnswers form bytes answer → IsOneOf (0 ∷ 3 ∷ 6 ∷ 10 ∷ []) answer.status
check_own form bytes answer checks = check_by checks.says answer checks.tells

-- an answer that is what `check` answers
checked_own : (form : Form) (bytes : List ℕ) (checked answer : Answer) → CheckAnswers form bytes checked → answer ≡ checked →
    IsOneOf (0 ∷ 3 ∷ 6 ∷ 10 ∷ []) answer.status
checked_own form bytes checked answer checks is =
    as_one (0 ∷ 3 ∷ 6 ∷ 10 ∷ []) answer.status checked.status (same answer checked is) (check_own form bytes checked checks)

step_own : (read : Result ScenarioLists ScenarioFault) (answer : Answer) → StepAnswers read answer → IsOneOf (0 ∷ 3 ∷ 6 ∷ []) answer.status
step_own (Ok s) answer (inl means) = inl means.0
step_own (Ok s) answer (inr (inl means)) = inr (inl means.0)
step_own (Ok s) answer (inr (inr means)) = inr (inr (inl means.0))
step_own (Err fault) answer is = inr (inl (ap (λ (a : Answer). a.status) is))

run_status : (s : ScenarioLists) (answer : Answer) → IsRunAnswer s answer → IsOneOf (0 ∷ 3 ∷ 6 ∷ []) answer.status
run_status s answer (inl means) = inl means.0
run_status s answer (inr means) = inr (inr (inl means.0))

run_own : (read : Result ScenarioLists ScenarioFault) (answer : Answer) → RunAnswers read answer → IsOneOf (0 ∷ 3 ∷ 6 ∷ []) answer.status
run_own (Ok s) answer means = run_status s answer means
run_own (Err fault) answer is = inr (inl (ap (λ (a : Answer). a.status) is))

schedule_own : (faults : Option ℕ) (seed : ℕ) (read : Result ScenarioLists ScenarioFault) (answer : Answer) → ScheduleAnswers faults seed read answer →
    IsOneOf (0 ∷ 3 ∷ 6 ∷ []) answer.status
schedule_own faults seed (Ok s) answer means = run_status (tried faults seed s) answer means.answers
schedule_own faults seed (Err fault) answer is = inr (inl (ap (λ (a : Answer). a.status) is))

-- ---- explain

report_by : (form : Form) (bytes : List ℕ) (checked answer : Answer) → CheckAnswers form bytes checked →
    ((checked.status ≢ 10) × (answer ≡ checked)) ⊎ ExplainsFault form bytes checked answer → IsOneOf (0 ∷ 3 ∷ 6 ∷ 10 ∷ []) answer.status
report_by form bytes checked answer checks (inl other) = checked_own form bytes checked answer checks other.1
report_by form bytes checked answer checks (inr e) =
    as_one (0 ∷ 3 ∷ 6 ∷ 10 ∷ []) answer.status checked.status (ap (λ (a : Answer). a.status) e.answer') (check_own form bytes checked checks)

report_own : (form : Form) (bytes : List ℕ) (answer : Answer) → ExplainsReport form bytes answer → IsOneOf (0 ∷ 3 ∷ 6 ∷ 10 ∷ []) answer.status
report_own form bytes answer e = report_by form bytes e.checked answer e.checks e.more

behind_own : (form : Form) (bytes front : List ℕ) (read : Result ScenarioLists ScenarioFault) (answer : Answer) →
    ExplainsBehind form bytes front read answer → IsOneOf (0 ∷ 3 ∷ 6 ∷ 10 ∷ []) answer.status
behind_own form bytes front (Ok s) answer e = report_own form bytes answer e
behind_own form bytes front (Err fault) answer is = inr (inl (ap (λ (a : Answer). a.status) is))

steps_own : (front : Bool) (s : ScenarioLists) (text : List ℕ) (answer : Answer) → ExplainsSteps front s text answer →
    IsOneOf (0 ∷ 3 ∷ 6 ∷ 10 ∷ []) answer.status
steps_own front s text answer (inl lacks) = inr (inr (inr (inl (ap (λ (a : Answer). a.status) lacks.answer'))))
steps_own front s text answer (inr (inl step)) = inr (inl (ap (λ (a : Answer). a.status) step.answer'))
steps_own front s text answer (inr (inr full)) = inr (inr (inl (ap (λ (a : Answer). a.status) full.answer')))

alone_own : (front : Bool) (form : Form) (bytes : List ℕ) (read : Result ScenarioLists ScenarioFault) (answer : Answer) →
    ExplainsAlone front form bytes read answer → IsOneOf (0 ∷ 3 ∷ 6 ∷ 10 ∷ []) answer.status
alone_own front Forms.Step bytes (Ok s) answer e = steps_own front s bytes answer e
alone_own front Forms.Run bytes (Ok s) answer is = inr (inr (inr (inl (ap (λ (a : Answer). a.status) is))))
alone_own front form bytes (Err fault) answer is = inr (inl (ap (λ (a : Answer). a.status) is))

at_own : (front : Bool) (form : Form) (bytes : List ℕ) (place : Option ℕ) (answer : Answer) → ExplainsAt front form bytes place answer →
    IsOneOf (0 ∷ 3 ∷ 6 ∷ 10 ∷ []) answer.status
at_own front form bytes None answer e = alone_own front form bytes (grammar form bytes) answer e
at_own front form bytes (Some place) answer e = behind_own form bytes (take place bytes) (grammar form (take place bytes)) answer e

explain_own : (front : Bool) (form : Form) (bytes : List ℕ) (answer : Answer) → Explains front form bytes answer →
    IsOneOf (0 ∷ 3 ∷ 6 ∷ 10 ∷ []) answer.status
explain_own front form bytes answer e = at_own front form bytes (place_of bytes) answer e

-- ---- why, chart, json, state, replay

why_by : (form : Form) (bytes : List ℕ) (serial : Serial) (checked answer : Answer) → CheckAnswers form bytes checked →
    ((checked.status ≢ 0) × (answer ≡ checked)) ⊎ (LacksEndpoint form bytes serial checked answer ⊎ TellsMessage form bytes serial checked answer) →
    IsOneOf (0 ∷ 3 ∷ 6 ∷ 10 ∷ 12 ∷ []) answer.status
unfolding no_endpoint
why_by form bytes serial checked answer checks (inl other) =
    longer (0 ∷ 3 ∷ 6 ∷ 10 ∷ []) (12 ∷ []) answer.status (checked_own form bytes checked answer checks other.1)
why_by form bytes serial checked answer checks (inr (inl lacks)) = inr (inr (inr (inr (inl (ap (λ (a : Answer). a.status) lacks.answer')))))
why_by form bytes serial checked answer checks (inr (inr tells)) = inl (ap (λ (a : Answer). a.status) tells.answer')

why_own : (form : Form) (bytes : List ℕ) (serial : Serial) (answer : Answer) → TellsWhy form bytes serial answer →
    IsOneOf (0 ∷ 3 ∷ 6 ∷ 10 ∷ 12 ∷ []) answer.status
why_own form bytes serial answer w = why_by form bytes serial w.checked answer w.checks w.more

-- what is told of a message in front of a fault has the status of `check`
front_status : (has : Bool) (form : Form) (bytes : List ℕ) (serial : Serial) (number : ℕ) (what : CheckWhat) (checked answer : Answer) →
    TellsIf has form bytes serial number what checked answer → answer.status ≡ checked.status
front_status true form bytes serial number what checked answer tells = ap (λ (a : Answer). a.status) tells.answer'
front_status false form bytes serial number what checked answer is = same answer checked is

up_to_by : (form : Form) (serial : Serial) (bytes : List ℕ) (checked answer : Answer) → CheckAnswers form bytes checked →
    ((checked.status ≢ 10) × TellsWhy form bytes serial answer) ⊎ TellsFault form bytes serial checked answer →
    IsOneOf (0 ∷ 3 ∷ 6 ∷ 10 ∷ 12 ∷ []) answer.status
up_to_by form serial bytes checked answer checks (inl other) = why_own form bytes serial answer other.1
up_to_by form serial bytes checked answer checks (inr fault) =
    longer (0 ∷ 3 ∷ 6 ∷ 10 ∷ []) (12 ∷ []) answer.status
    (as_one (0 ∷ 3 ∷ 6 ∷ 10 ∷ []) answer.status checked.status
    (front_status (has_front fault.number fault.what) form bytes serial fault.number fault.what checked answer fault.told)
    (check_own form bytes checked checks))

why_front_by : (full : Option (List ℕ)) (form : Form) (serial : Serial) (bytes : List ℕ) (answer : Answer) → TellsFrontBy full form serial bytes answer →
    IsOneOf (0 ∷ 3 ∷ 6 ∷ 10 ∷ 12 ∷ []) answer.status
why_front_by None form serial bytes answer tells = up_to_by form serial bytes tells.checked answer tells.checks tells.more
why_front_by (Some line) form serial bytes answer tells = inr (inr (inl (ap (λ (a : Answer). a.status) tells.answer')))

why_front_own : (form : Form) (serial : Serial) (bytes : List ℕ) (answer : Answer) → TellsWhyFront form serial bytes answer →
    IsOneOf (0 ∷ 3 ∷ 6 ∷ 10 ∷ 12 ∷ []) answer.status
why_front_own form serial bytes answer tells = why_front_by (full_before bytes (place_of bytes)) form serial bytes answer tells

-- a picture of few lines, or that they are too many
few_own : (few : Bool) (bytes : List ℕ) (s : ScenarioLists) (journal : List Entry) (lines : Lines) →
    IsOneOf (0 ∷ 3 ∷ 6 ∷ 10 ∷ 11 ∷ 12 ∷ []) (drawing_of bytes (picture_by s journal (if few then Ok lines else Err Pictures.TooManyRows))).status
few_own true bytes s journal lines = inl refl
few_own false bytes s journal lines = inr (inr (inr (inr (inl refl))))

within_own : (within few : Bool) (bytes : List ℕ) (s : ScenarioLists) (journal : List Entry) (lines : Lines) →
    IsOneOf (0 ∷ 3 ∷ 6 ∷ 10 ∷ 11 ∷ 12 ∷ []) (drawing_of bytes
    (picture_by s journal (if within then (if few then Ok lines else Err Pictures.TooManyRows) else Err Pictures.NoSuchLines))).status
within_own true few bytes s journal lines = few_own few bytes s journal lines
within_own false few bytes s journal lines = inr (inr (inr (inr (inr (inl refl)))))

drawing_own : (bytes : List ℕ) (s : ScenarioLists) (journal : List Entry) (part : Option LineRange) →
    IsOneOf (0 ∷ 3 ∷ 6 ∷ 10 ∷ 11 ∷ 12 ∷ []) (drawing_of bytes (picture_by s journal (lines_of (length journal) part))).status
drawing_own bytes s journal None =
    few_own (nat_le (length journal) 20_000) bytes s journal (record { first = 3; count = length journal })
drawing_own bytes s journal (Some part) =
    within_own (is_within (length journal) part) (nat_le (part_lines part).count 20_000) bytes s journal (part_lines part)

draws_own : (form : Form) (bytes : List ℕ) (part : Option LineRange) (checked answer : Answer) → DrawsReport form bytes part checked answer →
    IsOneOf (0 ∷ 3 ∷ 6 ∷ 10 ∷ 11 ∷ 12 ∷ []) answer.status
draws_own form bytes part checked answer d =
    let seen = d.shows.shown in
    let drawn = drawing_of bytes (picture_by d.shows.scenario seen.journal (lines_of (length seen.journal) part)) in
    as_one (0 ∷ 3 ∷ 6 ∷ 10 ∷ 11 ∷ 12 ∷ []) answer.status drawn.status
    (ap (λ (a : Answer). a.status) d.answer' ∙ ap (λ (shown : Result PictureLists PictureFault). (drawing_of bytes shown).status) seen.answer')
    (drawing_own bytes d.shows.scenario seen.journal part)

chart_by : (form : Form) (bytes : List ℕ) (part : Option LineRange) (checked answer : Answer) → CheckAnswers form bytes checked →
    ((checked.status ≢ 0) × (answer ≡ checked)) ⊎ DrawsReport form bytes part checked answer → IsOneOf (0 ∷ 3 ∷ 6 ∷ 10 ∷ 11 ∷ 12 ∷ []) answer.status
chart_by form bytes part checked answer checks (inl other) =
    longer (0 ∷ 3 ∷ 6 ∷ 10 ∷ []) (11 ∷ 12 ∷ []) answer.status (checked_own form bytes checked answer checks other.1)
chart_by form bytes part checked answer checks (inr draws) = draws_own form bytes part checked answer draws

chart_own : (form : Form) (bytes : List ℕ) (part : Option LineRange) (answer : Answer) → ChartAnswers form bytes part answer →
    IsOneOf (0 ∷ 3 ∷ 6 ∷ 10 ∷ 11 ∷ 12 ∷ []) answer.status
chart_own form bytes part answer c = chart_by form bytes part c.checked answer c.checks c.more

-- a picture of a message: that there is none, of few rows, or that they are too many
abbrev drawn_as : List ℕ → Answer
drawn_as text = record { status = 0; text = text }

rows_own : (none few : Bool) (s : Serial) (text : List ℕ) →
    IsOneOf (0 ∷ 3 ∷ 6 ∷ 10 ∷ 11 ∷ 12 ∷ []) (if none then never_accepted s else (if few then drawn_as text else too_many_rows)).status
rows_own true few s text = inl refl
rows_own false true s text = inl refl
rows_own false false s text = inr (inr (inr (inr (inl refl))))

charts_own : (form : Form) (bytes : List ℕ) (serial : Serial) (answer : Answer) → ChartsMessage form bytes serial answer →
    IsOneOf (0 ∷ 3 ∷ 6 ∷ 10 ∷ 11 ∷ 12 ∷ []) answer.status
charts_own form bytes serial answer c =
    as_one (0 ∷ 3 ∷ 6 ∷ 10 ∷ 11 ∷ 12 ∷ []) answer.status (message_drawing serial c.shown).status (same answer (message_drawing serial c.shown) c.answer')
    (rows_own (length c.shown.rows == 0) (nat_le (length c.shown.rows) 20_000) serial _)

draws_by : (form : Form) (bytes : List ℕ) (serial : Serial) (checked answer : Answer) → CheckAnswers form bytes checked →
    ((checked.status ≢ 0) × (answer ≡ checked)) ⊎ (LacksEndpoint form bytes serial checked answer ⊎ DrawsMessage form bytes serial checked answer) →
    IsOneOf (0 ∷ 3 ∷ 6 ∷ 10 ∷ 11 ∷ 12 ∷ []) answer.status
unfolding no_endpoint
draws_by form bytes serial checked answer checks (inl other) =
    longer (0 ∷ 3 ∷ 6 ∷ 10 ∷ []) (11 ∷ 12 ∷ []) answer.status (checked_own form bytes checked answer checks other.1)
draws_by form bytes serial checked answer checks (inr (inl lacks)) =
    inr (inr (inr (inr (inr (inl (ap (λ (a : Answer). a.status) lacks.answer'))))))
draws_by form bytes serial checked answer checks (inr (inr draws)) = charts_own form bytes serial answer draws.drawn

message_own : (form : Form) (bytes : List ℕ) (serial : Serial) (answer : Answer) → MessageChartAnswers form bytes serial answer →
    IsOneOf (0 ∷ 3 ∷ 6 ∷ 10 ∷ 11 ∷ 12 ∷ []) answer.status
message_own form bytes serial answer d = draws_by form bytes serial d.checked answer d.checks d.more

-- what is drawn in front of a fault has the status of `check`, or its lines are too many
whole_own : (few : Bool) (words : List ℕ) (number : ℕ) (checked : Answer) (s : ScenarioLists) (journal : List Entry) (lines : Lines) →
    IsOneOf (0 ∷ 3 ∷ 6 ∷ 10 ∷ 11 ∷ 12 ∷ []) checked.status → IsOneOf (0 ∷ 3 ∷ 6 ∷ 10 ∷ 11 ∷ 12 ∷ [])
    (front_drawing words number checked (picture_by s journal (if few then Ok lines else Err Pictures.TooManyRows))).status
whole_own true words number checked s journal lines own = own
whole_own false words number checked s journal lines own = inr (inr (inr (inr (inl refl))))

drawn_own : (has : Bool) (form : Form) (words bytes : List ℕ) (number : ℕ) (what : CheckWhat) (checked answer : Answer) →
    DrawsIf has form words bytes number what checked answer → IsOneOf (0 ∷ 3 ∷ 6 ∷ 10 ∷ 11 ∷ 12 ∷ []) checked.status →
    IsOneOf (0 ∷ 3 ∷ 6 ∷ 10 ∷ 11 ∷ 12 ∷ []) answer.status
drawn_own true form words bytes number what checked answer d own =
    let drawn = front_drawing words number checked (whole_picture d.scenario d.journal) in
    as_one (0 ∷ 3 ∷ 6 ∷ 10 ∷ 11 ∷ 12 ∷ []) answer.status drawn.status (same answer drawn d.answer')
    (whole_own (nat_le (length d.journal) 20_000) words number checked d.scenario d.journal (record { first = 3; count = length d.journal }) own)
drawn_own false form words bytes number what checked answer is own =
    as_one (0 ∷ 3 ∷ 6 ∷ 10 ∷ 11 ∷ 12 ∷ []) answer.status checked.status (same answer checked is) own

fronts_by : (form : Form) (words bytes : List ℕ) (checked answer : Answer) → CheckAnswers form bytes checked →
    ((checked.status ≢ 10) × ChartAnswers form bytes None answer) ⊎ DrawsFault form words bytes checked answer →
    IsOneOf (0 ∷ 3 ∷ 6 ∷ 10 ∷ 11 ∷ 12 ∷ []) answer.status
fronts_by form words bytes checked answer checks (inl other) = chart_own form bytes None answer other.1
fronts_by form words bytes checked answer checks (inr fault) =
    drawn_own (has_front fault.number fault.what) form words bytes fault.number fault.what checked answer fault.drawn
    (longer (0 ∷ 3 ∷ 6 ∷ 10 ∷ []) (11 ∷ 12 ∷ []) checked.status (check_own form bytes checked checks))

chart_front_by : (full : Option (List ℕ)) (form : Form) (bytes : List ℕ) (answer : Answer) → DrawsFrontBy full form bytes answer →
    IsOneOf (0 ∷ 3 ∷ 6 ∷ 10 ∷ 11 ∷ 12 ∷ []) answer.status
chart_front_by None form bytes answer draws = fronts_by form [] bytes draws.checked answer draws.checks draws.more
chart_front_by (Some line) form bytes answer draws = inr (inr (inl (ap (λ (a : Answer). a.status) draws.answer')))

chart_front_own : (form : Form) (bytes : List ℕ) (answer : Answer) → DrawsChartFront form bytes answer →
    IsOneOf (0 ∷ 3 ∷ 6 ∷ 10 ∷ 11 ∷ 12 ∷ []) answer.status
chart_front_own form bytes answer draws = chart_front_by (full_before bytes (place_of bytes)) form bytes answer draws

json_by : (form : Form) (bytes : List ℕ) (checked answer : Answer) → CheckAnswers form bytes checked →
    ((checked.status ≢ 0) × (answer ≡ checked)) ⊎ WritesJson form bytes checked answer → IsOneOf (0 ∷ 3 ∷ 6 ∷ 10 ∷ []) answer.status
json_by form bytes checked answer checks (inl other) = checked_own form bytes checked answer checks other.1
json_by form bytes checked answer checks (inr writes) = inl (ap (λ (a : Answer). a.status) writes.answer')

json_own : (form : Form) (bytes : List ℕ) (answer : Answer) → JsonAnswers form bytes answer → IsOneOf (0 ∷ 3 ∷ 6 ∷ 10 ∷ []) answer.status
json_own form bytes answer j = json_by form bytes j.checked answer j.checks j.more

shiviz_by : (form : Form) (bytes : List ℕ) (checked answer : Answer) → CheckAnswers form bytes checked →
    ((checked.status ≢ 0) × (answer ≡ checked)) ⊎ WritesShiviz form bytes checked answer → IsOneOf (0 ∷ 3 ∷ 6 ∷ 10 ∷ []) answer.status
shiviz_by form bytes checked answer checks (inl other) = checked_own form bytes checked answer checks other.1
shiviz_by form bytes checked answer checks (inr writes) = inl (ap (λ (a : Answer). a.status) writes.answer')

shiviz_own : (form : Form) (bytes : List ℕ) (answer : Answer) → ShivizAnswers form bytes answer → IsOneOf (0 ∷ 3 ∷ 6 ∷ 10 ∷ []) answer.status
shiviz_own form bytes answer j = shiviz_by form bytes j.checked answer j.checks j.more

told_own : (form : Form) (bytes : List ℕ) (told answer : Answer) → JsonAnswers form bytes told → answer ≡ told →
    IsOneOf (0 ∷ 3 ∷ 6 ∷ 10 ∷ 11 ∷ 12 ∷ []) answer.status
told_own form bytes told answer tells is =
    as_one (0 ∷ 3 ∷ 6 ∷ 10 ∷ 11 ∷ 12 ∷ []) answer.status told.status (same answer told is)
    (longer (0 ∷ 3 ∷ 6 ∷ 10 ∷ []) (11 ∷ 12 ∷ []) told.status (json_own form bytes told tells))

page_by : (form : Form) (bytes : List ℕ) (told drawn answer : Answer) → ChartAnswers form bytes None drawn →
    ((drawn.status ≢ 0) × (answer ≡ drawn)) ⊎ ((drawn.status ≡ 0) × IsPage form bytes told.text drawn.text answer) →
    IsOneOf (0 ∷ 3 ∷ 6 ∷ 10 ∷ 11 ∷ 12 ∷ []) answer.status
page_by form bytes told drawn answer draws (inl other) =
    as_one (0 ∷ 3 ∷ 6 ∷ 10 ∷ 11 ∷ 12 ∷ []) answer.status drawn.status (same answer drawn other.1) (chart_own form bytes None drawn draws)
page_by form bytes told drawn answer draws (inr made) = inl (ap (λ (a : Answer). a.status) made.1.answer')

page_told : (form : Form) (bytes : List ℕ) (told answer : Answer) → JsonAnswers form bytes told →
    ((told.status ≢ 0) × (answer ≡ told)) ⊎ WritesPage form bytes told answer → IsOneOf (0 ∷ 3 ∷ 6 ∷ 10 ∷ 11 ∷ 12 ∷ []) answer.status
page_told form bytes told answer tells (inl other) = told_own form bytes told answer tells other.1
page_told form bytes told answer tells (inr writes) = page_by form bytes told writes.drawn answer writes.draws writes.more

page_own : (form : Form) (bytes : List ℕ) (answer : Answer) → PageAnswers form bytes answer → IsOneOf (0 ∷ 3 ∷ 6 ∷ 10 ∷ 11 ∷ 12 ∷ []) answer.status
page_own form bytes answer p = page_told form bytes p.told answer p.tells p.more

text_own : (count : ℕ) (text : Option (List ℕ)) → IsOneOf (0 ∷ 3 ∷ 6 ∷ 10 ∷ 12 ∷ []) (answer_by count text).status
text_own count (Some text) = inl refl
text_own count None = inr (inr (inr (inr (inl refl))))

state_told : (form : Form) (bytes : List ℕ) (lines : StateLines) (checked answer : Answer) → TellsState form bytes lines checked answer →
    IsOneOf (0 ∷ 3 ∷ 6 ∷ 10 ∷ 12 ∷ []) answer.status
state_told form bytes lines checked answer t =
    let journal = t.told.told.report.journal in
    let text = asked_text t.told.scenario journal lines in
    as_one (0 ∷ 3 ∷ 6 ∷ 10 ∷ 12 ∷ []) answer.status (answer_by (length journal) text).status (ap (λ (a : Answer). a.status) t.told.told.answer')
    (text_own (length journal) text)

state_by : (form : Form) (bytes : List ℕ) (lines : StateLines) (checked answer : Answer) → CheckAnswers form bytes checked →
    ((checked.status ≢ 0) × (answer ≡ checked)) ⊎ TellsState form bytes lines checked answer → IsOneOf (0 ∷ 3 ∷ 6 ∷ 10 ∷ 12 ∷ []) answer.status
state_by form bytes lines checked answer checks (inl other) =
    longer (0 ∷ 3 ∷ 6 ∷ 10 ∷ []) (12 ∷ []) answer.status (checked_own form bytes checked answer checks other.1)
state_by form bytes lines checked answer checks (inr tells) = state_told form bytes lines checked answer tells

state_own : (form : Form) (bytes : List ℕ) (lines : StateLines) (answer : Answer) → StateAnswers form bytes lines answer →
    IsOneOf (0 ∷ 3 ∷ 6 ∷ 10 ∷ 12 ∷ []) answer.status
state_own form bytes lines answer st = state_by form bytes lines st.checked answer st.checks st.more

replay_told : (s : ScenarioLists) (journal : List Entry) (answer : Answer) → TellsRun s journal answer → IsOneOf (0 ∷ 3 ∷ 6 ∷ 10 ∷ 11 ∷ []) answer.status
replay_told s journal answer (inl prints) = inl (ap (λ (a : Answer). a.status) prints.answer')
replay_told s journal answer (inr long) = inr (inr (inr (inr (inl (ap (λ (a : Answer). a.status) long.1)))))

replay_by : (bytes : List ℕ) (checked answer : Answer) → CheckAnswers Forms.Run bytes checked →
    ((checked.status ≢ 0) × (answer ≡ checked)) ⊎ TellsReplay bytes checked answer → IsOneOf (0 ∷ 3 ∷ 6 ∷ 10 ∷ 11 ∷ []) answer.status
replay_by bytes checked answer checks (inl other) =
    longer (0 ∷ 3 ∷ 6 ∷ 10 ∷ []) (11 ∷ []) answer.status (checked_own Forms.Run bytes checked answer checks other.1)
replay_by bytes checked answer checks (inr tells) = replay_told tells.report.scenario tells.report.journal answer tells.told

replay_own : (bytes : List ℕ) (answer : Answer) → ReplayAnswers bytes answer → IsOneOf (0 ∷ 3 ∷ 6 ∷ 10 ∷ 11 ∷ []) answer.status
replay_own bytes answer r = replay_by bytes r.checked answer r.checks r.more

-- ---- scenario, faults

scenario_own : (form : Form) (bytes : List ℕ) (answer : Answer) → ScenarioAnswers form bytes answer → IsOneOf (0 ∷ 3 ∷ []) answer.status
scenario_own form bytes answer (inl prints) = inl (ap (λ (a : Answer). a.status) prints.answer')
scenario_own form bytes answer (inr refuses) = inr (inl (ap (λ (a : Answer). a.status) refuses.answer'))

expanded_own : (read : Result SegmentScenario ScenarioFault) (answer : Answer) → ExpandedAnswers read answer → IsOneOf (0 ∷ 3 ∷ []) answer.status
expanded_own (Ok s) answer prints = inl prints.status'
expanded_own (Err fault) answer is = inr (inl (ap (λ (a : Answer). a.status) is))

faults_own : (seed percent : ℕ) (read : Result ScenarioLists ScenarioFault) (answer : Answer) → FaultsAnswers seed percent read answer →
    IsOneOf (0 ∷ 3 ∷ []) answer.status
faults_own seed percent (Ok s) answer prints = inl prints.status'
faults_own seed percent (Err fault) answer is = inr (inl (ap (λ (a : Answer). a.status) is))

round_or_none : (number count : ℕ) (round : Option ScenarioLists) (answer : Answer) → RoundOrNone number count round answer →
    IsOneOf (0 ∷ 11 ∷ 12 ∷ []) answer.status
round_or_none number count (Some round) answer prints = inl prints.status'
round_or_none number count None answer is = inr (inr (inl (ap (λ (a : Answer). a.status) is)))

round_own : (nodes turns number : ℕ) (bytes : List ℕ) (answer : Answer) → RoundAnswers nodes turns number bytes answer →
    IsOneOf (0 ∷ 11 ∷ 12 ∷ []) answer.status
round_own nodes turns number bytes answer (inl long) = inr (inl (ap (λ (a : Answer). a.status) long.1))
round_own nodes turns number bytes answer (inr prints) =
    let rounds = rounds_of nodes turns (sent_words bytes) in round_or_none number (length rounds) (with_number number rounds) answer prints.1

-- ---- schedule, find, shrink

cut_or_whole : (cut : Bool) → IsOneOf (0 ∷ 3 ∷ 6 ∷ []) (if cut then 6 else 0)
cut_or_whole true = inr (inr (inl refl))
cut_or_whole false = inl refl

schedules_own : (faults : Option ℕ) (read : Result ScenarioLists ScenarioFault) (from to : ℕ) (answer : Answer) → SchedulesAnswers faults read from to answer →
    IsOneOf (0 ∷ 3 ∷ 6 ∷ []) answer.status
schedules_own faults (Ok s) from to answer tells =
    as_one (0 ∷ 3 ∷ 6 ∷ []) answer.status (outcomes tells.runs).status (ap (λ (a : Answer). a.status) tells.answer')
    (cut_or_whole (list_any is_cut tells.runs))
schedules_own faults (Err fault) from to answer is = inr (inl (ap (λ (a : Answer). a.status) is))

found_own : (faults : Option ℕ) (s : ScenarioLists) (wanted : Wanted) (given : List ℕ) (from to : ℕ) (answer : Answer) → FindsSeed faults s wanted given from to answer →
    IsOneOf (0 ∷ 3 ∷ 6 ∷ 12 ∷ []) answer.status
found_own faults s wanted given from to answer f =
    as_one (0 ∷ 3 ∷ 6 ∷ 12 ∷ []) answer.status f.of_run.status (ap (λ (a : Answer). a.status) f.answer')
    (longer (0 ∷ 3 ∷ 6 ∷ []) (12 ∷ []) f.of_run.status (run_status (tried faults f.seed s) f.of_run f.found.run.answers))

find_own : (faults : Option ℕ) (read : Result ScenarioLists ScenarioFault) (wanted : Wanted) (given : List ℕ) (from to : ℕ) (answer : Answer) →
    FindAnswers faults read wanted given from to answer → IsOneOf (0 ∷ 3 ∷ 6 ∷ 12 ∷ []) answer.status
find_own faults (Ok s) wanted given from to answer (inl finds) = found_own faults s wanted given from to answer finds
find_own faults (Ok s) wanted given from to answer (inr none) = inr (inr (inr (inl (ap (λ (a : Answer). a.status) none.answer'))))
find_own faults (Err fault) wanted given from to answer is = inr (inl (ap (λ (a : Answer). a.status) is))

first_own : (making : Making) (text : List ℕ) (first : Answer) → Answers making text first → IsOneOf (0 ∷ 3 ∷ 6 ∷ []) first.status
first_own Makings.Steps text first answers = step_own (grammar Forms.Step text) first answers
first_own Makings.Drain text first answers = run_own (without_turns (grammar Forms.Run text)) first answers
first_own (Makings.Seed seed) text first answers = schedule_own None seed (grammar Forms.Run text) first answers

shrinks_by : (making : Making) (words text : List ℕ) (first answer : Answer) → Answers making text first → ShrinksBy making words text first answer →
    IsOneOf (0 ∷ 3 ∷ 6 ∷ 11 ∷ 12 ∷ []) answer.status
shrinks_by making words text first answer answers (inl other) =
    as_one (0 ∷ 3 ∷ 6 ∷ 11 ∷ 12 ∷ []) answer.status first.status (same answer first other.1)
    (longer (0 ∷ 3 ∷ 6 ∷ []) (11 ∷ 12 ∷ []) first.status (first_own making text first answers))
shrinks_by making words text first answer answers (inr (inl none)) = inr (inr (inr (inr (inl (ap (λ (a : Answer). a.status) none.2)))))
shrinks_by making words text first answer answers (inr (inr shrunk)) = inl shrunk.1

shrink_own : (making : Making) (words text : List ℕ) (answer : Answer) → ShrinkAnswers making words text answer →
    IsOneOf (0 ∷ 3 ∷ 6 ∷ 11 ∷ 12 ∷ []) answer.status
shrink_own making words text answer (inl many) = inr (inr (inr (inl (ap (λ (a : Answer). a.status) many.1))))
shrink_own making words text answer (inr few) = shrinks_by making words text few.first answer few.answers few.by

-- ---- each command

command_own : (asked : Asked) (given bytes : List ℕ) (answer : Answer) → AnswersTo asked given bytes answer → IsOneOf (own_statuses asked) answer.status
unfolding AnswersTo own_statuses
command_own (Commands.Explain form) given bytes answer answers = explain_own false form bytes answer answers
command_own Commands.Front given bytes answer answers = explain_own true Forms.Step bytes answer answers
command_own (Commands.Why form serial) given bytes answer answers = why_own form bytes serial answer answers
command_own (Commands.WhyFront form serial) given bytes answer answers = why_front_own form serial bytes answer answers
command_own (Commands.Chart form lines) given bytes answer answers = chart_own form bytes (part_of lines) answer answers
command_own (Commands.ChartMessage form serial) given bytes answer answers = message_own form bytes serial answer answers
command_own (Commands.ChartFront form) given bytes answer answers = chart_front_own form bytes answer answers
command_own (Commands.Scenario form) given bytes answer answers = scenario_own form bytes answer answers
command_own (Commands.Made n) given bytes answer answers = inl answers.status'
command_own Commands.Expanded given bytes answer answers = expanded_own (segment_grammar bytes) answer answers
command_own (Commands.Round nodes turns number) given bytes answer answers = round_own nodes turns number bytes answer answers
command_own Commands.Replay given bytes answer answers = replay_own bytes answer answers
command_own (Commands.Schedule seed faults) given bytes answer answers = schedule_own faults seed (grammar Forms.Run bytes) answer answers
command_own (Commands.Schedules trials) given bytes answer answers = schedules_own trials.faults (grammar Forms.Run bytes) trials.seeds.from trials.seeds.to answer answers
command_own (Commands.Json form) given bytes answer answers = json_own form bytes answer answers
command_own (Commands.Shiviz form) given bytes answer answers = shiviz_own form bytes answer answers
command_own (Commands.Page form) given bytes answer answers = page_own form bytes answer answers
command_own (Commands.State form states) given bytes answer answers = state_own form bytes (lines_of_states states) answer answers
command_own (Commands.Find trials) given bytes answer answers =
    find_own trials.faults (grammar Forms.Run bytes) Sought.WithLine given trials.seeds.from trials.seeds.to answer answers
command_own (Commands.FindWithout trials) given bytes answer answers =
    find_own trials.faults (grammar Forms.Run bytes) Sought.WithoutLine given trials.seeds.from trials.seeds.to answer answers
command_own (Commands.Faults seed percent) given bytes answer answers = faults_own seed percent (grammar Forms.Run bytes) answer answers
command_own (Commands.Shrink form) given bytes answer answers = shrink_own (making_of form) given bytes answer answers
command_own (Commands.ShrinkSeeded seed) given bytes answer answers = shrink_own (Makings.Seed seed) given bytes answer answers

-- a command that reads a report may tell a full log in front of it
full_own : (asked : Asked) → reads_report asked ≡ true → IsOneOf (own_statuses asked) 6
unfolding own_statuses
full_own (Commands.Explain form) reads = inr (inr (inl refl))
full_own Commands.Front reads = inr (inr (inl refl))
full_own (Commands.Why form serial) reads = inr (inr (inl refl))
full_own (Commands.WhyFront form serial) reads = absurd (cc)
full_own (Commands.Chart form lines) reads = inr (inr (inl refl))
full_own (Commands.ChartMessage form serial) reads = inr (inr (inl refl))
full_own (Commands.ChartFront form) reads = absurd (cc)
full_own (Commands.Scenario form) reads = absurd (cc)
full_own (Commands.Made n) reads = absurd (cc)
full_own Commands.Expanded reads = absurd (cc)
full_own (Commands.Round nodes turns number) reads = absurd (cc)
full_own Commands.Replay reads = inr (inr (inl refl))
full_own (Commands.Schedule seed faults) reads = absurd (cc)
full_own (Commands.Schedules trials) reads = absurd (cc)
full_own (Commands.Json form) reads = inr (inr (inl refl))
full_own (Commands.Shiviz form) reads = inr (inr (inl refl))
full_own (Commands.Page form) reads = inr (inr (inl refl))
full_own (Commands.State form states) reads = inr (inr (inl refl))
full_own (Commands.Find trials) reads = absurd (cc)
full_own (Commands.FindWithout trials) reads = absurd (cc)
full_own (Commands.Faults seed percent) reads = absurd (cc)
full_own (Commands.Shrink form) reads = absurd (cc)
full_own (Commands.ShrinkSeeded seed) reads = absurd (cc)

-- what stands in front of a report is looked at only where one is read
reads_by : (reads : Bool) (bytes line : List ℕ) → full_if reads bytes ≡ Some line → reads ≡ true
reads_by true bytes line is = refl
reads_by false bytes line is = absurd (cc)

uncut_own : (full : Option (List ℕ)) (asked : Asked) (given bytes : List ℕ) (answer : Answer) → full_line_of asked bytes ≡ full →
    AnswersUncut full asked given bytes answer → IsOneOf (own_statuses asked) answer.status
unfolding cut_report
uncut_own None asked given bytes answer is answers = command_own asked given bytes answer answers
uncut_own (Some line) asked given bytes answer is cut =
    as_one (own_statuses asked) answer.status 6 (ap (λ (a : Answer). a.status) cut) (full_own asked (reads_by (reads_report asked) bytes line is))

pub text_own_status : (asked : Asked) (given bytes : List ℕ) (answer : Answer) → AnswersText asked given bytes answer →
    IsOneOf (own_statuses asked) answer.status
unfolding AnswersText
text_own_status asked given bytes answer answers = uncut_own (full_line_of asked bytes) asked given bytes answer refl answers

-- ---- none of them is the status of a fault

-- a status of any command
in_all : (asked : Asked) (status : ℕ) → IsOneOf (own_statuses asked) status → IsOneOf (0 ∷ 3 ∷ 6 ∷ 10 ∷ 11 ∷ 12 ∷ []) status
unfolding own_statuses
in_all (Commands.Explain form) status is = longer (0 ∷ 3 ∷ 6 ∷ 10 ∷ []) (11 ∷ 12 ∷ []) status is
in_all Commands.Front status is = longer (0 ∷ 3 ∷ 6 ∷ 10 ∷ []) (11 ∷ 12 ∷ []) status is
in_all (Commands.Why form serial) status is = wider (0 ∷ 3 ∷ 6 ∷ 10 ∷ []) 11 (12 ∷ []) status is
in_all (Commands.WhyFront form serial) status is = wider (0 ∷ 3 ∷ 6 ∷ 10 ∷ []) 11 (12 ∷ []) status is
in_all (Commands.Chart form lines) status is = is
in_all (Commands.ChartMessage form serial) status is = is
in_all (Commands.ChartFront form) status is = is
in_all (Commands.Scenario form) status is = longer (0 ∷ 3 ∷ []) (6 ∷ 10 ∷ 11 ∷ 12 ∷ []) status is
in_all (Commands.Made n) status is = longer (0 ∷ []) (3 ∷ 6 ∷ 10 ∷ 11 ∷ 12 ∷ []) status is
in_all Commands.Expanded status is = longer (0 ∷ 3 ∷ []) (6 ∷ 10 ∷ 11 ∷ 12 ∷ []) status is
in_all (Commands.Round nodes turns number) status is =
    wider (0 ∷ 3 ∷ 6 ∷ []) 10 (11 ∷ 12 ∷ []) status (wider (0 ∷ 3 ∷ []) 6 (11 ∷ 12 ∷ []) status (wider (0 ∷ []) 3 (11 ∷ 12 ∷ []) status is))
in_all Commands.Replay status is = longer (0 ∷ 3 ∷ 6 ∷ 10 ∷ 11 ∷ []) (12 ∷ []) status is
in_all (Commands.Schedule seed faults) status is = longer (0 ∷ 3 ∷ 6 ∷ []) (10 ∷ 11 ∷ 12 ∷ []) status is
in_all (Commands.Schedules trials) status is = longer (0 ∷ 3 ∷ 6 ∷ []) (10 ∷ 11 ∷ 12 ∷ []) status is
in_all (Commands.Json form) status is = longer (0 ∷ 3 ∷ 6 ∷ 10 ∷ []) (11 ∷ 12 ∷ []) status is
in_all (Commands.Shiviz form) status is = longer (0 ∷ 3 ∷ 6 ∷ 10 ∷ []) (11 ∷ 12 ∷ []) status is
in_all (Commands.Page form) status is = is
in_all (Commands.State form states) status is = wider (0 ∷ 3 ∷ 6 ∷ 10 ∷ []) 11 (12 ∷ []) status is
in_all (Commands.Find trials) status is = wider (0 ∷ 3 ∷ 6 ∷ 10 ∷ []) 11 (12 ∷ []) status (wider (0 ∷ 3 ∷ 6 ∷ []) 10 (12 ∷ []) status is)
in_all (Commands.FindWithout trials) status is = wider (0 ∷ 3 ∷ 6 ∷ 10 ∷ []) 11 (12 ∷ []) status (wider (0 ∷ 3 ∷ 6 ∷ []) 10 (12 ∷ []) status is)
in_all (Commands.Faults seed percent) status is = longer (0 ∷ 3 ∷ []) (6 ∷ 10 ∷ 11 ∷ 12 ∷ []) status is
in_all (Commands.Shrink form) status is = wider (0 ∷ 3 ∷ 6 ∷ []) 10 (11 ∷ 12 ∷ []) status is
in_all (Commands.ShrinkSeeded seed) status is = wider (0 ∷ 3 ∷ 6 ∷ []) 10 (11 ∷ 12 ∷ []) status is

never : (status n other : ℕ) → status ≡ n → status ≡ other → n ≢ other → ⊥
never status n other is fault apart = apart (sym is ∙ fault)

apart : (status other : ℕ) → IsOneOf (0 ∷ 3 ∷ 6 ∷ 10 ∷ 11 ∷ 12 ∷ []) status → 0 ≢ other → 3 ≢ other → 6 ≢ other → 10 ≢ other → 11 ≢ other →
    12 ≢ other → status ≡ other → ⊥
apart status other (inl is) a b c d e f fault = never status 0 other is fault a
apart status other (inr (inl is)) a b c d e f fault = never status 3 other is fault b
apart status other (inr (inr (inl is))) a b c d e f fault = never status 6 other is fault c
apart status other (inr (inr (inr (inl is)))) a b c d e f fault = never status 10 other is fault d
apart status other (inr (inr (inr (inr (inl is))))) a b c d e f fault = never status 11 other is fault e
apart status other (inr (inr (inr (inr (inr (inl is)))))) a b c d e f fault = never status 12 other is fault f
apart status other (inr (inr (inr (inr (inr (inr none)))))) a b c d e f fault = none

no_fault : (status : ℕ) → IsOneOf (0 ∷ 3 ∷ 6 ∷ 10 ∷ 11 ∷ 12 ∷ []) status → ¬ IsFault status
no_fault status is (inl four) =
    apart status 4 is (omega arith) (omega arith) (omega arith) (omega arith) (omega arith) (omega arith) four
no_fault status is (inr (inl five)) =
    apart status 5 is (omega arith) (omega arith) (omega arith) (omega arith) (omega arith) (omega arith) five
no_fault status is (inr (inr (inl seven))) =
    apart status 7 is (omega arith) (omega arith) (omega arith) (omega arith) (omega arith) (omega arith) seven
no_fault status is (inr (inr (inr (inl eight)))) =
    apart status 8 is (omega arith) (omega arith) (omega arith) (omega arith) (omega arith) (omega arith) eight
no_fault status is (inr (inr (inr (inr none)))) = none

pub text_no_fault : (asked : Asked) (given bytes : List ℕ) (answer : Answer) → AnswersText asked given bytes answer → ¬ IsFault answer.status
text_no_fault asked given bytes answer answers = no_fault answer.status (in_all asked answer.status (text_own_status asked given bytes answer answers))

-- ---- what became of an answer that was offered

pub taken : (asked : Asked) (given : List ℕ) (left : Option (List ℕ)) (before now : Counter) (status : ℕ) (old new : Option (List ℕ)) →
    IsAnswered asked given left before now status old new → status ≢ 5 → status ≢ 8 → IsTaken asked given left before now status old new
unfolding IsDue
taken asked given left before now status old new a write memory =
    outcome.taken_of (λ (answer : Answer). IsDue asked given left before now answer) status old new a write memory

pub ends : (asked : Asked) (given : List ℕ) (left : Option (List ℕ)) (before now : Counter) (status : ℕ) (old new : Option (List ℕ)) →
    IsAnswered asked given left before now status old new → IsOneOf (statuses asked) status
unfolding IsDue statuses
ends asked given left before now status old new a =
    outcome.ends_of (reads_text asked) too_long (AnswersText asked given) (own_statuses asked) left before now status old new (text_own_status asked given) a

pub read_fault : (asked : Asked) (given : List ℕ) (left : Option (List ℕ)) (before now : Counter) (status : ℕ) (old new : Option (List ℕ)) →
    IsAnswered asked given left before now status old new → status ≡ 4 → Rose before now × Appends old new (codes "read fault\n")
unfolding IsDue
read_fault asked given left before now status old new a is =
    outcome.read_fault_of (reads_text asked) too_long (AnswersText asked given) left before now status old new (text_no_fault asked given) a is

pub too_long_told : (asked : Asked) (given : List ℕ) (left : Option (List ℕ)) (before now : Counter) (status : ℕ) (old new : Option (List ℕ)) →
    IsAnswered asked given left before now status old new → status ≡ 7 → IsLonger left 16_777_216 × Appends old new too_long
unfolding IsDue
too_long_told asked given left before now status old new a is =
    outcome.too_long_of (reads_text asked) too_long (AnswersText asked given) left before now status old new (text_no_fault asked given) a is

-- What is answered where the scenario is asked for that stands behind a run: of a number, of a text with segments, or
-- of a round of words.
use Rattle.std.specs.Prelude.{◌≡◌, ◌⊎◌, ℕ, zero, suc, ◌<◌, ◌≤◌, List, [], ◌∷◌, codes, length, slice_get, Option, Some, None, Result, Ok, Err}
use Rattle.std.specs.Fmt.{decimal}
use Rattle.am_job.specs.Rounds.{rounds_of}
use Rattle.am_lab_scenarios.specs.Faults.Plans.{with_drawn_plan}
use Rattle.am_lab_scenarios.specs.Spelling.Texts.{scenario_text}
use Rattle.am_main_lines.specs.Lines.{Answer, refusal}
use Rattle.am_scenario.specs.Laws.{Spells}
use Rattle.am_scenario_types.specs.declared.faults.ScenarioFault.{ScenarioFault}
use Rattle.am_scenario_types.specs.declared.parts.Form.TheVariants.{Run}
use Rattle.am_scenario_types.specs.Lists.{ScenarioLists}
use Rattle.am_segment.specs.declared.scenario.SegmentScenario.{SegmentScenario}
use Rattle.am_office_text.specs.Words.{line}
use Rattle.am_job.specs.Words.Codes.{sent_words}

-- THE HEADLINE: the text is the scenario's one printed form, and `am2 run` reads that scenario in it.
pub record PrintsScenario (scenario : ScenarioLists) (answer : Answer) : Type 0 where
  pub status' : answer.status ≡ 0
  pub text' : answer.text ≡ scenario_text scenario
  pub spells : Spells Run answer.text scenario

-- the answer to what a text with segments spells, or to its first fault
abbrev pub ExpandedAnswers : Result SegmentScenario ScenarioFault → Answer → Type 0
ExpandedAnswers (Ok s) answer = PrintsScenario s.scenario answer
ExpandedAnswers (Err fault) answer = answer ≡ refusal fault

-- the answer to what a text spells, or to its first fault: the scenario is printed with the plan that a seed draws, and the rest as it was
abbrev pub FaultsAnswers : (seed percent : ℕ) → Result ScenarioLists ScenarioFault → Answer → Type 0
FaultsAnswers seed percent (Ok s) answer = PrintsScenario (with_drawn_plan seed percent s) answer
FaultsAnswers seed percent (Err fault) answer = answer ≡ refusal fault

-- the one of a list that has this number, counted from 1, if there is one
abbrev pub with_number : {A : Type 0} → ℕ → List A → Option A
with_number zero xs = None
with_number (suc before) xs = slice_get xs before

-- `no round N of C`
abbrev pub no_round : ℕ → ℕ → Answer
no_round number count = record { status = 12; text = line (codes "no") (codes "round" ∷ decimal number ∷ codes "of" ∷ decimal count ∷ []) }

-- the answer where this is the round with that number, or where there is none among so many
abbrev pub RoundOrNone : ℕ → ℕ → Option ScenarioLists → Answer → Type 0
RoundOrNone number count (Some round) answer = PrintsScenario round answer
RoundOrNone number count None answer = answer ≡ no_round number count

-- the answer to a number, where these are the rounds
abbrev pub PrintsRound : ℕ → List ScenarioLists → Answer → Type 0
PrintsRound number rounds answer = RoundOrNone number (length rounds) (with_number number rounds) answer

-- a text that is too long to be counted
abbrev pub text_too_long : Answer
text_too_long = record { status = 11; text = codes "text too long: more than 1048576 bytes\n" }

-- the answer to a text and a number: the rounds are those in which `am2 count` sends the text's words, and a text of
-- more than 1,048,576 bytes is not counted
abbrev pub RoundAnswers : (nodes turns number : ℕ) → List ℕ → Answer → Type 0
RoundAnswers nodes turns number bytes answer =
    ((1_048_576 < length bytes) × (answer ≡ text_too_long))
    ⊎ ((length bytes ≤ 1_048_576) × PrintsRound number (rounds_of nodes turns (sent_words bytes)) answer)

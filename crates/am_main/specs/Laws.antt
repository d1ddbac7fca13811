-- What an answer says, in other words.
use Rattle.std.specs.Prelude.{◌≡◌, ◌≢◌, ◌⊎◌, ℕ, ◌≤◌, true, List, [], codes, length, Option, Some, Ok}
use Rattle.am_check.specs.Laws.Laws.{IsTrueReport}
use Rattle.am_io.specs.Causes.{Rose, Counter}
use Rattle.am_main.specs.Answers.{AnswersTo, Finds, IsAnswered, IsOfCommand, IsOneOf, IsTaken, statuses}
use Rattle.am_main_lines.specs.Offers.{IsWhole}
use Rattle.am_main.specs.Commands.{reads_text}
use Rattle.am_main.specs.declared.commands.Command.{Command}
use Rattle.am_main.specs.declared.commands.Command.TheVariants as Commands
use Rattle.am_main_run.specs.Counts.Counts.{CountsWords}
use Rattle.am_main_lines.specs.Lines.{Answer}
use Rattle.am_main_run.specs.Runs.{PrintsRun, Summarizes}
use Rattle.am_main_run.specs.Segments.Segments.{PrintsSegments}
use Rattle.am_main_step.specs.Meaning.{PrintsHistory}
use Rattle.am_scenario.specs.Grammar.{grammar}
use Rattle.am_scenario_types.specs.declared.parts.Form.{Form}
use Rattle.am_scenario_types.specs.declared.parts.Form.TheVariants as Forms
use Rattle.am_scenario_types.specs.Lists.{ScenarioLists}
use Rattle.am_segment.specs.declared.scenario.SegmentScenario.{SegmentScenario}
use Rattle.am_segment.specs.Spelling.{segment_grammar}
use Rattle.am_session.specs.Grammar as Sessions
use Rattle.am_session.specs.Meaning.{PrintsSession}
use Rattle.am_session.specs.Scripts.{Script}

-- This holds wherever an answer that is due was offered: of what was asked for, what the source had left, its counts before and now, the
-- status, and what the sink held before and now.
abbrev pub OfEachAnswered : (Option Command → Option (List ℕ) → Counter → Counter → ℕ → Option (List ℕ) → Option (List ℕ) → Type 0) → Type 0
OfEachAnswered P =
    (asked : Option Command) (left : Option (List ℕ)) (before now : Counter) (status : ℕ) (old new : Option (List ℕ)) → IsAnswered asked left before now status old new → P asked left before now status old new

-- an answer of the command to the bytes was taken whole
pub record Takes (command : Command) (bytes : List ℕ) (status : ℕ) (old new : Option (List ℕ)) : Type 0 where
  pub answer : Answer
  pub answers : AnswersTo command bytes answer
  pub whole : IsWhole answer status old new

-- a count was asked for
pub record AsksForCount (asked : Option Command) : Type 0 where
  pub nodes : ℕ
  pub turns : ℕ
  pub is : asked ≡ Some (Commands.Count nodes turns)

pub record AnswersSay : Type 0 where
  -- Under a status of a command its text, or its number, has this answer.
  pub found : (command : Command) (left : Option (List ℕ)) (before now : Counter) (status : ℕ) (old new : Option (List ℕ)) → reads_text (Some command) ≡ true → IsTaken (Some command) left before now status old new → IsOfCommand status → Finds left (λ bytes. Takes command bytes status old new)
  pub made : (n : ℕ) (left : Option (List ℕ)) (before now : Counter) (status : ℕ) (old new : Option (List ℕ)) → IsTaken (Some (Commands.Make n)) left before now status old new → IsOfCommand status → Takes (Commands.Make n) [] status old new
  -- Where no read and no write fails that is so, unless the bytes are too many or memory ran out.
  pub complete : (command : Command) (left : Option (List ℕ)) (before now : Counter) (status : ℕ) (old new : Option (List ℕ)) → reads_text (Some command) ≡ true → ¬ (Rose before now) → status ≢ 5 → IsAnswered (Some command) left before now status old new → (status ≡ 7) ⊎ ((status ≡ 8) ⊎ Finds left (λ bytes. Takes command bytes status old new))
  pub made_complete : (n : ℕ) (left : Option (List ℕ)) (before now : Counter) (status : ℕ) (old new : Option (List ℕ)) → status ≢ 5 → IsAnswered (Some (Commands.Make n)) left before now status old new → (status ≡ 8) ⊎ Takes (Commands.Make n) [] status old new
  -- With status 0 the text is what the command is for.
  pub step : (bytes : List ℕ) (answer : Answer) → AnswersTo Commands.Step bytes answer → answer.status ≡ 0 → (s : ScenarioLists) × (grammar Forms.Step bytes ≡ Ok s) × PrintsHistory s answer.text
  pub run : (bytes : List ℕ) (answer : Answer) → AnswersTo Commands.Run bytes answer → answer.status ≡ 0 → (s : ScenarioLists) × (grammar Forms.Run bytes ≡ Ok s) × PrintsRun s answer.text
  pub make : (n : ℕ) (bytes : List ℕ) (answer : Answer) → AnswersTo (Commands.Make n) bytes answer → answer.status ≡ 0 → Summarizes n answer.text
  pub segments : (bytes : List ℕ) (answer : Answer) → AnswersTo Commands.Segments bytes answer → answer.status ≡ 0 → (s : SegmentScenario) × (segment_grammar bytes ≡ Ok s) × PrintsSegments s answer.text
  pub session : (bytes : List ℕ) (answer : Answer) → AnswersTo Commands.Session bytes answer → answer.status ≡ 0 → (s : Script) × (Sessions.grammar bytes ≡ Ok s) × PrintsSession s answer.text
  pub count : (nodes turns : ℕ) (bytes : List ℕ) (answer : Answer) → AnswersTo (Commands.Count nodes turns) bytes answer → answer.status ≡ 0 → (length bytes ≤ 1_048_576) × CountsWords nodes turns bytes answer.text
  pub check : (form : Form) (bytes : List ℕ) (answer : Answer) → AnswersTo (Commands.Check form) bytes answer → answer.status ≡ 0 → IsTrueReport form bytes × (answer.text ≡ codes "check ok\n")
  -- 11 is of `count` alone.
  pub eleven : (asked : Option Command) → IsOneOf (statuses asked) 11 → AsksForCount asked

-- What the command `count` answers, and what its answers say of the cluster.
use Rattle.std.specs.Prelude.{◌≡◌, ◌⊎◌, ℕ, ◌<◌, ◌≤◌, List, length}
use Rattle.am_office_entries.specs.declared.Part.{Part}
use Rattle.am_scenario_types.specs.Lists.{ScenarioLists}
use Rattle.am_job.specs.Words.Codes.{sent_words}
use Rattle.am_job.specs.Count.Counting.{PrintsCount}
use Rattle.am_job.specs.Count.Stops.{IsNextRound}
use Rattle.am_main_run.specs.Counts.Cluster.Rounds.{IsRoundRun}
use Rattle.am_main_lines.specs.Lines.{Answer}
use Rattle.am_main_lines.specs.Offers.{text_too_long}
use Rattle.am_main_run.specs.Runs.{PrintsCutRun}

-- THE HEADLINE, for the command `count`: each round of the text's words was run over the cluster, and the text that is printed tells the
-- words of the source's text of at most 24 bytes, each once and in ascending order of bytes, with how often it ran and how often it is
-- left. Both together are how often it stands in the text, and each place that is left has in the journal of its round a refused request,
-- or a message that was returned, with its cause.
abbrev pub CountsWords : (nodes turns : ℕ) → (bytes text : List ℕ) → Type 0
CountsWords nodes turns bytes text = PrintsCount IsRoundRun nodes turns bytes text

-- The run of a round meets a full log, the first to do so: the text is the line that tells it, and the report of what that run made
-- before.
pub record CutsCount (nodes turns : ℕ) (bytes text : List ℕ) : Type 0 where
  pub scenario : ScenarioLists
  pub round : IsNextRound IsRoundRun nodes turns (sent_words bytes) scenario
  pub part : Part
  pub prints : PrintsCutRun scenario part text

-- the answer to a text that is not too long
abbrev pub IsCountAnswer : (nodes turns : ℕ) → List ℕ → Answer → Type 0
IsCountAnswer nodes turns bytes answer =
    ((answer.status ≡ 0) × CountsWords nodes turns bytes answer.text) ⊎ ((answer.status ≡ 6) × CutsCount nodes turns bytes answer.text)

-- the answer to a text: one of more than 1,048,576 bytes is not counted
abbrev pub CountAnswers : (nodes turns : ℕ) → List ℕ → Answer → Type 0
CountAnswers nodes turns bytes answer =
    ((1_048_576 < length bytes) × (answer ≡ text_too_long)) ⊎ ((length bytes ≤ 1_048_576) × IsCountAnswer nodes turns bytes answer)

-- `count` without turns has at most one answer to a text
abbrev pub CountsHaveOneAnswer : Type 0
CountsHaveOneAnswer = (nodes : ℕ) (bytes : List ℕ) (one other : Answer) → CountAnswers nodes 0 bytes one → CountAnswers nodes 0 bytes other → one ≡ other

-- CALLS THAT HAPPEN AT MOST ONCE: what is told of each call after some rounds.
use Rattle.std.specs.Prelude.{◌≡◌, ℕ, ◌<◌, List, map, length, slice_index}
use Rattle.std.specs.Global.{Vec}
use Rattle.std.specs.List.{All, Contains}
use Rattle.am_names.specs.declared.Message.{Message}
use Rattle.am_names.specs.declared.Words.{Words}
use Rattle.am_office_entries.specs.declared.Entry.{Entry}
use Rattle.am_scenario_plan.specs.declared.plan.PlanLine.{PlanLine}
use Rattle.am_scenario_types.specs.Lists.{ScenarioLists}
use Rattle.am_library_views.specs.Ends.{words_refused}
use Rattle.am_library.specs.Laws.{CameToNothing, IsUnanswered}
use Rattle.am_library.specs.Runs.{IsRun}
use Rattle.am_library_views.specs.Views.{requests_run, requests_sent}
use Rattle.am_example_calls.specs.declared.answers.Answer.{Answer}
use Rattle.am_example_calls.specs.declared.answers.Answer.TheVariants.{Heard, Unheard, NeverRan}
use Rattle.am_example_calls.specs.Answers.{answer_at}

-- the words of a call: its token, which is its place among the calls, and what it asks
abbrev pub call_of : ℕ → ℕ → Words
call_of token argument = record { a = token; b = argument; c = 0; d = 0 }

abbrev pub call_at : List ℕ → ℕ → Words
call_at arguments token = call_of token (slice_index arguments token)

-- a round: its scenario, and the journal of its run
pub record Round : Type 0 where
  pub scenario : ScenarioLists
  pub journal : List Entry

-- a request of this call ran in the round
abbrev pub Ran : Words → Round → Type 0
Ran call round = (m : Message) × Contains (requests_run round.journal) m × (m.words ≡ call)

-- why a round gave a call no answer: its request was refused when it was asked for, or came to nothing; or it ran, and its reply came to
-- nothing. Where the plan of the round withholds nothing, only what came back, for a cause that isn't transient, came to nothing.
pub data GaveNoAnswer (call : Words) (round : Round) : Type 0 where
  Refused : Contains (words_refused round.journal) call → GaveNoAnswer call round
  RequestGone :
      (m : Message) → Contains (requests_sent round.journal) m → m.words ≡ call → CameToNothing round.scenario round.journal m → GaveNoAnswer call round
  ReplyGone :
      (m : Message) → Contains (requests_run round.journal) m → m.words ≡ call → IsUnanswered round.scenario round.journal m → GaveNoAnswer call round

-- WHAT AN ANSWER SAYS. Heard: the call ran, and these are its own words. Unheard: it ran, and no round gave it an answer. Never ran: it ran in
-- no round, and no round gave it an answer.
abbrev pub IsAnswer : List Round → Words → Answer → Type 0
IsAnswer rounds call (Heard words) = (words ≡ call) × ((round : Round) × Contains rounds round × Ran call round)
IsAnswer rounds call Unheard = ((round : Round) × Contains rounds round × Ran call round) × All (GaveNoAnswer call) rounds
IsAnswer rounds call NeverRan = All (λ (round : Round). Ran call round → ⊥) rounds × All (GaveNoAnswer call) rounds

-- a round was run for each plan, and each call has its answer
pub record AreAnswered (arguments : List ℕ) (plans : List (Vec PlanLine)) (answers : List Answer) : Type 0 where
  pub rounds : List Round
  pub planned : map (λ (round : Round). round.scenario.plan) rounds ≡ map (λ (plan : Vec PlanLine). plan.items) plans
  pub run : All (λ (round : Round). IsRun round.scenario round.journal) rounds
  pub as_many : length answers ≡ length arguments
  pub each : (token : ℕ) → token < length arguments → IsAnswer rounds (call_at arguments token) (answer_at answers token)

-- The scenario of a round, as it is made.
use Rattle.std.specs.Prelude.{◌≡◌, ℕ, ◌<◌, false, List, [], ◌∷◌, ◌++◌, length}
use Rattle.std.specs.List.{Contains}
use Rattle.am_names.specs.declared.EndpointId.{EndpointId}
use Rattle.am_names.specs.declared.Words.{Words}
use Rattle.am_scenario_plan.specs.declared.plan.PlanLine.{PlanLine}
use Rattle.am_scenario_types.specs.Lists.{ScenarioLists}
use Rattle.am_library_views.specs.Ends.{words_asked}
use Rattle.am_library.specs.Laws.{Echoes, LeadsTo}
use Rattle.am_example_calls.specs.declared.answers.Answer.{Answer}
use Rattle.am_example_calls.specs.declared.answers.Answer.TheVariants.{Heard, Unheard, NeverRan}
use Rattle.am_example_calls.specs.Answers.{answer_at, is_heard}
use Rattle.am_example_calls.specs.Calls.{call_at}

-- where calls run
abbrev pub server : EndpointId
server = record { 0 = 0 }

-- the server echoes, and all indexes lead there
pub record Serves (s : ScenarioLists) : Type 0 where
  pub echoes : Echoes s server
  pub leads : LeadsTo s server

-- under this plan it serves, and nothing is asked yet
pub record IsSetUp (plan : List PlanLine) (s : ScenarioLists) : Type 0 where
  pub serves : Serves s
  pub asked : words_asked s.script ≡ []
  pub plan' : s.plan ≡ plan

-- these words are asked for too, and it serves on
pub record Asks (words : List Words) (old new : ScenarioLists) : Type 0 where
  pub asked : words_asked new.script ≡ words_asked old.script ++ words
  pub serves : Serves old → Serves new
  pub plan : new.plan ≡ old.plan

-- what is asked for a call: nothing where it has its answer
abbrev pub open_call : Words → Answer → List Words
open_call call (Heard words) = []
open_call call Unheard = call ∷ []
open_call call NeverRan = call ∷ []

-- under this plan nothing but calls is asked for, and of the first so many each that has no answer
pub record AsksFor (arguments : List ℕ) (answers : List Answer) (plan : List PlanLine) (count : ℕ) (s : ScenarioLists) : Type 0 where
  pub serves : Serves s
  pub plan' : s.plan ≡ plan
  pub calls : (words : Words) → Contains (words_asked s.script) words → (token : ℕ) × (token < length arguments) × (words ≡ call_at arguments token)
  pub open' : (token : ℕ) → token < count → is_heard (answer_at answers token) ≡ false → Contains (words_asked s.script) (call_at arguments token)

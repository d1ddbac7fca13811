-- What the scenario of a round says. Node 0 has the root, endpoint 0, and node n the endpoint n + 1.
use Rattle.std.specs.Prelude.{◌≡◌, ℕ, ◌+◌, List}
use Rattle.std.specs.List.{All}
use Rattle.am_names.specs.declared.EndpointId.{EndpointId}
use Rattle.am_names.specs.declared.Words.{Words}
use Rattle.am_scenario_plan.specs.declared.plan.PlanLine.{PlanLine}
use Rattle.am_scenario_types.specs.Lists.{ScenarioLists}
use Rattle.am_library_views.specs.Ends.{words_asked}
use Rattle.am_library.specs.Laws.{Adds, LeadsTo}

abbrev pub root : EndpointId
root = record { 0 = 0 }

abbrev pub end_of : ℕ → EndpointId
end_of node = record { 0 = node + 1 }

-- Under this plan these numbers are asked for, at the root, which adds, and to which all lead.
pub record Asks (plan : List PlanLine) (numbers : List Words) (s : ScenarioLists) : Type 0 where
  pub plan' : s.plan ≡ plan
  pub asked : words_asked s.script ≡ numbers
  pub adds : Adds s root
  pub lead : LeadsTo s root

-- Under this plan each request that is asked for has the sum as its first word.
pub record SendsSum (plan : List PlanLine) (sum : ℕ) (s : ScenarioLists) : Type 0 where
  pub plan' : s.plan ≡ plan
  pub told : All (λ (words : Words). words.a ≡ sum) (words_asked s.script)

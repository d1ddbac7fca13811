-- A round's draft before some calls of its threads.
use Rattle.std.specs.Prelude.{◌≡◌, ℕ, ◌*◌, ◌≤◌, List, ◌++◌, length, map}
use Rattle.std.specs.List.{range_with_len}
use Rattle.am_scenario_types.specs.declared.parts.ScriptCall.{ScriptCall}
use Rattle.am_scenario_types.specs.Lists.{ScenarioLists}
use Rattle.am_job.specs.Rounds.{end_line, thread_line}

-- it has the endpoints and the threads of a round of w nodes, and room for the calls
pub record IsReady (w : ℕ) (calls : List ScriptCall) (draft : ScenarioLists) : Type 0 where
  pub ends : draft.ends ≡ map end_line (range_with_len 0 (2 * w))
  pub threads : draft.threads ≡ map thread_line (range_with_len 0 w)
  pub room : length (draft.script ++ calls) ≤ 16_384

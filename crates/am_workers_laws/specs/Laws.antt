-- What the end of a phase comes to.
use Rattle.std.specs.Prelude.{◌≡◌, []}
use Rattle.am_model_drain.specs.Follows as drain
use Rattle.am_model_merge.specs.Logs.{MergesInto}
use Rattle.am_model_merge.specs.Merged.{merged}
use Rattle.am_workers_laws.specs.Phases.Makers.{IsDone}
use Rattle.am_scenario_types.specs.Lists.{ScenarioLists}
use Rattle.am_workers_laws.specs.Ended.{IsEnded, RunEnd, all_lists, logs_at}

-- what the workers keep is what a phase is made of
abbrev pub WorkersAreDone : Type 0
WorkersAreDone = (s : ScenarioLists) (r : RunEnd) → IsEnded s r → IsDone s r.made (logs_at s r)

pub record IsPhaseAtEnd (s : ScenarioLists) (r : RunEnd) : Type 0 where
  pub merges : MergesInto (logs_at s r) (merged (all_lists s r))
  pub good : drain.IsGoodPhase s (merged (all_lists s r))

-- their logs merge into a phase that a drain may begin with
abbrev pub EndsAreAPhase : Type 0
EndsAreAPhase = (s : ScenarioLists) (r : RunEnd) → IsEnded s r → IsPhaseAtEnd s r

-- where there are no turns, it is the empty one
abbrev pub NoTurnsNoPhase : Type 0
NoTurnsNoPhase = (s : ScenarioLists) (r : RunEnd) → s.turns ≡ 0 → IsEnded s r → merged (all_lists s r) ≡ []

-- the empty journal is a phase of every scenario
abbrev pub EmptyIsAPhase : Type 0
EmptyIsAPhase = (s : ScenarioLists) → drain.IsGoodPhase s []

-- How a thread's entry keeps what its worker keeps.
use Rattle.std.specs.Prelude.{◌≡◌, ℕ, ◌+◌, ◌<◌, ◌≤◌, ◌^◌, true, List, [], ◌∷◌, ◌++◌, take}
use Rattle.am_names.specs.declared.EndpointId.{EndpointId}
use Rattle.am_office_entries.specs.declared.Entry.{Entry}
use Rattle.am_endpoint_body.specs.declared.settings.EndSettings.{EndSettings}
use Rattle.am_model.specs.History.{is_in_range}
use Rattle.am_scenario_types.specs.Lists.{ScenarioLists}
use Rattle.am_model_scripts.specs.Follows.{is_by_thread}
use Rattle.am_model_scripts.specs.Scripts.{calls_of, script_of}
use Rattle.am_model_scripts.specs.Layout.{layout_of}
use Rattle.am_places.specs.Rule.{joined}
use Rattle.am_places.specs.declared.board.Tenure.{Tenure}
use Rattle.am_workers_laws.specs.Phases.Then.{StandsAfter}
use Rattle.am_workers_laws.specs.Invariants.Seats.{EndPass, Ids, Stays}
use Rattle.am_workers_laws.specs.Invariants.Stands.{TouchOnly}
use Rattle.am_workers_laws.specs.Invariants.Works.{IsThreadsThen, ThreadWorks}

-- the thread stayed at an endpoint and made this entry there, above its clock, and right by what it found
pub record IsThreadsStep (s : ScenarioLists) (t next now clock k : ℕ) (set : EndSettings) (place : ℕ) (log : List (Tenure Entry)) (v w : EndPass) (x : Entry) : Type 0 where
  pub stays : Stays k set place log (x ∷ []) v w
  pub only : TouchOnly set.id (x ∷ [])
  pub later : clock < x.stamp
  pub low : x.stamp ≤ 2 ^ 63
  pub own : is_by_thread t x.event ≡ true
  pub ranged : is_in_range (layout_of s) x.event ≡ true
  pub calls : take now (script_of s t) ≡ take next (script_of s t) ++ calls_of t (x ∷ [])
  pub right : (ends : EndpointId → List Entry) → StandsAfter (ends set.id) (joined log) x → IsThreadsThen (layout_of s) ends x

-- then its worker keeps its works, with one turn more
abbrev pub ThreadsGoOn : Type 0
ThreadsGoOn =
    (s : ScenarioLists) (ids : Ids) (t turns next now clock k : ℕ) (set : EndSettings) (place : ℕ) (log : List (Tenure Entry)) (v w : EndPass) (x : Entry) → ThreadWorks s ids t turns next clock v → IsThreadsStep s t next now clock k set place log v w x → ThreadWorks s ids t (turns + 1) now x.stamp w

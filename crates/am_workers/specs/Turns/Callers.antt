-- What a thread's script is for its turns.
use Rattle.std.specs.Prelude.{◌≡◌, ℕ, ◌+◌, true, Option, Some, None, List, position, slice_get}
use Rattle.std.specs.Option.{option_map}
use mathlib.Core.Option.{some}
use lib.ListN.{get_elem?}
use Rattle.am_names.specs.Names.{same_end}
use Rattle.am_office_entries.specs.declared.Actor.TheVariants.{Thread}
use Rattle.am_office_entries.specs.declared.Call.{Call}
use Rattle.am_office_entries.specs.declared.Event.TheVariants as Events
use Rattle.am_endpoint_body.specs.declared.settings.EndSettings.{EndSettings}
use Rattle.am_model.specs.Allowed.{are_numbers_in_range}
use Rattle.am_model.specs.History.{is_in_range}
use Rattle.am_scenario_types.specs.Lists.{ScenarioLists}
use Rattle.am_scenario_types.specs.declared.parts.ScriptCall.{ScriptCall}
use Rattle.am_model_scripts.specs.Layout.{layout_of}
use Rattle.am_model_scripts.specs.Scripts.{script_of}
use Rattle.am_workers_laws.specs.Invariants.Seats.{EndPass, Ids}
use Rattle.am_workers.specs.Turns.Turns.{ThreadTurns}
use Rattle.am_workers.specs.declared.turns.turns.ThreadTurn.{ThreadTurn}
use Rattle.am_workers.specs.declared.turns.turns.ThreadTurn.TheVariants as Turns

-- these are the thread's calls, and a scenario may have them
pub record IsScript (s : ScenarioLists) (thread : ℕ) (calls : List ScriptCall) : Type 0 where
  pub script : calls ≡ script_of s thread
  pub own : (k : ℕ) (c : ScriptCall) → slice_get calls k ≡ Some c → c.thread ≡ thread
  pub called : (k : ℕ) (c : ScriptCall) → slice_get calls k ≡ Some c → is_in_range (layout_of s) (Events.Call (Thread thread) c.endpoint c.call) ≡ true
  pub wanted : (k : ℕ) (c : ScriptCall) → slice_get calls k ≡ Some c → is_in_range (layout_of s) (Events.Want (Thread thread) c.endpoint) ≡ true

-- the numbers of each call are in range for each endpoint's pool
abbrev pub HaveRange : EndPass → List ScriptCall → Type 0
HaveRange v calls = (j k : ℕ) (set : EndSettings) (c : ScriptCall) → get_elem? v.births j ≡ some set → slice_get calls k ≡ Some c → are_numbers_in_range set.pool c.call ≡ true

-- how many calls it has made after a turn
abbrev pub next_after : ℕ → ThreadTurn → ℕ
next_after next (Turns.Made x) = next + 1
next_after next turn = next

-- a call that is next and the place of its endpoint on the node, if there is one and its endpoint is of the node
abbrev pub due_of : Ids → Option ScriptCall → Option (ℕ × Call)
due_of ids None = None
due_of ids (Some c) = option_map (λ (k : ℕ). (k, c.call)) (position (same_end c.endpoint) ids)

-- a turn of the thread: at the endpoint of its next call, of which it made `next`; and nothing where none is left that it can make on its node
abbrev pub CallTurns : Ids → List ScriptCall → ℕ → ℕ → ℕ → EndPass → EndPass → Option ThreadTurn → Type 0
CallTurns ids script thread next clock v w None = (due_of ids (slice_get script next) ≡ None) × (w ≡ v)
CallTurns ids script thread next clock v w (Some turn) = (k : ℕ) × (call : Call) × (due_of ids (slice_get script next) ≡ Some (k, call)) × ThreadTurns k thread call clock v w turn

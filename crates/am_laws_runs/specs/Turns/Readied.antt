-- What making ready makes of an endpoint: it leaves the disk, and it lies in a frame and doesn't drain.
use Rattle.std.specs.Prelude.{◌≡◌, ℕ, true, false, ◌||◌, None, Some, List}
use Rattle.am_names.specs.declared.EndpointId.{EndpointId}
use Rattle.am_names.specs.declared.NodeId.{NodeId}
use Rattle.am_names.specs.Names.{same_end}
use Rattle.am_office_entries.specs.declared.Entry.{Entry}
use Rattle.am_model.specs.Endpoint.{is_on_disk, is_in_a_frame}
use Rattle.am_model.specs.Layout.{Layout, home}
use Rattle.am_model.specs.History.{IsHistory, state_of}
use Rattle.am_scenario_types.specs.Lists.{ScenarioLists}
use Rattle.am_model_scripts.specs.Layout.{layout_of}
use Rattle.am_model_drain.specs.Ready.{off_disk, ready}
use Rattle.am_model_drain.specs.Rules.{next_time_out}
use Rattle.am_laws_runs.specs.Turns.Enabled.{IsOfRun}

-- a history in which an endpoint isn't on disk
pub record IsOff (layout : Layout) (e : EndpointId) (journal : List Entry) : Type 0 where
  pub history : IsHistory layout journal
  pub off : is_on_disk (state_of layout journal e).head.place ≡ false

-- an endpoint that is taken off the disk is off it: no more page calls fail than there are faults
abbrev pub OffDiskIsOff : Type 0
OffDiskIsOff =
    (s : ScenarioLists) (past : List Entry) (node : NodeId) (e : EndpointId) → IsOfRun s past → home (layout_of s) e ≡ Some node → IsOff (layout_of s) e (off_disk (layout_of s) node e past)

-- a history in which an endpoint lies in a frame and doesn't drain
pub record IsReadied (layout : Layout) (e : EndpointId) (journal : List Entry) : Type 0 where
  pub history : IsHistory layout journal
  pub framed : is_in_a_frame (state_of layout journal e).head.place ≡ true
  pub awake : (state_of layout journal e).head.draining ≡ false

-- while no channel is bound, an open endpoint that is made ready for a message of its own is ready: there is a frame for it
abbrev pub ReadyIsReady : Type 0
ReadyIsReady =
    (s : ScenarioLists) (past : List Entry) (keep : ℕ) (node : NodeId) (e source dest : EndpointId) → IsOfRun s past → next_time_out s past ≡ None → home (layout_of s) e ≡ Some node → (same_end e source || same_end e dest) ≡ true → (state_of (layout_of s) past e).head.closed ≡ false → IsReadied (layout_of s) e (ready (layout_of s) keep node e source dest past)

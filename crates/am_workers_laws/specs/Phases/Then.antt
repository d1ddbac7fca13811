-- An entry that was right when it was made, by what its maker had seen of each log, is right by the logs at the end.
use Rattle.std.specs.Prelude.{◌≡◌, true, Option, Some, None, List, ◌∷◌, ◌++◌}
use Rattle.am_names.specs.declared.EndpointId.{EndpointId}
use Rattle.am_office_entries.specs.declared.Actor.{Actor}
use Rattle.am_office_entries.specs.declared.Call.{Call}
use Rattle.am_office_entries.specs.declared.Event.TheVariants as Events
use Rattle.am_office_entries.specs.declared.Outcome.TheVariants as Out
use Rattle.am_office_entries.specs.declared.Entry.{Entry}
use Rattle.am_model.specs.Endpoint.{State}
use Rattle.am_model.specs.Calls.{outcome_of_call}
use Rattle.am_model.specs.Changes.{replay}
use Rattle.am_model.specs.Layout.{Layout, opening}
use Rattle.am_model.specs.History.{is_in_range}
use Rattle.am_model_parts.specs.declared.work.Work.{Work}
use Rattle.am_model_parts.specs.Asked.{failing_call, failing_want}
use Rattle.am_model_parts.specs.Driver.{DriverLog, end_moved, failing_move, outcome_move}
use Rattle.am_model.specs.Parts.{driver_of}
use Rattle.am_model_parts.specs.Interface.{InterfaceLog, event_of, failing_at, needs, outcome_at}
use Rattle.am_model_parts.specs.Together.{IsDriverSet, IsSet}
use Rattle.am_model_merge.specs.Logs.{Logs}
use Rattle.am_model_merge.specs.Right.{IsSentBefore}

-- the log has these entries, then x, and then others
abbrev pub StandsAfter : List Entry → List Entry → Entry → Type 0
StandsAfter log past x = (more : List Entry) × (log ≡ past ++ x ∷ more)

-- the state is the one in which x found the endpoint, if there is one
abbrev pub IsFound : Layout → (EndpointId → List Entry) → Entry → State → Option EndpointId → Type 0
IsFound layout ends x s None = Unit {0}
IsFound layout ends x s (Some e) = (past : List Entry) × StandsAfter (ends e) past x × (s ≡ replay e (opening layout e) past)

pub record IsCallThen (layout : Layout) (ends : EndpointId → List Entry) (x : Entry) : Type 0 where
  pub actor : Actor
  pub end : EndpointId
  pub call : Call
  pub s : State
  pub found : IsFound layout ends x s (Some end)
  pub event : x.event ≡ Events.Call actor end call
  pub enabled : failing_call s ≡ None
  pub outcome : x.outcome ≡ outcome_of_call layout.pool end s call

pub record IsWantThen (layout : Layout) (ends : EndpointId → List Entry) (x : Entry) : Type 0 where
  pub actor : Actor
  pub end : EndpointId
  pub s : State
  pub found : IsFound layout ends x s (Some end)
  pub event : x.event ≡ Events.Want actor end
  pub enabled : failing_want s ≡ None
  pub outcome : x.outcome ≡ Out.Silent

-- an interface's work, which the interface `i` did: its log was then the beginning of what it is at the end
pub record IsWorkThen (layout : Layout) (logs : Logs) (x : Entry) : Type 0 where
  pub i : InterfaceLog
  pub s : State
  pub w : Work
  pub settings : IsSet layout i
  pub past : StandsAfter (logs.node i.settings.node) i.log x
  pub found : IsFound layout logs.end x s (needs i w)
  pub packet : IsSentBefore logs i.settings.node w x.stamp
  pub event : x.event ≡ event_of i.settings.node w
  pub enabled : failing_at i s w ≡ None
  pub outcome : x.outcome ≡ outcome_at i s w

pub record IsMoveThen (layout : Layout) (logs : Logs) (x : Entry) : Type 0 where
  pub d : DriverLog
  pub s : State
  pub settings : IsDriverSet layout d
  pub past : StandsAfter (logs.driver d.settings.node) d.log x
  pub found : IsFound layout logs.end x s (end_moved x.event)
  pub driver : driver_of x.event ≡ Some d.settings.node
  pub enabled : failing_move d s x.event ≡ None
  pub outcome : x.outcome ≡ outcome_move d x.event

pub data IsRightThen (layout : Layout) (logs : Logs) (x : Entry) : Type 0 where
  ByCall : IsCallThen layout logs.end x → IsRightThen layout logs x
  ByWant : IsWantThen layout logs.end x → IsRightThen layout logs x
  ByWork : IsWorkThen layout logs x → IsRightThen layout logs x
  ByMove : IsMoveThen layout logs x → IsRightThen layout logs x

pub record WasRight (layout : Layout) (logs : Logs) (x : Entry) : Type 0 where
  pub in_range : is_in_range layout x.event ≡ true
  pub then : IsRightThen layout logs x

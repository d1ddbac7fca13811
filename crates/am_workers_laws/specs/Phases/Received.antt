-- What an interface took out of a link was sent to it.
use Rattle.std.specs.Prelude.{◌≡◌, ◌+◌, List, Contains}
use Rattle.am_names.specs.declared.NodeId.{NodeId}
use Rattle.am_names.specs.declared.Packet.{Packet}
use Rattle.am_office_entries.specs.declared.Entry.{Entry}
use Rattle.am_model_parts.specs.Numbered.{AreNumbered}
use Rattle.am_model_parts.specs.Interface.{InterfaceLog, event_of, outcome_at}
use Rattle.am_model_parts.specs.declared.work.Work.{Work}
use Rattle.am_model.specs.Endpoint.{State}
use Rattle.am_model.specs.Packets.{stamp_of}
use Rattle.am_model.specs.Layout.{AllAre}
use Rattle.am_model_merge.specs.Logs.{IsRising, Logs}
use Rattle.am_model_merge.specs.Right.{WasSent}
use Rattle.am_scenario_types.specs.Lists.{ScenarioLists}
use Rattle.am_workers_laws.specs.Phases.Crew.{IsLinkOf}
use Rattle.am_workers_laws.specs.Phases.Then.{StandsAfter}

-- where the sender's stamps rise and its packets are numbered in order, as by its works they are, each packet that the link gave was
-- sent by the sender's log, no later than it was released
abbrev pub GotWasSent : Type 0
GotWasSent =
    (s : ScenarioLists) (logs : Logs) (from to : NodeId) (link : IsLinkOf s logs from to) (p : Packet) → IsRising (logs.node from) → AreNumbered (logs.node from) → Contains link.got p → WasSent logs to p (stamp_of p + 1)

-- the entry is what an interface with this beginning of the log makes of a work
pub record IsOfWork (log : List Entry) (x : Entry) : Type 0 where
  pub i : InterfaceLog
  pub s : State
  pub w : Work
  pub past : StandsAfter log i.log x
  pub event : x.event ≡ event_of i.settings.node w
  pub outcome : x.outcome ≡ outcome_at i s w

-- so the packets of an interface are numbered in order
abbrev pub WorksAreNumbered : Type 0
WorksAreNumbered = (log : List Entry) → IsRising log → AllAre (IsOfWork log) log → AreNumbered log

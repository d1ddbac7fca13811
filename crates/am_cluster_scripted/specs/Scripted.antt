-- A cluster that runs the scripts of a scenario, and what its parts say of its journal.
use Rattle.std.specs.Prelude.{◌≡◌, ◌+◌, ◌*◌, Option, Some, None, List, map}
use Rattle.am_names.specs.declared.Packet.{Packet}
use Rattle.am_names.specs.declared.Way.{Way}
use Rattle.am_office_entries.specs.declared.Entry.{Entry}
use Rattle.am_model.specs.Packets.{receiver_of, from_of}
use Rattle.am_scenario_plan.specs.declared.plan.PlanLine.{PlanLine}
use Rattle.am_scenario_plan.specs.Shape.{fault_at, number_of}
use Rattle.am_scenario_types.specs.declared.parts.Network.TheVariants.{Packet as Packets}
use Rattle.am_scenario_types.specs.Lawful.{IsLawful}
use Rattle.am_scenario_types.specs.Lists.{ScenarioLists}
use Rattle.am_model_scripts.specs.Layout.{layout_of}
use Rattle.am_laws_runs.specs.Drained.{HasShortLogs}
use Rattle.am_machine.specs.View.{ClusterView}
use Rattle.am_cluster_scripted.specs.EndMarks.{AreMarked}
use Rattle.am_cluster_scripted.specs.PairMarks.{ArePaired}
use Rattle.am_cluster_scripted.specs.Links.{AreFed, IsSpared, Released, fed_at, released_in}
use Rattle.am_cluster_calls.specs.Lows.{IsLow}
use Rattle.am_cluster_calls.specs.Threads.{scripted_in, scripted_of}
use Rattle.am_cluster_scripted.specs.declared.scripted.ScriptedCluster.TheInside.{Inside}

-- a scenario, and the journal that was made of it
pub record RunView : Type 0 where
  pub scenario : ScenarioLists
  pub journal : List Entry

abbrev pub view_of : Inside → RunView
view_of m = record { scenario = m.scenario.now; journal = m.cluster.journal }

-- its cluster, as callers of a cluster see it
abbrev pub cluster_of : RunView → ClusterView
cluster_of v = record { layout = layout_of v.scenario; journal = v.journal }

-- the links after one packet more on its way
abbrev pub fed_on : List PlanLine → Way → List Released → List Released
fed_on plan way rs = fed_at (16 * way.from.0 + way.to.0) way.number (fault_at plan way.from way.to way.number) way.number rs

-- the links after one packet more, if there is one: its number is its place among those that were emitted on its link
abbrev pub fed_by : List PlanLine → Option Packet → List Released → List Released
fed_by plan None rs = rs
fed_by plan (Some p) rs =
    fed_at (16 * (from_of p).0 + (receiver_of p).0) (number_of p) (fault_at plan (from_of p) (receiver_of p) (number_of p)) (number_of p) rs

-- the scenario is lawful and of the packet network, the cluster is that of the scenario with a history of it, and what is kept
-- beside the cluster is what its journal says
pub record AreParts (s : ScenarioLists) (cluster : ClusterView) : Type 0 where
  pub lawful : IsLawful s
  pub packet : s.network ≡ Packets
  pub layout : cluster.layout ≡ layout_of s
  pub fits : HasShortLogs s cluster.journal

pub record IsScripted (m : Inside) : Type 0 where
  pub parts : AreParts m.scenario.now m.cluster
  pub plan : m.plan ≡ m.scenario.now.plan
  pub fed : AreFed m.scenario.now.plan m.cluster.journal (map released_in m.links.all.items)
  pub spared : IsSpared m.links
  pub threads : map scripted_in m.threads.items ≡ map (scripted_of m.scenario.now m.cluster.journal) m.scenario.now.threads
  pub low : IsLow (map scripted_in m.threads.items) m.low
  pub ends : AreMarked (layout_of m.scenario.now) m.cluster.journal m.ends
  pub pairs : ArePaired m.scenario.now m.cluster.journal m.pairs

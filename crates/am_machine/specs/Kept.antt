-- What a cluster keeps: the journal that its logs merge into is a history, each log is its part of it, and the index is its index.
use Rattle.std.specs.Prelude.{◌≡◌, ℕ, ◌≤◌, true, List, ◌++◌, Some, length, map, slice_get}
use Rattle.std.specs.List.{filter}
use Rattle.am_office_entries.specs.declared.Entry.{Entry}
use Rattle.am_office_entries.specs.Entries.{touches}
use Rattle.am_model.specs.Endpoint.{fresh}
use Rattle.am_model.specs.History.{IsHistory}
use Rattle.am_model.specs.Layout.{Layout, AllAre, IsLawful, opening}
use Rattle.am_model.specs.Merge.{is_ordered}
use Rattle.am_scenario_types.specs.declared.parts.FaultLine.{FaultLine}
use Rattle.am_model_scripts.specs.Layout.{is_direct, fault_of}
use Rattle.am_machine_journal.specs.Index.View.{IsEarly, IsIndexOf, Readings}
use Rattle.am_model_merge.specs.Merged.{merged}
use Rattle.am_iface.specs.View.{InterfaceView}
use Rattle.am_swap_device.specs.Memory.{Store}
use Rattle.am_machine.specs.Interfaces.{AreInterfaces}
use Rattle.am_machine.specs.Swaps.{AreSwaps}
use Rattle.am_machine.specs.View.{ClusterView}
use Rattle.am_driver_moves.specs.Logs.{EndLog, kept}
use Rattle.am_machine.specs.Ends.{setting_in}
use Rattle.am_machine.specs.declared.settings.Settings.{Settings}
use Rattle.am_machine.specs.declared.Cluster.TheInside.{Inside}

-- what a cluster with these settings, failing page calls and endpoints began with
abbrev pub layout_in : Settings → List FaultLine → List EndLog → Layout
layout_in s faults es =
    record {
      direct = is_direct s.network;
      nodes = s.nodes;
      frames = s.frames;
      channels = s.channels;
      tries = s.tries;
      bounces = s.bounces;
      pool = s.pool;
      log = s.log;
      ends = map setting_in es;
      faults = map fault_of faults;
    }

-- the log of an endpoint is its part of the journal, and its settings are those of the layout
pub record IsOwn (layout : Layout) (journal : List Entry) (e : EndLog) : Type 0 where
  pub opening : opening layout e.settings.id ≡ fresh e.settings.tag e.settings.place
  pub log : e.log ≡ filter (touches e.settings.id) journal
  pub limit : e.settings.log ≡ layout.log
  pub bounces : e.settings.bounces ≡ layout.bounces
  pub pool : e.settings.pool ≡ layout.pool

-- its log has no more entries than it may
abbrev pub IsShort : EndLog → Type 0
IsShort e = length e.log ≤ e.settings.log

pub record IsTied (layout : Layout) (es : List EndLog) (journal : List Entry) : Type 0 where
  pub lawful : IsLawful layout
  pub history : IsHistory layout journal
  pub early : IsEarly journal
  pub ordered : is_ordered journal ≡ true
  pub own : AllAre (IsOwn layout journal) es
  pub short : AllAre IsShort es
  pub apart : (j k : ℕ) (d e : EndLog) → slice_get es j ≡ Some d → slice_get es k ≡ Some e → d.settings.id ≡ e.settings.id → j ≡ k

-- what a cluster keeps, by its parts
pub record IsKept (layout : Layout) (es : List EndLog) (journal : List Entry) (interfaces : List InterfaceView) (swaps : List Store) : Type 0 where
  pub tied : IsTied layout es journal
  pub interfaces' : AreInterfaces layout journal interfaces
  pub swaps' : AreSwaps layout journal swaps

abbrev pub end_logs : List EndLog → List (List Entry)
end_logs es = map (λ (e : EndLog). e.log) es

abbrev pub interface_logs : List InterfaceView → List (List Entry)
interface_logs is = map (λ (i : InterfaceView). i.log) is

-- the logs of the endpoints, and then those of the interfaces
abbrev pub logs_in : List EndLog → List InterfaceView → List (List Entry)
logs_in es is = end_logs es ++ interface_logs is

-- the journal that they merge into
abbrev pub journal_by : List EndLog → List InterfaceView → List Entry
journal_by es is = merged (logs_in es is)

-- the parts keep this with the journal that their logs merge into, which is what the index reads
pub record IsIndexed (layout : Layout) (es : List EndLog) (is : List InterfaceView) (swaps : List Store) (index : Readings) : Type 0 where
  pub kept' : IsKept layout es (journal_by es is) is swaps
  pub index' : IsIndexOf (journal_by es is) index

abbrev pub ends_in : Inside → List EndLog
ends_in c = map kept c.ends.items

abbrev pub cluster_in : Inside → ClusterView
cluster_in c = record { layout = layout_in c.settings c.faults.items (ends_in c); journal = journal_by (ends_in c) c.interfaces.items }

abbrev pub IsCluster : Inside → Type 0
IsCluster c = IsIndexed (layout_in c.settings c.faults.items (ends_in c)) (ends_in c) c.interfaces.items c.swaps.items c.index.read

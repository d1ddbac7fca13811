-- What an interface keeps: its ends and its emissions are what the definitions count in its log.
use Rattle.std.specs.Prelude.{◌≡◌, ℕ, ◌+◌, ◌*◌, ◌<◌, ◌≤◌, Some, List, length, slice_get}
use Rattle.am_names.specs.declared.NodeId.{NodeId}
use Rattle.am_office_entries.specs.declared.Entry.{Entry}
use Rattle.am_model.specs.Channels.{emitted}
use Rattle.am_model.specs.History.{channel_to}
use Rattle.am_model.specs.Layout.{node_at}
use Rattle.am_channel.specs.declared.ends.Ends.{Ends}
use Rattle.am_channel.specs.Counted.{AreCounted}
use Rattle.am_iface.specs.Settings.{AreLawful, SettingsView}
use Rattle.am_iface.specs.View.{InterfaceView}
use Rattle.am_iface.specs.declared.Interface.TheInside.{Inside}

abbrev pub settings_in : Inside → SettingsView
settings_in i =
    record {
      node = i.limits.node;
      nodes = i.limits.nodes;
      channels = i.limits.channels;
      tries = i.limits.tries;
      bounces = i.limits.bounces;
      log = i.limits.log;
      homes = i.homes.items;
    }

abbrev pub view_of : Inside → InterfaceView
view_of i = record { settings = settings_in i; log = i.log.items }

-- the ends of the channels to each peer, four to a peer
abbrev pub AreEndsOf : NodeId → List Entry → List Ends → Type 0
AreEndsOf node log ends =
    (peer channel : ℕ) (e : Ends) → channel < 4 → slice_get ends (4 * peer + channel) ≡ Some e → AreCounted (channel_to node (node_at peer) channel) log e

-- the numbers of packets to each peer, each at most the number of entries
abbrev pub AreEmissionsOf : NodeId → List Entry → List ℕ → Type 0
AreEmissionsOf node log counts =
    (peer n : ℕ) → slice_get counts peer ≡ Some n → (n ≡ length (emitted node (node_at peer) log)) × (n ≤ length log)

pub record AreOfLog (set : SettingsView) (all : List Ends) (counts : List ℕ) (log : List Entry) : Type 0 where
  pub ends : AreEndsOf set.node log all
  pub emissions : AreEmissionsOf set.node log counts
  pub all_ends : length all ≡ 64
  pub all_peers : length counts ≡ 16
  pub bounded : length log ≤ set.log
  pub lawful : AreLawful set

abbrev pub IsCounted : Inside → Type 0
IsCounted i = AreOfLog (settings_in i) i.ends.items i.emissions.items i.log.items

-- An interface as its callers see it, and the work that it can be given.
use Rattle.std.specs.Prelude.{◌≡◌, ℕ, ◌<◌, ◌≤◌, true, List}
use Rattle.am_names.specs.declared.NodeId.{NodeId}
use Rattle.am_names.specs.declared.Parcel.{Parcel}
use Rattle.am_names.specs.declared.AnswerPacket.{AnswerPacket}
use Rattle.am_names.specs.declared.Packet.TheVariants as Packets
use Rattle.am_office_entries.specs.declared.Entry.{Entry}
use Rattle.am_names.specs.Names.{is_well_formed}
use Rattle.am_model_parts.specs.declared.work.Work.{Work}
use Rattle.am_model_parts.specs.declared.work.Work.TheVariants as Works
use Rattle.am_model_parts.specs.Interface.{InterfaceLog}
use Rattle.am_iface.specs.Settings.{SettingsView}

pub record InterfaceView : Type 0 where
  pub settings : SettingsView
  pub log : List Entry

-- what the interface says its work comes to is read off its settings and its log
abbrev pub own : InterfaceView → InterfaceLog
own v =
    record {
      settings =
          record {
            node = v.settings.node;
            channels = v.settings.channels;
            tries = v.settings.tries;
            bounces = v.settings.bounces;
            homes = v.settings.homes;
          };
      log = v.log;
    }

-- a peer and a channel are of the settings
pub record IsChannelOf (set : SettingsView) (to : NodeId) (number : ℕ) : Type 0 where
  pub peer : to.0 < set.nodes
  pub channel : number < set.channels

-- a parcel to the node, of a sequence from 1 and with a well formed message
pub record FitsParcel (set : SettingsView) (p : Parcel) : Type 0 where
  pub to : p.to ≡ set.node
  pub on : IsChannelOf set p.from p.channel
  pub seq : 1 ≤ p.seq
  pub formed : is_well_formed p.message ≡ true

-- an answer to the node
pub record FitsAnswer (set : SettingsView) (p : AnswerPacket) : Type 0 where
  pub to : p.to ≡ set.node
  pub on : IsChannelOf set p.from p.channel

-- a received packet is addressed to the node, and every peer and channel that the work names is of the settings
abbrev pub FitsInterface : InterfaceView → Work → Type 0
FitsInterface v (Works.Receive (Packets.Parcel p)) = FitsParcel v.settings p
FitsInterface v (Works.Receive (Packets.Answer p)) = FitsAnswer v.settings p
FitsInterface v (Works.Bind end) = Unit {0}
FitsInterface v (Works.Expire peer channel) = IsChannelOf v.settings peer channel

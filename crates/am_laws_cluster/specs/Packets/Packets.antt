-- What an interface may be given, and what it may settle.
use Rattle.std.specs.Prelude.{◌≡◌, ◌<◌, ◌≤◌, true, is_some, List}
use Rattle.am_names.specs.declared.Message.{Message}
use Rattle.am_names.specs.declared.Parcel.{Parcel}
use Rattle.am_names.specs.declared.Packet.{Packet}
use Rattle.am_names.specs.declared.Packet.TheVariants as Packets
use Rattle.am_office_entries.specs.declared.Entry.{Entry}
use Rattle.am_names.specs.Names.{is_well_formed}
use Rattle.am_model.specs.Changes.{flying_of}
use Rattle.am_model.specs.Layout.{Layout, declared}
use Rattle.am_model.specs.History.{state_of}

-- a parcel goes over a channel that there is, in a sequence from 1, with a well formed message to a declared endpoint
pub record FitsAsParcel (layout : Layout) (q : Parcel) : Type 0 where
  pub channel : q.channel < layout.channels
  pub seq : 1 ≤ q.seq
  pub formed : is_well_formed q.message ≡ true
  pub dest : declared layout q.message.dest ≡ true

-- an answer goes over a channel that there is
abbrev pub FitsReceiver : Layout → Packet → Type 0
FitsReceiver layout (Packets.Parcel q) = FitsAsParcel layout q
FitsReceiver layout (Packets.Answer a) = a.channel < layout.channels

-- a message is in flight at its source, which is declared
pub record IsAloft (layout : Layout) (past : List Entry) (m : Message) : Type 0 where
  pub flight : is_some (flying_of m.serial (state_of layout past m.serial.source).body.in_flight) ≡ true
  pub source : declared layout m.serial.source ≡ true

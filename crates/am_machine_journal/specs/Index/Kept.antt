-- What an index keeps.
use Rattle.std.specs.Prelude.{◌≡◌, Bool, nat_lt, List, map, length, vec_len, vec_capacity}
use Rattle.std.specs.Global.{Vec}
use Rattle.am_names.specs.declared.Packet.{Packet}
use Rattle.am_machine_journal.specs.Index.View.{IndexView}
use Rattle.am_machine_journal.specs.declared.index.JournalIndex.TheInside.{Inside}

abbrev pub has_space : Vec Packet → Bool
has_space v = nat_lt (vec_len v) (vec_capacity v)

abbrev pub items_of : Vec Packet → List Packet
items_of v = v.items

abbrev pub view_of : Inside → IndexView
view_of j =
    record {
      read = record { greatest = j.greatest; received = j.receipts; packets = map items_of j.packets.items };
      links = map has_space j.packets.items;
    }

-- it has a number and packets for each link between 16 nodes
pub record IsWhole (j : Inside) : Type 0 where
  pub numbers : length j.receipts ≡ 256
  pub links : length j.packets.items ≡ 256

-- The words of the one-line texts.
use Rattle.std.specs.Prelude.{ℕ, List, ◌++◌, codes}
use Rattle.std.specs.Fmt.{decimal}
use Rattle.am_office_entries.specs.declared.Condition.{Condition}
use Rattle.am_office_entries.specs.declared.Condition.TheVariants as Needs
use Rattle.am_office_entries.specs.declared.Part.{Part}
use Rattle.am_office_entries.specs.declared.Part.TheVariants as Parts

unfoldable pub condition_word : Condition → List ℕ
condition_word Needs.OnDisk = codes "on-disk"
condition_word Needs.NotOnDisk = codes "not-on-disk"
condition_word Needs.NotDirect = codes "not-direct"
condition_word Needs.NoMessage = codes "no-message"
condition_word Needs.NotPacket = codes "not-packet"
condition_word Needs.OtherNode = codes "other-node"
condition_word Needs.NotResident = codes "not-resident"
condition_word Needs.Draining = codes "draining"
condition_word Needs.NoChannel = codes "no-channel"
condition_word Needs.Idle = codes "idle"
condition_word Needs.NoPacket = codes "no-packet"
condition_word Needs.NotDraining = codes "not-draining"
condition_word Needs.InFlight = codes "in-flight"
condition_word Needs.NotOnHost = codes "not-on-host"
condition_word Needs.Closed = codes "closed"
condition_word Needs.FrameHeld = codes "frame-held"

-- a part of the machine: `e` and the number of an endpoint, `i` and the number of an interface's node
abbrev pub part_word : Part → List ℕ
part_word (Parts.Endpoint e) = codes "e" ++ decimal e.0
part_word (Parts.Interface node) = codes "i" ++ decimal node.0

-- Where an endpoint lies, as its lane shows it.
use Rattle.std.specs.Prelude.{Bool, true, false, ◌==◌}
use Rattle.am_office_entries.specs.declared.Place.{Place}
use Rattle.am_office_entries.specs.declared.Place.TheVariants as Places
use Rattle.am_lab_picture.specs.declared.data.Residency.{Residency}
use Rattle.am_lab_picture.specs.declared.data.Residency.TheVariants.{Direct, Draining, Disk, Frame, Host}

-- an endpoint that lies there, and drains or not; outside of frames that isn't shown
abbrev pub residency_of : Place → Bool → Residency
residency_of Places.Direct draining = Direct
residency_of (Places.Frame frame) false = Frame frame
residency_of (Places.Frame frame) true = Draining frame
residency_of Places.Host draining = Host
residency_of Places.Disk draining = Disk

abbrev pub same_residency : Residency → Residency → Bool
same_residency Direct Direct = true
same_residency (Frame a) (Frame b) = a == b
same_residency (Draining a) (Draining b) = a == b
same_residency Host Host = true
same_residency Disk Disk = true
same_residency a b = false

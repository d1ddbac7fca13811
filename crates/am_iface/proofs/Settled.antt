-- The message that is given up.
use Rattle.std.proofs.Common.{◌≡◌, Bool, true, false, Some, refl, if◌then◌else◌}
use Rattle.am_names.specs.declared.Serial.{Serial}
use Rattle.am_office_entries.specs.declared.Outcome.TheVariants as Out
use Rattle.am_model.specs.Changes.{given_up_by}

pub given_up_serial : (answered : Bool) (serial : Serial) → given_up_by (if answered then Out.Delivered serial else Out.Unknown serial) ≡ Some serial
given_up_serial true serial = refl
given_up_serial false serial = refl

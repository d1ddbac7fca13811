-- What an endpoint begins with.
use Rattle.std.specs.Prelude.{◌≡◌, ◌≤◌, Bool, true, false}
use Rattle.am_office_entries.specs.declared.Place.{Place}
use Rattle.am_office_entries.specs.declared.Place.TheVariants.{Host, Disk, Frame, Direct}
use Rattle.am_model.specs.Layout.{IsPoolLawful}
use Rattle.am_endpoint_body.specs.declared.settings.EndSettings.{EndSettings}

-- whether an endpoint may begin there
abbrev pub is_opening_place : Place → Bool
is_opening_place Host = true
is_opening_place Disk = true
is_opening_place Direct = true
is_opening_place (Frame frame) = false

-- the settings are in range
pub record AreLawful (set : EndSettings) : Type 0 where
  pub place : is_opening_place set.place ≡ true
  pub log : (1 ≤ set.log) × (set.log ≤ 65536)
  pub bounces : set.bounces ≤ 16
  pub pool : IsPoolLawful set.pool

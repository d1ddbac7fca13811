-- A frame is free once its endpoint is unloaded.
use Rattle.std.specs.Prelude.{false, None, List, [], ◌∷◌}
use Rattle.am_office_entries.specs.declared.Event.TheVariants as Events
use Rattle.am_office_entries.specs.declared.Outcome.TheVariants as Out
use Rattle.am_office_entries.specs.declared.Entry.{Entry}
use Rattle.am_model.specs.Layout.{Layout}

abbrev pub layout : Layout
layout =
    record {
      direct = false;
      nodes = 1;
      frames = 2;
      channels = 1;
      tries = 4;
      bounces = 3;
      pool = None;
      log = 65536;
      ends =
          record { id = (record { 0 = 0 }); node = (record { 0 = 0 }); tag = (record { 0 = 5 }); disk = false } ∷ record { id = (record { 0 = 1 }); node = (record { 0 = 0 }); tag = (record { 0 = 7 }); disk = false } ∷ record { id = (record { 0 = 2 }); node = (record { 0 = 0 }); tag = (record { 0 = 9 }); disk = false } ∷ [];
      faults = [];
    }

abbrev pub journal : List Entry
journal =
    record { stamp = 1; event = Events.Load (record { 0 = 0 }) (record { 0 = 0 }) 0; outcome = Out.Silent }
    ∷ record { stamp = 2; event = Events.Load (record { 0 = 0 }) (record { 0 = 1 }) 1; outcome = Out.Silent }
    ∷ record { stamp = 3; event = Events.Drain (record { 0 = 0 }) (record { 0 = 1 }); outcome = Out.Silent }
    ∷ record { stamp = 4; event = Events.Unload (record { 0 = 0 }) (record { 0 = 1 }); outcome = Out.Silent }
    ∷ record { stamp = 5; event = Events.Load (record { 0 = 0 }) (record { 0 = 2 }) 1; outcome = Out.Silent }
    ∷ []

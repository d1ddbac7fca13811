-- A read of the swap fails, and the endpoint comes in at the next.
use Rattle.std.specs.Prelude.{false, None, List, [], ◌∷◌}
use Rattle.am_names.specs.declared.MsgKind.TheVariants as Kind
use Rattle.am_names.specs.declared.Message.{Message}
use Rattle.am_office_entries.specs.declared.Actor.TheVariants.{Outside}
use Rattle.am_office_entries.specs.declared.Call.TheVariants as Calls
use Rattle.am_office_entries.specs.declared.Event.TheVariants as Events
use Rattle.am_office_entries.specs.declared.Refusal.TheVariants as No
use Rattle.am_office_entries.specs.declared.Outcome.TheVariants as Out
use Rattle.am_office_entries.specs.declared.Entry.{Entry}
use Rattle.am_model.specs.Layout.{Layout}

abbrev pub layout : Layout
layout =
    record {
      direct = false;
      nodes = 1;
      frames = 16;
      channels = 1;
      tries = 4;
      bounces = 3;
      pool = None;
      log = 65536;
      ends =
          record { id = (record { 0 = 0 }); node = (record { 0 = 0 }); tag = (record { 0 = 5 }); disk = false } ∷ [];
      faults = record { node = (record { 0 = 0 }); number = 2 } ∷ [];
    }

abbrev pub m1 : Message
m1 =
    record {
      serial = record { source = (record { 0 = 0 }); count = 1 };
      kind = Kind.Request;
      dest = (record { 0 = 0 });
      tag = (record { 0 = 5 });
      reply_tag = (record { 0 = 5 });
      handler = 1;
      words = record { a = 1; b = 0; c = 0; d = 0 };
      about = None;
    }

abbrev pub m2 : Message
m2 =
    record {
      serial = record { source = (record { 0 = 0 }); count = 2 };
      kind = Kind.Request;
      dest = (record { 0 = 0 });
      tag = (record { 0 = 5 });
      reply_tag = (record { 0 = 5 });
      handler = 1;
      words = record { a = 2; b = 0; c = 0; d = 0 };
      about = None;
    }

abbrev pub m3 : Message
m3 =
    record {
      serial = record { source = (record { 0 = 0 }); count = 3 };
      kind = Kind.Request;
      dest = (record { 0 = 0 });
      tag = (record { 0 = 5 });
      reply_tag = (record { 0 = 5 });
      handler = 1;
      words = record { a = 3; b = 0; c = 0; d = 0 };
      about = None;
    }

abbrev pub journal : List Entry
journal =
    record { stamp = 1; event = Events.Call Outside (record { 0 = 0 }) (Calls.Map 0 (record { 0 = 0 }) (record { 0 = 5 }) 4); outcome = Out.Done }
    ∷ record { stamp = 2; event = Events.Call Outside (record { 0 = 0 }) (Calls.Request 0 1 (record { a = 1; b = 0; c = 0; d = 0 })); outcome = Out.Requested m1 }
    ∷ record { stamp = 3; event = Events.Call Outside (record { 0 = 0 }) (Calls.Request 0 1 (record { a = 2; b = 0; c = 0; d = 0 })); outcome = Out.Requested m2 }
    ∷ record { stamp = 4; event = Events.PageOut (record { 0 = 0 }) (record { 0 = 0 }); outcome = Out.Done }
    ∷ record { stamp = 5; event = Events.Want Outside (record { 0 = 0 }); outcome = Out.Silent }
    ∷ record { stamp = 6; event = Events.PageIn (record { 0 = 0 }) (record { 0 = 0 }); outcome = Out.Failed }
    ∷ record { stamp = 7; event = Events.PageIn (record { 0 = 0 }) (record { 0 = 0 }); outcome = Out.Done }
    ∷ record { stamp = 8; event = Events.Call Outside (record { 0 = 0 }) (Calls.Unmap 0); outcome = Out.Refused (No.Outstanding 2) }
    ∷ record { stamp = 9; event = Events.Call Outside (record { 0 = 0 }) (Calls.Request 0 1 (record { a = 3; b = 0; c = 0; d = 0 })); outcome = Out.Requested m3 }
    ∷ []

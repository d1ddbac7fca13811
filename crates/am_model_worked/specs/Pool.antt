-- Two indexes share a pool, and each has its share.
use Rattle.std.specs.Prelude.{true, false, Some, None, List, [], ◌∷◌}
use Rattle.am_names.specs.declared.MsgKind.TheVariants as Kind
use Rattle.am_names.specs.declared.Message.{Message}
use Rattle.am_office_entries.specs.declared.Actor.TheVariants.{Outside}
use Rattle.am_office_entries.specs.declared.Call.TheVariants as Calls
use Rattle.am_office_entries.specs.declared.Event.TheVariants as Events
use Rattle.am_office_entries.specs.declared.Refusal.TheVariants as No
use Rattle.am_office_entries.specs.declared.Outcome.TheVariants as Out
use Rattle.am_office_entries.specs.declared.Entry.{Entry}
use Rattle.am_model.specs.Layout.{Layout}

abbrev pub layout : Layout
layout =
    record {
      direct = true;
      nodes = 1;
      frames = 16;
      channels = 1;
      tries = 4;
      bounces = 3;
      pool = Some 2;
      log = 65536;
      ends =
          record { id = (record { 0 = 0 }); node = (record { 0 = 0 }); tag = (record { 0 = 5 }); disk = false } ∷ record { id = (record { 0 = 1 }); node = (record { 0 = 0 }); tag = (record { 0 = 7 }); disk = false } ∷ [];
      faults = [];
    }

abbrev pub m1 : Message
m1 =
    record {
      serial = record { source = (record { 0 = 0 }); count = 1 };
      kind = Kind.Request;
      dest = (record { 0 = 1 });
      tag = (record { 0 = 7 });
      reply_tag = (record { 0 = 5 });
      handler = 1;
      words = record { a = 0; b = 0; c = 0; d = 0 };
      about = None;
    }

abbrev pub m2 : Message
m2 =
    record {
      serial = record { source = (record { 0 = 0 }); count = 2 };
      kind = Kind.Request;
      dest = (record { 0 = 1 });
      tag = (record { 0 = 7 });
      reply_tag = (record { 0 = 5 });
      handler = 1;
      words = record { a = 0; b = 0; c = 0; d = 0 };
      about = None;
    }

abbrev pub m3 : Message
m3 =
    record {
      serial = record { source = (record { 0 = 0 }); count = 3 };
      kind = Kind.Request;
      dest = (record { 0 = 1 });
      tag = (record { 0 = 7 });
      reply_tag = (record { 0 = 5 });
      handler = 1;
      words = record { a = 0; b = 0; c = 0; d = 0 };
      about = None;
    }

abbrev pub journal : List Entry
journal =
    record { stamp = 1; event = Events.Call Outside (record { 0 = 0 }) (Calls.Map 0 (record { 0 = 1 }) (record { 0 = 7 }) 1); outcome = Out.Done }
    ∷ record { stamp = 2; event = Events.Call Outside (record { 0 = 0 }) (Calls.Map 1 (record { 0 = 1 }) (record { 0 = 7 }) 0); outcome = Out.Done }
    ∷ record { stamp = 3; event = Events.Call Outside (record { 0 = 0 }) (Calls.Request 1 1 (record { a = 0; b = 0; c = 0; d = 0 })); outcome = Out.Requested m1 }
    ∷ record { stamp = 4; event = Events.Call Outside (record { 0 = 0 }) (Calls.Request 1 1 (record { a = 0; b = 0; c = 0; d = 0 })); outcome = Out.Requested m2 }
    ∷ record { stamp = 5; event = Events.Call Outside (record { 0 = 0 }) (Calls.Request 1 1 (record { a = 0; b = 0; c = 0; d = 0 })); outcome = Out.Refused No.NoCredit }
    ∷ record { stamp = 6; event = Events.Call Outside (record { 0 = 0 }) (Calls.Request 0 1 (record { a = 0; b = 0; c = 0; d = 0 })); outcome = Out.Requested m3 }
    ∷ record { stamp = 7; event = Events.Call Outside (record { 0 = 0 }) (Calls.Request 0 1 (record { a = 0; b = 0; c = 0; d = 0 })); outcome = Out.Refused No.NoCredit }
    ∷ record { stamp = 8; event = Events.Call Outside (record { 0 = 0 }) (Calls.Map 2 (record { 0 = 1 }) (record { 0 = 7 }) 8); outcome = Out.Done }
    ∷ record { stamp = 9; event = Events.Call Outside (record { 0 = 0 }) (Calls.Map 3 (record { 0 = 1 }) (record { 0 = 7 }) 8); outcome = Out.Done }
    ∷ record { stamp = 10; event = Events.Call Outside (record { 0 = 0 }) (Calls.Map 4 (record { 0 = 1 }) (record { 0 = 7 }) 8); outcome = Out.Done }
    ∷ record { stamp = 11; event = Events.Call Outside (record { 0 = 0 }) (Calls.Map 5 (record { 0 = 1 }) (record { 0 = 7 }) 8); outcome = Out.Refused (No.OverShare 25) }
    ∷ record { stamp = 12; event = Events.Call Outside (record { 0 = 0 }) (Calls.Map 5 (record { 0 = 1 }) (record { 0 = 7 }) 5); outcome = Out.Done }
    ∷ []

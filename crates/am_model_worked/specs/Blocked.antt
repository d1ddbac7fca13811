-- A request waits while its endpoint has sixteen replies to send.
use Rattle.std.specs.Prelude.{true, false, Some, None, List, [], ◌∷◌}
use Rattle.am_names.specs.declared.MsgKind.TheVariants as Kind
use Rattle.am_names.specs.declared.Message.{Message}
use Rattle.am_office_entries.specs.declared.HandlerKind.TheVariants.{Note}
use Rattle.am_office_entries.specs.declared.Mask.TheVariants.{NoEvents, NotEmpty}
use Rattle.am_office_entries.specs.declared.Actor.TheVariants.{Outside}
use Rattle.am_office_entries.specs.declared.Call.TheVariants as Calls
use Rattle.am_office_entries.specs.declared.Event.TheVariants as Events
use Rattle.am_office_entries.specs.declared.Outcome.TheVariants as Out
use Rattle.am_office_entries.specs.declared.Entry.{Entry}
use Rattle.am_model.specs.Layout.{Layout}

abbrev pub layout : Layout
layout =
    record {
      direct = true;
      nodes = 1;
      frames = 16;
      channels = 1;
      tries = 4;
      bounces = 3;
      pool = None;
      log = 65536;
      ends =
          record { id = (record { 0 = 0 }); node = (record { 0 = 0 }); tag = (record { 0 = 5 }); disk = false } ∷ record { id = (record { 0 = 1 }); node = (record { 0 = 0 }); tag = (record { 0 = 7 }); disk = false } ∷ [];
      faults = [];
    }

abbrev pub m1 : Message
m1 =
    record {
      serial = record { source = (record { 0 = 0 }); count = 1 };
      kind = Kind.Request;
      dest = (record { 0 = 1 });
      tag = (record { 0 = 7 });
      reply_tag = (record { 0 = 5 });
      handler = 1;
      words = record { a = 0; b = 0; c = 0; d = 0 };
      about = None;
    }

abbrev pub m2 : Message
m2 =
    record {
      serial = record { source = (record { 0 = 1 }); count = 1 };
      kind = Kind.Empty;
      dest = (record { 0 = 0 });
      tag = (record { 0 = 5 });
      reply_tag = (record { 0 = 0 });
      handler = 0;
      words = record { a = 0; b = 0; c = 0; d = 0 };
      about = Some m1.serial;
    }

abbrev pub m3 : Message
m3 =
    record {
      serial = record { source = (record { 0 = 0 }); count = 2 };
      kind = Kind.Request;
      dest = (record { 0 = 1 });
      tag = (record { 0 = 7 });
      reply_tag = (record { 0 = 5 });
      handler = 1;
      words = record { a = 0; b = 0; c = 0; d = 0 };
      about = None;
    }

abbrev pub m4 : Message
m4 =
    record {
      serial = record { source = (record { 0 = 1 }); count = 2 };
      kind = Kind.Empty;
      dest = (record { 0 = 0 });
      tag = (record { 0 = 5 });
      reply_tag = (record { 0 = 0 });
      handler = 0;
      words = record { a = 0; b = 0; c = 0; d = 0 };
      about = Some m3.serial;
    }

abbrev pub m5 : Message
m5 =
    record {
      serial = record { source = (record { 0 = 0 }); count = 3 };
      kind = Kind.Request;
      dest = (record { 0 = 1 });
      tag = (record { 0 = 7 });
      reply_tag = (record { 0 = 5 });
      handler = 1;
      words = record { a = 0; b = 0; c = 0; d = 0 };
      about = None;
    }

abbrev pub m6 : Message
m6 =
    record {
      serial = record { source = (record { 0 = 1 }); count = 3 };
      kind = Kind.Empty;
      dest = (record { 0 = 0 });
      tag = (record { 0 = 5 });
      reply_tag = (record { 0 = 0 });
      handler = 0;
      words = record { a = 0; b = 0; c = 0; d = 0 };
      about = Some m5.serial;
    }

abbrev pub m7 : Message
m7 =
    record {
      serial = record { source = (record { 0 = 0 }); count = 4 };
      kind = Kind.Request;
      dest = (record { 0 = 1 });
      tag = (record { 0 = 7 });
      reply_tag = (record { 0 = 5 });
      handler = 1;
      words = record { a = 0; b = 0; c = 0; d = 0 };
      about = None;
    }

abbrev pub m8 : Message
m8 =
    record {
      serial = record { source = (record { 0 = 1 }); count = 4 };
      kind = Kind.Empty;
      dest = (record { 0 = 0 });
      tag = (record { 0 = 5 });
      reply_tag = (record { 0 = 0 });
      handler = 0;
      words = record { a = 0; b = 0; c = 0; d = 0 };
      about = Some m7.serial;
    }

abbrev pub m9 : Message
m9 =
    record {
      serial = record { source = (record { 0 = 0 }); count = 5 };
      kind = Kind.Request;
      dest = (record { 0 = 1 });
      tag = (record { 0 = 7 });
      reply_tag = (record { 0 = 5 });
      handler = 1;
      words = record { a = 0; b = 0; c = 0; d = 0 };
      about = None;
    }

abbrev pub m10 : Message
m10 =
    record {
      serial = record { source = (record { 0 = 1 }); count = 5 };
      kind = Kind.Empty;
      dest = (record { 0 = 0 });
      tag = (record { 0 = 5 });
      reply_tag = (record { 0 = 0 });
      handler = 0;
      words = record { a = 0; b = 0; c = 0; d = 0 };
      about = Some m9.serial;
    }

abbrev pub m11 : Message
m11 =
    record {
      serial = record { source = (record { 0 = 0 }); count = 6 };
      kind = Kind.Request;
      dest = (record { 0 = 1 });
      tag = (record { 0 = 7 });
      reply_tag = (record { 0 = 5 });
      handler = 1;
      words = record { a = 0; b = 0; c = 0; d = 0 };
      about = None;
    }

abbrev pub m12 : Message
m12 =
    record {
      serial = record { source = (record { 0 = 1 }); count = 6 };
      kind = Kind.Empty;
      dest = (record { 0 = 0 });
      tag = (record { 0 = 5 });
      reply_tag = (record { 0 = 0 });
      handler = 0;
      words = record { a = 0; b = 0; c = 0; d = 0 };
      about = Some m11.serial;
    }

abbrev pub m13 : Message
m13 =
    record {
      serial = record { source = (record { 0 = 0 }); count = 7 };
      kind = Kind.Request;
      dest = (record { 0 = 1 });
      tag = (record { 0 = 7 });
      reply_tag = (record { 0 = 5 });
      handler = 1;
      words = record { a = 0; b = 0; c = 0; d = 0 };
      about = None;
    }

abbrev pub m14 : Message
m14 =
    record {
      serial = record { source = (record { 0 = 1 }); count = 7 };
      kind = Kind.Empty;
      dest = (record { 0 = 0 });
      tag = (record { 0 = 5 });
      reply_tag = (record { 0 = 0 });
      handler = 0;
      words = record { a = 0; b = 0; c = 0; d = 0 };
      about = Some m13.serial;
    }

abbrev pub m15 : Message
m15 =
    record {
      serial = record { source = (record { 0 = 0 }); count = 8 };
      kind = Kind.Request;
      dest = (record { 0 = 1 });
      tag = (record { 0 = 7 });
      reply_tag = (record { 0 = 5 });
      handler = 1;
      words = record { a = 0; b = 0; c = 0; d = 0 };
      about = None;
    }

abbrev pub m16 : Message
m16 =
    record {
      serial = record { source = (record { 0 = 1 }); count = 8 };
      kind = Kind.Empty;
      dest = (record { 0 = 0 });
      tag = (record { 0 = 5 });
      reply_tag = (record { 0 = 0 });
      handler = 0;
      words = record { a = 0; b = 0; c = 0; d = 0 };
      about = Some m15.serial;
    }

abbrev pub m17 : Message
m17 =
    record {
      serial = record { source = (record { 0 = 0 }); count = 9 };
      kind = Kind.Request;
      dest = (record { 0 = 1 });
      tag = (record { 0 = 7 });
      reply_tag = (record { 0 = 5 });
      handler = 1;
      words = record { a = 0; b = 0; c = 0; d = 0 };
      about = None;
    }

abbrev pub m18 : Message
m18 =
    record {
      serial = record { source = (record { 0 = 1 }); count = 9 };
      kind = Kind.Empty;
      dest = (record { 0 = 0 });
      tag = (record { 0 = 5 });
      reply_tag = (record { 0 = 0 });
      handler = 0;
      words = record { a = 0; b = 0; c = 0; d = 0 };
      about = Some m17.serial;
    }

abbrev pub m19 : Message
m19 =
    record {
      serial = record { source = (record { 0 = 0 }); count = 10 };
      kind = Kind.Request;
      dest = (record { 0 = 1 });
      tag = (record { 0 = 7 });
      reply_tag = (record { 0 = 5 });
      handler = 1;
      words = record { a = 0; b = 0; c = 0; d = 0 };
      about = None;
    }

abbrev pub m20 : Message
m20 =
    record {
      serial = record { source = (record { 0 = 1 }); count = 10 };
      kind = Kind.Empty;
      dest = (record { 0 = 0 });
      tag = (record { 0 = 5 });
      reply_tag = (record { 0 = 0 });
      handler = 0;
      words = record { a = 0; b = 0; c = 0; d = 0 };
      about = Some m19.serial;
    }

abbrev pub m21 : Message
m21 =
    record {
      serial = record { source = (record { 0 = 0 }); count = 11 };
      kind = Kind.Request;
      dest = (record { 0 = 1 });
      tag = (record { 0 = 7 });
      reply_tag = (record { 0 = 5 });
      handler = 1;
      words = record { a = 0; b = 0; c = 0; d = 0 };
      about = None;
    }

abbrev pub m22 : Message
m22 =
    record {
      serial = record { source = (record { 0 = 1 }); count = 11 };
      kind = Kind.Empty;
      dest = (record { 0 = 0 });
      tag = (record { 0 = 5 });
      reply_tag = (record { 0 = 0 });
      handler = 0;
      words = record { a = 0; b = 0; c = 0; d = 0 };
      about = Some m21.serial;
    }

abbrev pub m23 : Message
m23 =
    record {
      serial = record { source = (record { 0 = 0 }); count = 12 };
      kind = Kind.Request;
      dest = (record { 0 = 1 });
      tag = (record { 0 = 7 });
      reply_tag = (record { 0 = 5 });
      handler = 1;
      words = record { a = 0; b = 0; c = 0; d = 0 };
      about = None;
    }

abbrev pub m24 : Message
m24 =
    record {
      serial = record { source = (record { 0 = 1 }); count = 12 };
      kind = Kind.Empty;
      dest = (record { 0 = 0 });
      tag = (record { 0 = 5 });
      reply_tag = (record { 0 = 0 });
      handler = 0;
      words = record { a = 0; b = 0; c = 0; d = 0 };
      about = Some m23.serial;
    }

abbrev pub m25 : Message
m25 =
    record {
      serial = record { source = (record { 0 = 0 }); count = 13 };
      kind = Kind.Request;
      dest = (record { 0 = 1 });
      tag = (record { 0 = 7 });
      reply_tag = (record { 0 = 5 });
      handler = 1;
      words = record { a = 0; b = 0; c = 0; d = 0 };
      about = None;
    }

abbrev pub m26 : Message
m26 =
    record {
      serial = record { source = (record { 0 = 1 }); count = 13 };
      kind = Kind.Empty;
      dest = (record { 0 = 0 });
      tag = (record { 0 = 5 });
      reply_tag = (record { 0 = 0 });
      handler = 0;
      words = record { a = 0; b = 0; c = 0; d = 0 };
      about = Some m25.serial;
    }

abbrev pub m27 : Message
m27 =
    record {
      serial = record { source = (record { 0 = 0 }); count = 14 };
      kind = Kind.Request;
      dest = (record { 0 = 1 });
      tag = (record { 0 = 7 });
      reply_tag = (record { 0 = 5 });
      handler = 1;
      words = record { a = 0; b = 0; c = 0; d = 0 };
      about = None;
    }

abbrev pub m28 : Message
m28 =
    record {
      serial = record { source = (record { 0 = 1 }); count = 14 };
      kind = Kind.Empty;
      dest = (record { 0 = 0 });
      tag = (record { 0 = 5 });
      reply_tag = (record { 0 = 0 });
      handler = 0;
      words = record { a = 0; b = 0; c = 0; d = 0 };
      about = Some m27.serial;
    }

abbrev pub m29 : Message
m29 =
    record {
      serial = record { source = (record { 0 = 0 }); count = 15 };
      kind = Kind.Request;
      dest = (record { 0 = 1 });
      tag = (record { 0 = 7 });
      reply_tag = (record { 0 = 5 });
      handler = 1;
      words = record { a = 0; b = 0; c = 0; d = 0 };
      about = None;
    }

abbrev pub m30 : Message
m30 =
    record {
      serial = record { source = (record { 0 = 1 }); count = 15 };
      kind = Kind.Empty;
      dest = (record { 0 = 0 });
      tag = (record { 0 = 5 });
      reply_tag = (record { 0 = 0 });
      handler = 0;
      words = record { a = 0; b = 0; c = 0; d = 0 };
      about = Some m29.serial;
    }

abbrev pub m31 : Message
m31 =
    record {
      serial = record { source = (record { 0 = 0 }); count = 16 };
      kind = Kind.Request;
      dest = (record { 0 = 1 });
      tag = (record { 0 = 7 });
      reply_tag = (record { 0 = 5 });
      handler = 1;
      words = record { a = 0; b = 0; c = 0; d = 0 };
      about = None;
    }

abbrev pub m32 : Message
m32 =
    record {
      serial = record { source = (record { 0 = 1 }); count = 16 };
      kind = Kind.Empty;
      dest = (record { 0 = 0 });
      tag = (record { 0 = 5 });
      reply_tag = (record { 0 = 0 });
      handler = 0;
      words = record { a = 0; b = 0; c = 0; d = 0 };
      about = Some m31.serial;
    }

abbrev pub m33 : Message
m33 =
    record {
      serial = record { source = (record { 0 = 0 }); count = 17 };
      kind = Kind.Request;
      dest = (record { 0 = 1 });
      tag = (record { 0 = 7 });
      reply_tag = (record { 0 = 5 });
      handler = 1;
      words = record { a = 0; b = 0; c = 0; d = 0 };
      about = None;
    }

abbrev pub m34 : Message
m34 =
    record {
      serial = record { source = (record { 0 = 1 }); count = 17 };
      kind = Kind.Empty;
      dest = (record { 0 = 0 });
      tag = (record { 0 = 5 });
      reply_tag = (record { 0 = 0 });
      handler = 0;
      words = record { a = 0; b = 0; c = 0; d = 0 };
      about = Some m33.serial;
    }

abbrev pub journal : List Entry
journal =
    record { stamp = 1; event = Events.Call Outside (record { 0 = 1 }) (Calls.SetHandler 1 Note); outcome = Out.Done }
    ∷ record { stamp = 2; event = Events.Call Outside (record { 0 = 0 }) (Calls.Map 0 (record { 0 = 1 }) (record { 0 = 7 }) 8); outcome = Out.Done }
    ∷ record { stamp = 3; event = Events.Call Outside (record { 0 = 0 }) (Calls.Map 1 (record { 0 = 1 }) (record { 0 = 7 }) 8); outcome = Out.Done }
    ∷ record { stamp = 4; event = Events.Call Outside (record { 0 = 0 }) (Calls.Map 2 (record { 0 = 1 }) (record { 0 = 7 }) 8); outcome = Out.Done }
    ∷ record { stamp = 5; event = Events.Call Outside (record { 0 = 0 }) (Calls.Request 0 1 (record { a = 0; b = 0; c = 0; d = 0 })); outcome = Out.Requested m1 }
    ∷ record { stamp = 6; event = Events.Carry (record { 0 = 0 }); outcome = Out.Accepted m1 }
    ∷ record { stamp = 7; event = Events.Call Outside (record { 0 = 1 }) Calls.Poll; outcome = Out.Ran (Some 1) m1 (Some m2) }
    ∷ record { stamp = 8; event = Events.Call Outside (record { 0 = 0 }) (Calls.Request 0 1 (record { a = 0; b = 0; c = 0; d = 0 })); outcome = Out.Requested m3 }
    ∷ record { stamp = 9; event = Events.Carry (record { 0 = 0 }); outcome = Out.Accepted m3 }
    ∷ record { stamp = 10; event = Events.Call Outside (record { 0 = 1 }) Calls.Poll; outcome = Out.Ran (Some 1) m3 (Some m4) }
    ∷ record { stamp = 11; event = Events.Call Outside (record { 0 = 0 }) (Calls.Request 0 1 (record { a = 0; b = 0; c = 0; d = 0 })); outcome = Out.Requested m5 }
    ∷ record { stamp = 12; event = Events.Carry (record { 0 = 0 }); outcome = Out.Accepted m5 }
    ∷ record { stamp = 13; event = Events.Call Outside (record { 0 = 1 }) Calls.Poll; outcome = Out.Ran (Some 1) m5 (Some m6) }
    ∷ record { stamp = 14; event = Events.Call Outside (record { 0 = 0 }) (Calls.Request 0 1 (record { a = 0; b = 0; c = 0; d = 0 })); outcome = Out.Requested m7 }
    ∷ record { stamp = 15; event = Events.Carry (record { 0 = 0 }); outcome = Out.Accepted m7 }
    ∷ record { stamp = 16; event = Events.Call Outside (record { 0 = 1 }) Calls.Poll; outcome = Out.Ran (Some 1) m7 (Some m8) }
    ∷ record { stamp = 17; event = Events.Call Outside (record { 0 = 0 }) (Calls.Request 0 1 (record { a = 0; b = 0; c = 0; d = 0 })); outcome = Out.Requested m9 }
    ∷ record { stamp = 18; event = Events.Carry (record { 0 = 0 }); outcome = Out.Accepted m9 }
    ∷ record { stamp = 19; event = Events.Call Outside (record { 0 = 1 }) Calls.Poll; outcome = Out.Ran (Some 1) m9 (Some m10) }
    ∷ record { stamp = 20; event = Events.Call Outside (record { 0 = 0 }) (Calls.Request 0 1 (record { a = 0; b = 0; c = 0; d = 0 })); outcome = Out.Requested m11 }
    ∷ record { stamp = 21; event = Events.Carry (record { 0 = 0 }); outcome = Out.Accepted m11 }
    ∷ record { stamp = 22; event = Events.Call Outside (record { 0 = 1 }) Calls.Poll; outcome = Out.Ran (Some 1) m11 (Some m12) }
    ∷ record { stamp = 23; event = Events.Call Outside (record { 0 = 0 }) (Calls.Request 0 1 (record { a = 0; b = 0; c = 0; d = 0 })); outcome = Out.Requested m13 }
    ∷ record { stamp = 24; event = Events.Carry (record { 0 = 0 }); outcome = Out.Accepted m13 }
    ∷ record { stamp = 25; event = Events.Call Outside (record { 0 = 1 }) Calls.Poll; outcome = Out.Ran (Some 1) m13 (Some m14) }
    ∷ record { stamp = 26; event = Events.Call Outside (record { 0 = 0 }) (Calls.Request 0 1 (record { a = 0; b = 0; c = 0; d = 0 })); outcome = Out.Requested m15 }
    ∷ record { stamp = 27; event = Events.Carry (record { 0 = 0 }); outcome = Out.Accepted m15 }
    ∷ record { stamp = 28; event = Events.Call Outside (record { 0 = 1 }) Calls.Poll; outcome = Out.Ran (Some 1) m15 (Some m16) }
    ∷ record { stamp = 29; event = Events.Call Outside (record { 0 = 0 }) (Calls.Request 1 1 (record { a = 0; b = 0; c = 0; d = 0 })); outcome = Out.Requested m17 }
    ∷ record { stamp = 30; event = Events.Carry (record { 0 = 0 }); outcome = Out.Accepted m17 }
    ∷ record { stamp = 31; event = Events.Call Outside (record { 0 = 1 }) Calls.Poll; outcome = Out.Ran (Some 1) m17 (Some m18) }
    ∷ record { stamp = 32; event = Events.Call Outside (record { 0 = 0 }) (Calls.Request 1 1 (record { a = 0; b = 0; c = 0; d = 0 })); outcome = Out.Requested m19 }
    ∷ record { stamp = 33; event = Events.Carry (record { 0 = 0 }); outcome = Out.Accepted m19 }
    ∷ record { stamp = 34; event = Events.Call Outside (record { 0 = 1 }) Calls.Poll; outcome = Out.Ran (Some 1) m19 (Some m20) }
    ∷ record { stamp = 35; event = Events.Call Outside (record { 0 = 0 }) (Calls.Request 1 1 (record { a = 0; b = 0; c = 0; d = 0 })); outcome = Out.Requested m21 }
    ∷ record { stamp = 36; event = Events.Carry (record { 0 = 0 }); outcome = Out.Accepted m21 }
    ∷ record { stamp = 37; event = Events.Call Outside (record { 0 = 1 }) Calls.Poll; outcome = Out.Ran (Some 1) m21 (Some m22) }
    ∷ record { stamp = 38; event = Events.Call Outside (record { 0 = 0 }) (Calls.Request 1 1 (record { a = 0; b = 0; c = 0; d = 0 })); outcome = Out.Requested m23 }
    ∷ record { stamp = 39; event = Events.Carry (record { 0 = 0 }); outcome = Out.Accepted m23 }
    ∷ record { stamp = 40; event = Events.Call Outside (record { 0 = 1 }) Calls.Poll; outcome = Out.Ran (Some 1) m23 (Some m24) }
    ∷ record { stamp = 41; event = Events.Call Outside (record { 0 = 0 }) (Calls.Request 1 1 (record { a = 0; b = 0; c = 0; d = 0 })); outcome = Out.Requested m25 }
    ∷ record { stamp = 42; event = Events.Carry (record { 0 = 0 }); outcome = Out.Accepted m25 }
    ∷ record { stamp = 43; event = Events.Call Outside (record { 0 = 1 }) Calls.Poll; outcome = Out.Ran (Some 1) m25 (Some m26) }
    ∷ record { stamp = 44; event = Events.Call Outside (record { 0 = 0 }) (Calls.Request 1 1 (record { a = 0; b = 0; c = 0; d = 0 })); outcome = Out.Requested m27 }
    ∷ record { stamp = 45; event = Events.Carry (record { 0 = 0 }); outcome = Out.Accepted m27 }
    ∷ record { stamp = 46; event = Events.Call Outside (record { 0 = 1 }) Calls.Poll; outcome = Out.Ran (Some 1) m27 (Some m28) }
    ∷ record { stamp = 47; event = Events.Call Outside (record { 0 = 0 }) (Calls.Request 1 1 (record { a = 0; b = 0; c = 0; d = 0 })); outcome = Out.Requested m29 }
    ∷ record { stamp = 48; event = Events.Carry (record { 0 = 0 }); outcome = Out.Accepted m29 }
    ∷ record { stamp = 49; event = Events.Call Outside (record { 0 = 1 }) Calls.Poll; outcome = Out.Ran (Some 1) m29 (Some m30) }
    ∷ record { stamp = 50; event = Events.Call Outside (record { 0 = 0 }) (Calls.Request 1 1 (record { a = 0; b = 0; c = 0; d = 0 })); outcome = Out.Requested m31 }
    ∷ record { stamp = 51; event = Events.Carry (record { 0 = 0 }); outcome = Out.Accepted m31 }
    ∷ record { stamp = 52; event = Events.Call Outside (record { 0 = 1 }) Calls.Poll; outcome = Out.Ran (Some 1) m31 (Some m32) }
    ∷ record { stamp = 53; event = Events.Call Outside (record { 0 = 0 }) (Calls.Request 2 1 (record { a = 0; b = 0; c = 0; d = 0 })); outcome = Out.Requested m33 }
    ∷ record { stamp = 54; event = Events.Carry (record { 0 = 0 }); outcome = Out.Accepted m33 }
    ∷ record { stamp = 55; event = Events.Call Outside (record { 0 = 1 }) Calls.Poll; outcome = Out.Blocked }
    ∷ record { stamp = 56; event = Events.Call Outside (record { 0 = 1 }) (Calls.Test NotEmpty); outcome = Out.Ready }
    ∷ record { stamp = 57; event = Events.Call Outside (record { 0 = 1 }) (Calls.Test NoEvents); outcome = Out.Quiet }
    ∷ record { stamp = 58; event = Events.Carry (record { 0 = 1 }); outcome = Out.Accepted m2 }
    ∷ record { stamp = 59; event = Events.Call Outside (record { 0 = 1 }) Calls.Poll; outcome = Out.Ran (Some 1) m33 (Some m34) }
    ∷ []

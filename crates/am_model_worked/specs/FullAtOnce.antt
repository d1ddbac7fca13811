-- A queue that is full takes no more, and with no bounce allowed the message comes back at once.
use Rattle.std.specs.Prelude.{true, false, None, List, [], ◌∷◌}
use Rattle.am_names.specs.declared.Cause.TheVariants.{QueueFull}
use Rattle.am_names.specs.declared.MsgKind.TheVariants as Kind
use Rattle.am_names.specs.declared.Message.{Message}
use Rattle.am_office_entries.specs.declared.HandlerKind.TheVariants.{Note}
use Rattle.am_office_entries.specs.declared.Actor.TheVariants.{Outside}
use Rattle.am_office_entries.specs.declared.Call.TheVariants as Calls
use Rattle.am_office_entries.specs.declared.Event.TheVariants as Events
use Rattle.am_office_entries.specs.declared.Outcome.TheVariants as Out
use Rattle.am_office_entries.specs.declared.Entry.{Entry}
use Rattle.am_model.specs.Layout.{Layout}

abbrev pub layout : Layout
layout =
    record {
      direct = true;
      nodes = 1;
      frames = 16;
      channels = 1;
      tries = 4;
      bounces = 0;
      pool = None;
      log = 65536;
      ends =
          record { id = (record { 0 = 0 }); node = (record { 0 = 0 }); tag = (record { 0 = 5 }); disk = false } ∷ record { id = (record { 0 = 1 }); node = (record { 0 = 0 }); tag = (record { 0 = 7 }); disk = false } ∷ [];
      faults = [];
    }

abbrev pub m1 : Message
m1 =
    record {
      serial = record { source = (record { 0 = 0 }); count = 1 };
      kind = Kind.Request;
      dest = (record { 0 = 1 });
      tag = (record { 0 = 7 });
      reply_tag = (record { 0 = 5 });
      handler = 1;
      words = record { a = 0; b = 0; c = 0; d = 0 };
      about = None;
    }

abbrev pub m2 : Message
m2 =
    record {
      serial = record { source = (record { 0 = 0 }); count = 2 };
      kind = Kind.Request;
      dest = (record { 0 = 1 });
      tag = (record { 0 = 7 });
      reply_tag = (record { 0 = 5 });
      handler = 1;
      words = record { a = 0; b = 0; c = 0; d = 0 };
      about = None;
    }

abbrev pub m3 : Message
m3 =
    record {
      serial = record { source = (record { 0 = 0 }); count = 3 };
      kind = Kind.Request;
      dest = (record { 0 = 1 });
      tag = (record { 0 = 7 });
      reply_tag = (record { 0 = 5 });
      handler = 1;
      words = record { a = 0; b = 0; c = 0; d = 0 };
      about = None;
    }

abbrev pub m4 : Message
m4 =
    record {
      serial = record { source = (record { 0 = 0 }); count = 4 };
      kind = Kind.Request;
      dest = (record { 0 = 1 });
      tag = (record { 0 = 7 });
      reply_tag = (record { 0 = 5 });
      handler = 1;
      words = record { a = 0; b = 0; c = 0; d = 0 };
      about = None;
    }

abbrev pub m5 : Message
m5 =
    record {
      serial = record { source = (record { 0 = 0 }); count = 5 };
      kind = Kind.Request;
      dest = (record { 0 = 1 });
      tag = (record { 0 = 7 });
      reply_tag = (record { 0 = 5 });
      handler = 1;
      words = record { a = 0; b = 0; c = 0; d = 0 };
      about = None;
    }

abbrev pub m6 : Message
m6 =
    record {
      serial = record { source = (record { 0 = 0 }); count = 6 };
      kind = Kind.Request;
      dest = (record { 0 = 1 });
      tag = (record { 0 = 7 });
      reply_tag = (record { 0 = 5 });
      handler = 1;
      words = record { a = 0; b = 0; c = 0; d = 0 };
      about = None;
    }

abbrev pub m7 : Message
m7 =
    record {
      serial = record { source = (record { 0 = 0 }); count = 7 };
      kind = Kind.Request;
      dest = (record { 0 = 1 });
      tag = (record { 0 = 7 });
      reply_tag = (record { 0 = 5 });
      handler = 1;
      words = record { a = 0; b = 0; c = 0; d = 0 };
      about = None;
    }

abbrev pub m8 : Message
m8 =
    record {
      serial = record { source = (record { 0 = 0 }); count = 8 };
      kind = Kind.Request;
      dest = (record { 0 = 1 });
      tag = (record { 0 = 7 });
      reply_tag = (record { 0 = 5 });
      handler = 1;
      words = record { a = 0; b = 0; c = 0; d = 0 };
      about = None;
    }

abbrev pub m9 : Message
m9 =
    record {
      serial = record { source = (record { 0 = 0 }); count = 9 };
      kind = Kind.Request;
      dest = (record { 0 = 1 });
      tag = (record { 0 = 7 });
      reply_tag = (record { 0 = 5 });
      handler = 1;
      words = record { a = 0; b = 0; c = 0; d = 0 };
      about = None;
    }

abbrev pub m10 : Message
m10 =
    record {
      serial = record { source = (record { 0 = 0 }); count = 10 };
      kind = Kind.Request;
      dest = (record { 0 = 1 });
      tag = (record { 0 = 7 });
      reply_tag = (record { 0 = 5 });
      handler = 1;
      words = record { a = 0; b = 0; c = 0; d = 0 };
      about = None;
    }

abbrev pub m11 : Message
m11 =
    record {
      serial = record { source = (record { 0 = 0 }); count = 11 };
      kind = Kind.Request;
      dest = (record { 0 = 1 });
      tag = (record { 0 = 7 });
      reply_tag = (record { 0 = 5 });
      handler = 1;
      words = record { a = 0; b = 0; c = 0; d = 0 };
      about = None;
    }

abbrev pub m12 : Message
m12 =
    record {
      serial = record { source = (record { 0 = 0 }); count = 12 };
      kind = Kind.Request;
      dest = (record { 0 = 1 });
      tag = (record { 0 = 7 });
      reply_tag = (record { 0 = 5 });
      handler = 1;
      words = record { a = 0; b = 0; c = 0; d = 0 };
      about = None;
    }

abbrev pub m13 : Message
m13 =
    record {
      serial = record { source = (record { 0 = 0 }); count = 13 };
      kind = Kind.Request;
      dest = (record { 0 = 1 });
      tag = (record { 0 = 7 });
      reply_tag = (record { 0 = 5 });
      handler = 1;
      words = record { a = 0; b = 0; c = 0; d = 0 };
      about = None;
    }

abbrev pub m14 : Message
m14 =
    record {
      serial = record { source = (record { 0 = 0 }); count = 14 };
      kind = Kind.Request;
      dest = (record { 0 = 1 });
      tag = (record { 0 = 7 });
      reply_tag = (record { 0 = 5 });
      handler = 1;
      words = record { a = 0; b = 0; c = 0; d = 0 };
      about = None;
    }

abbrev pub m15 : Message
m15 =
    record {
      serial = record { source = (record { 0 = 0 }); count = 15 };
      kind = Kind.Request;
      dest = (record { 0 = 1 });
      tag = (record { 0 = 7 });
      reply_tag = (record { 0 = 5 });
      handler = 1;
      words = record { a = 0; b = 0; c = 0; d = 0 };
      about = None;
    }

abbrev pub m16 : Message
m16 =
    record {
      serial = record { source = (record { 0 = 0 }); count = 16 };
      kind = Kind.Request;
      dest = (record { 0 = 1 });
      tag = (record { 0 = 7 });
      reply_tag = (record { 0 = 5 });
      handler = 1;
      words = record { a = 0; b = 0; c = 0; d = 0 };
      about = None;
    }

abbrev pub m17 : Message
m17 =
    record {
      serial = record { source = (record { 0 = 0 }); count = 17 };
      kind = Kind.Request;
      dest = (record { 0 = 1 });
      tag = (record { 0 = 7 });
      reply_tag = (record { 0 = 5 });
      handler = 1;
      words = record { a = 0; b = 0; c = 0; d = 0 };
      about = None;
    }

abbrev pub journal : List Entry
journal =
    record { stamp = 1; event = Events.Call Outside (record { 0 = 1 }) (Calls.SetHandler 1 Note); outcome = Out.Done }
    ∷ record { stamp = 2; event = Events.Call Outside (record { 0 = 0 }) (Calls.Map 0 (record { 0 = 1 }) (record { 0 = 7 }) 8); outcome = Out.Done }
    ∷ record { stamp = 3; event = Events.Call Outside (record { 0 = 0 }) (Calls.Map 1 (record { 0 = 1 }) (record { 0 = 7 }) 8); outcome = Out.Done }
    ∷ record { stamp = 4; event = Events.Call Outside (record { 0 = 0 }) (Calls.Map 2 (record { 0 = 1 }) (record { 0 = 7 }) 8); outcome = Out.Done }
    ∷ record { stamp = 5; event = Events.Call Outside (record { 0 = 0 }) (Calls.Request 0 1 (record { a = 0; b = 0; c = 0; d = 0 })); outcome = Out.Requested m1 }
    ∷ record { stamp = 6; event = Events.Carry (record { 0 = 0 }); outcome = Out.Accepted m1 }
    ∷ record { stamp = 7; event = Events.Call Outside (record { 0 = 0 }) (Calls.Request 0 1 (record { a = 0; b = 0; c = 0; d = 0 })); outcome = Out.Requested m2 }
    ∷ record { stamp = 8; event = Events.Carry (record { 0 = 0 }); outcome = Out.Accepted m2 }
    ∷ record { stamp = 9; event = Events.Call Outside (record { 0 = 0 }) (Calls.Request 0 1 (record { a = 0; b = 0; c = 0; d = 0 })); outcome = Out.Requested m3 }
    ∷ record { stamp = 10; event = Events.Carry (record { 0 = 0 }); outcome = Out.Accepted m3 }
    ∷ record { stamp = 11; event = Events.Call Outside (record { 0 = 0 }) (Calls.Request 0 1 (record { a = 0; b = 0; c = 0; d = 0 })); outcome = Out.Requested m4 }
    ∷ record { stamp = 12; event = Events.Carry (record { 0 = 0 }); outcome = Out.Accepted m4 }
    ∷ record { stamp = 13; event = Events.Call Outside (record { 0 = 0 }) (Calls.Request 0 1 (record { a = 0; b = 0; c = 0; d = 0 })); outcome = Out.Requested m5 }
    ∷ record { stamp = 14; event = Events.Carry (record { 0 = 0 }); outcome = Out.Accepted m5 }
    ∷ record { stamp = 15; event = Events.Call Outside (record { 0 = 0 }) (Calls.Request 0 1 (record { a = 0; b = 0; c = 0; d = 0 })); outcome = Out.Requested m6 }
    ∷ record { stamp = 16; event = Events.Carry (record { 0 = 0 }); outcome = Out.Accepted m6 }
    ∷ record { stamp = 17; event = Events.Call Outside (record { 0 = 0 }) (Calls.Request 0 1 (record { a = 0; b = 0; c = 0; d = 0 })); outcome = Out.Requested m7 }
    ∷ record { stamp = 18; event = Events.Carry (record { 0 = 0 }); outcome = Out.Accepted m7 }
    ∷ record { stamp = 19; event = Events.Call Outside (record { 0 = 0 }) (Calls.Request 0 1 (record { a = 0; b = 0; c = 0; d = 0 })); outcome = Out.Requested m8 }
    ∷ record { stamp = 20; event = Events.Carry (record { 0 = 0 }); outcome = Out.Accepted m8 }
    ∷ record { stamp = 21; event = Events.Call Outside (record { 0 = 0 }) (Calls.Request 1 1 (record { a = 0; b = 0; c = 0; d = 0 })); outcome = Out.Requested m9 }
    ∷ record { stamp = 22; event = Events.Carry (record { 0 = 0 }); outcome = Out.Accepted m9 }
    ∷ record { stamp = 23; event = Events.Call Outside (record { 0 = 0 }) (Calls.Request 1 1 (record { a = 0; b = 0; c = 0; d = 0 })); outcome = Out.Requested m10 }
    ∷ record { stamp = 24; event = Events.Carry (record { 0 = 0 }); outcome = Out.Accepted m10 }
    ∷ record { stamp = 25; event = Events.Call Outside (record { 0 = 0 }) (Calls.Request 1 1 (record { a = 0; b = 0; c = 0; d = 0 })); outcome = Out.Requested m11 }
    ∷ record { stamp = 26; event = Events.Carry (record { 0 = 0 }); outcome = Out.Accepted m11 }
    ∷ record { stamp = 27; event = Events.Call Outside (record { 0 = 0 }) (Calls.Request 1 1 (record { a = 0; b = 0; c = 0; d = 0 })); outcome = Out.Requested m12 }
    ∷ record { stamp = 28; event = Events.Carry (record { 0 = 0 }); outcome = Out.Accepted m12 }
    ∷ record { stamp = 29; event = Events.Call Outside (record { 0 = 0 }) (Calls.Request 1 1 (record { a = 0; b = 0; c = 0; d = 0 })); outcome = Out.Requested m13 }
    ∷ record { stamp = 30; event = Events.Carry (record { 0 = 0 }); outcome = Out.Accepted m13 }
    ∷ record { stamp = 31; event = Events.Call Outside (record { 0 = 0 }) (Calls.Request 1 1 (record { a = 0; b = 0; c = 0; d = 0 })); outcome = Out.Requested m14 }
    ∷ record { stamp = 32; event = Events.Carry (record { 0 = 0 }); outcome = Out.Accepted m14 }
    ∷ record { stamp = 33; event = Events.Call Outside (record { 0 = 0 }) (Calls.Request 1 1 (record { a = 0; b = 0; c = 0; d = 0 })); outcome = Out.Requested m15 }
    ∷ record { stamp = 34; event = Events.Carry (record { 0 = 0 }); outcome = Out.Accepted m15 }
    ∷ record { stamp = 35; event = Events.Call Outside (record { 0 = 0 }) (Calls.Request 1 1 (record { a = 0; b = 0; c = 0; d = 0 })); outcome = Out.Requested m16 }
    ∷ record { stamp = 36; event = Events.Carry (record { 0 = 0 }); outcome = Out.Accepted m16 }
    ∷ record { stamp = 37; event = Events.Call Outside (record { 0 = 0 }) (Calls.Request 2 1 (record { a = 0; b = 0; c = 0; d = 0 })); outcome = Out.Requested m17 }
    ∷ record { stamp = 38; event = Events.Carry (record { 0 = 0 }); outcome = Out.Returned m17 QueueFull }
    ∷ []

-- Which tags are taken, and when a tag may be set.
use Rattle.std.specs.Prelude.{true, false, Some, None, List, [], ◌∷◌}
use Rattle.am_names.specs.declared.Cause.TheVariants.{BadTag}
use Rattle.am_names.specs.declared.Why.TheVariants as Whys
use Rattle.am_names.specs.declared.MsgKind.TheVariants as Kind
use Rattle.am_names.specs.declared.Message.{Message}
use Rattle.am_office_entries.specs.declared.HandlerKind.TheVariants.{Note}
use Rattle.am_office_entries.specs.declared.Actor.TheVariants.{Outside}
use Rattle.am_office_entries.specs.declared.Call.TheVariants as Calls
use Rattle.am_office_entries.specs.declared.Event.TheVariants as Events
use Rattle.am_office_entries.specs.declared.Refusal.TheVariants as No
use Rattle.am_office_entries.specs.declared.Outcome.TheVariants as Out
use Rattle.am_office_entries.specs.declared.Entry.{Entry}
use Rattle.am_model.specs.Layout.{Layout}

abbrev pub layout : Layout
layout =
    record {
      direct = true;
      nodes = 1;
      frames = 16;
      channels = 1;
      tries = 4;
      bounces = 3;
      pool = None;
      log = 65536;
      ends =
          record { id = (record { 0 = 0 }); node = (record { 0 = 0 }); tag = (record { 0 = 5 }); disk = false } ∷ record { id = (record { 0 = 1 }); node = (record { 0 = 0 }); tag = (record { 0 = 8 }); disk = false } ∷ [];
      faults = [];
    }

abbrev pub m1 : Message
m1 =
    record {
      serial = record { source = (record { 0 = 0 }); count = 1 };
      kind = Kind.Request;
      dest = (record { 0 = 1 });
      tag = (record { 0 = 7 });
      reply_tag = (record { 0 = 5 });
      handler = 1;
      words = record { a = 1; b = 0; c = 0; d = 0 };
      about = None;
    }

abbrev pub m2 : Message
m2 =
    record {
      serial = record { source = (record { 0 = 0 }); count = 2 };
      kind = Kind.Request;
      dest = (record { 0 = 1 });
      tag = (record { 0 = 7 });
      reply_tag = (record { 0 = 5 });
      handler = 1;
      words = record { a = 2; b = 0; c = 0; d = 0 };
      about = None;
    }

abbrev pub m3 : Message
m3 =
    record {
      serial = record { source = (record { 0 = 1 }); count = 1 };
      kind = Kind.Empty;
      dest = (record { 0 = 0 });
      tag = (record { 0 = 5 });
      reply_tag = (record { 0 = 0 });
      handler = 0;
      words = record { a = 0; b = 0; c = 0; d = 0 };
      about = Some m2.serial;
    }

abbrev pub m4 : Message
m4 =
    record {
      serial = record { source = (record { 0 = 0 }); count = 3 };
      kind = Kind.Request;
      dest = (record { 0 = 1 });
      tag = (record { 0 = 7 });
      reply_tag = (record { 0 = 5 });
      handler = 1;
      words = record { a = 3; b = 0; c = 0; d = 0 };
      about = None;
    }

abbrev pub journal : List Entry
journal =
    record { stamp = 1; event = Events.Call Outside (record { 0 = 1 }) (Calls.SetHandler 1 Note); outcome = Out.Done }
    ∷ record { stamp = 2; event = Events.Call Outside (record { 0 = 0 }) (Calls.Map 0 (record { 0 = 1 }) (record { 0 = 7 }) 4); outcome = Out.Done }
    ∷ record { stamp = 3; event = Events.Call Outside (record { 0 = 0 }) (Calls.Request 0 1 (record { a = 1; b = 0; c = 0; d = 0 })); outcome = Out.Requested m1 }
    ∷ record { stamp = 4; event = Events.Carry (record { 0 = 0 }); outcome = Out.Returned m1 BadTag }
    ∷ record { stamp = 5; event = Events.Call Outside (record { 0 = 0 }) Calls.Poll; outcome = Out.Zero m1.serial (Whys.Refused BadTag) }
    ∷ record { stamp = 6; event = Events.Call Outside (record { 0 = 1 }) (Calls.SetTag (record { 0 = 18446744073709551615 })); outcome = Out.Done }
    ∷ record { stamp = 7; event = Events.Call Outside (record { 0 = 0 }) (Calls.Request 0 1 (record { a = 2; b = 0; c = 0; d = 0 })); outcome = Out.Requested m2 }
    ∷ record { stamp = 8; event = Events.Carry (record { 0 = 0 }); outcome = Out.Accepted m2 }
    ∷ record { stamp = 9; event = Events.Call Outside (record { 0 = 1 }) (Calls.SetTag (record { 0 = 0 })); outcome = Out.Refused (No.Held 1 0 0) }
    ∷ record { stamp = 10; event = Events.Call Outside (record { 0 = 1 }) Calls.Poll; outcome = Out.Ran (Some 1) m2 (Some m3) }
    ∷ record { stamp = 11; event = Events.Carry (record { 0 = 1 }); outcome = Out.Accepted m3 }
    ∷ record { stamp = 12; event = Events.Call Outside (record { 0 = 0 }) Calls.Poll; outcome = Out.Ran None m3 None }
    ∷ record { stamp = 13; event = Events.Call Outside (record { 0 = 1 }) (Calls.SetTag (record { 0 = 0 })); outcome = Out.Done }
    ∷ record { stamp = 14; event = Events.Call Outside (record { 0 = 0 }) (Calls.Request 0 1 (record { a = 3; b = 0; c = 0; d = 0 })); outcome = Out.Requested m4 }
    ∷ record { stamp = 15; event = Events.Carry (record { 0 = 0 }); outcome = Out.Returned m4 BadTag }
    ∷ record { stamp = 16; event = Events.Call Outside (record { 0 = 0 }) Calls.Poll; outcome = Out.Zero m4.serial (Whys.Refused BadTag) }
    ∷ record { stamp = 17; event = Events.Call Outside (record { 0 = 0 }) (Calls.SetTag (record { 0 = 0 })); outcome = Out.Done }
    ∷ record { stamp = 18; event = Events.Call Outside (record { 0 = 0 }) (Calls.Request 0 1 (record { a = 4; b = 0; c = 0; d = 0 })); outcome = Out.Refused No.OwnTagNone }
    ∷ record { stamp = 19; event = Events.Call Outside (record { 0 = 0 }) Calls.Close; outcome = Out.Done }
    ∷ record { stamp = 20; event = Events.Call Outside (record { 0 = 0 }) (Calls.Request 0 1 (record { a = 4; b = 0; c = 0; d = 0 })); outcome = Out.Refused No.Closed }
    ∷ record { stamp = 21; event = Events.Call Outside (record { 0 = 0 }) Calls.Poll; outcome = Out.Empty }
    ∷ []

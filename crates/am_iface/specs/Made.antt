-- A call on a channel of an interface, and the entry that tells of it.
use Rattle.std.specs.Prelude.{◌≡◌, List}
use Rattle.am_office_entries.specs.declared.Entry.{Entry}
use Rattle.am_model.specs.Channels.{Channel}
use Rattle.am_channel.specs.declared.ends.Ends.{Ends}
use Rattle.am_channel.specs.Calls.{Call, TellsCall, after}
use Rattle.am_channel.specs.Counted.{AreCounted}

-- the entry tells of a call on the ends that are counted in the log, and the call leaves the new ends
pub record IsMade (c : Channel) (log : List Entry) (new : Ends) (x : Entry) : Type 0 where
  pub old : Ends
  pub counted : AreCounted c log old
  pub call : Call
  pub tells : TellsCall c old call x
  pub leaves : new ≡ after old call

-- The ends of every channel after a list of calls.
use Rattle.std.specs.Prelude.{List, [], ◌∷◌, map, if◌then◌else◌}
use Rattle.am_office_entries.specs.declared.Entry.{Entry}
use Rattle.am_model.specs.Channels.{Channel, same_channel}
use Rattle.am_channel.specs.declared.ends.Ends.{Ends}
use Rattle.am_channel.specs.Calls.{Call, IsCallable, TellsCall, after}

-- a call on the ends of a channel, and an entry that tells of it
pub record Told : Type 0 where
  pub channel : Channel
  pub call : Call
  pub entry : Entry

abbrev pub entries_of : List Told → List Entry
entries_of told = map (λ (t : Told). t.entry) told

-- the ends of its channel as the call leaves them, and of each other channel as they were
abbrev pub changed : (Channel → Ends) → Told → Channel → Ends
changed ends t c =
    if same_channel c t.channel.node t.channel.peer t.channel.number then after (ends c) t.call else ends c

-- the ends of each channel after these calls
abbrev pub ends_after : (Channel → Ends) → List Told → Channel → Ends
ends_after ends [] = ends
ends_after ends (t ∷ told) = ends_after (changed ends t) told

-- each call is made where its condition holds, and its entry tells what it answers
abbrev pub AreMade : (Channel → Ends) → List Told → Type 0
AreMade ends [] = Unit {0}
AreMade ends (t ∷ told) =
    IsCallable (ends t.channel) t.call × TellsCall t.channel (ends t.channel) t.call t.entry × AreMade (changed ends t) told

-- The grammar of the lines of a printed journal, each without the newline at its end: what an event is printed as, who acts and
-- what happens, and behind it nothing, or an arrow and what came of it.
use Rattle.std.specs.Prelude.{◌≡◌, ◌⊎◌, ℕ, ◌<◌, ◌^◌, List, [], ◌∷◌, ◌++◌, codes}
use Rattle.am_names.specs.declared.Serial.{Serial}
use Rattle.am_names.specs.declared.Words.{Words}
use Rattle.am_office_entries.specs.declared.Actor.{Actor}
use Rattle.am_office_entries.specs.declared.Actor.TheVariants as Actors
use Rattle.am_office_entries.specs.declared.HandlerKind.{HandlerKind}
use Rattle.am_office_entries.specs.declared.HandlerKind.TheVariants as Kinds
use Rattle.am_office_entries.specs.declared.Call.{Call}
use Rattle.am_office_entries.specs.declared.Call.TheVariants as Calls
use Rattle.am_office_entries.specs.declared.Event.{Event}
use Rattle.am_office_entries.specs.declared.Event.TheVariants as Events
use Rattle.am_office_entries.specs.declared.Entry.{Entry}
use Rattle.am_office_text.specs.Words.{spaced}
use Rattle.am_office_text.specs.EntryLines.Lines.{who, what, outcome, after_arrow}

-- a number of one byte, of four, of eight
abbrev pub IsByte : ℕ → Type 0
IsByte number = number < 2 ^ 8

abbrev pub IsFourBytes : ℕ → Type 0
IsFourBytes number = number < 2 ^ 32

abbrev pub IsEightBytes : ℕ → Type 0
IsEightBytes number = number < 2 ^ 64

abbrev pub AreNumbersOfKind : HandlerKind → Type 0
AreNumbersOfKind Kinds.Note = Unit {0}
AreNumbersOfKind (Kinds.Echo reply) = IsByte reply
AreNumbersOfKind (Kinds.Add reply) = IsByte reply

abbrev pub AreWords : Words → Type 0
AreWords w = IsEightBytes w.a × IsEightBytes w.b × IsEightBytes w.c × IsEightBytes w.d

abbrev pub IsSerial : Serial → Type 0
IsSerial s = IsByte s.source.0 × IsFourBytes s.count

abbrev pub AreNumbersOfCall : Call → Type 0
AreNumbersOfCall (Calls.Request index handler words) = IsByte index × IsByte handler × AreWords words
AreNumbersOfCall Calls.Poll = Unit {0}
AreNumbersOfCall (Calls.SetTag tag) = IsEightBytes tag.0
AreNumbersOfCall (Calls.Map index name tag credits) = IsByte index × IsByte name.0 × IsEightBytes tag.0 × IsByte credits
AreNumbersOfCall (Calls.Unmap index) = IsByte index
AreNumbersOfCall (Calls.SetHandler index kind) = IsByte index × AreNumbersOfKind kind
AreNumbersOfCall (Calls.GiveUp serial) = IsSerial serial
AreNumbersOfCall Calls.Close = Unit {0}
AreNumbersOfCall (Calls.Test mask) = Unit {0}

abbrev pub IsNumberOfActor : Actor → Type 0
IsNumberOfActor (Actors.Thread thread) = IsByte thread
IsNumberOfActor Actors.Outside = Unit {0}

-- each number of an event is one of its type: a number or channel, an index, a handler of one byte, a count of four, a tag or a
-- word of eight
abbrev pub AreNumbersOf : Event → Type 0
AreNumbersOf (Events.Call actor end call) = IsNumberOfActor actor × IsByte end.0 × AreNumbersOfCall call
AreNumbersOf (Events.Want actor end) = IsNumberOfActor actor × IsByte end.0
AreNumbersOf (Events.Carry end) = IsByte end.0
AreNumbersOf (Events.Bind node end) = IsByte node.0 × IsByte end.0
AreNumbersOf (Events.Expire node peer channel) = IsByte node.0 × IsByte peer.0 × IsByte channel
AreNumbersOf (Events.Receive node peer number) = IsByte node.0 × IsByte peer.0 × IsFourBytes number
AreNumbersOf (Events.Drain node end) = IsByte node.0 × IsByte end.0
AreNumbersOf (Events.Unload node end) = IsByte node.0 × IsByte end.0
AreNumbersOf (Events.Load node end frame) = IsByte node.0 × IsByte end.0 × IsByte frame
AreNumbersOf (Events.PageOut node end) = IsByte node.0 × IsByte end.0
AreNumbersOf (Events.PageIn node end) = IsByte node.0 × IsByte end.0

-- what an event is printed as
abbrev pub left_side : Event → List ℕ
left_side e = who e ++ spaced (what e)

-- what may stand behind it: nothing, or an arrow between two spaces and at least one byte more
abbrev pub IsRightSide : List ℕ → Type 0
IsRightSide bytes = (bytes ≡ []) ⊎ ((byte : ℕ) × (more : List ℕ) × (bytes ≡ codes " -> " ++ byte ∷ more))

-- a line of this event
pub record IsLineOf (line : List ℕ) (e : Event) : Type 0 where
  pub numbers : AreNumbersOf e
  pub right_side : List ℕ
  pub ended : IsRightSide right_side
  pub is : line ≡ left_side e ++ right_side

-- what an entry is printed as, without the newline
abbrev pub printed : Entry → List ℕ
printed x = who x.event ++ spaced (what x.event ++ after_arrow (outcome x.outcome))

-- The line of an entry in a printed journal: who acts, what happens, and where the event has an outcome `->` and the outcome.
-- An outcome is printed by its own words, whichever the event.
use Rattle.std.specs.Prelude.{ℕ, List, [], ◌∷◌, ◌++◌, codes, Option, Some, None}
use Rattle.std.specs.Fmt.{decimal}
use Rattle.am_names.specs.declared.EndpointId.{EndpointId}
use Rattle.am_names.specs.declared.NodeId.{NodeId}
use Rattle.am_names.specs.declared.Message.{Message}
use Rattle.am_office_entries.specs.declared.Actor.{Actor}
use Rattle.am_office_entries.specs.declared.Actor.TheVariants as Actors
use Rattle.am_office_entries.specs.declared.HandlerKind.{HandlerKind}
use Rattle.am_office_entries.specs.declared.HandlerKind.TheVariants as HandlerKinds
use Rattle.am_office_entries.specs.declared.Mask.{Mask}
use Rattle.am_office_entries.specs.declared.Mask.TheVariants as Masks
use Rattle.am_office_entries.specs.declared.Call.{Call}
use Rattle.am_office_entries.specs.declared.Call.TheVariants as Calls
use Rattle.am_office_entries.specs.declared.Event.{Event}
use Rattle.am_office_entries.specs.declared.Event.TheVariants as Events
use Rattle.am_office_entries.specs.declared.Refusal.{Refusal}
use Rattle.am_office_entries.specs.declared.Refusal.TheVariants as Refusals
use Rattle.am_office_entries.specs.declared.Received.{Received}
use Rattle.am_office_entries.specs.declared.Received.TheVariants as Got
use Rattle.am_office_entries.specs.declared.Outcome.{Outcome}
use Rattle.am_office_entries.specs.declared.Outcome.TheVariants as Out
use Rattle.am_office_entries.specs.declared.Entry.{Entry}
use Rattle.am_office_text.specs.Words as words
use Rattle.am_office_text.specs.Words.{Word, serial, tag, line}

-- `tT` for a script call of thread T, `x` for any other
unfoldable pub actor : Actor → Word
actor (Actors.Thread t) = codes "t" ++ decimal t
actor Actors.Outside = codes "x"

-- `iN`, the interface of node N
unfoldable pub interface : NodeId → Word
interface node = codes "i" ++ decimal node.0

-- `dN`, the driver of node N
unfoldable pub driver : NodeId → Word
driver node = codes "d" ++ decimal node.0

-- who acts
unfoldable pub who : Event → Word
who (Events.Call by e c) = actor by
who (Events.Want by e) = actor by
who (Events.Carry e) = codes "x"
who (Events.Bind n e) = interface n
who (Events.Expire n p c) = interface n
who (Events.Receive n p k) = interface n
who (Events.Drain n e) = driver n
who (Events.Unload n e) = driver n
who (Events.Load n e f) = driver n
who (Events.PageOut n e) = driver n
who (Events.PageIn n e) = driver n

-- what a handler is set to
unfoldable pub handler_kind : HandlerKind → List Word
handler_kind HandlerKinds.Note = codes "note" ∷ []
handler_kind (HandlerKinds.Echo r) = codes "echo" ∷ decimal r ∷ []
handler_kind (HandlerKinds.Add r) = codes "add" ∷ decimal r ∷ []

unfoldable pub mask : Mask → Word
mask Masks.NoEvents = codes "noevents"
mask Masks.NotEmpty = codes "notempty"

-- a call on endpoint `e`
unfoldable pub call : EndpointId → Call → List Word
call e (Calls.Request i h w) =
    codes "request" ∷ decimal e.0 ∷ decimal i ∷ decimal h ∷ decimal w.a ∷ decimal w.b ∷ decimal w.c ∷ decimal w.d ∷ []
call e Calls.Poll = codes "poll" ∷ decimal e.0 ∷ []
call e (Calls.SetTag t) = codes "tag" ∷ decimal e.0 ∷ tag t ∷ []
call e (Calls.Map i name t c) = codes "map" ∷ decimal e.0 ∷ decimal i ∷ decimal name.0 ∷ tag t ∷ decimal c ∷ []
call e (Calls.Unmap i) = codes "unmap" ∷ decimal e.0 ∷ decimal i ∷ []
call e (Calls.SetHandler h k) = codes "handler" ∷ decimal e.0 ∷ decimal h ∷ handler_kind k
call e (Calls.GiveUp s) = codes "giveup" ∷ decimal e.0 ∷ serial s ∷ []
call e Calls.Close = codes "close" ∷ decimal e.0 ∷ []
call e (Calls.Test m) = codes "event" ∷ decimal e.0 ∷ mask m ∷ []

-- what happens
unfoldable pub what : Event → List Word
what (Events.Call by e c) = call e c
what (Events.Want by e) = codes "want" ∷ decimal e.0 ∷ []
what (Events.Carry e) = codes "carry" ∷ decimal e.0 ∷ []
what (Events.Bind n e) = codes "bind" ∷ decimal e.0 ∷ []
what (Events.Expire n p c) = codes "expire" ∷ decimal p.0 ∷ decimal c ∷ []
what (Events.Receive n p k) = codes "receive" ∷ decimal p.0 ∷ decimal k ∷ []
what (Events.Drain n e) = codes "drain" ∷ decimal e.0 ∷ []
what (Events.Unload n e) = codes "unload" ∷ decimal e.0 ∷ []
what (Events.Load n e f) = codes "load" ∷ decimal e.0 ∷ decimal f ∷ []
what (Events.PageOut n e) = codes "pageout" ∷ decimal e.0 ∷ []
what (Events.PageIn n e) = codes "pagein" ∷ decimal e.0 ∷ []

-- why a call did nothing
unfoldable pub refusal : Refusal → List Word
refusal Refusals.Closed = codes "closed" ∷ []
refusal Refusals.OwnTagNone = codes "own-tag-none" ∷ []
refusal Refusals.BadIndex = codes "bad-index" ∷ []
refusal Refusals.NotMapped = codes "not-mapped" ∷ []
refusal Refusals.NoCredit = codes "no-credit" ∷ []
refusal Refusals.TableFull = codes "table-full" ∷ []
refusal Refusals.SendFull = codes "send-full" ∷ []
refusal Refusals.InUse = codes "in-use" ∷ []
refusal (Refusals.OverShare k) = codes "over-share" ∷ decimal k ∷ []
refusal (Refusals.Held l m o) = codes "in-use" ∷ decimal l ∷ decimal m ∷ decimal o ∷ []
refusal (Refusals.Outstanding k) = codes "outstanding" ∷ decimal k ∷ []
refusal Refusals.Reserved = codes "reserved" ∷ []
refusal Refusals.NoRequest = codes "no-request" ∷ []

-- the handler that ran, or a dash
unfoldable pub handler : Option ℕ → Word
handler None = codes "-"
handler (Some h) = decimal h

-- the reply that a run sends
unfoldable pub sends : Option Message → List Word
sends None = []
sends (Some r) = codes "sends" ∷ serial r.serial ∷ []

-- what came of the receipt of a data packet, and of an answer
unfoldable pub received : Received → List Word
received (Got.Accepted m k) = codes "accepted" ∷ serial m.serial ∷ codes "answer" ∷ decimal k ∷ []
received (Got.Refused m c k) = codes "refused" ∷ serial m.serial ∷ words.cause c ∷ codes "answer" ∷ decimal k ∷ []
received (Got.Again s v k) = codes "again" ∷ serial s ∷ words.verdict v ∷ codes "answer" ∷ decimal k ∷ []
received Got.Stale = codes "stale" ∷ []
received (Got.Delivered s) = codes "delivered" ∷ serial s ∷ []
received (Got.Requeued s c used) = codes "requeued" ∷ serial s ∷ words.cause c ∷ []
received (Got.Returned s c) = codes "returned" ∷ serial s ∷ words.cause c ∷ []
received Got.Nothing = codes "nothing" ∷ []

-- what came of an event; nothing where it has no outcome
unfoldable pub outcome : Outcome → List Word
outcome Out.Silent = []
outcome Out.Done = codes "ok" ∷ []
outcome (Out.Requested m) = codes "ok" ∷ serial m.serial ∷ []
outcome (Out.Refused r) = codes "refused" ∷ refusal r
outcome (Out.Zero s w) = codes "zero" ∷ serial s ∷ words.why w ∷ []
outcome (Out.Ran h m r) = codes "ran" ∷ serial m.serial ∷ handler h ∷ sends r
outcome Out.Blocked = codes "blocked" ∷ []
outcome Out.Empty = codes "empty" ∷ []
outcome Out.Ready = codes "ready" ∷ []
outcome Out.Quiet = codes "quiet" ∷ []
outcome Out.Failed = codes "failed" ∷ []
outcome (Out.Accepted m) = codes "accepted" ∷ serial m.serial ∷ []
outcome (Out.Requeued m c used) = codes "requeued" ∷ serial m.serial ∷ words.cause c ∷ []
outcome (Out.Returned m c) = codes "returned" ∷ serial m.serial ∷ words.cause c ∷ []
outcome (Out.Sent m p c q a k) =
    codes "sent" ∷ serial m.serial ∷ decimal p.0 ∷ decimal c ∷ decimal q ∷ decimal a ∷ decimal k ∷ []
outcome (Out.Delivered s) = codes "delivered" ∷ serial s ∷ []
outcome (Out.Unknown s) = codes "unknown" ∷ serial s ∷ []
outcome (Out.Received channel seq attempt result) = received result

-- an arrow before what came of an event
abbrev pub after_arrow : List Word → List Word
after_arrow [] = []
after_arrow (word ∷ words) = codes "->" ∷ word ∷ words

-- the line of an entry
unfoldable pub line_of : Entry → List ℕ
line_of x = line (who x.event) (what x.event ++ after_arrow (outcome x.outcome))

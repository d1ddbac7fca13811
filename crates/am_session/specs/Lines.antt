-- The line of an entry in a printed session: the interface, what happens there, `->`, and the outcome.
use Rattle.std.specs.Prelude.{ℕ, List, [], ◌∷◌, ◌++◌, codes, Option, Some, None}
use Rattle.std.specs.Fmt.{decimal}
use Rattle.am_office_text.specs.Words.{Word, spaced}
use Rattle.am_restart.specs.declared.events.Say.{Say}
use Rattle.am_restart.specs.declared.events.Say.TheVariants as Says
use Rattle.am_restart.specs.declared.events.SessionCondition.{SessionCondition}
use Rattle.am_restart.specs.declared.events.SessionCondition.TheVariants as Needs
use Rattle.am_restart.specs.declared.events.SessionEntry.{SessionEntry}
use Rattle.am_restart.specs.declared.events.SessionEvent.{SessionEvent}
use Rattle.am_restart.specs.declared.events.SessionEvent.TheVariants as Events
use Rattle.am_restart.specs.declared.events.SessionOutcome.{SessionOutcome}
use Rattle.am_restart.specs.declared.events.SessionOutcome.TheVariants as Out
use Rattle.am_restart.specs.declared.fates.SessionFate.{SessionFate}
use Rattle.am_restart.specs.declared.fates.SessionFate.TheVariants as Fates

-- `a`, the sender, or `b`, the receiver
unfoldable pub who : SessionEvent → Word
who (Events.ReceiverReceive number say) = codes "b"
who Events.ReceiverRestart = codes "b"
who event = codes "a"

unfoldable pub say_word : Say → Word
say_word Says.Accept = codes "accept"
say_word Says.Full = codes "full"
say_word Says.Bad = codes "bad"

-- what happens
unfoldable pub what : SessionEvent → List Word
what Events.Offer = codes "offer" ∷ []
what Events.Hello = codes "hello" ∷ []
what Events.Bind = codes "bind" ∷ []
what Events.Expire = codes "expire" ∷ []
what (Events.SenderReceive number) = codes "receive" ∷ decimal number ∷ []
what Events.SenderRestart = codes "restart" ∷ []
what (Events.ReceiverReceive number say) = codes "receive" ∷ decimal number ∷ say_word say ∷ []
what Events.ReceiverRestart = codes "restart" ∷ []

-- an incarnation of the receiver's that is known now, and the message that is unknown then
unfoldable pub peer : ℕ → Option ℕ → List Word
peer incarnation None = codes "peer" ∷ decimal incarnation ∷ []
peer incarnation (Some message) = codes "peer" ∷ decimal incarnation ∷ codes "unknown" ∷ decimal message ∷ []

unfoldable pub outcome : SessionOutcome → List Word
outcome Out.Done = codes "ok" ∷ []
outcome (Out.Offered message) = codes "ok" ∷ decimal message ∷ []
outcome (Out.Hello number) = codes "sent" ∷ decimal number ∷ []
outcome (Out.Sent message seq attempt number) = codes "sent" ∷ decimal message ∷ decimal seq ∷ decimal attempt ∷ decimal number ∷ []
outcome (Out.Unknown message) = codes "unknown" ∷ decimal message ∷ []
outcome (Out.Peer incarnation unknown) = peer incarnation unknown
outcome (Out.Delivered message) = codes "delivered" ∷ decimal message ∷ []
outcome (Out.Requeued message) = codes "requeued" ∷ decimal message ∷ []
outcome (Out.Returned message) = codes "returned" ∷ decimal message ∷ []
outcome Out.Nothing = codes "nothing" ∷ []
outcome Out.Stale = codes "stale" ∷ []
outcome (Out.Welcome number) = codes "welcome" ∷ decimal number ∷ []
outcome (Out.Again message number) = codes "again" ∷ decimal message ∷ codes "answer" ∷ decimal number ∷ []
outcome (Out.Accepted message number) = codes "accepted" ∷ decimal message ∷ codes "answer" ∷ decimal number ∷ []
outcome (Out.Refused message number) = codes "refused" ∷ decimal message ∷ codes "answer" ∷ decimal number ∷ []

-- the line of an entry
unfoldable pub line_of : SessionEntry → List ℕ
line_of x = who x.event ++ spaced (what x.event) ++ spaced (codes "->" ∷ []) ++ spaced (outcome x.outcome) ++ codes "\n"

unfoldable pub fate_word : SessionFate → Word
fate_word Fates.Put = codes "put"
fate_word Fates.Returned = codes "returned"
fate_word Fates.Unknown = codes "unknown"
fate_word Fates.UnknownButPut = codes "unknown-but-put"
fate_word Fates.Pending = codes "pending"

unfoldable pub condition_word : SessionCondition → Word
condition_word Needs.UnknownPeer = codes "unknown-peer"
condition_word Needs.Bound = codes "bound"
condition_word Needs.NoMessage = codes "no-message"
condition_word Needs.Idle = codes "idle"
condition_word Needs.NoPacket = codes "no-packet"

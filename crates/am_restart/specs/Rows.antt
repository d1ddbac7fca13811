-- Worked histories of a session whose messages have two tries each.
use Rattle.std.specs.Prelude.{List, [], ◌∷◌, ◌++◌, Some, None}
use Rattle.am_restart.specs.declared.events.Say.TheVariants.{Accept, Full, Bad}
use Rattle.am_restart.specs.declared.events.SessionEntry.{SessionEntry}
use Rattle.am_restart.specs.declared.events.SessionEvent.{SessionEvent}
use Rattle.am_restart.specs.declared.events.SessionEvent.TheVariants as Events
use Rattle.am_restart.specs.declared.events.SessionOutcome.{SessionOutcome}
use Rattle.am_restart.specs.declared.events.SessionOutcome.TheVariants as Out

infix 5 ◌~>◌
abbrev pub ◌~>◌ : SessionEvent → SessionOutcome → SessionEntry
event ~> outcome = record { event = event; outcome = outcome }

-- both interfaces meet, and the first message is bound
abbrev pub bound : List SessionEntry
bound =
    (Events.Hello ~> Out.Hello 1)
    ∷ (Events.ReceiverReceive 1 Accept ~> Out.Welcome 1)
    ∷ (Events.SenderReceive 1 ~> Out.Peer 1 None)
    ∷ (Events.Offer ~> Out.Offered 1)
    ∷ (Events.Bind ~> Out.Sent 1 1 0 2)
    ∷ []

-- the receiver restarts before the parcel comes: it is for an earlier incarnation, and the message is unknown
abbrev pub receiver_restarted : List SessionEntry
receiver_restarted =
    bound
    ++ (Events.ReceiverRestart ~> Out.Done)
    ∷ (Events.ReceiverReceive 2 Accept ~> Out.Welcome 2)
    ∷ (Events.SenderReceive 2 ~> Out.Peer 2 (Some 1))
    ∷ []

-- the receiver restarts after it put the message: the message is unknown, and the answer of the earlier incarnation is nothing
abbrev pub unknown_but_put : List SessionEntry
unknown_but_put =
    bound
    ++ (Events.ReceiverReceive 2 Accept ~> Out.Accepted 1 2)
    ∷ (Events.ReceiverRestart ~> Out.Done)
    ∷ (Events.ReceiverReceive 2 Accept ~> Out.Welcome 3)
    ∷ (Events.SenderReceive 3 ~> Out.Peer 2 (Some 1))
    ∷ (Events.SenderReceive 2 ~> Out.Nothing)
    ∷ []

-- the sender restarts: its message is unknown, a welcome for its earlier incarnation is nothing, and so are its earlier packets
-- once the receiver has seen the later one
abbrev pub sender_restarted : List SessionEntry
sender_restarted =
    bound
    ++ (Events.SenderRestart ~> Out.Unknown 1)
    ∷ (Events.Hello ~> Out.Hello 3)
    ∷ (Events.ReceiverReceive 3 Accept ~> Out.Welcome 2)
    ∷ (Events.SenderReceive 1 ~> Out.Nothing)
    ∷ (Events.SenderReceive 2 ~> Out.Peer 1 None)
    ∷ (Events.Offer ~> Out.Offered 2)
    ∷ (Events.Bind ~> Out.Sent 2 1 0 4)
    ∷ (Events.ReceiverReceive 1 Accept ~> Out.Stale)
    ∷ (Events.ReceiverReceive 2 Accept ~> Out.Stale)
    ∷ (Events.ReceiverReceive 4 Accept ~> Out.Accepted 2 3)
    ∷ (Events.SenderReceive 3 ~> Out.Delivered 2)
    ∷ (Events.SenderRestart ~> Out.Done)
    ∷ []

-- a message is refused for now and goes out again, and then it is refused for good; the earlier refusal counts for nothing
abbrev pub sent_again : List SessionEntry
sent_again =
    bound
    ++ (Events.ReceiverReceive 2 Full ~> Out.Refused 1 2)
    ∷ (Events.ReceiverReceive 2 Accept ~> Out.Again 1 3)
    ∷ (Events.SenderReceive 3 ~> Out.Requeued 1)
    ∷ (Events.Bind ~> Out.Sent 1 2 0 3)
    ∷ (Events.SenderReceive 2 ~> Out.Nothing)
    ∷ (Events.ReceiverReceive 3 Bad ~> Out.Refused 1 4)
    ∷ (Events.ReceiverReceive 2 Accept ~> Out.Stale)
    ∷ (Events.SenderReceive 4 ~> Out.Returned 1)
    ∷ []

-- the last try is used up, and a delayed try is put after it
abbrev pub given_up : List SessionEntry
given_up =
    bound
    ++ (Events.Expire ~> Out.Sent 1 1 1 3)
    ∷ (Events.Expire ~> Out.Unknown 1)
    ∷ (Events.ReceiverReceive 3 Accept ~> Out.Accepted 1 2)
    ∷ (Events.ReceiverReceive 2 Full ~> Out.Again 1 3)
    ∷ (Events.SenderReceive 2 ~> Out.Nothing)
    ∷ []

-- a later incarnation of the sender comes first by a parcel, and a parcel to an incarnation that is gone changes nothing
abbrev pub met_by_a_parcel : List SessionEntry
met_by_a_parcel =
    bound
    ++ (Events.ReceiverReceive 2 Full ~> Out.Refused 1 2)
    ∷ (Events.SenderRestart ~> Out.Unknown 1)
    ∷ (Events.Hello ~> Out.Hello 3)
    ∷ (Events.ReceiverRestart ~> Out.Done)
    ∷ (Events.ReceiverReceive 2 Accept ~> Out.Welcome 3)
    ∷ (Events.ReceiverReceive 1 Accept ~> Out.Welcome 4)
    ∷ (Events.ReceiverReceive 3 Accept ~> Out.Welcome 5)
    ∷ (Events.ReceiverRestart ~> Out.Done)
    ∷ (Events.ReceiverReceive 3 Accept ~> Out.Welcome 6)
    ∷ (Events.SenderReceive 6 ~> Out.Peer 3 None)
    ∷ (Events.SenderReceive 5 ~> Out.Nothing)
    ∷ (Events.ReceiverRestart ~> Out.Done)
    ∷ (Events.Hello ~> Out.Hello 4)
    ∷ (Events.ReceiverReceive 4 Accept ~> Out.Welcome 7)
    ∷ (Events.SenderReceive 7 ~> Out.Peer 4 None)
    ∷ (Events.Offer ~> Out.Offered 2)
    ∷ (Events.Bind ~> Out.Sent 2 1 0 5)
    ∷ (Events.ReceiverReceive 5 Bad ~> Out.Refused 2 8)
    ∷ (Events.SenderReceive 8 ~> Out.Returned 2)
    ∷ []

-- What an entry is drawn as: where its sign stands, which sign it is, where its line leads, and what is written beside it.
use Rattle.std.specs.Prelude.{ℕ, List, codes, Option, Some, None}
use Rattle.std.specs.Fmt.{decimal}
use Rattle.am_names.specs.declared.EndpointId.{EndpointId}
use Rattle.am_names.specs.declared.Message.{Message}
use Rattle.am_office_entries.specs.declared.Call.{Call}
use Rattle.am_office_entries.specs.declared.Call.TheVariants as Calls
use Rattle.am_office_entries.specs.declared.Event.{Event}
use Rattle.am_office_entries.specs.declared.Event.TheVariants as Events
use Rattle.am_office_entries.specs.declared.Outcome.{Outcome}
use Rattle.am_office_entries.specs.declared.Outcome.TheVariants as Out
use Rattle.am_office_entries.specs.declared.Received.{Received}
use Rattle.am_office_entries.specs.declared.Received.TheVariants as Got
use Rattle.am_office_entries.specs.declared.Refusal.{Refusal}
use Rattle.am_office_entries.specs.declared.Refusal.TheVariants as Refusals
use Rattle.am_office_text.specs.Words as texts
use Rattle.am_lab_picture.specs.declared.layout.signs.Spot.{Spot}
use Rattle.am_lab_picture.specs.declared.layout.signs.Spot.TheVariants as Spots
use Rattle.am_lab_picture.specs.declared.layout.signs.Ending.{Ending}
use Rattle.am_lab_picture.specs.declared.layout.signs.Ending.TheVariants as Endings
use Rattle.am_lab_picture.specs.declared.layout.signs.Link.{Link}

abbrev pub Word : Type 0
Word = List ℕ

-- where the sign stands: with the endpoint that it happens to, or with the interface that acts
abbrev pub spot_of : Event → Spot
spot_of (Events.Call actor end call) = Spots.End end
spot_of (Events.Want actor end) = Spots.End end
spot_of (Events.Carry end) = Spots.End end
spot_of (Events.Bind node end) = Spots.Interface node
spot_of (Events.Expire node peer channel) = Spots.Interface node
spot_of (Events.Receive node peer number) = Spots.Interface node
spot_of (Events.Drain node end) = Spots.End end
spot_of (Events.Unload node end) = Spots.End end
spot_of (Events.Load node end frame) = Spots.End end
spot_of (Events.PageOut node end) = Spots.End end
spot_of (Events.PageIn node end) = Spots.End end

-- ---- the line from the sign to an endpoint

abbrev pub to_end : EndpointId → Ending → Option Link
to_end end ending = Some (record { far = end; ending = ending })

-- a message that is bound is taken from its endpoint
abbrev pub link_of_sent : Event → Option Link
link_of_sent (Events.Bind node end) = to_end end Endings.Taken
link_of_sent event = None

-- what comes of a packet is put at its destination, is stopped there, or is told to its source
abbrev pub link_of_received : Received → Option Link
link_of_received (Got.Accepted message answer) = to_end message.dest Endings.Arrived
link_of_received (Got.Refused message cause answer) = to_end message.dest Endings.Stopped
link_of_received (Got.Delivered serial) = to_end serial.source Endings.Settled
link_of_received (Got.Requeued serial cause used) = to_end serial.source Endings.Requeued
link_of_received (Got.Returned serial cause) = to_end serial.source Endings.Returned
link_of_received result = None

abbrev pub link_of : Event → Outcome → Option Link
link_of event (Out.Sent message peer channel seq attempt number) = link_of_sent event
link_of event (Out.Accepted message) = to_end message.dest Endings.Arrived
link_of event (Out.Requeued message cause used) = to_end message.dest Endings.Stopped
link_of event (Out.Returned message cause) = to_end message.dest Endings.Stopped
link_of event (Out.Delivered serial) = to_end serial.source Endings.Settled
link_of event (Out.Unknown serial) = to_end serial.source Endings.Unknown
link_of event (Out.Received channel seq attempt result) = link_of_received result
link_of event outcome = None

-- what a message takes is a whole line, what is told of one is dotted
unfoldable pub ending_dashes : Ending → Word
ending_dashes Endings.Taken = codes "none"
ending_dashes Endings.Arrived = codes "none"
ending_dashes Endings.Stopped = codes "none"
ending_dashes Endings.Settled = codes "2 2"
ending_dashes Endings.Requeued = codes "2 2"
ending_dashes Endings.Returned = codes "2 2"
ending_dashes Endings.Unknown = codes "2 2"

-- the sign at the line's end
unfoldable pub ending_sign : Ending → Word
ending_sign Endings.Taken = codes "#taken"
ending_sign Endings.Arrived = codes "#arrived"
ending_sign Endings.Stopped = codes "#stopped"
ending_sign Endings.Settled = codes "#settled"
ending_sign Endings.Requeued = codes "#requeued"
ending_sign Endings.Returned = codes "#came-back"
ending_sign Endings.Unknown = codes "#timed-out"

-- ---- the sign

abbrev pub call_sign : Call → Word
call_sign (Calls.GiveUp serial) = codes "#given-up"
call_sign Calls.Close = codes "#closed"
call_sign call = codes "#done"

-- of an event that is done, or that has no outcome
unfoldable pub done_sign : Event → Word
done_sign (Events.Call actor end call) = call_sign call
done_sign (Events.Want actor end) = codes "#wanted"
done_sign (Events.Carry end) = codes "#done"
done_sign (Events.Bind node end) = codes "#done"
done_sign (Events.Expire node peer channel) = codes "#time-out"
done_sign (Events.Receive node peer number) = codes "#done"
done_sign (Events.Drain node end) = codes "#moved"
done_sign (Events.Unload node end) = codes "#moved"
done_sign (Events.Load node end frame) = codes "#moved"
done_sign (Events.PageOut node end) = codes "#moved"
done_sign (Events.PageIn node end) = codes "#moved"

unfoldable pub received_sign : Received → Word
received_sign (Got.Accepted message answer) = codes "#done"
received_sign (Got.Refused message cause answer) = codes "#done"
received_sign (Got.Again serial verdict answer) = codes "#nothing"
received_sign Got.Stale = codes "#nothing"
received_sign (Got.Delivered serial) = codes "#done"
received_sign (Got.Requeued serial cause used) = codes "#done"
received_sign (Got.Returned serial cause) = codes "#done"
received_sign Got.Nothing = codes "#nothing"

unfoldable pub sign_of : Event → Outcome → Word
sign_of event Out.Silent = done_sign event
sign_of event Out.Done = done_sign event
sign_of event (Out.Requested message) = codes "#request"
sign_of event (Out.Refused refusal) = codes "#refused"
sign_of event (Out.Zero serial why) = codes "#notice"
sign_of event (Out.Ran handler message sends) = codes "#run"
sign_of event Out.Blocked = codes "#blocked"
sign_of event Out.Empty = codes "#nothing"
sign_of event Out.Ready = codes "#done"
sign_of event Out.Quiet = codes "#nothing"
sign_of event Out.Failed = codes "#failed"
sign_of event (Out.Accepted message) = codes "#done"
sign_of event (Out.Requeued message cause used) = codes "#done"
sign_of event (Out.Returned message cause) = codes "#done"
sign_of event (Out.Sent message peer channel seq attempt number) = done_sign event
sign_of event (Out.Delivered serial) = done_sign event
sign_of event (Out.Unknown serial) = done_sign event
sign_of event (Out.Received channel seq attempt result) = received_sign result

-- ---- what is written

-- in the sign: the number of the handler that ran, a dash if none stood; 0 in a notice
abbrev pub handler_text : Option ℕ → Word
handler_text None = codes "-"
handler_text (Some handler) = decimal handler

abbrev pub inner_of : Outcome → Option Word
inner_of (Out.Ran handler message sends) = Some (handler_text handler)
inner_of (Out.Zero serial why) = Some (codes "0")
inner_of outcome = None

-- why a call did nothing
unfoldable pub refusal_text : Refusal → Word
refusal_text Refusals.Closed = codes "closed"
refusal_text Refusals.OwnTagNone = codes "own-tag-none"
refusal_text Refusals.BadIndex = codes "bad-index"
refusal_text Refusals.NotMapped = codes "not-mapped"
refusal_text Refusals.NoCredit = codes "no-credit"
refusal_text Refusals.TableFull = codes "table-full"
refusal_text Refusals.SendFull = codes "send-full"
refusal_text Refusals.InUse = codes "in-use"
refusal_text (Refusals.OverShare shares) = codes "over-share"
refusal_text (Refusals.Held received messages outstanding) = codes "in-use"
refusal_text (Refusals.Outstanding records) = codes "outstanding"
refusal_text Refusals.Reserved = codes "reserved"
refusal_text Refusals.NoRequest = codes "no-request"

abbrev pub reply_text : Option Message → Option Word
reply_text None = None
reply_text (Some reply) = Some (texts.serial reply.serial)

abbrev pub received_label : Received → Option Word
received_label (Got.Refused message cause answer) = Some (texts.cause cause)
received_label result = None

-- beside the sign: the serial of a request, or of the reply of a run; or why something was refused or failed
abbrev pub label_of : Outcome → Option Word
label_of (Out.Requested message) = Some (texts.serial message.serial)
label_of (Out.Ran handler message sends) = reply_text sends
label_of (Out.Refused refusal) = Some (refusal_text refusal)
label_of (Out.Zero serial why) = Some (texts.why why)
label_of Out.Failed = Some (codes "failed")
label_of (Out.Requeued message cause used) = Some (texts.cause cause)
label_of (Out.Returned message cause) = Some (texts.cause cause)
label_of (Out.Received channel seq attempt result) = received_label result
label_of outcome = None

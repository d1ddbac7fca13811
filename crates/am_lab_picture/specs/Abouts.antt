-- Which message an entry is about.
use Rattle.std.specs.Prelude.{Option, Some, None}
use Rattle.am_names.specs.declared.Message.{Message}
use Rattle.am_names.specs.declared.Serial.{Serial}
use Rattle.am_office_entries.specs.declared.Entry.{Entry}
use Rattle.am_office_entries.specs.declared.Outcome.{Outcome}
use Rattle.am_office_entries.specs.declared.Outcome.TheVariants as Out
use Rattle.am_office_entries.specs.Entries.{given_up_of, received_about}

-- the message that an outcome names, and of a run the one that ran; where it names none, the one that is given up
abbrev pub about_by : Option Serial → Outcome → Option Serial
about_by given_up (Out.Requested m) = Some m.serial
about_by given_up (Out.Zero serial why) = Some serial
about_by given_up (Out.Ran handler m sends) = Some m.serial
about_by given_up (Out.Accepted m) = Some m.serial
about_by given_up (Out.Requeued m cause used) = Some m.serial
about_by given_up (Out.Returned m cause) = Some m.serial
about_by given_up (Out.Sent m peer channel seq attempt number) = Some m.serial
about_by given_up (Out.Delivered serial) = Some serial
about_by given_up (Out.Unknown serial) = Some serial
about_by given_up (Out.Received channel seq attempt result) = received_about result
about_by given_up outcome = given_up

-- the message that an entry is about
abbrev pub about_of : Entry → Option Serial
about_of x = about_by (given_up_of x) x.outcome

abbrev pub sent_serial : Option Message → Option Serial
sent_serial None = None
sent_serial (Some m) = Some m.serial

abbrev pub reply_by : Outcome → Option Serial
reply_by (Out.Ran handler m sends) = sent_serial sends
reply_by outcome = None

-- the reply that a run makes
abbrev pub reply_of : Entry → Option Serial
reply_of x = reply_by x.outcome

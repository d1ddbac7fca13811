-- What the two interfaces of a session know, and how their packets go over the ends of a channel.
use Rattle.std.specs.Prelude.{ℕ, nat_lt, None, if◌then◌else◌}
use Rattle.am_names.specs.declared.Cause.TheVariants as Causes
use Rattle.am_names.specs.declared.Verdict.{Verdict}
use Rattle.am_names.specs.declared.Verdict.TheVariants as Verdicts
use Rattle.am_names.specs.declared.MsgKind.TheVariants as Kinds
use Rattle.am_names.specs.declared.Message.{Message}
use Rattle.am_names.specs.declared.Parcel.{Parcel}
use Rattle.am_names.specs.declared.AnswerPacket.{AnswerPacket}
use Rattle.am_block.specs.declared.Slot.{Slot}
use Rattle.am_model.specs.Channels.{Mark}
use Rattle.am_channel.specs.Sending.{SendView}
use Rattle.am_channel.specs.declared.sending.Bound.{Bound}
use Rattle.am_restart.specs.declared.ends.Sender.{Sender}
use Rattle.am_restart.specs.declared.ends.Receiver.{Receiver}
use Rattle.am_restart.specs.declared.events.Say.{Say}
use Rattle.am_restart.specs.declared.events.Say.TheVariants as Says
use Rattle.am_restart.specs.declared.packets.SessionParcel.{SessionParcel}
use Rattle.am_restart.specs.declared.packets.SessionAnswer.{SessionAnswer}

-- a sending end that was never bound
abbrev pub new_sending : SendView
new_sending = record { seq = 0; bound = None }

-- a receiving end that decided on nothing
abbrev pub new_receiving : Mark
new_receiving = record { seq = 0; attempt = 0; verdict = Verdicts.Refused Causes.NoRequest }

abbrev pub new_sender : ℕ → ℕ → Sender
new_sender incarnation peer = record { incarnation = incarnation; peer = peer; end = new_sending }

abbrev pub new_receiver : ℕ → ℕ → Receiver
new_receiver incarnation newest = record { incarnation = incarnation; newest = newest; end = new_receiving }

-- the receiver once it has seen this incarnation of the sender: a greater one than before makes its end new
abbrev pub met : ℕ → Receiver → Receiver
met sender r = if nat_lt r.newest sender then new_receiver r.incarnation sender else r

-- what the receiver says, as the verdict of a channel
abbrev pub verdict_of : Say → Verdict
verdict_of Says.Accept = Verdicts.Accepted
verdict_of Says.Full = Verdicts.Refused Causes.QueueFull
verdict_of Says.Bad = Verdicts.Refused Causes.BadHandler

-- A message, a parcel and an answer as the ends of a channel take them: of a message they keep its number alone.
abbrev pub message_of : ℕ → Message
message_of number =
    record {
      serial = record { source = (record { 0 = 0 }); count = number };
      kind = Kinds.Request;
      dest = (record { 0 = 0 });
      tag = (record { 0 = 0 });
      reply_tag = (record { 0 = 0 });
      handler = 0;
      words = record { a = 0; b = 0; c = 0; d = 0 };
      about = None;
    }

abbrev pub slot_of : Slot
slot_of = record { 0 = 0 }

-- the number of a bound message
abbrev pub number_of : Bound → ℕ
number_of b = b.message.serial.count

abbrev pub parcel_of : SessionParcel → Parcel
parcel_of p =
    record {
      from = (record { 0 = 0 });
      to = (record { 0 = 1 });
      channel = 0;
      seq = p.seq;
      attempt = p.attempt;
      number = 0;
      stamp = 0;
      message = message_of p.message;
    }

abbrev pub answer_of : SessionAnswer → AnswerPacket
answer_of a =
    record {
      from = (record { 0 = 1 });
      to = (record { 0 = 0 });
      channel = 0;
      seq = a.seq;
      attempt = a.attempt;
      number = 0;
      stamp = 0;
      verdict = a.verdict;
    }

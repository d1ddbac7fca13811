-- A lost acknowledgement: the calls at both nodes, and the entries that tell of them.
use Rattle.std.specs.Prelude.{List, [], ◌∷◌}
use Rattle.am_names.specs.declared.Verdict.TheVariants as Verdicts
use Rattle.am_names.specs.declared.Parcel.{Parcel}
use Rattle.am_names.specs.declared.AnswerPacket.{AnswerPacket}
use Rattle.am_office_entries.specs.declared.Event.TheVariants as Events
use Rattle.am_office_entries.specs.declared.Received.TheVariants as Got
use Rattle.am_office_entries.specs.declared.Outcome.TheVariants as Out
use Rattle.am_model.specs.Channels.{Channel}
use Rattle.am_model.specs.DelayedTry.{request}
use Rattle.am_model.specs.Layout.{node_at}
use Rattle.am_channel.specs.Calls.{Bind, TimeOut, Answer, Arrive}
use Rattle.am_channel.specs.Folded.{Told}

-- the channel as its sender has it, and as its receiver has it
abbrev pub outward : Channel
outward = record { node = node_at 0; peer = node_at 1; number = 0 }

abbrev pub inward : Channel
inward = record { node = node_at 1; peer = node_at 0; number = 0 }

abbrev pub first_try : Parcel
first_try = record { from = node_at 0; to = node_at 1; channel = 0; seq = 1; attempt = 0; number = 1; stamp = 1; message = request }

abbrev pub second_try : Parcel
second_try = record { from = node_at 0; to = node_at 1; channel = 0; seq = 1; attempt = 1; number = 2; stamp = 3; message = request }

-- the answer to the second try comes before the one to the first
abbrev pub second_answer : AnswerPacket
second_answer = record { from = node_at 1; to = node_at 0; channel = 0; seq = 1; attempt = 1; number = 2; stamp = 4; verdict = Verdicts.Accepted }

abbrev pub first_answer : AnswerPacket
first_answer = record { from = node_at 1; to = node_at 0; channel = 0; seq = 1; attempt = 0; number = 1; stamp = 2; verdict = Verdicts.Accepted }

abbrev pub told : List Told
told =
    record { channel = outward; call = Bind request (record { 0 = 3 }); entry = record { stamp = 1; event = Events.Bind (node_at 0) (record { 0 = 0 }); outcome = Out.Sent request (node_at 1) 0 1 0 1 } }
    ∷ record { channel = inward; call = Arrive first_try Verdicts.Accepted; entry = record { stamp = 2; event = Events.Receive (node_at 1) (node_at 0) 1; outcome = Out.Received 0 1 0 (Got.Accepted request 1) } }
    ∷ record { channel = outward; call = TimeOut 3; entry = record { stamp = 3; event = Events.Expire (node_at 0) (node_at 1) 0; outcome = Out.Sent request (node_at 1) 0 1 1 2 } }
    ∷ record { channel = inward; call = Arrive second_try Verdicts.Accepted; entry = record { stamp = 4; event = Events.Receive (node_at 1) (node_at 0) 2; outcome = Out.Received 0 1 1 (Got.Again request.serial Verdicts.Accepted 2) } }
    ∷ record { channel = outward; call = Answer second_answer; entry = record { stamp = 5; event = Events.Receive (node_at 0) (node_at 1) 2; outcome = Out.Received 0 1 1 (Got.Delivered request.serial) } }
    ∷ record { channel = outward; call = Answer first_answer; entry = record { stamp = 6; event = Events.Receive (node_at 0) (node_at 1) 1; outcome = Out.Received 0 1 0 Got.Nothing } }
    ∷ []

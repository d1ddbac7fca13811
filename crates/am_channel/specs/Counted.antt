-- The ends of a channel are those that the definitions count in a log.
use Rattle.std.specs.Prelude.{◌≡◌, List, IfSome}
use Rattle.std.specs.Option.{option_map}
use Rattle.am_office_entries.specs.declared.Entry.{Entry}
use Rattle.am_model.specs.Channels.{Channel, sequence, bound_message, attempt, mark}
use Rattle.am_channel.specs.declared.sending.Bound.{Bound}
use Rattle.am_channel.specs.declared.ends.Ends.{Ends}

-- the sequence, the bound message, the attempt of a bound message and the mark; slots are in no log
pub record AreCounted (c : Channel) (log : List Entry) (e : Ends) : Type 0 where
  pub seq : e.sending.seq ≡ sequence c log
  pub bound : option_map (λ (b : Bound). b.message) e.sending.bound ≡ bound_message c log
  pub attempt : IfSome e.sending.bound (λ b. b.attempt ≡ attempt c log)
  pub mark : e.receiving ≡ mark c log

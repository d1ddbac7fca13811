-- What a work comes to by the ends of its channel.
use Rattle.std.specs.Prelude.{ℕ, Option, Some, None}
use Rattle.am_names.specs.declared.EndpointId.{EndpointId}
use Rattle.am_names.specs.declared.NodeId.{NodeId}
use Rattle.am_channel.specs.declared.sending.Bound.{Bound}
use Rattle.am_channel.specs.declared.sending.Settled.{Settled}
use Rattle.am_channel.specs.declared.sending.Settled.TheVariants as Settles
use Rattle.am_channel.specs.declared.sending.TimedOut.{TimedOut}
use Rattle.am_channel.specs.declared.sending.TimedOut.TheVariants as Times
use Rattle.am_channel.specs.Sending.{timed_out}

-- the source of a message that an answer settles
abbrev pub needs_settling : Settled → Option EndpointId
needs_settling (Settles.Done b verdict) = Some b.message.serial.source
needs_settling Settles.Nothing = None

abbrev pub needs_given_up : TimedOut → Option EndpointId
needs_given_up (Times.Resend sent) = None
needs_given_up (Times.GaveUp b) = Some b.message.serial.source

-- the source of a message that a time-out gives up, where each binding has so many tries
abbrev pub needs_time_out : ℕ → ℕ → Option Bound → Option EndpointId
needs_time_out tries seq None = None
needs_time_out tries seq (Some b) = needs_given_up (timed_out tries seq b)

abbrev pub emits_again : NodeId → TimedOut → Option NodeId
emits_again peer (Times.Resend sent) = Some peer
emits_again peer (Times.GaveUp b) = None

-- the peer, where a time-out sends the bound message again
abbrev pub emits_retry : ℕ → NodeId → ℕ → Option Bound → Option NodeId
emits_retry tries peer seq None = None
emits_retry tries peer seq (Some b) = emits_again peer (timed_out tries seq b)

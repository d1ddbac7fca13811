-- Where a message is bound.
use Rattle.std.specs.Prelude.{◌≡◌, ℕ, ◌<◌, Option, None, Some}
use Rattle.am_office_entries.specs.declared.Condition.{Condition}
use Rattle.am_office_entries.specs.declared.Condition.TheVariants.{NoChannel}
use Rattle.am_model.specs.declared.Queued.{Queued}
use Rattle.am_model.specs.History.{free_from}
use Rattle.am_model_parts.specs.Interface.{home_in}
use Rattle.am_iface.specs.View.{InterfaceView, own}
use Rattle.am_iface.specs.declared.binds.Way.{Way}

-- this is a queued message, with the node where it goes and the lowest channel to it that is free
pub record IsWay (v : InterfaceView) (front : Option Queued) (way : Way) : Type 0 where
  pub queued : front ≡ Some way.queued
  pub home : home_in (own v) way.queued.message.dest ≡ Some way.peer
  pub peer : way.peer.0 < v.settings.nodes
  pub free : free_from v.settings.node way.peer v.log 0 v.settings.channels ≡ Some way.channel

-- what keeps a message from being bound whose channel this is
abbrev pub missing_channel : Option ℕ → Option Condition
missing_channel None = Some NoChannel
missing_channel (Some channel) = None

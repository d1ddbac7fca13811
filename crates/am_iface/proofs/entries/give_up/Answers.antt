use Rattle.std.proofs.Common.{◌≡◌, Bool, sym, if◌then◌else◌}
use Rattle.am_office_entries.specs.declared.Event.TheVariants as Events
use Rattle.am_office_entries.specs.declared.Outcome.{Outcome}
use Rattle.am_office_entries.specs.declared.Outcome.TheVariants as Out
use Rattle.am_iface.proofs.entries.give_up.Goals as goal

pub returns-then-answered : goal.returns-then-answered
returns-then-answered c =
    λ j. record {
      stamp = c.args.stamp;
      event = Events.Expire c.args.node c.args.peer c.args.channel;
      outcome = if sym c.if-answered.true j then Out.Delivered c.args.message.serial else Out.Unknown c.args.message.serial;
    }

pub returns-else-answered : goal.returns-else-answered
returns-else-answered c =
    λ j. record {
      stamp = c.args.stamp;
      event = Events.Expire c.args.node c.args.peer c.args.channel;
      outcome = if sym c.if-answered.false j then Out.Delivered c.args.message.serial else Out.Unknown c.args.message.serial;
    }

use Rattle.am_machine.proofs.Homes.{homes_within}
use Rattle.am_machine.proofs.interfaces.open_interface.Goals as goal

pub new-requires : goal.new-requires
new-requires c =
    let s = c.args.settings.now in
    let can = c.requires.can_connect in
    let homes = c.in_ok-homes.ensures in
    record {
      node = c.requires.node;
      nodes = can.nodes;
      channels = can.channels;
      tries = can.tries;
      bounces = can.can_open.bounces;
      log = can.can_open.log;
      places = homes.all;
      homes = homes_within s.network s.nodes c.args.lines.now c.in_ok-homes.homes.items can.ends homes;
    }

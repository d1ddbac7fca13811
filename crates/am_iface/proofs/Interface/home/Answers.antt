use Rattle.std.proofs.Common.{◌<◌, length, arith}
use Rattle.am_iface.proofs.Homes as homes
use Rattle.am_iface.proofs.Interface.home.Goals as goal

pub returns-clause-within : goal.returns-clause-within
returns-clause-within c =
    let below : c.args.end.0 < length c.self.inside.homes.items = omega (arith, c.self.invariant.lawful.places) in
    homes.home_within c.self.inside c.args.self.now c.args.end.0 c.index.result.now c.self.view_is c.self.invariant below c.index.ensures

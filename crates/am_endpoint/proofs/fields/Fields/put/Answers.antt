use Rattle.std.proofs.Common.{arith}
use Rattle.am_endpoint_body.proofs.Slots.{slots_put}
use Rattle.am_endpoint.specs.Seen.{state_in}
use Rattle.am_endpoint.proofs.fields.Fields.put.Goals as goal

pub put-requires : goal.put-requires
put-requires c = omega (arith, slots_put c.args.m.now (state_in c.args.self.now))

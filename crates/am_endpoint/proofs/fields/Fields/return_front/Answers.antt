use Rattle.std.proofs.Common.{ap, arith}
use Rattle.am_model.specs.Changes.{bounces_of, without_front}
use Rattle.am_endpoint_body.specs.Views.{View, slots_held}
use Rattle.am_endpoint_body.proofs.Slots.{slots_noticed}
use Rattle.am_endpoint.proofs.fields.Fields.return_front.Goals as goal

pub come_back-requires : goal.come_back-requires
come_back-requires c =
    let b = c.args.self.now.body.body in
    let gone = ap (λ (v : View). slots_held v.body) c.drop_front.ensures in
    omega (arith, gone, slots_noticed c.args.message (bounces_of b.replies b.requests) c.args.why (without_front b))

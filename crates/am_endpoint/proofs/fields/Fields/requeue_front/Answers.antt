use Rattle.std.proofs.Common.{ap, arith}
use Rattle.am_model.specs.Changes.{without_front}
use Rattle.am_endpoint_body.specs.Views.{View, slots_held}
use Rattle.am_endpoint_body.proofs.Slots.{slots_queued}
use Rattle.am_endpoint.proofs.fields.Fields.requeue_front.Goals as goal

pub queue-requires : goal.queue-requires
queue-requires c =
    let gone = ap (λ (v : View). slots_held v.body) c.drop_front.ensures in
    omega (arith, gone, slots_queued c.args.message c.args.bounces (without_front c.args.self.now.body.body))

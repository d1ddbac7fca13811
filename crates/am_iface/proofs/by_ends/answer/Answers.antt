use Rattle.std.proofs.Common.{◌≡◌, ap, ◌∙◌}
use Rattle.am_channel.specs.Sending.{SendView, bound_after, settled}
use Rattle.am_channel.specs.declared.sending.Settled.{Settled}
use Rattle.am_iface.proofs.by_ends.answer.Goals as goal

pub returns : goal.returns
returns c =
    let sending = c.args.ends.now.sending in
    let left : c.answer.new.self ≡ record { seq = sending.seq; bound = bound_after sending.bound (settled sending c.args.p.now) } =
    c.answer.ensures.after
    ∙ (λ j. record { seq = sending.seq; bound = bound_after sending.bound (c.answer.ensures.settled j) }) in
    record { answer = c.answer.ensures.settled; after = (λ j. record { sending = left j; receiving = c.args.ends.now.receiving }) }

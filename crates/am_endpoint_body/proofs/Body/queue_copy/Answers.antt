use Rattle.std.proofs.Common.{false, ap, ◌∙◌}
use Rattle.am_names.specs.declared.Why.TheVariants.{Unknown}
use Rattle.am_block.specs.declared.Descriptor.{Descriptor}
use Rattle.am_block.specs.declared.List.{List as Which}
use Rattle.am_endpoint_body.specs.Moves.{filed}
use Rattle.am_endpoint_body.proofs.Filed.{queue_view}
use Rattle.am_endpoint_body.proofs.Body.queue_copy.Goals as goal

pub returns : goal.returns
returns c =
    let d : Descriptor = record { message = c.args.message.now; used = c.args.bounces; answered = false; why = Unknown } in
    queue_view c.self.inside c.args.self.now c.file_free.new.block d c.self.view_is c.self.invariant
    (c.file_free.ensures.filed ∙ ap (λ (w : Which). filed c.self.inside.block c.self.inside.block.free w d) c.queue_of-list.ensures)
    c.requires

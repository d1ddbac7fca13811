use Rattle.std.proofs.Common.{ap, ◌∙◌}
use Rattle.am_block.specs.Pools.{moved}
use Rattle.am_block.specs.declared.List.TheVariants.{Free}
use Rattle.am_endpoint_body.proofs.Filed.{flight_gone}
use Rattle.am_endpoint_body.proofs.Refiled.{flight_at}
use Rattle.am_endpoint_body.proofs.Body.land.Goals as goal

pub move_slot-requires : goal.move_slot-requires
move_slot-requires c = (flight_at c.args.serial c.self.inside c.args.self.now c.args.slot.0 c.self.view_is c.self.invariant c.requires).within

pub returns : goal.returns
returns c =
    flight_gone c.args.serial c.self.inside c.args.self.now c.move_slot.new.self c.args.slot.0 c.self.view_is
    (c.move_slot.ensures.moved ∙ ap (λ h. moved c.self.inside.block h c.args.slot.0 Free)
    (flight_at c.args.serial c.self.inside c.args.self.now c.args.slot.0 c.self.view_is c.self.invariant c.requires).home)
    c.requires

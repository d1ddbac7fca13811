use Rattle.std.proofs.Common.{Option, Some, subst}
use Rattle.am_swap_device.specs.declared.swap.SwapFault.{SwapFault}
use Rattle.am_driver_moves.proofs.Devices.{caused_by, fault_is, written_by}
use Rattle.am_driver_moves.proofs.pages.write.Goals as goal

pub returns-clause-called : goal.returns-clause-called
returns-clause-called g c =
    let t = c.write-answer.ensures in
    written_by (g.S.Swap.device c.args.swap.now) (g.S.Swap.device c.write-answer.new.self) c.write-answer.result c.ended.result c.args.key c.args.image.now
    c.ended.ensures t.held t.fails t.calls t.told

pub returns-clause-cause : goal.returns-clause-cause
returns-clause-cause g c =
    caused_by c.write-answer.result c.ended.result (g.S.Swap.count c.args.swap.now) (g.S.Swap.count c.write-answer.new.self) c.ended.ensures
    c.write-answer.ensures.cause

pub returns-clause-tells : goal.returns-clause-tells
returns-clause-tells g c =
    subst (λ (fault : Option SwapFault). g.S.Swap.tells c.args.swap.now c.write-answer.new.self c.args.key (Some c.args.image.now) fault)
    (fault_is c.write-answer.result c.ended.result c.ended.ensures) c.write-answer.ensures.tells
